-- `normal_lines::line::put_ended` meets its contract: nothing, or the part and then LF. Assumes nothing.
use native.Mathlib.Omega.{arith}
use Rattle.normal_lines.proofs.LinesLaws.{put_none, put_some, ended_length}
use borrow.Author.Rules.{rules}
use Rattle.normal_lines.proofs.line.put_ended.Statement.{statement}
use Rattle.normal_lines.proofs.line.put_ended.Tie as tie

returns : tie.Need-returns-then-part-eq0
returns c = let a = c.args in put_none a.part.now c.if-part-eq0.true a.out.now a.at

put-bytes-requires : tie.Need-put_bytes-requires
put-bytes-requires c κs = let e = c in omega (arith, ended_length e.args.part.now e.if-part-eq0.false)

slice-write-out : tie.Need-bounds-out-end
slice-write-out c =
    let p = c in
    let e = p in
    omega (arith, ended_length e.args.part.now e.if-part-eq0.false, p.put_bytes.ensures.long)

returns-2 : tie.Need-returns
returns-2 c =
    let p = c in
    let e = p in
    let a = e.args in
    put_some a.part.now e.if-part-eq0.false _ a.out.now a.at p.put_bytes.ensures

pub put_ended_spec : {M : Type 1} → statement M
put_ended_spec =
    tie.close (tie.spec returns put-bytes-requires (λ c. search rules)
    slice-write-out (λ c. search rules) (λ c. search rules)
    returns-2)
