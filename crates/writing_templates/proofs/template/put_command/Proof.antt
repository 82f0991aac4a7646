-- `writing_templates::template::put_command` meets its contract. Assumes nothing.
use mathlib.Core.Path.{sym, ap, subst}
use mathlib.Core.List.{List}
use Prim.Native.Nat.{ℕ, ◌+◌, ◌≤◌}
use lib.ListN.{length}
use borrow.Author.Rules.{rules}
use Rattle.decimals.proofs.PutLaws.{put_as}
use Rattle.writing_templates.specs.Fill.{fill}
use Rattle.writing_templates.proofs.template.put_command.Statement.{statement}
use Rattle.writing_templates.proofs.template.put_command.Tie as tie

put-fill-requires : tie.Need-put_fill-requires
put-fill-requires c κs =
    let got = c in
    let s = got in
    subst (λ (t : List ℕ). s.args.at + length (fill s.args.e s.args.bytes.now t) ≤ length s.args.out.now) (sym got.template-t.ensures) s.requires

returns : tie.Need-returns
returns c =
    let put = c in
    let got = put in
    let a = got.args in
    put_as (ap (fill a.e a.bytes.now) (sym got.template-t.ensures)) put.put_fill.ensures

pub put_command_spec : {M : Type 1} → statement M
put_command_spec =
    tie.close
    (tie.spec (λ c κs. search rules) (λ c. search rules) put-fill-requires (λ c. search rules) returns)
