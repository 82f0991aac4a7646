-- `format::normalise::put_chunks`: what stands at a place is put, and the text behind it is left to be put.
use Rattle.std.proofs.Common.{◌≡◌, refl, sym, ap, ◌∙◌, ℕ, ◌+◌, ◌<◌, List, ◌++◌, drop, take, arith}
use Rattle.text.proofs.WroteTowardLaws.{room, put, finish}
use Rattle.grammar.specs.Normal.{normalised}
use Rattle.normal_lines.specs.Lines.{ended}
use Rattle.format.proofs.NormaliseLaws.{Stands, here, normalised_end, block_turn_lem, block_in, line_in, line_turn_lem, line_counts}
use Rattle.format.proofs.normalise.put_chunks.Goals as goal

-- t is the block of n bytes that stands first
whole : {s : List ℕ} {at n : ℕ} (w : Stands s at n) (t : List ℕ) → 0 < n → t ≡ take n (here s at) → normalised (drop at s) ≡ ended t ++ normalised (drop (at + n) s)
whole {s} {at} {n} w t h e = block_turn_lem w h ∙ ap (λ (l : List ℕ). ended l ++ normalised (drop (at + n) s)) (sym e)

pub put_ended-to-requires : goal.put_ended-to-requires
put_ended-to-requires c =
    let s = c.args.input.now in
    let n = c.block_len-n.result in
    let w : Stands s c.loop-at.at n = record { in_src = c.loop-at-test.true; blocks = c.block_len-n.ensures } in
    room c.loop-at.invariant.toward (ended c.first.result.now) (normalised (drop (c.loop-at.at + n) s)) c.requires (whole w c.first.result.now c.if-n-gt0.true c.first.ensures)

pub loop-at-preserved-then-n-gt0 : goal.loop-at-preserved-then-n-gt0
loop-at-preserved-then-n-gt0 c =
    let s = c.args.input.now in
    let n = c.block_len-n.result in
    let w : Stands s c.loop-at.at n = record { in_src = c.loop-at-test.true; blocks = c.block_len-n.ensures } in
    record {
      inside = block_in w;
      toward = put c.loop-at.invariant.toward (normalised (drop (c.loop-at.at + n) s)) (whole w c.first.result.now c.if-n-gt0.true c.first.ensures) c.put_ended-to.ensures;
    }

pub put_line-l-requires : goal.put_line-l-requires
put_line-l-requires c =
    let w : Stands c.args.input.now c.loop-at.at c.block_len-n.result = record { in_src = c.loop-at-test.true; blocks = c.block_len-n.ensures } in
    let t = c.loop-at.invariant.toward in
    omega (arith, line_counts w c.if-n-gt0.false refl, t.ends, t.long, c.requires)

pub overflow_add-at-else-n-gt0 : goal.overflow_add-at-else-n-gt0
overflow_add-at-else-n-gt0 c =
    let w : Stands c.args.input.now c.loop-at.at c.block_len-n.result = record { in_src = c.loop-at-test.true; blocks = c.block_len-n.ensures } in
    omega (arith, line_in w c.if-n-gt0.false c.put_line-l.ensures.size)

pub loop-at-preserved : goal.loop-at-preserved
loop-at-preserved c =
    let s = c.args.input.now in
    let w : Stands s c.loop-at.at c.block_len-n.result = record { in_src = c.loop-at-test.true; blocks = c.block_len-n.ensures } in
    let p = c.put_line-l in
    record {
      inside = line_in w c.if-n-gt0.false p.ensures.size;
      toward = put c.loop-at.invariant.toward (normalised (drop (c.loop-at.at + p.result.size) s)) (line_turn_lem w c.if-n-gt0.false p.ensures.size) p.ensures.put;
    }

pub returns : goal.returns
returns c = finish c.loop-at.invariant.toward (normalised_end c.args.input.now c.loop-at.at c.loop-at-test.false)
