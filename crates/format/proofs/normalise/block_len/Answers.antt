-- `format::normalise::block_len`: only what opens with `GW` can be a block.
use Rattle.std.proofs.Common.{refl, sym, ◌∙◌, ◌≡◌, ap, List, [], ◌∷◌, ◌++◌, ℕ, ◌<◌, ◌≤◌, false, length, length-append, length-drop, take, drop, arith}
use lib.Seq.{length-take-le, take_at}
use Rattle.graphics.specs.declared.gw_span.Graphic.{Graphic}
use Rattle.graphics.specs.declared.gw_span.Graphic.TheVariants as graphic
use Rattle.graphics.specs.declared.gw_span.GwSpan.{GwSpan}
use Rattle.graphics.specs.Block.{opens_gw, gw_span}
use Rattle.graphics.proofs.BlockLaws.{span_fits}
use Rattle.walk_theory.specs.Language.{First, unit}
use Rattle.grammar.specs.Units.{EplUnit, Header, block, line, bytes}
use Rattle.grammar.specs.Found.{text_line}
use Rattle.grammar.specs.Normal.{written, chunk_by, chunk}
use Rattle.grammar.proofs.NormalChunkLaws.{chunk_sound}
use Rattle.normal_lines.specs.Lines.{ended}
use Rattle.normal_lines.proofs.LinesLaws.{ended_some}
use Rattle.format.specs.Normalise.{Blocks}
use Rattle.format.proofs.normalise.block_len.Goals as goal

-- a line where no block is spanned
no_block : (s : List ℕ) (o : Graphic) → gw_span s ≡ o → chunk_by s o ≡ text_line s → Blocks s 0
unfolding chunk
no_block s o e h = record { line = λ z. ap (chunk_by s) e ∙ h; block = λ p. absurd (omega arith); inside = omega arith }

no_opening : (s : List ℕ) → opens_gw s ≡ false → Blocks s 0
unfolding gw_span
no_opening s h = no_block s graphic.NoGraphic (simp h) refl

block_by : (s bs : List ℕ) (h : Header) (p : List ℕ) (e : ℕ) → chunk s ≡ unit (block bs h p) (drop e s) → 0 < e → e ≤ length s → (go : List ℕ → List ℕ) → written (chunk s) go ≡ ended (take e s) ++ go (drop e s)
block_by s bs h p e k q l go =
    let u = block bs h p in
    let cut = (chunk_sound s u (drop e s) k).0 in
    let n : length (bytes u) ≡ e = omega (arith, ap length cut, length-append (bytes u) (drop e s), length-drop e s) in
    let is : take e s ≡ bytes u = ap (take e) cut ∙ take_at (bytes u) (drop e s) e n in
    ap (λ (f : First EplUnit). written f go) k
    ∙ ap (λ (x : List ℕ). (x ++ 10 ∷ []) ++ go (drop e s)) (sym is)
    ∙ ap (λ (x : List ℕ). x ++ go (drop e s)) (sym (ended_some (take e s) (omega (arith, length-take-le e s l))))

one_block : (s : List ℕ) (g : GwSpan) → gw_span s ≡ graphic.Span g → Blocks s g.data_end
unfolding chunk
one_block s g e =
    let f = span_fits s g e in
    record { line = λ z. absurd (omega (arith, f.end_pos)); block = λ p. block_by s _ _ _ g.data_end (ap (chunk_by s) e) f.end_pos f.end_le; inside = f.end_le }

pub returns-then-not-opens_gw : goal.returns-then-not-opens_gw
returns-then-not-opens_gw c = no_opening c.args.rest.now (sym c.opens_gw.ensures ∙ c.if-not-opens_gw.true)

pub returns-in-NoGraphic : goal.returns-in-NoGraphic
returns-in-NoGraphic c = no_block c.args.rest.now graphic.NoGraphic (sym c.in-NoGraphic.ensures) refl

pub returns-in-Refused : goal.returns-in-Refused
returns-in-Refused c = no_block c.args.rest.now (graphic.Refused c.in-Refused.n) (sym c.in-Refused.ensures) refl

pub returns-in-Span : goal.returns-in-Span
returns-in-Span c = one_block c.args.rest.now c.in-Span.g (sym c.in-Span.ensures)
