-- What a reader of one unit answers where a graphic stands first: what `block_reading` says, at the block's place
-- (`block_fault`, `block_gives`, `block_none`); and its data lies in the block (`block_in`). Lines are in TurnLineLaws.
-- Assumes nothing.
use mathlib.Core.Path.{◌≡◌, refl, sym, ap, ◌∙◌}
use mathlib.Core.List.{List, [], ◌++◌}
use Prim.Native.Nat.{ℕ, ◌-◌}
use native.Mathlib.Omega.{arith}
use lib.ListN.{length}
use Rattle.elements.specs.declared.LabelElement.{LabelElement}
use Rattle.elements.specs.declared.LabelElement.TheVariants as element
use Rattle.elements.specs.declared.LabelPosition.{LabelPosition}
use Rattle.elements.specs.declared.refusal.Refusal.{Refusal}
use Rattle.elements.specs.Refusals.{number_of}
use Rattle.elements.specs.Spans.{In}
use Rattle.parameters.specs.declared.position.Placed.{Placed}
use Rattle.parameters.specs.declared.position.Placed.TheVariants as placing
use Rattle.parameters.specs.Position.{placed, yields}
use Rattle.graphics.specs.declared.gw_span.Block.{Block}
use Rattle.graphics.specs.declared.gw_span.Block.TheVariants as block
use Rattle.graphics.specs.declared.gw_span.Graphic.{Graphic}
use Rattle.graphics.specs.declared.gw_span.Graphic.TheVariants as graphic
use Rattle.graphics.specs.declared.gw_span.GwSpan.{GwSpan}
use Rattle.graphics.specs.Block.{gw_span, graphic_placed, graphic_at, block_reading, later_block}
use Rattle.walk_theory.specs.Language.{yield}
use Rattle.walk_theory.specs.Reading.{Reading, nothing, fault, gives, did, reading, reading_of, moved}
use Rattle.grammar.specs.Units as units
use Rattle.grammar.specs.Units.{Header, gw, bytes, number}
use Rattle.grammar.specs.Found.{found, first}
use Rattle.grammar.specs.Epl.{EplPrint, act_of, acts, epl}
use Rattle.grammar.proofs.FoundBlockLaws.{block_length, block_span, span_sound}
use Rattle.grammar.proofs.FoundLaws.{span_first}

refused≢nothing : {n : Refusal} → block.Refused n ≡ block.NoBlock → ⊥
refused≢nothing e = let z : ◌≡◌ {A = ℕ} 0 1 = cc in omega arith

element≢nothing : {size : ℕ} {e : LabelElement} → block.Element e size ≡ block.NoBlock → ⊥
element≢nothing e = let z : ◌≡◌ {A = ℕ} 0 1 = cc in omega arith

-- what is answered for a block
abbrev block_turn : Block → Reading LabelPosition LabelElement EplPrint
block_turn block.NoBlock = nothing
block_turn (block.Element e size) = gives size e
block_turn (block.Refused n) = fault (number_of n)

-- a block's act is what `graphic_placed` says
placed_by : (g : GwSpan) (r : LabelPosition) (o : Placed)
    → did g.data_end (act_of r (yields o λ at. element.GraphicField (record { position = at; row_bytes = g.width_bytes; «data» = record { start = g.data_start; len = g.data_end - g.data_start } })))
    ≡ block_turn (graphic_placed g o)
placed_by g r (placing.At q) = refl
placed_by g r placing.Outside = refl

block_reads : (bs : List ℕ) (h : Header) (p : List ℕ) (r : LabelPosition) → did (length (bs ++ gw h p)) (acts r (units.block bs h p)) ≡ block_turn (graphic_at (block_span bs h p) r)
unfolding graphic_at
block_reads bs h p r =
    let e : length p ≡ length (bs ++ gw h p) - length (bs ++ gw h []) = omega (arith, block_length bs h p) in
    rw e (placed_by (block_span bs h p) r (placed (number h.x) (number h.y) r))

span_reads : (s : List ℕ) (g : GwSpan) (r : LabelPosition) → gw_span s ≡ graphic.Span g → reading_of epl s r ≡ block_turn (graphic_at g r)
span_reads s g r e =
    let k = span_sound s g e in
    ap (reading epl r) (span_first s g k) ∙ block_reads k.bs k.h k.p r ∙ ap (λ (x : GwSpan). block_turn (graphic_at x r)) (sym k.is)

-- a graphic stands first, or one that is refused
block_turn_lem : (s : List ℕ) (r : LabelPosition) → (block_reading (gw_span s) r ≡ block.NoBlock → ⊥) → reading_of epl s r ≡ block_turn (block_reading (gw_span s) r)
unfolding first
block_turn_lem s r n = by (gw_span s) refl n
  where
    by : (o : Graphic) → gw_span s ≡ o → (block_reading o r ≡ block.NoBlock → ⊥) → reading_of epl s r ≡ block_turn (block_reading o r)
    by graphic.NoGraphic e n = absurd (n refl)
    by (graphic.Refused m) e n = ap (λ (o : Graphic). reading epl r (found s o)) e
    by (graphic.Span g) e n = span_reads s g r e

-- ---- as its reader has it: s stands at a place
moved_block : (at : ℕ) (b : Block) → moved epl at (block_turn b) ≡ block_turn (later_block at b)
moved_block at block.NoBlock = refl
moved_block at (block.Refused n) = refl
moved_block at (block.Element e size) = refl

module _ (at : ℕ) (s : List ℕ) (r : LabelPosition) where
  block_moved : (b : Block) → (b ≡ block.NoBlock → ⊥) → later_block at (block_reading (gw_span s) r) ≡ b → moved epl at (reading_of epl s r) ≡ block_turn b
  block_moved b n h = ap (moved epl at) (block_turn_lem s r (λ e. n (sym h ∙ ap (later_block at) e))) ∙ moved_block at (block_reading (gw_span s) r) ∙ ap block_turn h

  pub block_fault : (n : Refusal) → later_block at (block_reading (gw_span s) r) ≡ block.Refused n → moved epl at (reading_of epl s r) ≡ fault (number_of n)
  block_fault n h = block_moved (block.Refused n) refused≢nothing h

  pub block_gives : (size : ℕ) (e : LabelElement) → later_block at (block_reading (gw_span s) r) ≡ block.Element e size → moved epl at (reading_of epl s r) ≡ gives size e
  block_gives size e h = block_moved (block.Element e size) element≢nothing h

  pub block_none : later_block at (block_reading (gw_span s) r) ≡ block.NoBlock → gw_span s ≡ graphic.NoGraphic
  unfolding graphic_at
  block_none h = by (gw_span s) h
    where
      no : (g : GwSpan) (o : Placed) → later_block at (graphic_placed g o) ≡ block.NoBlock → ⊥
      no g (placing.At q) h = element≢nothing h
      no g placing.Outside h = refused≢nothing h

      by : (o : Graphic) → later_block at (block_reading o r) ≡ block.NoBlock → o ≡ graphic.NoGraphic
      by graphic.NoGraphic h = refl
      by (graphic.Refused m) h = absurd (refused≢nothing h)
      by (graphic.Span g) h = absurd (no g (placed g.at.x g.at.y r) h)

-- ---- a block's data lies in the block
pub block_in : (r : LabelPosition) (bs : List ℕ) (h : Header) (p : List ℕ) (e : LabelElement) → acts r (units.block bs h p) ≡ yield e → In (length (bytes (units.block bs h p))) e
block_in r bs h p e a = by _ (placed (number h.x) (number h.y) r) (λ q. omega (arith, block_length bs h p)) a
  where
    by : (f : LabelPosition → LabelElement) (o : Placed) → ((q : LabelPosition) → In (length (bs ++ gw h p)) (f q)) → act_of r (yields o f) ≡ yield e → In (length (bs ++ gw h p)) e
    by f (placing.At q) i a = let k : f q ≡ e = cc in rw (← k) (i q)
    by f placing.Outside i a = let z : ◌≡◌ {A = ℕ} 0 1 = cc in absurd (omega arith)
