-- Lines in a row that are told by their first bytes: behind them the next entry is the same (`past_here`, `past_line`).
-- Assumes nothing.
use mathlib.Core.Path.{◌≡◌, refl, sym, ap, subst, ◌∙◌}
use mathlib.Core.List.{List}
use Prim.Native.Nat.{ℕ, zero, suc, ◌+◌, ◌-◌, ◌≤◌, ◌<◌}
use native.Mathlib.Omega.{arith}
use lib.ListN.{length, take, drop}
use Rattle.text.proofs.DropSteps.{rest}
use Rattle.elements.specs.declared.LabelPosition.{LabelPosition}
use Rattle.elements.specs.declared.walk_state.WalkState.{WalkState}
use Rattle.walk_theory.specs.Index.{hand}
use Rattle.walk_theory.specs.Next as theory
use Rattle.walk_theory.proofs.UnrefusedLaws.{Told, After, told_next, told_after}
use Rattle.grammar.specs.Epl.{epl}
use Rattle.grammar.proofs.FoundLaws.{reads}
use Rattle.label_index.specs.declared.glance.Seen.{Seen}
use Rattle.label_index.specs.Entries.{Within}
use Rattle.label_index.specs.Glance.{glance_of, Past}
use Rattle.label_index.proofs.GlanceLaws.{glance_told, told_few}

abbrev pub state_at : LabelPosition → ℕ → ℕ → WalkState
state_at r n at = record { reference = r; pending = n; place = at }

pub past_here : (s : List ℕ) (w : WalkState) → Within s w.place w.reference → 0 < w.pending → w.pending ≤ w.place + 1 → Past s w w
past_here s w v a b = record { within = v; some = a; few = b; later = omega arith; same_next = λ c from start. refl }

some_of : (n : ℕ) → (n ≡ 0 → ⊥) → 0 < n
some_of zero k = absurd (k refl)
some_of (suc n) k = omega arith

-- one line more, of which g was told
module _ (s : List ℕ) (w : WalkState) (n at : ℕ) (g : Seen) (p : Past s w (state_at w.reference n at)) (e : g ≡ glance_of (take (length s - at) (drop at s))) (more : g.size ≡ 0 → ⊥) where
  h : 0 < g.size
  h = some_of g.size more

  there : g ≡ glance_of (drop at s)
  there = e ∙ ap glance_of (rest s at)

  told : Told epl reads (drop at s) w.reference g.size g.drawn
  told =
      subst (λ (x : Seen). 0 < x.size → Told epl reads (drop at s) w.reference x.size x.drawn) (sym there)
      (glance_told (drop at s) w.reference p.within.unrefused) h

  after : After epl reads s at w.reference g.size
  after = told_after epl reads s at w.reference (record { inside = p.within.inside; unrefused = p.within.unrefused }) told

  pub line_some : 0 < g.size
  line_some = h

  pub line_inside : at + g.size ≤ length s
  line_inside = after.from.inside

  pub line_few : g.drawn ≤ 1
  line_few = told_few (drop at s) w.reference g.size g.drawn told

  pub past_line : Past s w (state_at w.reference (n + g.drawn) (at + g.size))
  past_line = record {
    within = record { short = p.within.short; inside = after.from.inside; unrefused = after.from.unrefused };
    some = omega (arith, p.some);
    few = omega (arith, p.few, line_few, h);
    later = omega (arith, p.later);
    same_next = λ c from start.
        p.same_next c from start ∙ told_next epl reads s c at (hand from start w.reference (n - 1)) told
        ∙ ap (λ (k : ℕ). theory.next_from epl s c (at + g.size) (hand from start w.reference k)) (omega (arith, p.some));
  }
