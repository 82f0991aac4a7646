-- One unit changed (01, "One line changed"): what is pending before units matters to their first clear, print or end
-- alone (`run_fate`), and so does what the unit yields (`changed`). Assumes nothing.
use mathlib.Core.Path.{◌≡◌, refl, sym, ap, subst, ◌∙◌}
use mathlib.Core.List.{List, [], ◌∷◌, ◌++◌, append_assoc, append-nil}
use Prim.Native.Nat.{ℕ}
use native.Mathlib.Omega.{arith}
use lib.ListN.{length, length-append, drop}
use lib.Seq.{drop-append_seam}
use Rattle.walk_theory.specs.Language.{unit, Act, keep, clear, yield, print, outside, Language}
use Rattle.walk_theory.specs.Division.{Division, done, more, Reads, Firm}
use Rattle.walk_theory.specs.Labels.{Label, flush, Run, goes, leaves, and_then, effect, run, Divides}
use Rattle.walk_theory.specs.Normal.{each, Solid}
use Rattle.walk_theory.specs.Change.{Plain, Fate, dropped, printed, pending, lost, resolved, Told, fate_by, fate, yielded_by, yielded, Replaced, Changed}
use Rattle.walk_theory.proofs.DivisionLaws.{unique, parted, front_solid}
use Rattle.walk_theory.proofs.RunLaws.{leaves≢goes, goes_inj, before_goes, before_nil, closed_goes, run_append}
use Rattle.walk_theory.proofs.SolidLaws.{in_front, behind_solid}

module _ (L : Language) (F : Type 0) (frame : List ℕ → L.E → F) where
  open L use {U, R, E, P, bytes, first, act}

  -- what is pending before units matters to what they make of it alone
  pub run_fate : (us : List U) (r : R) (p g : List F) → run L F frame r (p ++ g) us ≡ resolved p (fate L F frame r g us)
  run_fate [] r p g = refl
  run_fate (u ∷ us) r p g = by (act r u) (λ r' g'. run_fate us r' p g')
    where
      by : (a : Act R E P) → ((r' : R) (g' : List F) → run L F frame r' (p ++ g') us ≡ resolved p (fate L F frame r' g' us))
          → and_then (effect L F frame r (p ++ g) u a) (λ r' p'. run L F frame r' p' us) ≡ resolved p (fate_by L F frame (λ r' g'. fate L F frame r' g' us) us r g u a)
      by (keep r') again = before_nil (run L F frame r' (p ++ g) us) ∙ again r' g
      by (clear r') again = before_nil (run L F frame r' [] us)
      by (yield e) again =
          before_nil (run L F frame r ((p ++ g) ++ (frame (bytes u) e ∷ [])) us) ∙ ap (λ (x : List F). run L F frame r x us) (append_assoc p g (frame (bytes u) e ∷ [])) ∙ again r (g ++ (frame (bytes u) e ∷ []))
      by (print q) again = refl
      by (outside n) again = refl

  -- a unit that yields an element or nothing
  plain_run : (u : U) (us : List U) (r r' : R) (p p' : List F) (ls : List (Label F P)) → Plain r (act r u) → run L F frame r p (u ∷ us) ≡ goes ls r' p' → run L F frame r (p ++ yielded L F frame r u) us ≡ goes ls r' p'
  plain_run u us r r' p p' ls = by (act r u)
    where
      by : (a : Act R E P) → Plain r a → and_then (effect L F frame r p u a) (λ r'' p''. run L F frame r'' p'' us) ≡ goes ls r' p' → run L F frame r (p ++ yielded_by L F frame u a) us ≡ goes ls r' p'
      by (keep k) h q = ap (λ (x : List F). run L F frame r x us) (append-nil p) ∙ ap (λ (x : R). run L F frame x p us) (sym h) ∙ sym (before_nil (run L F frame k p us)) ∙ q
      by (clear k) h q = absurd h
      by (yield e) h q = sym (before_nil (run L F frame r (p ++ (frame (bytes u) e ∷ [])) us)) ∙ q
      by (print o) h q = absurd h
      by (outside n) h q = absurd (leaves≢goes q)

  -- two runs over the same units that differ in what is pending before
  module _ (earlier : List (Label F P)) (front mine mine' : List F) (r₁ r₁' : R) (p₁ p₁' : List F) (ms ms' : List (Label F P)) where
    compared : (x : Fate R F P) → resolved (front ++ mine) x ≡ goes ms r₁ p₁ → resolved (front ++ mine') x ≡ goes ms' r₁' p₁'
        → Told earlier front mine mine' (earlier ++ ms) (earlier ++ ms') (length p₁) (length p₁') x
    compared (dropped x) e e' =
        let k = goes_inj (sym e ∙ e') in
        record { labels_stay = ap (λ (y : List (Label F P)). earlier ++ y) k.0; count_stays = ap length k.2 }
    compared (printed g q x) e e' =
        let b = before_goes (flush q ((front ++ mine) ++ g)) x ms r₁ p₁ e in
        let b' = before_goes (flush q ((front ++ mine') ++ g)) x ms' r₁' p₁' e' in
        let k = goes_inj (sym b.1 ∙ b'.1) in
        record {
          later = b.0;
          old = ap (λ (y : List (Label F P)). earlier ++ y) (sym b.2 ∙ ap (λ (y : List F). flush q y ++ b.0) (append_assoc front mine g));
          new = ap (λ (y : List (Label F P)). earlier ++ y) (sym b'.2 ∙ ap (λ (y : List F). flush q y ++ b'.0) (append_assoc front mine' g) ∙ ap (λ (y : List (Label F P)). flush q (front ++ (mine' ++ g)) ++ y) (sym k.0));
          count_stays = ap length k.2;
        }
    compared (pending g r) e e' =
        let k = goes_inj e in
        let k' = goes_inj e' in
        record {
          old = ap (λ (y : List (Label F P)). earlier ++ y) (sym k.0) ∙ append-nil earlier;
          new = ap (λ (y : List (Label F P)). earlier ++ y) (sym k'.0) ∙ append-nil earlier;
          old_count = ap length (sym k.2 ∙ append_assoc front mine g);
          new_count = ap length (sym k'.2 ∙ append_assoc front mine' g);
        }
    compared (lost n) e e' = leaves≢goes e

  -- the two runs
  pub changed_run : (r : R) (us : List U) (u u' : U) (vs : List U) (ls ls' : List (Label F P)) (r₁ r₁' : R) (p₁ p₁' : List F) → ((r' : R) → Plain r' (act r' u)) → ((r' : R) → Plain r' (act r' u'))
      → run L F frame r [] (us ++ u ∷ vs) ≡ goes ls r₁ p₁ → run L F frame r [] (us ++ u' ∷ vs) ≡ goes ls' r₁' p₁' → Changed L F frame r us u u' vs ls ls' (length p₁) (length p₁')
  changed_run r us u u' vs ls ls' r₁ r₁' p₁ p₁' plain plain' e e' = by (run L F frame r [] us) refl (sym (run_append L F frame us (u ∷ vs) r []) ∙ e) (sym (run_append L F frame us (u' ∷ vs) r []) ∙ e')
    where
      by : (x : Run R F P) → run L F frame r [] us ≡ x → and_then x (λ r'' p''. run L F frame r'' p'' (u ∷ vs)) ≡ goes ls r₁ p₁ → and_then x (λ r'' p''. run L F frame r'' p'' (u' ∷ vs)) ≡ goes ls' r₁' p₁'
          → Changed L F frame r us u u' vs ls ls' (length p₁) (length p₁')
      by (leaves n) x k k' = absurd (leaves≢goes k)
      by (goes ks ref front) x k k' =
          let mine = yielded L F frame ref u in
          let mine' = yielded L F frame ref u' in
          let b = before_goes ks (run L F frame ref front (u ∷ vs)) ls r₁ p₁ k in
          let b' = before_goes ks (run L F frame ref front (u' ∷ vs)) ls' r₁' p₁' k' in
          let c = as_fate (front ++ mine) (plain_run u vs ref r₁ front p₁ b.0 (plain ref) b.1) in
          let c' = as_fate (front ++ mine') (plain_run u' vs ref r₁' front p₁' b'.0 (plain' ref) b'.1) in
          record {
            earlier = ks;
            ref = ref;
            front = front;
            up_to_it = x;
            told =
                subst (λ (y : List (Label F P)). Told ks front mine mine' y ls' (length p₁) (length p₁') (fate L F frame ref [] vs)) b.2
                (subst (λ (y : List (Label F P)). Told ks front mine mine' (ks ++ b.0) y (length p₁) (length p₁') (fate L F frame ref [] vs)) b'.2
                (compared ks front mine mine' r₁ r₁' p₁ p₁' b.0 b'.0 (fate L F frame ref [] vs) c c'));
          }
        where
          as_fate : (p : List F) {y : Run R F P} → run L F frame ref p vs ≡ y → resolved p (fate L F frame ref [] vs) ≡ y
          as_fate p q = sym (run_fate vs ref p []) ∙ ap (λ (z : List F). run L F frame ref z vs) (append-nil p) ∙ q

  -- ---- the two strings
  module _ (reads : Reads L) (firm : Firm L) (s s' : List ℕ) (us : List U) (u u' : U) (vs : List U) (w : Replaced L s s' us u u' vs) where
    tail_same : (a x y : List ℕ) → a ++ x ≡ a ++ y → x ≡ y
    tail_same a x y e = sym (drop-append_seam a x) ∙ ap (drop (length a)) e ∙ drop-append_seam a y

    rest_divides : {t : List ℕ} → t ≡ bytes u ++ w.rest → Division L t (u ∷ vs) → Division L w.rest vs
    rest_divides e (more {rest} k st d) = subst (λ (y : List ℕ). Division L y vs) (tail_same (bytes u) rest w.rest (sym k ∙ e)) d

    behind : Division L w.rest vs
    behind = let i = parted L us (u ∷ vs) w.division in rest_divides (tail_same (each bytes us) i.rest (bytes u ++ w.rest) (sym i.whole ∙ w.old)) i.behind

    solid : Solid L us
    solid = (front_solid L firm reads us u vs w.division).0

    stands : {t : List ℕ} {ws : List U} → t ≡ bytes u' ++ w.rest → Division L t ws → L.Stands u' w.rest
    stands e done = absurd (omega (arith, w.not_empty, ap length e, length-append (bytes u') w.rest))
    stands e (more {u = v} {rest} k st d) =
        let f = sym (ap first e) ∙ ap first k ∙ reads.finds v rest st in
        let i = w.spelled v rest f in
        (reads.sound (bytes u' ++ w.rest) u' w.rest (f ∙ ap (λ (x : U). unit x rest) i.0 ∙ ap (unit u') i.1)).1

    -- the new string divides into the same units but the one, if it divides at all
    pub new_divides : {ws : List U} → Division L s' ws → Division L s' (us ++ u' ∷ vs)
    new_divides d =
        let i = behind_solid L reads solid w.new d in
        subst (λ (y : List ℕ). Division L y (us ++ u' ∷ vs)) (sym w.new) (in_front L solid (more refl (stands refl i.1) behind))

    pub changed : (r : R) (ls ls' : List (Label F P)) (n n' : ℕ) → Divides L F frame s r ls n → Divides L F frame s' r ls' n' → Changed L F frame r us u u' vs ls ls' n n'
    changed r ls ls' n n' d d' =
        let g = closed_goes (run L F frame r [] d.units) ls n d.range in
        let g' = closed_goes (run L F frame r [] d'.units) ls' n' d'.range in
        subst (λ (y : ℕ). Changed L F frame r us u u' vs ls ls' y n') g.3
        (subst (λ (y : ℕ). Changed L F frame r us u u' vs ls ls' (length g.1) y) g'.3
        (changed_run r us u u' vs ls ls' g.0 g'.0 g.1 g'.1 w.plain w.plain'
        (ap (run L F frame r []) (unique L reads refl w.division d.division) ∙ g.2)
        (ap (run L F frame r []) (unique L reads refl (new_divides d'.division) d'.division) ∙ g'.2)))
