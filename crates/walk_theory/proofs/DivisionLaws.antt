-- A string divides into units in one way at most, where what stands first can be read; these are the units that stand
-- first one after the other; and a divided string's fronts. Assumes nothing.
use mathlib.Core.Path.{◌≡◌, refl, sym, ap, subst, ◌∙◌}
use mathlib.Core.List.{List, [], ◌∷◌, ◌++◌, append_assoc}
use Prim.Native.Nat.{ℕ, zero, suc, ◌<◌}
use native.Mathlib.Omega.{arith}
use Rattle.walk_theory.specs.Language.{First, none, bad, unit, Language}
use lib.ListN.{length, length-append}
use Rattle.walk_theory.specs.Division.{Division, done, more, Reads, Firm, on_units, units_by, units_of}
use Rattle.walk_theory.specs.Normal.{each, Solid, none_left, and_solid}

-- ---- First
module _ {U : Type 0} where
  pub bad≢unit : {n : ℕ} {u : U} {rest : List ℕ} → ◌≡◌ {A = First U} (bad n) (unit u rest) → ⊥
  bad≢unit e = let z : ◌≡◌ {A = ℕ} 0 1 = cc in omega arith

  pub none≢unit : {u : U} {rest : List ℕ} → ◌≡◌ {A = First U} none (unit u rest) → ⊥
  none≢unit e = let z : ◌≡◌ {A = ℕ} 0 1 = cc in omega arith

  pub bad≢none : {n : ℕ} → ◌≡◌ {A = First U} (bad n) none → ⊥
  bad≢none e = let z : ◌≡◌ {A = ℕ} 0 1 = cc in omega arith

  pub same_unit : {u v : U} {r q : List ℕ} → ◌≡◌ {A = First U} (unit u r) (unit v q) → (u ≡ v) × (r ≡ q)
  same_unit e = (cc, cc)

  -- what holds of a unit and what follows it holds of equal ones
  pub as_unit : (P : U → List ℕ → Type 0) {u v : U} {r q : List ℕ} → ◌≡◌ {A = First U} (unit u r) (unit v q) → P u r → P v q
  as_unit P {u} {v} {r} {q} e x = subst (λ (y : List ℕ). P v y) (same_unit e).1 (subst (λ (w : U). P w r) (same_unit e).0 x)

module _ (L : Language) where
  open L use {U, bytes, Stands, first}

  -- no string divides in two ways
  pub unique : Reads L → {s t : List ℕ} {us vs : List U} → s ≡ t → Division L s us → Division L t vs → us ≡ vs
  unique reads e done done = refl
  unique reads e done (more {u} {us} {s} {rest} p st d) = absurd (none≢unit (sym reads.at_end ∙ ap first (e ∙ p) ∙ reads.finds u rest st))
  unique reads e (more {u} {us} {s} {rest} p st d) done = absurd (none≢unit (sym reads.at_end ∙ ap first (sym e ∙ p) ∙ reads.finds u rest st))
  unique reads e (more {u} {us} {s} {rest} p st d) (more {u = v} {us = vs} {s = s'} {rest = rest'} p' st' d') =
      let m = same_unit (sym (reads.finds u rest st) ∙ ap first (sym p ∙ e ∙ p') ∙ reads.finds v rest' st') in
      let k = m.0 in
      let i = unique reads m.1 d d' in
      cc

  -- ---- the units that stand first, one after the other
  module _ (reads : Reads L) where
    units_same : (s : List ℕ) (f g : List ℕ → List U) → ((rest : List ℕ) → length rest < length s → f rest ≡ g rest) → on_units L f (first s) ≡ on_units L g (first s)
    units_same s f g h = go (first s) refl
      where
        go : (o : First U) → first s ≡ o → on_units L f o ≡ on_units L g o
        go none e = refl
        go (bad k) e = refl
        go (unit u rest) e = let w = reads.sound s u rest e in ap (λ (us : List U). u ∷ us) (h rest (omega (arith, ap length w.0, length-append (bytes u) rest)))

    units_fuel : (k m : ℕ) (s : List ℕ) → length s < k → length s < m → units_by L k s ≡ units_by L m s
    units_fuel zero m s h h' = absurd (omega arith)
    units_fuel (suc k) zero s h h' = absurd (omega arith)
    units_fuel (suc k) (suc m) s h h' = units_same s _ _ (λ rest b. units_fuel k m rest (omega arith) (omega arith))

    -- unrolled: the unit that stands first, and the units after it
    pub units_first : (s : List ℕ) → units_of L s ≡ on_units L (λ rest. units_of L rest) (first s)
    unfolding units_of
    units_first s = units_same s _ _ (λ rest b. units_fuel (length s) (suc (length rest)) rest b (omega arith))

    pub units_division : {s : List ℕ} {us : List U} → Division L s us → units_of L s ≡ us
    units_division done = units_first [] ∙ ap (on_units L (λ rest. units_of L rest)) reads.at_end
    units_division (more {u} {us} {s} {rest} e st d) =
        units_first s ∙ ap (on_units L (λ x. units_of L x)) (ap first e ∙ reads.finds u rest st) ∙ ap (λ (x : List U). u ∷ x) (units_division d)

  -- ---- a string divided into units and then others: the bytes of the units, and the rest
  pub record Parted (s : List ℕ) (us vs : List U) : Type 0 where
    pub rest : List ℕ
    pub whole : s ≡ each bytes us ++ rest
    pub behind : Division L rest vs

  pub parted : (us vs : List U) {s : List ℕ} → Division L s (us ++ vs) → Parted s us vs
  parted [] vs {s} d = record { rest = s; whole = refl; behind = d }
  parted (u ∷ us) vs (more {rest = t} e st d) =
      let i = parted us vs d in
      record { rest = i.rest; whole = e ∙ ap (λ (x : List ℕ). bytes u ++ x) i.whole ∙ sym (append_assoc (bytes u) (each bytes us) i.rest); behind = i.behind }

  -- ---- where only the end of input matters to a unit
  module _ (firm : Firm L) where
    cut : (u : U) (front back : List ℕ) → Stands u (front ++ back) → Stands u front
    cut u [] [] st = st
    cut u [] (b ∷ back) st = firm u b back st []
    cut u (b ∷ front) back st = firm u b (front ++ back) st (b ∷ front)

    -- the units divide their own bytes
    pub front_divides : (us vs : List U) {s : List ℕ} → Division L s (us ++ vs) → Division L (each bytes us) us
    front_divides [] vs d = done
    front_divides (u ∷ us) vs (more {rest = t} e st d) =
        let i = parted us vs d in
        more refl (cut u (each bytes us) i.rest (subst (Stands u) i.whole st)) (front_divides us vs d)

    stands_any : (u : U) (t : List ℕ) → 0 < length t → Stands u t → (x : List ℕ) → Stands u x
    stands_any u [] h st = absurd (omega arith)
    stands_any u (b ∷ t) h st = firm u b t st

    -- units that another follows stand before anything
    pub front_solid : Reads L → (us : List U) (v : U) (vs : List U) {s : List ℕ} → Division L s (us ++ v ∷ vs) → Solid L us × (0 < length s)
    front_solid reads [] v vs (more {rest} e st d) =
        (none_left, omega (arith, (reads.sound (bytes v ++ rest) v rest (reads.finds v rest st)).2, ap length e, length-append (bytes v) rest))
    front_solid reads (u ∷ us) v vs (more {rest} e st d) =
        let i = front_solid reads us v vs d in
        (and_solid (stands_any u rest i.1 st) i.0, omega (arith, i.1, ap length e, length-append (bytes u) rest))
