-- What is read to its end with no refusal (`Unrefused`): from a division in range, behind an answer, behind the next
-- entry, and behind a unit that is told by less than its reading (`Told`). Assumes nothing.
use mathlib.Core.Path.{◌≡◌, refl, sym, ap, subst, ◌∙◌}
use mathlib.Core.List.{List, [], ◌∷◌, ◌++◌}
use Prim.Native.Nat.{ℕ, zero, suc, ◌+◌, ◌≤◌, ◌<◌}
use native.Mathlib.Nat.{add-zero}
use native.Mathlib.Numerals.{add-one}
use native.Mathlib.Omega.{arith}
use lib.ListN.{length, length-append, length-drop, drop}
use lib.Seq.{drop-append_seam, drop-drop}
use Rattle.walk_theory.specs.Language.{First, none, bad, unit, Act, keep, clear, yield, print, outside, Language}
use Rattle.walk_theory.specs.Division.{Division, done, more, Reads, on_units, units_of}
use Rattle.walk_theory.specs.Labels.{Label, goes, run, Divides}
use Rattle.walk_theory.specs.Step.{State, Answer, element, cleared, printed, ended, refused, handing, on_act, on_first, answer_by, answer}
use Rattle.walk_theory.specs.Index.{Hand, hand, hand_at}
use Rattle.walk_theory.specs.Next.{Cursor, next_print, next_by, next_of, next_from, next, RangeBy, RangeOf, Unrefused}
use Rattle.walk_theory.proofs.DivisionLaws.{bad≢none, units_first, units_division}
use Rattle.walk_theory.proofs.RunLaws.{leaves≢goes, before_goes, closed_goes, run_act}

module _ (L : Language) (reads : Reads L) where
  open L use {U, R, E, P, bytes, first, act}

  -- ---- from a division in range
  module _ (F : Type 0) (frame : List ℕ → E → F) where
    range_run : (us : List U) (r : R) (p : List F) (ls : List (Label F P)) (r' : R) (p' : List F) → run L F frame r p us ≡ goes ls r' p' → RangeOf L r us
    range_run [] r p ls r' p' e = tt
    range_run (u ∷ us) r p ls r' p' e = by (λ q p'' ms. range_run us q p'' ms r' p') (act r u) refl
      where
        by : ((q : R) (p'' : List F) (ms : List (Label F P)) → run L F frame q p'' us ≡ goes ms r' p' → RangeOf L q us) → (a : Act R E P) → act r u ≡ a → RangeBy L (λ q. RangeOf L q us) r a
        by again (keep q) z = let b = before_goes [] (run L F frame q p us) ls r' p' (sym (run_act L F frame u us r p (keep q) z) ∙ e) in again q p b.0 b.1
        by again (clear q) z = let b = before_goes [] (run L F frame q [] us) ls r' p' (sym (run_act L F frame u us r p (clear q) z) ∙ e) in again q [] b.0 b.1
        by again (yield d) z = let b = before_goes [] (run L F frame r (p ++ (frame (bytes u) d ∷ [])) us) ls r' p' (sym (run_act L F frame u us r p (yield d) z) ∙ e) in again r _ b.0 b.1
        by again (print o) z = let b = before_goes _ (run L F frame r [] us) ls r' p' (sym (run_act L F frame u us r p (print o) z) ∙ e) in again r [] b.0 b.1
        by again (outside k) z = absurd (leaves≢goes (sym (run_act L F frame u us r p (outside k) z) ∙ e))

    pub unrefused_of : (s : List ℕ) (r : R) (ls : List (Label F P)) (n : ℕ) → Divides L F frame s r ls n → Unrefused L s r
    unrefused_of s r ls n d =
        let g = closed_goes (run L F frame r [] d.units) ls n d.range in
        let e = sym (units_division L reads d.division) in
        record { divides = subst (Division L s) e d.division; range = subst (RangeOf L r) e (range_run d.units r [] ls g.0 g.1 g.2) }

  -- ---- a unit
  behind : {s : List ℕ} {us : List U} → Division L s us → (v : U) (vs : List U) → us ≡ v ∷ vs → (rest : List ℕ) → first s ≡ unit v rest → Division L rest vs
  behind done v vs e rest q = let z : ◌≡◌ {A = ℕ} 0 1 = cc in absurd (omega arith)
  behind (more {u} {us} {s} {rest} e st d) v vs k rest' q =
      let f = ap first e ∙ reads.finds u rest st in
      let b : us ≡ vs = cc in
      let c : rest ≡ rest' = cc in
      subst (λ (x : List ℕ). Division L x vs) c (subst (Division L rest) b d)

  with_rest : (rest : List ℕ) → Division L rest (units_of L rest) → (r : R) (a : Act R E P) → RangeBy L (λ q. RangeOf L q (units_of L rest)) r a → RangeBy L (Unrefused L rest) r a
  with_rest rest d r (keep q) g = record { divides = d; range = g }
  with_rest rest d r (clear q) g = record { divides = d; range = g }
  with_rest rest d r (yield o) g = record { divides = d; range = g }
  with_rest rest d r (print o) g = record { divides = d; range = g }
  with_rest rest d r (outside k) g = g

  -- what follows it is read to its end too
  pub unrefused_unit : (rest : List ℕ) (r : R) (u : U) (rest' : List ℕ) → first rest ≡ unit u rest' → Unrefused L rest r → RangeBy L (Unrefused L rest') r (act r u)
  unrefused_unit rest r u rest' q w =
      let e : units_of L rest ≡ u ∷ units_of L rest' = units_first L reads rest ∙ ap (on_units L (λ x. units_of L x)) q in
      with_rest rest' (behind w.divides u (units_of L rest') e rest' q) r (act r u) (subst (RangeOf L r) e w.range)

  division_empty : {s : List ℕ} {us : List U} → Division L s us → us ≡ [] → s ≡ []
  division_empty done e = refl
  division_empty (more h st d) e = let z : ◌≡◌ {A = ℕ} 0 1 = cc in absurd (omega arith)

  -- it is no fault
  pub unrefused_sound : (rest : List ℕ) (r : R) (k : ℕ) → Unrefused L rest r → first rest ≡ bad k → ⊥
  unrefused_sound rest r k w q =
      let none_left = division_empty w.divides (units_first L reads rest ∙ ap (on_units L (λ x. units_of L x)) q) in
      bad≢none (sym q ∙ ap first none_left ∙ reads.at_end)

  module _ (s : List ℕ) where
    there : (at : ℕ) (rest : List ℕ) (u : U) (rest' : List ℕ) → drop at s ≡ rest → first rest ≡ unit u rest' → drop (at + length (bytes u)) s ≡ rest'
    there at rest u rest' e q =
        sym (drop-drop (length (bytes u)) at s) ∙ ap (drop (length (bytes u))) (e ∙ (reads.sound rest u rest' q).0) ∙ drop-append_seam (bytes u) rest'

    -- within the string, and read to the end from there
    pub record From (at : ℕ) (r : R) : Type 0 where
      pub inside : at ≤ length s
      pub unrefused : Unrefused L (drop at s) r

    from_there : (at : ℕ) (rest : List ℕ) (r : R) → at ≤ length s → drop at s ≡ rest → Unrefused L rest r → From at r
    from_there at rest r h e w = record { inside = h; unrefused = subst (λ (x : List ℕ). Unrefused L x r) (sym e) w }

    fits : (at : ℕ) (rest : List ℕ) (u : U) (rest' : List ℕ) → at ≤ length s → drop at s ≡ rest → first rest ≡ unit u rest' → at + length (bytes u) ≤ length s
    fits at rest u rest' h e q =
        let w = reads.sound rest u rest' q in
        omega (arith, h, ap length e, length-drop at s, ap length w.0, length-append (bytes u) rest')

    -- ---- behind an answer
    abbrev pub Behind : Answer R E P → Type 0
    Behind (element e st) = Unrefused L (drop st.place s) st.ref
    Behind (cleared st) = Unrefused L (drop st.place s) st.ref
    Behind (printed n q st) = Unrefused L (drop st.place s) st.ref
    Behind (ended st) = Unit
    Behind (refused n p st) = Unit

    answer_act : (go : ℕ → R → Answer R E P) (a : Act R E P) (u : U) (rest : List ℕ) (at : ℕ) (r : R) (n : ℕ) → rest ≡ drop (at + length (bytes u)) s → RangeBy L (Unrefused L rest) r a
        → ((q : R) → Unrefused L rest q → Behind (go (at + length (bytes u)) q)) → Behind (on_act L go a u at r n)
    answer_act go (keep q) u rest at r n e g again = again q g
    answer_act go (clear q) u rest at r n e g again = subst (λ (x : List ℕ). Unrefused L x q) e g
    answer_act go (yield d) u rest at r n e g again = subst (λ (x : List ℕ). Unrefused L x r) e g
    answer_act go (print o) u rest at r zero e g again = again r g
    answer_act go (print o) u rest at r (suc n) e g again = subst (λ (x : List ℕ). Unrefused L x r) e g
    answer_act go (outside k) u rest at r n e g again = tt

    answer_by_lem : (k : ℕ) (rest : List ℕ) (at : ℕ) (r : R) (n : ℕ) → drop at s ≡ rest → Unrefused L rest r → Behind (answer_by L k rest at r n)
    answer_by_lem zero rest at r n e w = tt
    answer_by_lem (suc k) rest at r n e w = go (λ rest' at' r'. answer_by_lem k rest' at' r' n) (first rest) refl
      where
        go : ((rest' : List ℕ) (at' : ℕ) (r' : R) → drop at' s ≡ rest' → Unrefused L rest' r' → Behind (answer_by L k rest' at' r' n))
            → (o : First U) → first rest ≡ o → Behind (on_first L (λ rest' at' r'. answer_by L k rest' at' r' n) o at r n)
        go again none q = tt
        go again (bad j) q = tt
        go again (unit u rest') q =
            let t = there at rest u rest' e q in
            answer_act (λ at' r'. answer_by L k rest' at' r' n) (act r u) u rest' at r n (sym t) (unrefused_unit rest r u rest' q w) (λ r' g. again rest' (at + length (bytes u)) r' t g)

    behind_handing : (g : State R) (a : Answer R E P) → Behind a → Behind (handing g a)
    unfolding handing
    behind_handing g (element e st) m = m
    behind_handing g (cleared st) m = m
    behind_handing g (printed n q st) m = m
    behind_handing g (ended st) m = m
    behind_handing g (refused n p st) m = m

    -- as a loop has it: a is what was answered, g being the state that was given
    pub unrefused_behind : (st g : State R) (a : Answer R E P) → a ≡ handing g (answer L (drop st.place s) st.place st.ref st.pending) → Unrefused L (drop st.place s) st.ref → Behind a
    unfolding answer
    unrefused_behind st g a e w = subst Behind (sym e) (behind_handing g _ (answer_by_lem (suc (length (drop st.place s))) (drop st.place s) st.place st.ref st.pending refl w))

    -- ---- behind the next entry
    abbrev pub FromCursor : Cursor R → Type 0
    FromCursor c = From c.entry.upto c.ref

    next_print_lem : (x : Cursor R) (h : Hand R) (upto n : ℕ) → FromCursor x → From upto h.ref → FromCursor (next_print x h upto n)
    next_print_lem x h upto zero a b = a
    next_print_lem x h upto (suc n) a b = b

    next_act : (c : Cursor R) (go : Hand R → Cursor R) (h : Hand R) (upto : ℕ) (rest : List ℕ) (a : Act R E P) → FromCursor c → upto ≤ length s → drop upto s ≡ rest → RangeBy L (Unrefused L rest) h.ref a
        → ((h' : Hand R) → Unrefused L rest h'.ref → FromCursor (go h')) → FromCursor (next_by go c h upto a)
    next_act c go h upto rest (keep r) k b e g again = again (hand h.from h.start r h.pending) g
    next_act c go h upto rest (clear r) k b e g again = again (hand h.from h.start r 0) g
    next_act c go h upto rest (yield d) k b e g again = again (hand h.from h.start h.ref (suc h.pending)) g
    next_act c go h upto rest (print q) k b e g again = next_print_lem (go (hand_at upto h.ref)) h upto h.pending (again (hand_at upto h.ref) g) (from_there upto rest h.ref b e g)
    next_act c go h upto rest (outside j) k b e g again = absurd g

    next_by_lem : (k : ℕ) (c : Cursor R) (rest : List ℕ) (at : ℕ) (h : Hand R) → drop at s ≡ rest → length rest < k → at ≤ length s → Unrefused L rest h.ref → FromCursor c → FromCursor (next_of L c at h (units_of L rest))
    next_by_lem zero c rest at h e b i g w = absurd (omega arith)
    next_by_lem (suc k) c rest at h e b i g w =
        subst (λ (us : List U). FromCursor (next_of L c at h us)) (sym (units_first L reads rest)) (go (λ rest' at' h'. next_by_lem k c rest' at' h') (first rest) refl)
      where
        go : ((rest' : List ℕ) (at' : ℕ) (h' : Hand R) → drop at' s ≡ rest' → length rest' < k → at' ≤ length s → Unrefused L rest' h'.ref → FromCursor c → FromCursor (next_of L c at' h' (units_of L rest')))
            → (o : First U) → first rest ≡ o → FromCursor (next_of L c at h (on_units L (λ x. units_of L x) o))
        go again none q = w
        go again (bad j) q = w
        go again (unit u rest') q =
            let t = there at rest u rest' e q in
            let v = reads.sound rest u rest' q in
            let f = fits at rest u rest' i e q in
            next_act c (λ h'. next_of L c (at + length (bytes u)) h' (units_of L rest')) h (at + length (bytes u)) rest' (act h.ref u) w f t (unrefused_unit rest h.ref u rest' q g)
            (λ h' g'. again rest' (at + length (bytes u)) h' t (omega (arith, ap length v.0, length-append (bytes u) rest', v.2)) f g' w)

    pub next_from_lem : (c : Cursor R) → FromCursor c → FromCursor (next L s c)
    next_from_lem c w =
        let at = c.entry.upto in
        next_by_lem (suc (length (drop at s))) c (drop at s) at (hand_at at c.ref) refl (omega arith) w.inside w.unrefused w

  -- ---- a unit that is told: its length, and how many elements it draws; it sets no reference
  pub data Told (rest : List ℕ) (r : R) : ℕ → ℕ → Type 0 where
    passed : (u : U) (rest' : List ℕ) → first rest ≡ unit u rest' → act r u ≡ keep r → Told rest r (length (bytes u)) 0
    drew : (u : U) (rest' : List ℕ) (e : E) → first rest ≡ unit u rest' → act r u ≡ yield e → Told rest r (length (bytes u)) 1

  module _ (s : List ℕ) where
    told_unit : (c : Cursor R) (at : ℕ) (h : Hand R) (u : U) (rest : List ℕ) (a : Act R E P) → first (drop at s) ≡ unit u rest → act h.ref u ≡ a
        → next_from L s c at h ≡ next_by (λ h'. next_from L s c (at + length (bytes u)) h') c h (at + length (bytes u)) a
    told_unit c at h u rest a q e =
        ap (next_of L c at h) (units_first L reads (drop at s) ∙ ap (on_units L (λ x. units_of L x)) q)
        ∙ (λ i. next_by (λ h'. next_of L c (at + length (bytes u)) h' (units_of L (sym (there s at (drop at s) u rest refl q) i))) c h (at + length (bytes u)) (e i))

    pub told_next : (c : Cursor R) (at : ℕ) (h : Hand R) {size drawn : ℕ} → Told (drop at s) h.ref size drawn
        → next_from L s c at h ≡ next_from L s c (at + size) (hand h.from h.start h.ref (h.pending + drawn))
    told_next c at h (passed u rest q e) =
        told_unit c at h u rest (keep h.ref) q e ∙ ap (λ (n : ℕ). next_from L s c (at + length (bytes u)) (hand h.from h.start h.ref n)) (sym (add-zero h.pending))
    told_next c at h (drew u rest d q e) =
        told_unit c at h u rest (yield d) q e ∙ ap (λ (n : ℕ). next_from L s c (at + length (bytes u)) (hand h.from h.start h.ref n)) (sym (add-one h.pending))

    pub record After (at : ℕ) (r : R) (size : ℕ) : Type 0 where
      pub from : From s (at + size) r
      pub some : 0 < size

    after_unit : (at : ℕ) (r : R) (u : U) (rest : List ℕ) → From s at r → first (drop at s) ≡ unit u rest → Unrefused L rest r → After at r (length (bytes u))
    after_unit at r u rest w q g = record {
      from = from_there s (at + length (bytes u)) rest r (fits s at (drop at s) u rest w.inside refl q) (there s at (drop at s) u rest refl q) g;
      some = (reads.sound (drop at s) u rest q).2;
    }

    pub told_after : (at : ℕ) (r : R) {size drawn : ℕ} → From s at r → Told (drop at s) r size drawn → After at r size
    told_after at r w (passed u rest q e) = after_unit at r u rest w q (subst (RangeBy L (Unrefused L rest) r) e (unrefused_unit (drop at s) r u rest q w.unrefused))
    told_after at r w (drew u rest d q e) = after_unit at r u rest w q (subst (RangeBy L (Unrefused L rest) r) e (unrefused_unit (drop at s) r u rest q w.unrefused))
