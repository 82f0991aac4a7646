-- The whole walk: it reaches the end exactly where the string divides in range, and then answers the division's labels;
-- otherwise it reaches a refusal. One law, `over_unit`, says how a walk goes on over one unit; the rest is induction.
-- Assumes nothing.
use mathlib.Core.Path.{◌≡◌, refl, sym, ap, subst, ◌∙◌}
use mathlib.Core.List.{List, [], ◌∷◌, ◌++◌}
use mathlib.Core.Logic.{◌⊎◌, inl, inr}
use Prim.Native.Nat.{ℕ, zero, suc, ◌+◌, ◌≤◌, ◌<◌}
use native.Mathlib.Omega.{arith}
use lib.ListN.{length, length-append}
use Rattle.walk_theory.specs.Claims.{Local, Walks}
use Rattle.walk_theory.specs.Language.{First, none, bad, unit, Act, keep, clear, yield, print, outside, Language}
use Rattle.walk_theory.specs.Division.{Division, done, more, Reads}
use Rattle.walk_theory.specs.Labels.{Label, labels, flush, Run, goes, leaves, before, and_then, closed, effect, run, Divides, Fails, faulty, beyond, later}
use Rattle.elements.specs.Given.{longest}
use Rattle.walk_theory.specs.Step.{state, Answer, answer, handing, step}
use Rattle.walk_theory.specs.Reach.{Final, accepted, refusal, on_from, over, then, Reach, stop, go_on, answered}
use Rattle.walk_theory.proofs.DivisionLaws.{unique}
use Rattle.walk_theory.proofs.RunLaws.{leaves≢goes, goes_inj, before_goes, closed_goes}
use Rattle.walk_theory.proofs.StepLaws.{At, one_walk, reach_as, nonempty, step_at, further, step_first, step_act}

module _ (L : Language) (reads : Reads L) (F : Type 0) (frame : List ℕ → L.E → F) (local : Local L F frame) (s : List ℕ) (short : length s ≤ longest) where
  open L use {U, R, E, P, bytes, first, act, shifted, Stands}

  -- a walk that goes on over a unit: first the labels ls, then those of the walk from after the unit
  record Joined (pre : List ℕ) (r : R) (p : List F) (ls : List (Label F P)) (p' : List F) (xs : List (Answer R E P)) (f : Final) : Type 0 where
    ys : List (Answer R E P)
    reach : Reach L s (state (length pre) r (length p)) ys f
    same : answered L F frame s p ys ≡ ls ++ answered L F frame s p' xs

  abbrev Over : List ℕ → U → R → List F → Run R F P → Type 0
  Over pre u r p (leaves n) = then (step L s (state (length pre) r (length p))) ≡ over (refusal n (length pre))
  Over pre u r p (goes ls r' p') =
      (length p' ≤ length (pre ++ bytes u))
      × ((xs : List (Answer R E P)) (f : Final) → Reach L s (state (length (pre ++ bytes u)) r' (length p')) xs f → Joined pre r p ls p' xs f)

  module _ (pre : List ℕ) (u : U) (rest : List ℕ) (r : R) (st : Stands u rest) where
    next : length (pre ++ bytes u) ≡ length pre + length (bytes u)
    next = length-append pre (bytes u)

    -- a unit passed within the step
    passed : (r' : R) (n : ℕ) {xs : List (Answer R E P)} {f : Final} → At s pre (bytes u ++ rest) n
        → step L s (state (length pre) r n) ≡ handing (state (length pre) r n) (answer L rest (length pre + length (bytes u)) r' n)
        → Reach L s (state (length (pre ++ bytes u)) r' n) xs f → Reach L s (state (length pre) r n) xs f
    passed r' n w e c =
        reach_as L _ (e ∙ ap (λ (x : ℕ). handing (state (length pre) r n) (answer L rest x r' n)) (sym next)) (step_at L reads s short (pre ++ bytes u) rest r' n (further L reads s short pre u rest n n w (omega (arith, next, w.few)))) c

    over_unit : (p : List F) (a : Act R E P) → At s pre (bytes u ++ rest) (length p) → act r u ≡ a → Over pre u r p (effect L F frame r p u a)
    unfolding handing flush
    over_unit p (keep r') w h =
        (omega (arith, next, w.few), λ xs f c. record { ys = xs; reach = passed r' (length p) w (step_act L reads s short pre u rest r (length p) (keep r') w st h) c; same = refl })
    over_unit p (clear r') w h =
        (omega arith, λ xs f c. record { ys = _; reach = go_on (step_act L reads s short pre u rest r (length p) (clear r') w st h) (ap (λ (x : ℕ). on_from (state x r' 0)) (sym next)) c; same = refl })
    over_unit p (yield e) w h =
        let one = length-append p (frame (bytes u) e ∷ []) in
        let i = nonempty L reads u rest st in
        let more-pending : suc (length p) ≡ length (p ++ (frame (bytes u) e ∷ [])) = omega arith in (
          omega (arith, next, w.few),
          λ xs f c. record {
            ys = _;
            reach = go_on (step_act L reads s short pre u rest r (length p) (yield e) w st h) (ap (λ (x : ℕ). on_from (state x r (suc (length p)))) (sym next) ∙ ap (λ (x : ℕ). on_from (state (length (pre ++ bytes u)) r x)) more-pending) c;
            same = ap (λ (x : F). answered L F frame s (p ++ (x ∷ [])) xs) (ap (λ (t : List ℕ). frame t (shifted (length pre) e)) w.whole ∙ local r u e h pre rest);
          },
        )
    over_unit [] (print q) w h =
        (omega arith, λ xs f c. record { ys = xs; reach = passed r 0 w (step_act L reads s short pre u rest r 0 (print q) w st h) c; same = refl })
    over_unit (g ∷ p) (print q) w h =
        (omega arith, λ xs f c. record { ys = _; reach = go_on (step_act L reads s short pre u rest r (suc (length p)) (print q) w st h) (ap (λ (x : ℕ). on_from (state x r 0)) (sym next)) c; same = refl })
    over_unit p (outside k) w h = ap then (step_act L reads s short pre u rest r (length p) (outside k) w st h)

  -- ---- a divided string in range is accepted
  -- a walk to the end from a place of s, p being pending: it answers these labels, and leaves so many pending
  pub record Walked (pre : List ℕ) (r : R) (p : List F) (ls : List (Label F P)) (n : ℕ) : Type 0 where
    pub xs : List (Answer R E P)
    pub reach : Reach L s (state (length pre) r (length p)) xs (accepted n)
    pub same : answered L F frame s p xs ≡ ls

  at_end : (pre : List ℕ) (r : R) (p : List F) → At s pre [] (length p) → Walked pre r p [] (length p)
  unfolding handing
  at_end pre r p w = record { xs = []; reach = stop (ap then (step_first L reads s short pre [] r (length p) none w reads.at_end)); same = refl }

  pub walks : {rest : List ℕ} {us : List U} → Division L rest us → (pre : List ℕ) (r : R) (p : List F) (ls : List (Label F P)) (r' : R) (p' : List F) → At s pre rest (length p)
      → run L F frame r p us ≡ goes ls r' p' → Walked pre r p ls (length p')
  walks done pre r p ls r' p' w q =
      let i = goes_inj q in
      subst (λ (x : List (Label F P)). Walked pre r p x (length p')) i.0 (subst (λ (x : List F). Walked pre r p [] (length x)) i.2 (at_end pre r p w))
  walks (more {u} {us} {s = t} {rest} e st d) pre r p ls r' p' w q =
      go (effect L F frame r p u (act r u)) (over_unit pre u rest r st p (act r u) w' refl) (λ r'' p'' ms b. walks d (pre ++ bytes u) r'' p'' ms r' p' (further L reads s short pre u rest (length p) (length p'') w' b)) q
    where
      w' : At s pre (bytes u ++ rest) (length p)
      w' = record { whole = w.whole ∙ ap (λ (x : List ℕ). pre ++ x) e; few = w.few }

      go : (ef : Run R F P) → Over pre u r p ef
          → ((r'' : R) (p'' : List F) (ms : List (Label F P)) → length p'' ≤ length (pre ++ bytes u) → run L F frame r'' p'' us ≡ goes ms r' p' → Walked (pre ++ bytes u) r'' p'' ms (length p'))
          → and_then ef (λ r'' p''. run L F frame r'' p'' us) ≡ goes ls r' p' → Walked pre r p ls (length p')
      go (leaves n) o again q = absurd (leaves≢goes q)
      go (goes ks r'' p'') o again q =
          let b = before_goes ks (run L F frame r'' p'' us) ls r' p' q in
          let v = again r'' p'' b.0 o.0 b.1 in
          let j = o.1 v.xs (accepted (length p')) v.reach in
          record { xs = j.ys; reach = j.reach; same = j.same ∙ ap (λ (x : List (Label F P)). ks ++ x) v.same ∙ b.2 }

  -- ---- every walk ends: what is left divides and its run goes on, or a refusal is reached
  record Goes (rest : List ℕ) (r : R) (p : List F) : Type 0 where
    units : List U
    division : Division L rest units
    found : List (Label F P)
    to : R
    pend : List F
    range : run L F frame r p units ≡ goes found to pend

  record Refuses (pre rest : List ℕ) (r : R) (p : List F) : Type 0 where
    xs : List (Answer R E P)
    number : ℕ
    place : ℕ
    reach : Reach L s (state (length pre) r (length p)) xs (refusal number place)
    fails : Fails L F frame rest (length pre) r p number place

  leaves_outside : (r : R) (p : List F) (u : U) (n : ℕ) (a : Act R E P) → effect L F frame r p u a ≡ leaves n → a ≡ outside n
  leaves_outside r p u n (keep r') e = absurd (leaves≢goes (sym e))
  leaves_outside r p u n (clear r') e = absurd (leaves≢goes (sym e))
  leaves_outside r p u n (yield x) e = absurd (leaves≢goes (sym e))
  leaves_outside r p u n (print q) e = absurd (leaves≢goes (sym e))
  leaves_outside r p u n (outside k) e = let z : k ≡ n = cc in ap outside z

  ends : (fuel : ℕ) (pre rest : List ℕ) (r : R) (p : List F) → At s pre rest (length p) → length rest < fuel → Goes rest r p ⊎ Refuses pre rest r p
  unfolding handing
  ends zero pre rest r p w h = absurd (omega arith)
  ends (suc k) pre rest r p w h = go (λ pre' rest' r' p'. ends k pre' rest' r' p') (first rest) refl
    where
      on : (u : U) (rest' : List ℕ) → rest ≡ bytes u ++ rest' → Stands u rest' → (ef : Run R F P) → effect L F frame r p u (act r u) ≡ ef → Over pre u r p ef
          → ((r' : R) (p' : List F) → length p' ≤ length (pre ++ bytes u) → Goes rest' r' p' ⊎ Refuses (pre ++ bytes u) rest' r' p') → Goes rest r p ⊎ Refuses pre rest r p
      on u rest' e st (leaves n) q o again = inr (record { xs = []; number = n; place = length pre; reach = stop o; fails = beyond e st (leaves_outside r p u n (act r u) q) })
      on u rest' e st (goes ls r' p') q o again = by (again r' p' o.0)
        where
          by : Goes rest' r' p' ⊎ Refuses (pre ++ bytes u) rest' r' p' → Goes rest r p ⊎ Refuses pre rest r p
          by (inl i) = inl (record { units = u ∷ i.units; division = more e st i.division; found = ls ++ i.found; to = i.to; pend = i.pend; range = ap (λ (x : Run R F P). and_then x (λ r'' p''. run L F frame r'' p'' i.units)) q ∙ ap (before ls) i.range })
          by (inr v) = let j = o.1 v.xs (refusal v.number v.place) v.reach in inr (record { xs = j.ys; number = v.number; place = v.place; reach = j.reach; fails = later e st q (subst (λ (x : ℕ). Fails L F frame rest' x r' p' v.number v.place) (length-append pre (bytes u)) v.fails) })

      go : ((pre' rest' : List ℕ) (r' : R) (p' : List F) → At s pre' rest' (length p') → length rest' < k → Goes rest' r' p' ⊎ Refuses pre' rest' r' p') → (o : First U) → first rest ≡ o → Goes rest r p ⊎ Refuses pre rest r p
      go again none q = inl (subst (λ (x : List ℕ). Goes x r p) (sym (reads.empty rest q)) (record { units = []; division = done; found = []; to = r; pend = p; range = refl }))
      go again (bad n) q = inr (record { xs = []; number = n; place = length pre; reach = stop (ap then (step_first L reads s short pre rest r (length p) (bad n) w q)); fails = faulty q })
      go again (unit u rest') q =
          let v = reads.sound rest u rest' q in
          let w' : At s pre (bytes u ++ rest') (length p) = record { whole = w.whole ∙ ap (λ (x : List ℕ). pre ++ x) v.0; few = w.few } in
          let l : length rest ≡ length (bytes u) + length rest' = ap length v.0 ∙ length-append (bytes u) rest' in
          on u rest' v.0 v.1 (effect L F frame r p u (act r u)) refl (over_unit pre u rest' r v.1 p (act r u) w' refl)
          (λ r' p' b. again (pre ++ bytes u) rest' r' p' (further L reads s short pre u rest' (length p) (length p') w' b) (omega arith))

  -- ---- from the fresh state
  start : At s [] s 0
  start = record { whole = refl; few = omega arith }

  accepted≢refusal : {m n p : ℕ} → ◌≡◌ {A = Final} (accepted m) (refusal n p) → ⊥
  accepted≢refusal e = let z : ◌≡◌ {A = ℕ} 0 1 = cc in omega arith

  same_accepted : {m n : ℕ} → ◌≡◌ {A = Final} (accepted m) (accepted n) → m ≡ n
  same_accepted e = cc

  same_refusal : {m n p q : ℕ} → ◌≡◌ {A = Final} (refusal m p) (refusal n q) → (m ≡ n) × (p ≡ q)
  same_refusal e = (cc, cc)

  -- a division in range is walked to the end, with its labels
  divided : (r : R) (ls : List (Label F P)) (n : ℕ) → Divides L F frame s r ls n → Walked [] r [] ls n
  divided r ls n d =
      let g = closed_goes (run L F frame r [] d.units) ls n d.range in
      subst (Walked [] r [] ls) g.3 (walks d.division [] r [] ls g.0 g.1 start g.2)

  pub whole : (r : R) → Walks L F frame r s
  whole r = by (ends (suc (length s)) [] s r [] start (omega arith))
    where
      by : Goes s r [] ⊎ Refuses [] s r [] → Walks L F frame r s
      by (inl i) =
          let v = walks i.division [] r [] i.found i.to i.pend start i.range in
          record {
            one_division = λ us vs d e. unique L reads refl d e;
            answers = v.xs;
            final = accepted (length i.pend);
            ends = v.reach;
            one_walk = λ ys f c. one_walk L refl c v.reach;
            divides→accepted = λ ls n d. (let w = divided r ls n d in let o = one_walk L refl v.reach w.reach in (o.1, ap (answered L F frame s []) o.0 ∙ w.same));
            accepted→divides = λ n e. (i.found, record { units = i.units; division = i.division; range = ap closed i.range ∙ ap (labels i.found) (same_accepted e) });
            refused→fails = λ n p e. absurd (accepted≢refusal e);
          }
      by (inr v) = record {
        one_division = λ us vs d e. unique L reads refl d e;
        answers = v.xs;
        final = refusal v.number v.place;
        ends = v.reach;
        one_walk = λ ys f c. one_walk L refl c v.reach;
        divides→accepted = λ ls n d. let w = divided r ls n d in absurd (accepted≢refusal (one_walk L refl w.reach v.reach).1);
        accepted→divides = λ n e. absurd (accepted≢refusal (sym e));
        refused→fails = λ n p e. let a = same_refusal e in subst (λ (x : ℕ). Fails L F frame s 0 r [] x p) a.0 (subst (λ (x : ℕ). Fails L F frame s 0 r [] v.number x) a.1 v.fails);
      }
