-- A line that its first bytes tell is a unit that draws so many elements, where nothing is refused (`glance_told`).
-- Assumes nothing.
use mathlib.Core.Path.{◌≡◌, refl, sym, ap, subst, ◌∙◌}
use mathlib.Core.Bool.{Bool, true, false, cond, not, ◌&&◌, true≢false}
use mathlib.Core.List.{List, [], ◌∷◌}
use Prim.Native.Nat.{ℕ, zero, suc, ◌≤◌, ◌<◌}
use native.Mathlib.Omega.{arith}
use lib.Dec.{eqb}
use lib.ListN.{length, take, get_or}
use borrow.Author.Tests.{lt-ltb, eqb-true, eq-eqb, ne_eqb}
use Rattle.text.specs.Blank.{is_blank, trim_end, trim}
use Rattle.text.specs.Fields.{index_of}
use Rattle.text.specs.Scan.{size_by}
use Rattle.text.specs.Utf8.{within}
use Rattle.text.proofs.BoolLaws.{test, and_both, within_low}
use Rattle.text.proofs.BlankStripLaws.{strip_none}
use Rattle.text.proofs.BlankSteps.{size_plain}
use Rattle.text.proofs.BlankTrimLaws.{trim_end_is}
use Rattle.elements.specs.declared.LabelElement.{LabelElement}
use Rattle.elements.specs.declared.LabelPosition.{LabelPosition}
use Rattle.command_letters.specs.Command.{is_reference, is_print, command_of}
use Rattle.graphics.proofs.BlockLaws.{opens_other}
use Rattle.walk_theory.specs.Language.{First, none, bad, unit, keep, clear, yield, print, outside}
use Rattle.walk_theory.specs.Reading.{fault, passes, gives, did, reading, reading_of}
use Rattle.walk_theory.specs.Next.{Unrefused, RangeBy}
use Rattle.walk_theory.proofs.UnrefusedLaws.{Told, passed, drew, unrefused_unit, unrefused_sound}
use Rattle.grammar.specs.Units.{EplUnit, line, bytes}
use Rattle.grammar.specs.Found.{first}
use Rattle.grammar.specs.WellFormed.{is_read, well_formed, fault_of}
use Rattle.grammar.specs.Epl.{EplAct, acts, epl}
use Rattle.grammar.specs.Turn.{line_turn}
use Rattle.grammar.specs.Ranges as ranges
use Rattle.grammar.specs.Ranges.{Role, yields, role_as, ref_as, Does}
use Rattle.grammar.proofs.FoundBlockLaws.{span_none}
use Rattle.grammar.proofs.FoundLaws.{reads}
use Rattle.grammar.proofs.RangesLaws.{line_acts}
use Rattle.grammar.proofs.TurnLineLaws.{line_reads}
use Rattle.label_index.specs.Glance.{untold, has_quotes, is_line_letter, tells, draws, told_by, glance_of}
use Rattle.label_index.proofs.TrimLaws.{trim_end_keeps}

-- ---- the command of a line, by its first bytes
-- one of the first bytes of a line that is told
pub record FirstByte (b : ℕ) : Type 0 where
  pub plain : within 0x21 0x7f b ≡ true
  pub no_g : eqb b 71 ≡ false
  pub no_n : eqb b 78 ≡ false
  pub no_r : eqb b 82 ≡ false
  pub no_p : eqb b 80 ≡ false

not_false : (x : Bool) → not x ≡ true → x ≡ false
not_false true e = absurd (true≢false (sym e))
not_false false e = refl

tells_so : (b : ℕ) → tells b ≡ true → FirstByte b
tells_so b e =
    let a4 = and_both (within 0x21 0x7f b && not (eqb b 71) && not (eqb b 78) && not (eqb b 82)) (not (eqb b 80)) e in
    let a3 = and_both (within 0x21 0x7f b && not (eqb b 71) && not (eqb b 78)) (not (eqb b 82)) a4.0 in
    let a2 = and_both (within 0x21 0x7f b && not (eqb b 71)) (not (eqb b 78)) a3.0 in
    let a1 = and_both (within 0x21 0x7f b) (not (eqb b 71)) a2.0 in
    record { plain = a1.0; no_g = not_false _ a1.1; no_n = not_false _ a2.1; no_r = not_false _ a3.1; no_p = not_false _ a4.1 }

-- what it draws, and that it sets no reference
pub record RoleOf (t : List ℕ) (r : LabelPosition) (d : Bool) : Type 0 where
  pub role : role_as (command_of t) t ≡ cond d yields ranges.passes
  pub ref : ref_as (command_of t) t r ≡ r

role_told : (b : ℕ) (t : List ℕ) (r : LabelPosition) → FirstByte b → RoleOf (b ∷ t) r (draws b (b ∷ t))
unfolding command_of is_reference is_print
role_told b t r w =
    test (eqb b 65)
    (λ e. record { role = simp (w.no_n, w.no_r, e); ref = simp (w.no_n, w.no_r, e) })
    (λ e1. test (eqb b 66)
    (λ e. record { role = simp (w.no_n, w.no_r, e1, e); ref = simp (w.no_n, w.no_r, e1, e) })
    (λ e2. test (eqb b 98)
    (λ e. record { role = simp (w.no_n, w.no_r, e1, e2, e); ref = simp (w.no_n, w.no_r, e1, e2, e) })
    (λ e3. test (eqb b 76)
    (λ e4.
    test (eqb (get_or t 0 0) 79)
    (λ e. record { role = simp (w.no_n, w.no_r, e1, e2, e3, e4, e); ref = simp (w.no_n, w.no_r, e1, e2, e3, e4, e) })
    (λ f1. test (eqb (get_or t 0 0) 87)
    (λ e. record { role = simp (w.no_n, w.no_r, e1, e2, e3, e4, f1, e); ref = simp (w.no_n, w.no_r, e1, e2, e3, e4, f1, e) })
    (λ f2. test (eqb (get_or t 0 0) 69)
    (λ e. record { role = simp (w.no_n, w.no_r, e1, e2, e3, e4, f1, f2, e); ref = simp (w.no_n, w.no_r, e1, e2, e3, e4, f1, f2, e) })
    (λ f3. test (eqb (get_or t 0 0) 83)
    (λ e. record { role = simp (w.no_n, w.no_r, e1, e2, e3, e4, f1, f2, f3, e); ref = simp (w.no_n, w.no_r, e1, e2, e3, e4, f1, f2, f3, e) })
    (λ f4.
    let no-x : eqb b 88 ≡ false = ne_eqb b 88 (λ k. omega (arith, k, eqb-true b 76 e4)) in
    record { role = simp (w.no_n, w.no_r, w.no_p, e1, e2, e3, e4, f1, f2, f3, f4, no-x); ref = simp (w.no_n, w.no_r, w.no_p, e1, e2, e3, e4, f1, f2, f3, f4, no-x) })))))
    (λ e4. test (eqb b 88)
    (λ e. record { role = simp (w.no_n, w.no_r, e1, e2, e3, e4, e); ref = simp (w.no_n, w.no_r, e1, e2, e3, e4, e) })
    (λ e5. record { role = simp (w.no_n, w.no_r, w.no_p, e1, e2, e3, e4, e5); ref = simp (w.no_n, w.no_r, w.no_p, e1, e2, e3, e4, e5) })))))

-- ---- a unit by its reading
module _ (m : ℕ) where
  did_fault : (a : EplAct) (n : ℕ) → did m a ≡ fault n → a ≡ outside n
  did_fault (keep r) n e = let z : ◌≡◌ {A = ℕ} 0 1 = cc in absurd (omega arith)
  did_fault (clear r) n e = let z : ◌≡◌ {A = ℕ} 0 1 = cc in absurd (omega arith)
  did_fault (yield d) n e = let z : ◌≡◌ {A = ℕ} 0 1 = cc in absurd (omega arith)
  did_fault (print q) n e = let z : ◌≡◌ {A = ℕ} 0 1 = cc in absurd (omega arith)
  did_fault (outside k) n e = let z : k ≡ n = cc in ap outside z

  did_gives : (a : EplAct) (n : ℕ) (d : LabelElement) → did m a ≡ gives n d → (m ≡ n) × (a ≡ yield d)
  did_gives (keep r) n d e = let z : ◌≡◌ {A = ℕ} 0 1 = cc in absurd (omega arith)
  did_gives (clear r) n d e = let z : ◌≡◌ {A = ℕ} 0 1 = cc in absurd (omega arith)
  did_gives (yield o) n d e = let z : o ≡ d = cc in (cc, ap yield z)
  did_gives (print q) n d e = let z : ◌≡◌ {A = ℕ} 0 1 = cc in absurd (omega arith)
  did_gives (outside k) n d e = let z : ◌≡◌ {A = ℕ} 0 1 = cc in absurd (omega arith)

  did_passes : (a : EplAct) (n : ℕ) (r : LabelPosition) → did m a ≡ passes n r → (m ≡ n) × (a ≡ keep r)
  did_passes (keep q) n r e = let z : q ≡ r = cc in (cc, ap keep z)
  did_passes (clear q) n r e = let z : ◌≡◌ {A = ℕ} 0 1 = cc in absurd (omega arith)
  did_passes (yield o) n r e = let z : ◌≡◌ {A = ℕ} 0 1 = cc in absurd (omega arith)
  did_passes (print q) n r e = let z : ◌≡◌ {A = ℕ} 0 1 = cc in absurd (omega arith)
  did_passes (outside k) n r e = let z : ◌≡◌ {A = ℕ} 0 1 = cc in absurd (omega arith)

-- ---- a line without its blanks: it begins with the same byte
cut_front : (b k : ℕ) (v : List ℕ) → 0 < k → (w : List ℕ) × (take k (b ∷ v) ≡ b ∷ w)
cut_front b zero v h = absurd (omega arith)
cut_front b (suc k) v h = (take k v, refl)

trimmed : (b : ℕ) (v : List ℕ) → within 0x21 0x7f b ≡ true → (w : List ℕ) × (trim_end (b ∷ v) ≡ b ∷ w) × (trim (b ∷ v) ≡ b ∷ w)
trimmed b v p =
    let c = cut_front b (length (trim_end (b ∷ v))) v (trim_end_keeps (b ∷ v) 0 (omega arith) p) in
    let e : trim_end (b ∷ v) ≡ b ∷ c.0 = trim_end_is (b ∷ v) ∙ c.1 in
    (c.0, e, ap trim_end (strip_none is_blank (b ∷ v) (size_plain (b ∷ v) p)) ∙ e)

module _ (s : List ℕ) (r : LabelPosition) (u : EplUnit) (rest : List ℕ) (q : first s ≡ unit u rest) (g : RangeBy epl (Unrefused epl rest) r (acts r u))
    (size : ℕ) (t : List ℕ) (e : reading_of epl s r ≡ line_turn size r t) where
  here : did (length (bytes u)) (acts r u) ≡ line_turn size r t
  here = sym (ap (reading epl r) q) ∙ e

  no_fault : (n : ℕ) → did (length (bytes u)) (acts r u) ≡ fault n → ⊥
  no_fault n k = subst (RangeBy epl (Unrefused epl rest) r) (did_fault (length (bytes u)) (acts r u) n k) g

  by_role : (d : Bool) (a : EplAct) → did (length (bytes u)) (acts r u) ≡ did size a → Does (cond d yields ranges.passes) r r a → Told epl reads s r size (cond d 1 0)
  by_role true a k does =
      let w = did_gives (length (bytes u)) (acts r u) size does.0 (k ∙ ap (did size) does.1) in
      subst (λ (n : ℕ). Told epl reads s r n 1) w.0 (drew u rest does.0 q w.1)
  by_role false a k does =
      let w = did_passes (length (bytes u)) (acts r u) size r (k ∙ ap (did size) does) in
      subst (λ (n : ℕ). Told epl reads s r n 0) w.0 (passed u rest q w.1)

  told_unit : (d : Bool) → RoleOf (trim t) r d → Told epl reads s r size (cond d 1 0)
  told_unit d w =
      test (well_formed (trim t))
      (λ f.
      let k : did (length (bytes u)) (acts r u) ≡ did size (acts r (line t)) = here ∙ (simp f) in
      let does = line_acts t r f (λ n o. no_fault n (k ∙ ap (did size) o)) in
      by_role d (acts r (line t)) k (subst (λ (x : LabelPosition). Does (cond d yields ranges.passes) r x (acts r (line t))) w.ref (subst (λ (x : Role). Does x r (ref_as (command_of (trim t)) (trim t) r) (acts r (line t))) w.role does)))
      (λ f. absurd (no_fault (fault_of (trim t)) (here ∙ (simp f))))

told_line : (b : ℕ) (v : List ℕ) (r : LabelPosition) → Unrefused epl (b ∷ v) r → FirstByte b
    → Told epl reads (b ∷ v) r (size_by (index_of 10 (b ∷ v)) (length (b ∷ v))) (cond (draws b (trim_end (take (index_of 10 (b ∷ v)) (b ∷ v)))) 1 0)
told_line b v r w f = go (first (b ∷ v)) refl
  where
    no_lf : eqb b 10 ≡ false
    no_lf = ne_eqb b 10 (λ k. omega (arith, k, within_low 0x21 0x7f b f.plain))

    t : List ℕ
    t = take (index_of 10 (b ∷ v)) (b ∷ v)

    t_is : t ≡ b ∷ take (index_of 10 v) v
    t_is = simp no_lf

    line_is : reading_of epl (b ∷ v) r ≡ line_turn (size_by (index_of 10 (b ∷ v)) (length (b ∷ v))) r t
    line_is =
        line_reads (b ∷ v) r
        (span_none (b ∷ v) (sym (opens_other (b ∷ v) (λ k. omega (arith, k)) (simp (lt-ltb 32 b (within_low 0x21 0x7f b f.plain), f.no_g)))))
        (omega arith)

    role : RoleOf (trim t) r (draws b (trim_end t))
    role =
        let c = trimmed b (take (index_of 10 v) v) f.plain in
        subst (λ (x : List ℕ). RoleOf (trim x) r (draws b (trim_end x))) (sym t_is)
        (subst (λ (x : List ℕ). RoleOf (trim (b ∷ take (index_of 10 v) v)) r (draws b x)) (sym c.1)
        (subst (λ (x : List ℕ). RoleOf x r (draws b (b ∷ c.0))) (sym c.2) (role_told b c.0 r f)))

    go : (o : First EplUnit) → first (b ∷ v) ≡ o → Told epl reads (b ∷ v) r (size_by (index_of 10 (b ∷ v)) (length (b ∷ v))) (cond (draws b (trim_end t)) 1 0)
    go none q = absurd (let k = ap length (reads.empty (b ∷ v) q) in omega (arith, k))
    go (bad k) q = absurd (unrefused_sound epl reads (b ∷ v) r k w q)
    go (unit u rest) q = told_unit (b ∷ v) r u rest q (unrefused_unit epl reads (b ∷ v) r u rest q w) (size_by (index_of 10 (b ∷ v)) (length (b ∷ v))) t line_is (draws b (trim_end t)) role

pub glance_told : (s : List ℕ) (r : LabelPosition) → Unrefused epl s r → 0 < (glance_of s).size → Told epl reads s r (glance_of s).size (glance_of s).drawn
unfolding glance_of
glance_told [] r w h = absurd (omega arith)
glance_told (b ∷ v) r w h =
    test (tells b)
    (λ e. simp e (told_line b v r w (tells_so b e)))
    (λ e. absurd (let k : 0 < 0 = simp e at h in omega arith))

-- one at most
pub told_few : (s : List ℕ) (r : LabelPosition) (m n : ℕ) → Told epl reads s r m n → n ≤ 1
told_few s r m n (passed u rest q e) = omega arith
told_few s r m n (drew u rest d q e) = omega arith

-- ---- as code has it
pub draws_data : (b : ℕ) (t : List ℕ) → has_quotes b ≡ true → is_read t ≡ draws b t
draws_data b t e = sym (ap (λ (x : Bool). cond x (is_read t) (cond (eqb b 76) (is_line_letter (get_or t 1 0)) (eqb b 88))) e)

pub draws_line : (b : ℕ) (t : List ℕ) → has_quotes b ≡ false → b ≡ 76 → is_line_letter (get_or t 1 0) ≡ draws b t
draws_line b t e k =
    sym (ap (λ (x : Bool). cond x (is_read t) (cond (eqb b 76) (is_line_letter (get_or t 1 0)) (eqb b 88))) e ∙ ap (λ (x : Bool). cond x (is_line_letter (get_or t 1 0)) (eqb b 88)) (eq-eqb b 76 k))

pub draws_box : (b : ℕ) (t : List ℕ) → has_quotes b ≡ false → (b ≡ 76 → ⊥) → eqb b 88 ≡ draws b t
draws_box b t e k =
    sym (ap (λ (x : Bool). cond x (is_read t) (cond (eqb b 76) (is_line_letter (get_or t 1 0)) (eqb b 88))) e ∙ ap (λ (x : Bool). cond x (is_line_letter (get_or t 1 0)) (eqb b 88)) (ne_eqb b 76 k))

module _ (s : List ℕ) where
  pub glance_by : (n size : ℕ) (d : Bool) → n ≡ index_of 10 s → size ≡ size_by n (length s) → tells (get_or s 0 0) ≡ true → draws (get_or s 0 0) (trim_end (take n s)) ≡ d → told_by size d ≡ glance_of s
  unfolding glance_of
  glance_by n size d e f g h =
      sym (ap (λ (x : Bool). cond x (told_by (size_by (index_of 10 s) (length s)) (draws (get_or s 0 0) (trim_end (take (index_of 10 s) s)))) untold) g
      ∙ (λ i. told_by (sym (f ∙ ap (λ (m : ℕ). size_by m (length s)) e) i) ((ap (λ (m : ℕ). draws (get_or s 0 0) (trim_end (take m s))) (sym e) ∙ h) i)))

  pub glance_other : tells (get_or s 0 0) ≡ false → untold ≡ glance_of s
  unfolding glance_of
  glance_other g = sym (ap (λ (x : Bool). cond x (told_by (size_by (index_of 10 s) (length s)) (draws (get_or s 0 0) (trim_end (take (index_of 10 s) s)))) untold) g)

pub glance_none : (s : List ℕ) → length s ≡ 0 → untold ≡ glance_of s
glance_none [] e = glance_other [] refl
glance_none (b ∷ s) e = absurd (omega (arith, e))
