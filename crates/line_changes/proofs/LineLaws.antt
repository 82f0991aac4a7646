-- What a line that may be changed owes to the theory of one unit changed: no other unit stands first where it does
-- (`line_alone`), and it yields or is passed over (`plain_unit`), by its command alone (`unit_role`). Units between it
-- and the next `N` or print line (`next_of`) yield or are passed over too (`between_role`). Assumes nothing.
use mathlib.Core.Path.{◌≡◌, refl, sym, ap, subst, ◌∙◌}
use mathlib.Core.Bool.{true}
use mathlib.Core.List.{List, [], ◌∷◌, ◌++◌, append_assoc, append-nil}
use mathlib.Core.Logic.{◌⊎◌, inl, inr}
use Prim.Native.Nat.{ℕ, ◌<◌}
use native.Mathlib.Omega.{arith}
use lib.ListN.{length, length-append}
use Rattle.text.specs.Blank.{trim}
use Rattle.text.proofs.BoolLaws.{test}
use Rattle.elements.specs.declared.LabelPosition.{LabelPosition}
use Rattle.elements.specs.Refusals.{number_of}
use Rattle.command_letters.specs.declared.command.Command.{Command}
use Rattle.command_letters.specs.declared.command.Command.TheVariants.{Clear, Reference, Data, Line, Diagonal, Box, Print, Other}
use Rattle.command_letters.specs.Command.{command_of}
use Rattle.walk_theory.specs.Language.{unit, keep, clear, yield, print, outside}
use Rattle.walk_theory.specs.Change.{Plain}
use Rattle.walk_theory.proofs.DivisionLaws.{same_unit}
use Rattle.grammar.specs.Units.{EplUnit, block, line, last, bytes, All, not_lf, Opens}
use Rattle.grammar.specs.WellFormed.{is_read, well_formed}
use Rattle.grammar.specs.Found.{text_line, found, first}
use Rattle.grammar.specs.Epl.{EplPrint, EplAct, act_of, acts}
use Rattle.grammar.specs.Ranges.{ref_as, ref_after, Role, passes, clears, yields, prints, role_as, role_of, Does}
use Rattle.grammar.proofs.SpelledLaws.{spelled}
use Rattle.grammar.proofs.UnitsOpensLaws.{not_opens}
use Rattle.grammar.proofs.FoundLineLaws.{opens_line, line_finds, last_finds}
use Rattle.grammar.proofs.FoundBlockLaws.{span_none}
use Rattle.grammar.proofs.FoundLaws.{judged_sound}
use Rattle.grammar.proofs.WellFormedLaws.{ill_formed}
use Rattle.grammar.proofs.RangesLaws.{line_acts}
use Rattle.line_changes.specs.OneLine.{Ending, lf, end, unit_of, Changeable, EndsBy, Quiet, Is, Next, an_n, a_print, the_end, says_of}

-- ---- where it stands, nothing else does
line_first : (t rest : List ℕ) → All not_lf t → (Opens t → ⊥) → (w : EplUnit) (x : List ℕ) → first (bytes (line t) ++ rest) ≡ unit w x → (w ≡ line t) × (x ≡ rest)
unfolding first
line_first t rest a o w x e =
    let n = ap (found (t ++ 10 ∷ rest)) (span_none (t ++ 10 ∷ rest) (opens_line t rest ∙ not_opens t o)) in
    let j = judged_sound (text_line (t ++ 10 ∷ rest)) w x (sym n ∙ ap first (sym (append_assoc t (10 ∷ []) rest)) ∙ e) in
    same_unit (sym j.0 ∙ line_finds t rest a)

last_first : (t : List ℕ) → All not_lf t → (Opens t → ⊥) → 0 < length t → (w : EplUnit) (x : List ℕ) → first t ≡ unit w x → (w ≡ last t) × (x ≡ [])
unfolding first
last_first t a o h w x e =
    let j = judged_sound (text_line t) w x (sym (ap (found t) (span_none t (not_opens t o))) ∙ e) in
    same_unit (sym j.0 ∙ last_finds t a h)

pub not_empty : (e : Ending) (t back : List ℕ) → EndsBy e t back → 0 < length (bytes (unit_of e t))
not_empty lf t back z = omega (arith, length-append t (10 ∷ []))
not_empty end t back z = z.0

pub line_alone : (e : Ending) (t back : List ℕ) → Changeable t → EndsBy e t back → (w : EplUnit) (x : List ℕ) → first (bytes (unit_of e t) ++ back) ≡ unit w x → (w ≡ unit_of e t) × (x ≡ back)
line_alone lf t back c z w x e = line_first t back c.one_line c.no_graphic w x e
line_alone end t back c z w x e =
    let k = last_first t c.one_line c.no_graphic z.0 w x (ap first (sym (append-nil t) ∙ ap (λ (y : List ℕ). t ++ y) (sym z.1)) ∙ e) in
    (k.0, k.1 ∙ sym z.1)

-- ---- what it does, by its command
pub not_clears : Quiet clears → ⊥
not_clears (inl z) = let y : ◌≡◌ {A = ℕ} 0 1 = cc in omega arith
not_clears (inr z) = let y : ◌≡◌ {A = ℕ} 0 1 = cc in omega arith

pub not_prints : {q : EplPrint} → Quiet (prints q) → ⊥
not_prints (inl z) = let y : ◌≡◌ {A = ℕ} 0 1 = cc in omega arith
not_prints (inr z) = let y : ◌≡◌ {A = ℕ} 0 1 = cc in omega arith

quiet_as : (k : Command) (t : List ℕ) → (k ≡ Clear → ⊥) → (k ≡ Print → ⊥) → Quiet (role_as k t)
quiet_as Clear t n p = absurd (n refl)
quiet_as Reference t n p = inl refl
quiet_as (Data c) t n p = test (is_read t) (λ e. inr (simp e)) (λ e. inl (simp e))
quiet_as (Line c) t n p = inr refl
quiet_as Diagonal t n p = inr refl
quiet_as Box t n p = inr refl
quiet_as Print t n p = absurd (p refl)
quiet_as Other t n p = inl refl

-- the reference stays but for `N` and reference lines
stays_as : (k : Command) (t : List ℕ) (r : LabelPosition) → (k ≡ Clear → ⊥) → (k ≡ Reference → ⊥) → ref_as k t r ≡ r
stays_as Clear t r n p = absurd (n refl)
stays_as Reference t r n p = absurd (p refl)
stays_as (Data c) t r n p = refl
stays_as (Line c) t r n p = refl
stays_as Diagonal t r n p = refl
stays_as Box t r n p = refl
stays_as Print t r n p = refl
stays_as Other t r n p = refl

pub between_role : (u : EplUnit) → (Is Clear u → ⊥) → (Is Print u → ⊥) → Quiet (role_of u)
between_role (block bs h p) n q = inr refl
between_role (line t) n q = quiet_as (command_of (trim t)) (trim t) (λ e. n ((spelled (trim t) Clear).0 e)) (λ e. q ((spelled (trim t) Print).0 e))
between_role (last t) n q = quiet_as (command_of (trim t)) (trim t) (λ e. n ((spelled (trim t) Clear).0 e)) (λ e. q ((spelled (trim t) Print).0 e))

-- an `N`, a print line, or neither
abbrev sort : Command → ℕ
sort Clear = 0
sort Print = 1
sort Reference = 2
sort (Data c) = 2
sort (Line c) = 2
sort Diagonal = 2
sort Box = 2
sort Other = 2

neither : (k : Command) → sort k ≡ 2 → (k ≡ Clear → ⊥) × (k ≡ Print → ⊥)
neither k h = ((λ e. omega (arith, h, ap sort e)), λ e. omega (arith, h, ap sort e))

kind_of_lem : (k : Command) → (k ≡ Clear) ⊎ ((k ≡ Print) ⊎ ((k ≡ Clear → ⊥) × (k ≡ Print → ⊥)))
kind_of_lem Clear = inl refl
kind_of_lem Print = inr (inl refl)
kind_of_lem Reference = inr (inr (neither Reference refl))
kind_of_lem (Data c) = inr (inr (neither (Data c) refl))
kind_of_lem (Line c) = inr (inr (neither (Line c) refl))
kind_of_lem Diagonal = inr (inr (neither Diagonal refl))
kind_of_lem Box = inr (inr (neither Box refl))
kind_of_lem Other = inr (inr (neither Other refl))

abbrev Kind : EplUnit → Type 0
Kind u = Is Clear u ⊎ (Is Print u ⊎ ((Is Clear u → ⊥) × (Is Print u → ⊥)))

kind_line : (t : List ℕ) → Kind (line t)
kind_line t = by (kind_of_lem (command_of (trim t)))
  where
    by : (command_of (trim t) ≡ Clear) ⊎ ((command_of (trim t) ≡ Print) ⊎ ((command_of (trim t) ≡ Clear → ⊥) × (command_of (trim t) ≡ Print → ⊥))) → Kind (line t)
    by (inl e) = inl ((spelled (trim t) Clear).0 e)
    by (inr (inl e)) = inr (inl ((spelled (trim t) Print).0 e))
    by (inr (inr n)) = inr (inr ((λ i. n.0 ((spelled (trim t) Clear).1 i)), λ i. n.1 ((spelled (trim t) Print).1 i)))

kind : (u : EplUnit) → Kind u
kind (block bs h p) = inr (inr ((λ i. i), λ i. i))
kind (line t) = kind_line t
kind (last t) = kind_line t

-- units have one of them first, or neither
pub next_of : (us : List EplUnit) → Next us
next_of [] = the_end tt
next_of (u ∷ us) = by (kind u) (next_of us)
  where
    by : Kind u → Next us → Next (u ∷ us)
    by (inl i) m = an_n [] u us refl tt i
    by (inr (inl i)) m = a_print [] u us refl tt i
    by (inr (inr n)) (an_n between c later e b i) = an_n (u ∷ between) c later (ap (λ (x : List EplUnit). u ∷ x) e) (n.0, n.1, b) i
    by (inr (inr n)) (a_print between c later e b i) = a_print (u ∷ between) c later (ap (λ (x : List EplUnit). u ∷ x) e) (n.0, n.1, b) i
    by (inr (inr n)) (the_end b) = the_end (n.0, n.1, b)

pub clear_role : (u : EplUnit) → Is Clear u → role_of u ≡ clears
clear_role (block bs h p) i = absurd i
clear_role (line t) i = ap (λ (k : Command). role_as k (trim t)) ((spelled (trim t) Clear).1 i)
clear_role (last t) i = ap (λ (k : Command). role_as k (trim t)) ((spelled (trim t) Clear).1 i)

pub print_role : (u : EplUnit) → Is Print u → role_of u ≡ prints (says_of u)
print_role (block bs h p) i = absurd i
print_role (line t) i = ap (λ (k : Command). role_as k (trim t)) ((spelled (trim t) Print).1 i)
print_role (last t) i = ap (λ (k : Command). role_as k (trim t)) ((spelled (trim t) Print).1 i)

module _ (t : List ℕ) (c : Changeable t) where
  line_role : Quiet (role_of (line t))
  line_role = between_role (line t) c.no_n c.no_print

  line_ref : (r : LabelPosition) → ref_after r (line t) ≡ r
  line_ref r = stays_as (command_of (trim t)) (trim t) r (λ e. c.no_n ((spelled (trim t) Clear).0 e)) (λ e. c.no_reference ((spelled (trim t) Reference).0 e))

  plain_does : (k : Role) (r q : LabelPosition) (a : EplAct) → Quiet k → q ≡ r → Does k r q a → Plain r a
  plain_does passes r q a h e d = subst (Plain r) (sym d) e
  plain_does yields r q a h e d = subst (Plain r) (sym d.1) tt
  plain_does clears r q a h e d = absurd (not_clears h)
  plain_does (prints s) r q a h e d = absurd (not_prints h)

  module _ (r : LabelPosition) where
    -- a line that is not well formed is refused
    well : ((n : ℕ) → acts r (line t) ≡ outside n → ⊥) → well_formed (trim t) ≡ true
    well inside = test (well_formed (trim t)) (λ e. e) (λ e. let i = ill_formed t r e in absurd (inside (number_of i.0) (ap (act_of r) i.1)))

    plain_inside : ((n : ℕ) → acts r (line t) ≡ outside n → ⊥) → Plain r (acts r (line t))
    plain_inside inside = plain_does (role_of (line t)) r (ref_after r (line t)) (acts r (line t)) line_role (line_ref r) (line_acts t r (well inside) inside)

    -- it yields or is passed over, or has a number outside its range
    plain_line : Plain r (acts r (line t))
    plain_line = by (acts r (line t)) refl
      where
        by : (a : EplAct) → acts r (line t) ≡ a → Plain r a
        by (outside n) e = tt
        by (yield x) e = tt
        by (keep q) e = subst (Plain r) e (plain_inside (λ n o. let k = sym e ∙ o in let y : ◌≡◌ {A = ℕ} 0 1 = cc in omega arith))
        by (clear q) e = subst (Plain r) e (plain_inside (λ n o. let k = sym e ∙ o in let y : ◌≡◌ {A = ℕ} 0 1 = cc in omega arith))
        by (print q) e = subst (Plain r) e (plain_inside (λ n o. let k = sym e ∙ o in let y : ◌≡◌ {A = ℕ} 0 1 = cc in omega arith))

pub unit_role : (e : Ending) (t : List ℕ) → Changeable t → Quiet (role_of (unit_of e t))
unit_role lf t c = line_role t c
unit_role end t c = line_role t c

pub unit_ref : (e : Ending) (t : List ℕ) → Changeable t → (r : LabelPosition) → ref_after r (unit_of e t) ≡ r
unit_ref lf t c r = line_ref t c r
unit_ref end t c r = line_ref t c r

pub plain_unit : (e : Ending) (t : List ℕ) → Changeable t → (r : LabelPosition) → Plain r (acts r (unit_of e t))
plain_unit lf t c r = plain_line t c r
plain_unit end t c r = plain_line t c r
