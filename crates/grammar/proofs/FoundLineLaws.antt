-- A line, whatever it says: `text_line` finds the one that stands first (`line_finds`, `last_finds`, `line_sound`), and
-- a line opens with `GW` where the string from it on does (`opens_line`). Units are in FoundLaws. Assumes nothing.
use mathlib.Core.Path.{◌≡◌, refl, sym, ap, ◌∙◌}
use mathlib.Core.Bool.{false}
use mathlib.Core.List.{List, [], ◌∷◌, ◌++◌, append_assoc}
use Prim.Native.Nat.{ℕ, ◌<◌}
use native.Mathlib.Omega.{arith}
use lib.ListN.{length, length-append, take}
use lib.Dec.{eqb}
use borrow.Author.Tests.{eqb-true, not-false}
use Rattle.text.specs.Blank.{drop_while, front}
use Rattle.text.specs.Fields.{same}
use Rattle.text.proofs.BoolLaws.{test}
use Rattle.graphics.specs.Block.{is_line_blank, opens_gw}
use Rattle.walk_theory.specs.Language.{none, unit}
use Rattle.walk_theory.proofs.DivisionLaws.{none≢unit, as_unit}
use Rattle.grammar.specs.Units.{EplUnit, block, line, last, bytes, All, not_lf}
use Rattle.grammar.specs.Found.{line_by, text_line}
use Rattle.grammar.proofs.FrontLaws.{front_drop, front_all, drop_stops, front_whole, drop_whole, front_stop, drop_stop}

-- a line opens with `GW` exactly where the string from it on does
pub opens_line : (t rest : List ℕ) → opens_gw (t ++ 10 ∷ rest) ≡ opens_gw t
unfolding opens_gw
opens_line [] rest = refl
opens_line (b ∷ t) rest = test (is_line_blank b) (λ e. simp e (opens_line t rest)) (λ e. simp e (two t))
  where
    two : (t : List ℕ) → same (take 2 (b ∷ (t ++ 10 ∷ rest))) (71 ∷ 87 ∷ []) ≡ same (take 2 (b ∷ t)) (71 ∷ 87 ∷ [])
    two [] = refl
    two (c ∷ t) = refl

-- a string begins with a unit that has bytes
abbrev pub Cut : List ℕ → EplUnit → List ℕ → Type 0
Cut s u rest = (s ≡ bytes u ++ rest) × (0 < length (bytes u))

-- a line, whatever it says
abbrev pub TextLine : EplUnit → List ℕ → Type 0
TextLine (block bs h p) rest = ⊥
TextLine (line t) rest = All not_lf t
TextLine (last t) rest = All not_lf t × (0 < length t) × (rest ≡ [])

pub line_by_lem : (t : List ℕ) → 0 < length t → line_by t [] ≡ unit (last t) []
line_by_lem [] h = absurd (omega arith)
line_by_lem (b ∷ t) h = refl

pub line_finds : (t rest : List ℕ) → All not_lf t → text_line (t ++ 10 ∷ rest) ≡ unit (line t) rest
line_finds t rest a = rw (front_stop not_lf t a 10 rest refl, drop_stop not_lf t a 10 rest refl)

pub last_finds : (t : List ℕ) → All not_lf t → 0 < length t → text_line t ≡ unit (last t) []
last_finds t a h = rw (front_whole not_lf t a, drop_whole not_lf t a) (line_by_lem t h)

pub line_sound : (s : List ℕ) (u : EplUnit) (rest : List ℕ) → text_line s ≡ unit u rest → Cut s u rest × TextLine u rest
line_sound s u rest h = by (front not_lf s) (drop_while not_lf s) (front_all not_lf s) (sym (front_drop not_lf s)) (drop_stops not_lf s) h
  where
    by : (t r : List ℕ) → All not_lf t → s ≡ t ++ r → ((b : ℕ) (q : List ℕ) → r ≡ b ∷ q → not_lf b ≡ false) → line_by t r ≡ unit u rest → Cut s u rest × TextLine u rest
    by [] [] a e f h = absurd (none≢unit h)
    by (b ∷ t) [] a e f h = as_unit (λ v q. Cut s v q × TextLine v q) h ((e, omega arith), (a, omega arith, refl))
    by t (b ∷ r) a e f h =
        let lf : b ≡ 10 = eqb-true b 10 (not-false (eqb b 10) (f b r refl)) in
        as_unit (λ v q. Cut s v q × TextLine v q) h ((e ∙ ap (λ (x : ℕ). t ++ x ∷ r) lf ∙ sym (append_assoc t (10 ∷ []) r), omega (arith, length-append t (10 ∷ []))), a)

-- a line stands first in every string but []
pub text_line_none : (s : List ℕ) → text_line s ≡ none → s ≡ []
text_line_none s h = by (front not_lf s) (drop_while not_lf s) (sym (front_drop not_lf s)) h
  where
    by : (t r : List ℕ) → s ≡ t ++ r → line_by t r ≡ none → s ≡ []
    by [] [] e h = e
    by (b ∷ t) [] e h = absurd (none≢unit (sym h))
    by t (b ∷ r) e h = absurd (none≢unit (sym h))
