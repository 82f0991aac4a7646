-- A line without the ASCII blanks at its ends stands whole in the line (`inside`), is no longer (`length_trimmed_le`),
-- and is a command line where the line is one (`command_trimmed`). `GW` is in UnitsOpensLaws. Assumes nothing.
use mathlib.Core.Path.{◌≡◌, sym, ap, ◌∙◌, subst}
use mathlib.Core.Bool.{Bool, true, false≢true, and-false, or-false}
use mathlib.Core.List.{List, [], ◌∷◌, ◌++◌, reverse, reverse-append, reverse-reverse}
use Prim.Native.Nat.{ℕ, ◌≤◌}
use native.Mathlib.Omega.{arith}
use lib.Dec.{eqb}
use lib.ListN.{length, length-append, take}
use borrow.Author.Tests.{not-true}
use Rattle.text.specs.Blank.{drop_while, front, is_ascii_blank, trim_ascii}
use Rattle.text.specs.Fields.{same}
use Rattle.text.proofs.BoolLaws.{test}
use Rattle.text.proofs.BlankTrimLaws.{trim_trim_ascii}
use Rattle.graphics.specs.Block.{is_line_blank, opens_gw}
use Rattle.grammar.specs.LineFaults.{LineFault}
use Rattle.grammar.specs.Units.{All, all_nil, all_cons, not_lf, Command}
use Rattle.grammar.proofs.FrontLaws.{front_drop, front_all, drop_passes}
use Rattle.grammar.proofs.UnitsOpensLaws.{true_opens, opens_true}

-- the blanks behind a trimmed line
abbrev pub behind : List ℕ → List ℕ
behind t = reverse (front is_ascii_blank (reverse (drop_while is_ascii_blank t)))

-- a line is the blanks before it, the trimmed line and the blanks behind
pub inside : (t : List ℕ) → front is_ascii_blank t ++ (trim_ascii t ++ behind t) ≡ t
inside t =
    let s = drop_while is_ascii_blank t in
    ap (λ (x : List ℕ). front is_ascii_blank t ++ x)
    (sym (reverse-append (front is_ascii_blank (reverse s)) (drop_while is_ascii_blank (reverse s))) ∙ ap reverse (front_drop is_ascii_blank (reverse s)) ∙ reverse-reverse s)
    ∙ front_drop is_ascii_blank t

pub length_trimmed_le : (t : List ℕ) → length (trim_ascii t) ≤ length t
length_trimmed_le t = omega (arith, ap length (inside t), length-append (front is_ascii_blank t) (trim_ascii t ++ behind t), length-append (trim_ascii t) (behind t))

all_left : {p : ℕ → Bool} (s t : List ℕ) → All p (s ++ t) → All p s
all_left [] t a = all_nil
all_left (b ∷ s) t (all_cons h a) = all_cons h (all_left s t a)

all_right : {p : ℕ → Bool} (s t : List ℕ) → All p (s ++ t) → All p t
all_right [] t a = a
all_right (b ∷ s) t (all_cons h a) = all_right s t a

-- the ASCII blanks of a line are those other than LF
line_blank : (b : ℕ) → is_ascii_blank b ≡ true → not_lf b ≡ true → is_line_blank b ≡ true
line_blank b h k = simp (not-true (eqb b 10) k, or-false) at h

line_blanks : {s : List ℕ} → All is_ascii_blank s → All not_lf s → All is_line_blank s
line_blanks all_nil all_nil = all_nil
line_blanks (all_cons {b} {s} h a) (all_cons k c) = all_cons (line_blank b h k) (line_blanks a c)

-- more behind it changes nothing where `GW` opens a string
opens_append : (s t : List ℕ) → opens_gw s ≡ true → opens_gw (s ++ t) ≡ true
unfolding opens_gw
opens_append [] t h = absurd (false≢true h)
opens_append (b ∷ s) t h = test (is_line_blank b) (λ e. simp e (opens_append s t (simp e at h))) (λ e. simp e (two s (simp e at h)))
  where
    two : (s : List ℕ) → same (take 2 (b ∷ s)) (71 ∷ 87 ∷ []) ≡ true → same (take 2 (b ∷ (s ++ t))) (71 ∷ 87 ∷ []) ≡ true
    two [] h = absurd (false≢true (sym (and-false (eqb b 71)) ∙ h))
    two (c ∷ s) h = h

module _ (t : List ℕ) (c : Command t) where
  -- no part of the line has an LF
  parts : All not_lf (front is_ascii_blank t ++ (trim_ascii t ++ behind t))
  parts = rw inside c.one_line

  opens_trimmed : opens_gw (trim_ascii t) ≡ true → opens_gw t ≡ true
  unfolding opens_gw
  opens_trimmed h =
      let blanks = line_blanks (front_all is_ascii_blank t) (all_left (front is_ascii_blank t) _ parts) in
      ap opens_gw (sym (inside t))
      ∙ ap (λ (x : List ℕ). same (take 2 x) (71 ∷ 87 ∷ [])) (drop_passes is_line_blank (trim_ascii t ++ behind t) blanks)
      ∙ opens_append (trim_ascii t) (behind t) h

  pub command_trimmed : Command (trim_ascii t)
  command_trimmed = record {
    one_line = all_left (trim_ascii t) (behind t) (all_right (front is_ascii_blank t) _ parts);
    no_graphic = λ o. c.no_graphic (true_opens t (opens_trimmed (opens_true o).0));
    is_well_formed = subst (λ (x : List ℕ). (n : ℕ) → LineFault x n → ⊥) (sym (trim_trim_ascii t)) c.is_well_formed;
  }
