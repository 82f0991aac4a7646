-- The reader's test for `GW` holds exactly where `Opens` does (`opens_true`, `true_opens`, `not_opens`, `opens_not`).
-- Trimmed lines are in UnitsTrimmedLaws. Assumes nothing.
use mathlib.Core.Path.{◌≡◌, refl, sym, ap, ◌∙◌}
use mathlib.Core.Bool.{true, false, true≢false}
use mathlib.Core.List.{List, [], ◌∷◌, ◌++◌}
use Prim.Native.Nat.{ℕ}
use lib.ListN.{take, drop, take-append-drop}
use Rattle.text.specs.Blank.{drop_while, front}
use Rattle.text.specs.Fields.{same}
use Rattle.text.proofs.BoolLaws.{test}
use Rattle.text.proofs.FieldsLaws.{same_true}
use Rattle.graphics.specs.Block.{is_line_blank, opens_gw, header_of}
use Rattle.grammar.specs.Units.{Opens}
use Rattle.grammar.proofs.FrontLaws.{front_drop, front_all, drop_stop}

pub opens_true : {s : List ℕ} (o : Opens s) → (opens_gw s ≡ true) × (header_of s ≡ o.header)
unfolding opens_gw
opens_true {s} o =
    let d : drop_while is_line_blank s ≡ 71 ∷ 87 ∷ o.header = ap (drop_while is_line_blank) o.cut ∙ drop_stop is_line_blank o.bs o.blanks 71 _ refl in
    (ap (λ (x : List ℕ). same (take 2 x) (71 ∷ 87 ∷ [])) d, ap (drop 2) d)

unfoldable pub true_opens : (s : List ℕ) → opens_gw s ≡ true → Opens s
unfolding opens_gw
true_opens s h =
    let t = drop_while is_line_blank s in
    record {
      bs = front is_line_blank s;
      header = header_of s;
      cut = sym (front_drop is_line_blank s) ∙ ap (λ (z : List ℕ). front is_line_blank s ++ z) (sym (take-append-drop 2 t) ∙ ap (λ (z : List ℕ). z ++ drop 2 t) (same_true (take 2 t) (71 ∷ 87 ∷ []) h));
      blanks = front_all is_line_blank s;
    }

pub not_opens : (s : List ℕ) → (Opens s → ⊥) → opens_gw s ≡ false
not_opens s n = test (opens_gw s) (λ e. absurd (n (true_opens s e))) (λ e. e)

pub opens_not : (s : List ℕ) → opens_gw s ≡ false → Opens s → ⊥
opens_not s e o = true≢false (sym (opens_true o).0 ∙ e)
