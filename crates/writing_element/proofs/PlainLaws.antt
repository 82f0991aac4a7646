-- What a host's struct is due: what its element is (`plain_flat`), and 23 where no element has it (`plain_none`).
-- Assumes nothing.
use mathlib.Core.Path.{◌≡◌, ap, ◌∙◌}
use mathlib.Core.Bool.{true, false}
use mathlib.Core.List.{List}
use Prim.Native.Nat.{ℕ, ◌<◌, ◌≤◌}
use lib.ListN.{length}
use borrow.Author.Tests.{lt-ltb, le-ltb}
use Rattle.text.proofs.BoolLaws.{test}
use Rattle.elements.specs.declared.LabelElement.{LabelElement}
use Rattle.elements.specs.Given.{denied, longest}
use Rattle.structs.specs.declared.answer.Element.{Element}
use Rattle.structs.specs.Flat.{flat_element}
use Rattle.spellings.specs.Due.{element_due}
use Rattle.structs_read.specs.Unflat.{element_of, standing, Stands, Sized}
use Rattle.structs_read.proofs.UnflatLaws.{back}
use Rattle.structs_read.proofs.StandingLaws.{standing_flat, standing_told}
use Rattle.writing_element.specs.Plain.{plain_due}

pub plain_long : (s : List ℕ) (x : Element) → longest < length s → plain_due s x ≡ denied 14 0
unfolding plain_due
plain_long s x h = simp (lt-ltb longest (length s) h)

pub plain_bad_lem : (s : List ℕ) (x : Element) → length s ≤ longest → standing x ≡ false → plain_due s x ≡ denied 23 0
unfolding plain_due
plain_bad_lem s x h b = simp (le-ltb longest (length s) h, b)

pub plain_good : (s : List ℕ) (x : Element) → standing x ≡ true → plain_due s x ≡ element_due s (element_of x)
unfolding plain_due element_due
plain_good s x b = simp b

pub plain_flat : (s : List ℕ) (e : LabelElement) → plain_due s (flat_element e) ≡ element_due s e
plain_flat s e = plain_good s (flat_element e) (standing_flat e) ∙ ap (element_due s) (back e)

pub plain_none : (s : List ℕ) (x : Element) → length s ≤ longest → Sized x → ((e : LabelElement) → Stands x e → ⊥)
    → plain_due s x ≡ denied 23 0
plain_none s x h z n =
    test (standing x) (λ b. absurd (n (element_of x) (standing_told x z b))) (λ b. plain_bad_lem s x h b)
