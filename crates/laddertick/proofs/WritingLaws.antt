-- The claims of `write`, `write_plain`, `write_label` and `write_label_300` (`writing`). Assumes nothing.
use mathlib.Core.Path.{◌≡◌, sym, ap, ◌∙◌}
use mathlib.Core.List.{List, [], ◌∷◌, ◌++◌, map}
use Prim.Native.Nat.{ℕ, ◌≤◌, ◌<◌}
use native.Mathlib.Omega.{arith}
use lib.ListN.{length}
use borrow.Author.Tests.{lt-ltb}
use Rattle.elements.specs.declared.LabelElement.{LabelElement}
use Rattle.elements.specs.declared.PrintCounts.{PrintCounts}
use Rattle.elements.specs.declared.LabelPosition.{LabelPosition}
use Rattle.elements.specs.declared.walk_state.WalkState.{WalkState}
use Rattle.elements.specs.Given.{longest, denied, Due, needed, stored, fitting, given_of}
use Rattle.elements.specs.Walk.{fresh}
use Rattle.walk_theory.specs.Step as theory
use Rattle.walk_theory.specs.Step.{State}
use Rattle.walk_theory.specs.Reach as reach
use Rattle.walk_theory.specs.Reach.{accepted}
use Rattle.grammar.specs.Epl.{epl}
use Rattle.walk.specs.declared.answer.Answer.{Answer}
use Rattle.walk.specs.declared.answer.Answer.TheVariants.{Element, Clear, Print, End, Refused}
use Rattle.walk.specs.Steps.{answer_of}
use Rattle.structs.specs.declared.answer.Element as struct
use Rattle.structs.specs.Flat.{flat_element}
use Rattle.structs_read.specs.Unflat.{Stands}
use Rattle.structs_read.proofs.UnflatLaws.{told}
use Rattle.writing_element.specs.Plain.{plain_due}
use Rattle.writing_element.proofs.PlainLaws.{plain_flat, plain_long, plain_none}
use Rattle.writing_label.specs.Label.{plain_label_due, plain_label_due300}
use Rattle.writing_label.proofs.LabelLaws.{label_long}
use Rattle.spellings.specs.Due.{element_due}
use Rattle.spellings.specs.Spelled.{spell, spell_label}
use Rattle.readback.specs.Shown.{Shown, shown}
use Rattle.readback.specs.Written.{ReadBack, label_of, Reread}
use Rattle.readback.proofs.DueLaws.{due_read, due_exact, due_reread}
use Rattle.laddertick.specs.HostContracts.{Library}
use Rattle.laddertick.specs.Walked.{Walked}
use Rattle.laddertick.specs.Writing.{Writing, same300}
use Rattle.laddertick.proofs.WalkedLaws.{walked}
use Rattle.laddertick.proofs.ContractsLaws.{denies, gives}
use Rattle.laddertick.proofs.SpellingLaws.{spelling}
use Rattle.laddertick.proofs.WritingLabelLaws.{due_written, due_no_label, due_unyieldable, due_none, reread_label, list_cases, label_cases, same_back, every_300, converted_300}

due_long : (s : List ℕ) (e : LabelElement) → longest < length s → element_due s e ≡ denied 14 0
unfolding element_due
due_long s e h = simp (lt-ltb longest (length s) h)

plain_is : (s : List ℕ) (x : struct.Element) (e : LabelElement) → Stands x e → plain_due s x ≡ element_due s e
plain_is s x e h = ap (plain_due s) (sym h) ∙ plain_flat s e

module _ (library : Library) (s : List ℕ) (x : struct.Element) (e : LabelElement) (l : List ℕ) (h : Stands x e) where
  same_answer : given_of (library.write_plain s x l).answer ≡ given_of (library.write s e l).answer
  same_answer =
      (library.writes_plain s x l).answer ∙ ap (λ (d : Due). needed (fitting d (length l))) (plain_is s x e h)
      ∙ sym (library.writes s e l).answer

  same_buffer : (library.write_plain s x l).buffer ≡ (library.write s e l).buffer
  same_buffer =
      (library.writes_plain s x l).buffer ∙ ap (λ (d : Due). stored (fitting d (length l)) l) (plain_is s x e h)
      ∙ sym (library.writes s e l).buffer

-- at 300 dots
module _ (library : Library) (s : List ℕ) (xs : List struct.Element) (q : PrintCounts) (l : List ℕ) where
  due_300 : plain_label_due300 s (map same300 xs) q ≡ plain_label_due s xs q
  due_300 = ap (λ (ys : List struct.Element). plain_label_due s ys q) (same_back xs)

  answer_300 : given_of (library.write_label_300 s (map same300 xs) q l).answer ≡ given_of (library.write_label s xs q l).answer
  answer_300 =
      (library.writes_label_300 s (map same300 xs) q l).answer ∙ ap (λ (d : Due). needed (fitting d (length l))) due_300
      ∙ sym (library.writes_label s xs q l).answer

  buffer_300 : (library.write_label_300 s (map same300 xs) q l).buffer ≡ (library.write_label s xs q l).buffer
  buffer_300 =
      (library.writes_label_300 s (map same300 xs) q l).buffer ∙ ap (λ (d : Due). stored (fitting d (length l)) l) due_300
      ∙ sym (library.writes_label s xs q l).buffer

-- what the code answers where the definition answers an element
element_is : (r : Answer) (x : LabelElement) (st : State LabelPosition) → answer_of r ≡ theory.element x st → (w : WalkState) × (r ≡ Element w x)
element_is (Element w e) x st h = let k : e ≡ x = cc in (w, ap (Element w) k)
element_is (Clear w) x st h = absurd (let z : ◌≡◌ {A = ℕ} 0 1 = cc in omega arith)
element_is (Print w p) x st h = absurd (let z : ◌≡◌ {A = ℕ} 0 1 = cc in omega arith)
element_is (End w) x st h = absurd (let z : ◌≡◌ {A = ℕ} 0 1 = cc in omega arith)
element_is (Refused w k p) x st h = absurd (let z : ◌≡◌ {A = ℕ} 0 1 = cc in omega arith)

module _ (library : Library) where
  stepped_by : (s : List ℕ) (e : LabelElement) → ReadBack s e → length (spell s e) ≤ longest
      → (x : LabelElement) × (w : WalkState) × (library.step (spell s e) fresh ≡ Element w x) × (shown (spell s e) x ≡ shown s e)
  stepped_by s e r h =
      let k = r.stepped h in
      let a = element_is (library.step (spell s e) fresh) k.0 k.1 (library.steps (spell s e) fresh ∙ k.2) in
      (k.0, a.0, a.1, k.3)

  walked_by : (s : List ℕ) (es : List LabelElement) (q : PrintCounts) → Reread s es q → length (spell_label s es q) ≤ longest
      → (xs : List Answer) × Walked (library.step (spell_label s es q)) fresh xs (accepted 0)
      × (reach.answered epl Shown shown (spell_label s es q) [] (map answer_of xs) ≡ label_of s es q ∷ [])
  walked_by s es q r h =
      let k = r.walked h in
      let c = walked library.step library.steps (spell_label s es q) k.1 in
      (c.0, c.1, ap (reach.answered epl Shown shown (spell_label s es q) []) c.2 ∙ k.2)

pub writing : (library : Library) → Writing library
writing library = record {
  long = λ s e l h. denies (element_due s e) l (library.write s e l) (due_long s e h) (library.writes s e l);
  written = λ s e l h f y. gives (element_due s e) l (library.write s e l) (spell s e) ((due_exact s e f h).0 y) (library.writes s e l);
  spelling = spelling;
  none = λ s e l h f n. denies (element_due s e) l (library.write s e l) ((due_exact s e f h).1 n) (library.writes s e l);
  read_back = λ s e h f y. (due_read s e f (spell s e) ((due_exact s e f h).0 y)).1;
  read_stepped = λ s e h f y. stepped_by library s e (due_read s e f (spell s e) ((due_exact s e f h).0 y)).1;
  reread = due_reread;
  one_element = λ x e f g h. sym (told x e g).0 ∙ (told x f h).0;
  plain = λ s x e l h. (same_answer library s x e l h, same_buffer library s x e l h);
  plain_long = λ s x l h. denies (plain_due s x) l (library.write_plain s x l) (plain_long s x h) (library.writes_plain s x l);
  plain_none = λ s x l h z n. denies (plain_due s x) l (library.write_plain s x l) (plain_none s x h z n) (library.writes_plain s x l);
  plain_unyieldable = λ s x l h v n. denies (plain_due s x) l (library.write_plain s x l) (due_unyieldable s h x v n) (library.writes_plain s x l);
  label_long = λ s xs q l h. denies (plain_label_due s xs q) l (library.write_label s xs q l) (label_long s xs q h) (library.writes_label s xs q l);
  label_written = λ s es q l h a c. let xs = map flat_element es in gives (plain_label_due s xs q) l (library.write_label s xs q l) (spell_label s es q) (due_written s h es q a c) (library.writes_label s xs q l);
  label_none = λ s es x ys q l h a v n. let xs = map flat_element es ++ (x ∷ ys) in denies (plain_label_due s xs q) l (library.write_label s xs q l) (due_none s h es x ys q a v n) (library.writes_label s xs q l);
  is_no_label = λ s es q l h a c. let xs = map flat_element es in denies (plain_label_due s xs q) l (library.write_label s xs q l) (due_no_label s h es q a c) (library.writes_label s xs q l);
  list_cases = λ s xs h v. list_cases s h xs v;
  label_cases = label_cases;
  label_reread = λ s es q h a c hs hc. reread_label s h es q a c hs hc;
  label_walked = λ s es q h a c hs hc. walked_by library s es q (reread_label s h es q a c hs hc);
  label_300 = λ s xs q l. (answer_300 library s xs q l, buffer_300 library s xs q l);
  every_300 = every_300;
  converted_300 = converted_300;
}
