-- How a walk ends, by its number (`walk_refused`, `walk_accepted`); what is due by how the two end (`due_first` and
-- on); what the call answers and writes by what is due (`joins_denied` and on), and nothing else (`joins_one`). Assumes
-- nothing.
use mathlib.Core.Path.{◌≡◌, refl, sym, ap, ◌∙◌}
use mathlib.Core.List.{List, []}
use Prim.Native.Nat.{ℕ, ◌≤◌, ◌<◌}
use native.Mathlib.Omega.{arith}
use lib.Dec.{ltb}
use lib.ListN.{length}
use lib.Seq.{sets}
use borrow.Author.Tests.{lt-ltb, le-ltb, ltb-true, ltb-false}
use Rattle.text.proofs.BoolLaws.{test}
use Rattle.elements.specs.Given.{longest, Due, text, denied, fitting, needed, stored}
use Rattle.elements.specs.Walk.{fresh}
use Rattle.frame_bytes.specs.Frame.{frame_of}
use Rattle.walk_theory.specs.Reach.{Final, accepted, refusal}
use Rattle.walk_theory.specs.Trace.{listed, refusal_of, ending, labels_in}
use Rattle.walk_theory.specs.Strict.{Ends}
use Rattle.walk_theory.specs.Join.{join_due}
use Rattle.grammar.specs.Epl.{epl}
use Rattle.walk.specs.Steps.{trace_of}
use Rattle.file_listing.specs.Listing.{FramedLabel, FramedOutcome, outcome_of}
use Rattle.strict.specs.declared.verdict.Checked.{Checked}
use Rattle.strict.specs.Look.{end_of, plainly}
use Rattle.strict.proofs.LookLaws.{Plain, plain_ends, long_checks, long_verdict}
use Rattle.joining.specs.declared.answer.Joined.{Joined}
use Rattle.joining.specs.Join.{joined_text, join_due_of, file_by, file_of, answer, told, Joins}

-- ---- how the plain walk of s ends: c tells it in numbers
abbrev pub Accepted : List ℕ → Type 0
Accepted s = (ls : List FramedLabel) × (n : ℕ) × (outcome_of s ≡ listed ls n)

module _ (s : List ℕ) (c : Checked) (is : c ≡ plainly (end_of s fresh)) where
  answered : List FramedLabel
  answered = labels_in epl (List ℕ) frame_of s [] (trace_of s fresh)

  pub walk_refused : (c.number ≡ 0 → ⊥) → outcome_of s ≡ refusal_of c.number c.place
  unfolding answered
  walk_refused z = by (end_of s fresh) answered (λ e. z (ap (λ (x : Checked). x.number) is ∙ e)) ∙ ap (λ (x : Checked). refusal_of x.number x.place) (sym is)
    where
      by : (f : Final) (ls : List FramedLabel) → ((plainly f).number ≡ 0 → ⊥) → ending f ls ≡ refusal_of (plainly f).number (plainly f).place
      by (accepted n) ls z = absurd (z refl)
      by (refusal n p) ls z = refl

  pub walk_short : c.number ≡ 0 → length s ≤ longest
  walk_short z = test (ltb longest (length s))
      (λ e. let k = ap (λ (x : Checked). x.number) (long_checks s c is (ltb-true longest (length s) e) ∙ long_verdict s (ltb-true longest (length s) e)) in absurd (omega (arith, k, z)))
      (λ e. ltb-false longest (length s) e)

  pub walk_accepted : c.number ≡ 0 → Accepted s
  unfolding answered
  walk_accepted z = by (end_of s fresh) answered (plain_ends s (walk_short z)) (sym (ap (λ (x : Checked). x.number) is) ∙ z)
    where
      by : (f : Final) (ls : List FramedLabel) → Ends Plain (length s) f → (plainly f).number ≡ 0 → (ms : List FramedLabel) × (n : ℕ) × (ending f ls ≡ listed ms n)
      by (accepted n) ls q z = (ls, n, refl)
      by (refusal n p) ls q z = absurd (omega (arith, q.0.0))

-- ---- which file is refused, and what is due
pub record Dues (s t : List ℕ) (f : ℕ) (d : Due) : Type 0 where
  pub file : file_of s t ≡ f
  pub due : join_due_of s t ≡ d

module _ (s t : List ℕ) where
  pub due_first : {k p : ℕ} → outcome_of s ≡ refusal_of k p → Dues s t 1 (denied k p)
  due_first e = record { file = ap (λ (o : FramedOutcome). file_by o (outcome_of t)) e; due = ap (λ (o : FramedOutcome). join_due o (outcome_of t) (joined_text s t)) e }

  module _ (a : Accepted s) where
    pub due_second : {k p : ℕ} → outcome_of t ≡ refusal_of k p → Dues s t 2 (denied k p)
    due_second e = record { file = λ i. file_by (a.2 i) (e i); due = λ i. join_due (a.2 i) (e i) (joined_text s t) }

    module _ (b : Accepted t) where
      neither : file_of s t ≡ 0
      neither = λ i. file_by (a.2 i) (b.2 i)

      both : join_due_of s t ≡ join_due (listed a.0 a.1) (listed b.0 b.1) (joined_text s t)
      both = λ i. join_due (a.2 i) (b.2 i) (joined_text s t)

      pub due_long : longest < length (joined_text s t) → Dues s t 0 (denied 25 (length (joined_text s t)))
      due_long h = record { file = neither; due = both ∙ (simp (lt-ltb longest (length (joined_text s t)) h)) }

      pub due_text : length (joined_text s t) ≤ longest → Dues s t 0 (text (joined_text s t))
      due_text h = record { file = neither; due = both ∙ (simp (le-ltb longest (length (joined_text s t)) h)) }

-- ---- what the call does with the buffer l, by what is due
module _ {s t : List ℕ} {f : ℕ} (l : List ℕ) where
  pub joins_denied : {k p : ℕ} → Dues s t f (denied k p) → Joins l l s t (answer k f p)
  joins_denied d = record { answers = sym (λ i. told (d.file i) (needed (fitting (d.due i) (length l)))); buffer = sym (ap (λ (x : Due). stored (fitting x (length l)) l) d.due) }

  -- k is the text's length
  module _ {x : List ℕ} {k : ℕ} (d : Dues s t f (text x)) (is : k ≡ length x) where
    short_is : length l < k → fitting (join_due_of s t) (length l) ≡ denied 15 k
    short_is h = ap (λ (y : Due). fitting y (length l)) d.due ∙ (simp (lt-ltb (length l) (length x) (omega arith), is))

    pub joins_short : length l < k → Joins l l s t (answer 15 f k)
    joins_short h = record { answers = sym (λ i. told (d.file i) (needed (short_is h i))); buffer = sym (ap (λ (y : Due). stored y l) (short_is h)) }

    room_is : k ≤ length l → fitting (join_due_of s t) (length l) ≡ text x
    room_is h = ap (λ (y : Due). fitting y (length l)) d.due ∙ (simp (le-ltb (length l) (length x) (omega arith)))

    pub joins_written : {n : List ℕ} → k ≤ length l → n ≡ sets l 0 x → Joins n l s t (answer 0 f k)
    joins_written h w =
        record { answers = ap (answer 0 f) is ∙ sym (λ i. told (d.file i) (needed (room_is h i))); buffer = w ∙ sym (ap (λ (y : Due). stored y l) (room_is h)) }

-- ---- there is one answer and one buffer
module _ {n m l s t : List ℕ} {r q : Joined} where
  pub joins_one : Joins n l s t r → Joins m l s t q → (r ≡ q) × (n ≡ m)
  joins_one a b = (a.answers ∙ sym b.answers, a.buffer ∙ sym b.buffer)

-- a refusal leaves the buffer as it came
pub joins_kept : {n l s t : List ℕ} {r : Joined} → Joins n l s t r → (r.number ≡ 0 → ⊥) → n ≡ l
joins_kept {n} {l} {s} {t} {r} j z = j.buffer ∙ by (fitting (join_due_of s t) (length l)) (λ e. z (ap (λ (x : Joined). x.number) j.answers ∙ e))
  where
    by : (d : Due) → ((told (file_of s t) (needed d)).number ≡ 0 → ⊥) → stored d l ≡ l
    by (text x) y = absurd (y refl)
    by (denied k p) y = refl
