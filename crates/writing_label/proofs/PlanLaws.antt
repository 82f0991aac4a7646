-- A label by two passes is what is due (`due`): the first measures, the second stores. Assumes nothing.
use mathlib.Core.Path.{◌≡◌, refl, sym, ap, ◌∙◌, subst}
use mathlib.Core.Bool.{Bool, true, false, ◌&&◌, ◌||◌, true≢false}
use mathlib.Core.List.{List, [], ◌∷◌, ◌++◌, map}
use Prim.Native.Nat.{ℕ, suc, ◌+◌, ◌≤◌, ◌<◌}
use native.Mathlib.Omega.{arith}
use lib.Dec.{eqb, ltb}
use lib.IntN.{ℤ, pos}
use lib.Signed.{lt_z}
use lib.ListN.{length, length-append}
use lib.Seq.{sets as sets_of, length-sets}
use borrow.Author.Tests.{le-leb, lt-ltb, le-ltb, ltb-true, ltb-false, eq-eqb, ne_eqb}
use Rattle.text.proofs.BoolLaws.{test}
use Rattle.text.proofs.WroteLaws.{sets_append}
use Rattle.text.specs.Ascii.{ascii}
use Rattle.elements.specs.declared.filled.Filled.{Filled}
use Rattle.elements.specs.declared.filled.Filled.TheVariants.{Bytes, Refused}
use Rattle.elements.specs.declared.refusal.Refusal.{Refusal}
use Rattle.elements.specs.declared.refusal.Refusal.TheVariants.{InputTooLong, OutputTooShort, NotReadable}
use Rattle.elements.specs.declared.PrintCounts.{PrintCounts}
use Rattle.elements.specs.Given.{Due, text, denied, longest, Given, bytes, refused, given_of, Fills}
use Rattle.elements.specs.Refusals.{number_of}
use Rattle.structs.specs.declared.answer.Element.{Element}
use Rattle.lent_lists.specs.Passed.{Passes}
use Rattle.spellings.specs.Due.{no_label}
use Rattle.spellings.specs.Spelled.{ended, command_for, spell, spell_all, spell_label}
use Rattle.spellings.specs.Writable.{writable}
use Rattle.structs_read.specs.Unflat.{standing, element_of}
use Rattle.writing_element.specs.Place.{placed_at, text_of}
use Rattle.writing_element.specs.Plain.{plain_due}
use Rattle.writing_label.specs.declared.tally.Tally.{Tally}
use Rattle.writing_label.specs.Tally.{onto, tally, turned, TurnOf, first_none, texts}
use Rattle.writing_label.specs.Plan.{measured, print_text, answer_in, plan_of, begin_of, finish_of}
use Rattle.writing_label.specs.Label.{plain_bad, plain_label_due}
use Rattle.writing_label.proofs.TallyLaws.{onto_is, over, kept, Counted, counted, summed, wrote, bounded, none_within, as_passed, passed}

abbrev Held : Type 0
Held = Tally × List ℕ

-- ---- the texts of a label's elements
module _ (s : List ℕ) where
  abbrev txt : Element → List ℕ
  txt x = text_of (plain_due s x)

  abbrev fine : Element → Bool
  fine x = standing x && writable s (element_of x)

  text_fine_lem : (x : Element) → length s ≤ longest → fine x ≡ true → txt x ≡ spell s (element_of x)
  unfolding plain_due
  text_fine_lem x h e = simp (le-ltb longest (length s) h, e)

  text_none : (x : Element) → fine x ≡ false → txt x ≡ []
  unfolding plain_due
  text_none x e = test (ltb longest (length s)) (λ h. simp h) (λ h. simp (h, e))

  some_bytes : (x : Element) → length s ≤ longest → fine x ≡ true → eqb (length (txt x)) 0 ≡ false
  some_bytes x h e =
      let n : length (txt x) ≡ length (spell s (element_of x)) = ap length (text_fine_lem x h e) in
      let m : length (spell s (element_of x)) ≡ length (command_for s (element_of x)) + 1 = length-append (command_for s (element_of x)) (10 ∷ []) in
      ne_eqb (length (txt x)) 0 (λ z. omega (arith, n, m, z))

  no_bytes : (x : Element) → fine x ≡ false → eqb (length (txt x)) 0 ≡ true
  no_bytes x e = eq-eqb (length (txt x)) 0 (ap length (text_none x e))

  bad_is : (xs : List Element) → length s ≤ longest → plain_bad s xs ≡ first_none txt xs
  bad_is [] h = refl
  bad_is (x ∷ xs) h =
      test (fine x)
      (λ e. simp (e, some_bytes x h e) (ap suc (bad_is xs h)))
      (λ e. simp (e, no_bytes x e))

  texts_are : (xs : List Element) → length s ≤ longest → plain_bad s xs ≡ length xs → texts txt xs ≡ spell_all s (map element_of xs)
  texts_are [] h e = refl
  texts_are (x ∷ xs) h e =
      test (fine x)
      (λ f. let z : suc (plain_bad s xs) ≡ suc (length xs) = rw f at e in
      (λ i. text_fine_lem x h f i ++ texts_are xs h (omega (arith, z)) i))
      (λ f. absurd (let z : 0 ≡ suc (length xs) = rw f at e in omega (arith, z)))

-- ---- an answer, by the room that there is
pub answer_short : {room n m : ℕ} → room < n → n ≡ m → Refused OutputTooShort n ≡ answer_in room m
answer_short {room} {n} {m} h e = subst (λ (k : ℕ). Refused OutputTooShort n ≡ answer_in room k) e (simp (lt-ltb room n h))

pub answer_fits : {room n m : ℕ} → n ≤ room → n ≡ m → Bytes n ≡ answer_in room m
answer_fits {room} {n} {m} h e = subst (λ (k : ℕ). Bytes n ≡ answer_in room k) e (simp (le-ltb room n h))

-- ---- what a pass leaves
or_none : (a b : Bool) → (a || b) ≡ false → (a ≡ false) × (b ≡ false)
or_none true b h = absurd (true≢false h)
or_none false b h = (refl, h)

few_of : (n : ℕ) (q : PrintCounts) → no_label n q ≡ false → ltb longest n ≡ false
few_of n q h =
    let a : Bool = eqb n 0 in
    let b : Bool = ltb longest n in
    let c : Bool = lt_z q.sets (pos 0) in
    (or_none a b (or_none (a || b) c (or_none (a || b || c) (lt_z q.copies (pos 0)) h).0).0).1

-- a text that does not fit
short : {n l : List ℕ} {g : Given} (t : List ℕ) → length l < length t → Fills n l (denied 15 (length t)) g → Fills n l (text t) g
short {n} {l} {g} t h f =
    let k = lt-ltb (length l) (length t) h in
    record { answer = simp k f.answer; buffer = simp k f.buffer }

module _ (s : List ℕ) (xs : List Element) (l : List ℕ) (sets copies : ℤ) (m e : Held) (first : Passes (TurnOf s) xs (measured, l) m) where
  abbrev Ends : Filled → Due → Type 0
  Ends r d = Fills (finish_of r e.0 sets copies e.1).1 l d (given_of (finish_of r e.0 sets copies e.1).0)

  abbrev Second : Filled → Type 0
  Second r = Passes (TurnOf s) xs (begin_of r m.1) e

  is_first : m ≡ passed (λ x. turned (txt s x)) xs (measured, l)
  is_first = as_passed (txt s) xs (measured, l) m first

  same : m.1 ≡ l
  same = ap (λ (z : Held). z.1) is_first ∙ kept (txt s) xs measured l refl

  -- refused: nothing is stored
  refused_ends : (k : Refusal) (n : ℕ) (r : Filled) → r ≡ Refused k n → Second r → Ends r (denied (number_of k) n)
  refused_ends k n r h =
      subst (λ (r : Filled). Second r → Ends r (denied (number_of k) n)) (sym h) (λ second.
      let c : Tally = record { number = 0; at = 0; refused = true; writing = false } in
      let z : e ≡ (c, m.1) = as_passed (txt s) xs (c, m.1) e second ∙ over (txt s) xs c m.1 refl in
      record { answer = refl; buffer = ap (λ (y : Held). y.1) z ∙ same })

  -- written: `N`, the texts, the print line
  abbrev whole : List ℕ
  whole = ended (ascii "N") ++ texts (txt s) xs ++ print_text sets copies

  written_ends : (n : ℕ) (r : Filled) → r ≡ Bytes n → first_none (txt s) xs ≡ length xs → n ≡ length whole → n ≤ length l → length l ≤ 18446744073709551615
      → Second r → Ends r (text whole)
  written_ends n r h all long fits most =
      subst (λ (r : Filled). Second r → Ends r (text whole)) (sym h) (λ second.
      let ts : List ℕ = texts (txt s) xs in
      let P : List ℕ = print_text sets copies in
      let n₂ : length (ts ++ P) ≡ length ts + length P = length-append ts P in
      let k : length whole ≡ 2 + (length ts + length P) = omega (arith, n₂) in
      let a : List ℕ = sets_of l 0 (ended (ascii "N")) in
      let begun : placed_at true 0 (ended (ascii "N")) m.1 ≡ a = ap (placed_at true 0 (ended (ascii "N"))) same ∙ simp (le-leb 2 (length l) (omega (arith, k))) in
      let la : length a ≡ length l = length-sets l 0 (ended (ascii "N")) in
      let z : e ≡ passed (λ x. turned (txt s x)) xs (tally 0 2 true, a) =
      as_passed (txt s) xs (tally 0 2 true, placed_at true 0 (ended (ascii "N")) m.1) e second ∙ ap (λ (b : List ℕ). passed (λ x. turned (txt s x)) xs (tally 0 2 true, b)) begun in
      let there : e.0.at ≡ 2 + length ts = ap (λ (y : Held). y.0.at) z ∙ summed (txt s) xs 0 2 true a all (omega (arith, k)) in
      let b : List ℕ = sets_of a 2 ts in
      let stored : e.1 ≡ b = ap (λ (y : Held). y.1) z ∙ wrote (txt s) xs 0 2 a all (omega (arith, k, la)) (omega (arith, la)) in
      let lb : length b ≡ length a = length-sets a 2 ts in
      let last : placed_at true e.0.at P e.1 ≡ sets_of b (2 + length ts) P =
      (λ i. placed_at true (there i) P (stored i)) ∙ simp (le-leb (2 + length ts + length P) (length b) (omega (arith, k, la, lb))) in
      let at_end : 2 + length ts ≡ 0 + length (ended (ascii "N") ++ ts) = omega arith in
      let room = le-ltb (length l) (length whole) (omega arith) in
      record {
        answer = simp room (ap bytes long);
        buffer = simp room (last ∙ ap (λ (c : List ℕ). sets_of c (2 + length ts) P) (sets_append l 0 (ended (ascii "N")) ts) ∙ ap (λ (j : ℕ). sets_of (sets_of l 0 (ended (ascii "N") ++ ts)) j P) at_end ∙ sets_append l 0 (ended (ascii "N") ++ ts) P);
      })

-- two passes are what is due
pub due : (s : List ℕ) (xs : List Element) (l : List ℕ) (sets copies : ℤ) (m e : Held) → length xs ≤ 18446744073709551615 → length l ≤ 18446744073709551615
    → length (print_text sets copies) ≤ 100 → Passes (TurnOf s) xs (measured, l) m
    → Passes (TurnOf s) xs (begin_of (plan_of (length s) (length xs) (length l) m.0 sets copies) m.1) e
    → Fills (finish_of (plan_of (length s) (length xs) (length l) m.0 sets copies) e.0 sets copies e.1).1 l (plain_label_due s xs (record { sets = sets; copies = copies }))
    (given_of (finish_of (plan_of (length s) (length xs) (length l) m.0 sets copies) e.0 sets copies e.1).0)
unfolding plain_label_due spell_label
due s xs l sets copies m e many room line first second =
    let q : PrintCounts = record { sets = sets; copies = copies } in
    let p : Filled = plan_of (length s) (length xs) (length l) m.0 sets copies in
    let P : List ℕ = print_text sets copies in
    let all_of : List ℕ = whole s xs l sets copies m e first in
    let answers : (d : Due) → plain_label_due s xs q ≡ d → Ends s xs l sets copies m e first p d → Ends s xs l sets copies m e first p (plain_label_due s xs q) =
    λ d h f. subst (Ends s xs l sets copies m e first p) (sym h) f in
    test (ltb longest (length s))
    (λ h. answers (denied 14 0) (simp h) (refused_ends s xs l sets copies m e first InputTooLong 0 p (simp h) second))
    (λ h.
    let hs : length s ≤ longest = ltb-false longest (length s) h in
    let b = bad_is s xs hs in
    let c = subst (λ (z : Held). Counted (txt s) xs 0 z.0) (sym (is_first s xs l sets copies m e first)) (counted (txt s) xs 0 2 false l (omega arith)) in
    test (ltb (plain_bad s xs) (length xs))
    (λ g.
    let r = c.stopped (omega (arith, b, ltb-true (plain_bad s xs) (length xs) g)) in
    answers (denied 23 (plain_bad s xs)) (simp (h, g))
    (subst (λ (n : ℕ). Ends s xs l sets copies m e first p (denied 23 n)) (c.number ∙ omega (arith, b))
    (refused_ends s xs l sets copies m e first NotReadable m.0.number p (simp (h, r)) second)))
    (λ g.
    let all : first_none (txt s) xs ≡ length xs = omega (arith, b, ltb-false (plain_bad s xs) (length xs) g, none_within (txt s) xs) in
    let r = c.whole all in
    test (no_label (length xs) q)
    (λ n. answers (denied 23 (length xs)) (simp (h, g, n)) (refused_ends s xs l sets copies m e first NotReadable (length xs) p (simp (h, r, n)) second))
    (λ n.
    let few : length xs ≤ longest = ltb-false longest (length xs) (few_of (length xs) q n) in
    let t = bounded (txt s) xs 0 2 false l m all first in
    let there : m.0.at ≡ 2 + length (texts (txt s) xs) = ap (λ (z : Held). z.0.at) (is_first s xs l sets copies m e first) ∙ summed (txt s) xs 0 2 false l all (omega (arith, t, few)) in
    let total : onto m.0.at (length P) ≡ length all_of =
    ap (λ (a : ℕ). onto a (length P)) there ∙ onto_is (2 + length (texts (txt s) xs)) (length P) (omega (arith, t, few)) ∙ omega (arith, length-append (texts (txt s) xs) P) in
    let d : plain_label_due s xs q ≡ text all_of = simp (h, g, n) (ap (λ (ts : List ℕ). text (ended (ascii "N") ++ ts ++ P)) (sym (texts_are s xs hs (b ∙ all)))) in
    let w : p ≡ answer_in (length l) (length all_of) = simp (h, r, n) (ap (answer_in (length l)) total) in
    test (ltb (length l) (length all_of))
    (λ z. answers (text all_of) d (short all_of (ltb-true (length l) (length all_of) z) (refused_ends s xs l sets copies m e first OutputTooShort (length all_of) p (w ∙ simp z) second)))
    (λ z. answers (text all_of) d (written_ends s xs l sets copies m e first (length all_of) p (w ∙ simp z) all refl (ltb-false (length l) (length all_of) z) room second)))))
