-- The ASCII and the Unicode blanks: trimming again (`trim_trim`), trimming one after the other (`trim_trim_ascii`), and
-- trimming raw bytes is trimming the decoded text (`chars_trim`). More is in BlankLaws. Assumes nothing.
use mathlib.Core.Path.{◌≡◌, refl, sym, ap, ◌∙◌}
use mathlib.Core.Bool.{Bool, true, false, cond, ◌||◌, true≢false}
use mathlib.Core.List.{List, [], ◌∷◌, ◌++◌, map, flatten, reverse, reverse-cons, reverse-append, reverse-reverse}
use mathlib.Core.Logic.{◌⊎◌, inl, inr, ⊎_elim}
use Prim.Native.Nat.{ℕ, ◌-◌, ◌<◌, ◌≤◌}
use native.Mathlib.Omega.{arith}
use lib.ListN.{length, take, drop, length-reverse}
use lib.Dec.{eqb}
use borrow.Author.Tests.{eqb-true}
use Rattle.text.specs.Utf8.{parts, whole, shown, replacement, chars}
use Rattle.text.specs.Blank.{is_ascii_blank, is_blank1, is_blank2, is_blank3, is_blank, size_of, strip, back, strip_end, trim_start, trim_end, trim, trim_ascii, drop_while, drop_both, trim_chars}
use Rattle.text.proofs.BoolLaws.{test, or_cases}
use Rattle.text.proofs.BlankLaws.{blank_whole, blank_front, blank_back, blank2_two, blank3_three}
use Rattle.text.proofs.DropLaws.{both_both, map_both, same_all}
use Rattle.text.proofs.BlankStripLaws.{Class, strip_le, strip_is, strip_end_is, strip_none, strip_some, strip_both_parts, strip_both_is}

-- the two classes: the Unicode blanks, and the ASCII blanks as characters

abbrev is_ascii : List ℕ → Bool
is_ascii [] = false
is_ascii (a ∷ []) = is_ascii_blank a
is_ascii (a ∷ b ∷ s) = false

pub blanks : Class is_blank
blanks = record { sub = λ w h. h; first = blank_front; last = blank_back }

ascii_blank1 : (b : ℕ) → is_ascii_blank b ≡ true → is_blank1 b ≡ true
ascii_blank1 b h =
    let is : (n : ℕ) → is_blank1 n ≡ true → eqb b n ≡ true → is_blank1 b ≡ true = λ n k e. ap is_blank1 (eqb-true b n e) ∙ k in
    or_cases (eqb b 0x20 || eqb b 0x09 || eqb b 0x0a || eqb b 0x0c) (eqb b 0x0d)
    (or_cases (eqb b 0x20 || eqb b 0x09 || eqb b 0x0a) (eqb b 0x0c)
    (or_cases (eqb b 0x20 || eqb b 0x09) (eqb b 0x0a)
    (or_cases (eqb b 0x20) (eqb b 0x09) (is 0x20 refl) (is 0x09 refl))
    (is 0x0a refl))
    (is 0x0c refl))
    (is 0x0d refl) h

ascii_blank : (w : List ℕ) → is_ascii w ≡ true → is_blank w ≡ true
ascii_blank [] h = h
ascii_blank (b ∷ []) h = ascii_blank1 b h
ascii_blank (a ∷ b ∷ s) h = absurd (true≢false (sym h))

ascii_first : (w t : List ℕ) → is_ascii w ≡ true → size_of is_ascii (w ++ t) ≡ length w
ascii_first [] t h = absurd (true≢false (sym h))
ascii_first (b ∷ []) t h = simp h
ascii_first (a ∷ b ∷ s) t h = absurd (true≢false (sym h))

ascii_last : (w t : List ℕ) → is_ascii w ≡ true → size_of (back is_ascii) (reverse w ++ t) ≡ length w
ascii_last [] t h = absurd (true≢false (sym h))
ascii_last (b ∷ []) t h = simp h
ascii_last (a ∷ b ∷ s) t h = absurd (true≢false (sym h))

ascii_blanks : Class is_ascii
ascii_blanks = record { sub = ascii_blank; first = ascii_first; last = ascii_last }

-- taking ASCII blanks off as characters is taking them off byte by byte
ascii_size : (a : ℕ) (s : List ℕ) → is_ascii_blank a ≡ false → size_of is_ascii (a ∷ s) ≡ 0
ascii_size a [] h = simp h
ascii_size a (b ∷ []) h = simp h
ascii_size a (b ∷ c ∷ s) h = simp h

ascii_size_back : (a : ℕ) (s : List ℕ) → is_ascii_blank a ≡ false → size_of (back is_ascii) (a ∷ s) ≡ 0
ascii_size_back a [] h = simp h
ascii_size_back a (b ∷ []) h = simp h
ascii_size_back a (b ∷ c ∷ s) h = simp h

ascii_strip : (s : List ℕ) → strip is_ascii s ≡ drop_while is_ascii_blank s
ascii_strip [] = refl
ascii_strip (a ∷ s) =
    test (is_ascii_blank a)
    (λ e. strip_some is_ascii (a ∷ []) s (simp e) (omega arith) ∙ ascii_strip s ∙ sym (simp e))
    (λ e. strip_none is_ascii (a ∷ s) (ascii_size a s e) ∙ sym (simp e))

ascii_strip_back : (s : List ℕ) → strip (back is_ascii) s ≡ drop_while is_ascii_blank s
ascii_strip_back [] = refl
ascii_strip_back (a ∷ s) =
    test (is_ascii_blank a)
    (λ e. strip_some (back is_ascii) (a ∷ []) s (simp e) (omega arith) ∙ ascii_strip_back s ∙ sym (simp e))
    (λ e. strip_none (back is_ascii) (a ∷ s) (ascii_size_back a s e) ∙ sym (simp e))

trim_ascii_strip : (s : List ℕ) → trim_ascii s ≡ strip_end is_ascii (strip is_ascii s)
trim_ascii_strip s =
    sym (ap reverse (ascii_strip_back (reverse (strip is_ascii s)) ∙ ap (λ (t : List ℕ). drop_while is_ascii_blank (reverse t)) (ascii_strip s)))

trim_ascii_parts : (s : List ℕ) → parts (trim_ascii s) ≡ drop_both is_ascii (parts s)
trim_ascii_parts s = ap parts (trim_ascii_strip s) ∙ strip_both_parts is_ascii ascii_blanks s

-- trim and trimAscii

pub trim_trim_ascii : (s : List ℕ) → trim (trim_ascii s) ≡ trim s
trim_trim_ascii s =
    strip_both_is is_blank blanks (trim_ascii s)
    ∙ ap flatten (ap (drop_both is_blank) (trim_ascii_parts s) ∙ both_both is_blank is_ascii ascii_blank (parts s))
    ∙ sym (strip_both_is is_blank blanks s)

pub trim_trim : (s : List ℕ) → trim (trim s) ≡ trim s
trim_trim s =
    strip_both_is is_blank blanks (trim s)
    ∙ ap flatten (ap (drop_both is_blank) (strip_both_parts is_blank blanks s) ∙ both_both is_blank is_blank (λ w h. h) (parts s))
    ∙ sym (strip_both_is is_blank blanks s)

pub trim_ascii_trim_ascii : (s : List ℕ) → trim_ascii (trim_ascii s) ≡ trim_ascii s
trim_ascii_trim_ascii s = both_both is_ascii_blank is_ascii_blank (λ b h. h) s

-- an ASCII byte that is no blank, first or last, loses nothing there

two_none : (a b : ℕ) → (a < 128) ⊎ (b < 128) → is_blank2 a b ≡ false
two_none a b l = test (is_blank2 a b) (λ e. let k = blank2_two a b e in absurd (⊎_elim (λ i. omega arith) (λ i. omega arith) l)) (λ e. e)

three_none : (a b c : ℕ) → (a < 128) ⊎ (c < 128) → is_blank3 a b c ≡ false
three_none a b c l = test (is_blank3 a b c) (λ e. let k = blank3_three a b c e in absurd (⊎_elim (λ i. omega arith) (λ i. omega arith) l)) (λ e. e)

pub size_other : (a : ℕ) (s : List ℕ) → a < 128 → is_blank1 a ≡ false → size_of is_blank (a ∷ s) ≡ 0
size_other a [] l h = simp h
size_other a (b ∷ []) l h = simp (h, two_none a b (inl l))
size_other a (b ∷ c ∷ s) l h = simp (h, two_none a b (inl l), three_none a b c (inl l))

pub trim_start_other : (a : ℕ) (s : List ℕ) → a < 128 → is_blank1 a ≡ false → trim_start (a ∷ s) ≡ a ∷ s
trim_start_other a s l h = strip_none is_blank (a ∷ s) (size_other a s l h)

pub size_other_back : (a : ℕ) (s : List ℕ) → a < 128 → is_blank1 a ≡ false → size_of (back is_blank) (a ∷ s) ≡ 0
size_other_back a [] l h = simp h
size_other_back a (b ∷ []) l h = simp (h, two_none b a (inr l))
size_other_back a (b ∷ c ∷ s) l h = simp (h, two_none b a (inr l), three_none c b a (inr l))

pub trim_end_other : (s : List ℕ) (a : ℕ) → a < 128 → is_blank1 a ≡ false → trim_end (s ++ (a ∷ [])) ≡ s ++ (a ∷ [])
trim_end_other s a l h =
    ap (λ (r : List ℕ). reverse (strip (back is_blank) r)) (reverse-append s (a ∷ []))
    ∙ ap reverse (strip_none (back is_blank) (a ∷ reverse s) (size_other_back a (reverse s) l h))
    ∙ reverse-cons a (reverse s) ∙ ap (λ (r : List ℕ). r ++ (a ∷ [])) (reverse-reverse s)

-- where the trimmed text stands

pub trim_start_is : (s : List ℕ) → trim_start s ≡ drop (length s - length (trim_start s)) s
trim_start_is s = strip_is is_blank s

pub trim_end_is : (s : List ℕ) → trim_end s ≡ take (length (trim_end s)) s
trim_end_is s = strip_end_is is_blank s

pub length_trim_le : (s : List ℕ) → length (trim s) ≤ length s
length_trim_le s =
    let a = strip_le is_blank s 0 in
    let b = strip_le (back is_blank) (reverse (trim_start s)) 0 in
    let c = length-reverse (trim_start s) in let d = length-reverse (strip (back is_blank) (reverse (trim_start s))) in
    omega arith

-- the decoded text

replaced : (x : Bool) (w : List ℕ) → whole w ≡ x → is_blank (cond x w replacement) ≡ is_blank w
replaced true w e = refl
replaced false w e = test (is_blank w) (λ h. absurd (true≢false (sym (blank_whole w h) ∙ e))) (λ h. sym h)

pub blank_shown : (w : List ℕ) → is_blank (shown w) ≡ is_blank w
blank_shown w = replaced (whole w) w refl

-- the characters of the trimmed bytes are the characters of the bytes, without the Unicode blanks at both ends
pub chars_trim : (s : List ℕ) → chars (trim s) ≡ trim_chars (chars s)
chars_trim s = ap (map shown) (strip_both_parts is_blank blanks s) ∙ map_both is_blank is_blank shown (parts s) (same_all is_blank is_blank shown blank_shown (parts s))
