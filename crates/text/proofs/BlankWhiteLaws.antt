-- A character of a decoded text is a blank exactly where its code point is in 01's list of White_Space; 01's sentence:
-- trimming raw bytes takes White_Space off both ends of the decoded text (`code_points_trim`). See BlankLaws. Assumes
-- nothing.
use mathlib.Core.Path.{◌≡◌, refl, sym, ap, ◌∙◌}
use mathlib.Core.Bool.{Bool, true, false, cond, ◌&&◌, ◌||◌, and-false, or-false}
use mathlib.Core.List.{List, [], ◌∷◌, map}
use Prim.Native.Nat.{ℕ, zero, suc, ◌+◌, ◌-◌, ◌*◌, ◌<◌, ◌≤◌}
use native.Mathlib.Omega.{arith}
use lib.ListN.{take}
use lib.Dec.{eqb}
use borrow.Author.Tests.{eqb-true, eqb-false, eq-eqb, ne_eqb, lt-leb}
use Rattle.text.specs.Utf8.{within, more, parts_after, whole, replacement, shown, chars, code_point, code_points}
use Rattle.text.specs.Blank.{is_blank1, is_blank2, is_blank3, is_blank, is_white_space, trim, drop_both}
use Rattle.text.proofs.BoolLaws.{and_both, test, within_true, within_low, within_high}
use Rattle.text.proofs.Utf8WholeLaws.{Whole, one, two, three, four, whole_sound}
use Rattle.text.proofs.DropLaws.{map_both}
use Rattle.text.proofs.BlankTrimLaws.{chars_trim}

-- two tests that say the same
same : (x y : Bool) → (x ≡ true → y ≡ true) → (y ≡ true → x ≡ true) → x ≡ y
same true y f g = sym (f refl)
same false true f g = g refl
same false false f g = refl

-- values and tests of two bytes, and of three: x, y and z are the bytes less what marks them, six bits each

six : (x y l m : ℕ) → y < 64 → m < 64 → x * 64 + y ≡ l * 64 + m → (x ≡ l) × (y ≡ m)
six x y l m p q e = let d : x ≡ l = omega arith in (d, omega arith)

white_one : (a : ℕ) → a < 128 → is_white_space a ≡ is_blank1 a
white_one a h =
    let no : (n : ℕ) → 128 ≤ n → eqb a n ≡ false = λ n l. ne_eqb a n (λ e. omega arith) in
    simp (no 0x85 (omega arith), no 0xa0 (omega arith), no 0x1680 (omega arith), lt-leb 0x2000 a (omega arith), no 0x2028 (omega arith), no 0x2029 (omega arith), no 0x202f (omega arith), no 0x205f (omega arith), no 0x3000 (omega arith), or-false)

module _ (a b x y : ℕ) (i : a ≡ 192 + x) (j : b ≡ 128 + y) (p : 2 ≤ x) (q : x < 32) (r : y < 64) where
  eqb_two : (m : ℕ) → m < 64 → eqb (x * 64 + y) (2 * 64 + m) ≡ (eqb a 194 && eqb b (128 + m))
  eqb_two m l =
      same (eqb (x * 64 + y) (2 * 64 + m)) (eqb a 194 && eqb b (128 + m))
      (λ e. let k = six x y 2 m r l (eqb-true (x * 64 + y) (2 * 64 + m) e) in simp (eq-eqb a 194 (omega arith), eq-eqb b (128 + m) (omega arith)))
      (λ e. let k = and_both (eqb a 194) (eqb b (128 + m)) e in eq-eqb (x * 64 + y) (2 * 64 + m) (omega (arith, eqb-true a 194 k.0, eqb-true b (128 + m) k.1)))

  white_two : is_white_space (x * 64 + y) ≡ is_blank2 a b
  white_two =
      let v = x * 64 + y in
      let no : (n : ℕ) → 2048 ≤ n → eqb v n ≡ false = λ n l. ne_eqb v n (λ e. omega arith) in
      simp (lt-leb v 13 (omega arith), and-false, ne_eqb v 0x20 (λ e. omega arith), eqb_two 5 (omega arith), eqb_two 32 (omega arith), no 0x1680 (omega arith), lt-leb 0x2000 v (omega arith), no 0x2028 (omega arith), no 0x2029 (omega arith), no 0x202f (omega arith), no 0x205f (omega arith), no 0x3000 (omega arith), or-false)
      (spread (eqb a 194) (eqb b 133) (eqb b 160))
    where
      spread : (e p q : Bool) → ((e && p) || (e && q)) ≡ (e && (p || q))
      spread true p q = refl
      spread false p q = refl

module _ (a b c x y z : ℕ) (i : a ≡ 224 + x) (j : b ≡ 128 + y) (k : c ≡ 128 + z) (o : x ≡ 0 → 32 ≤ y) (r : y < 64) (s : z < 64) where
  -- the value's digits, where it is one of the list's
  eqb_three : (l m n : ℕ) → m < 64 → n < 64 → eqb (x * 4096 + y * 64 + z) (l * 4096 + m * 64 + n) ≡ (eqb a (224 + l) && eqb b (128 + m) && eqb c (128 + n))
  eqb_three l m n p q =
      same (eqb (x * 4096 + y * 64 + z) (l * 4096 + m * 64 + n)) (eqb a (224 + l) && eqb b (128 + m) && eqb c (128 + n))
      (λ e.
      let d = eqb-true (x * 4096 + y * 64 + z) (l * 4096 + m * 64 + n) e in
      let f = six (x * 64 + y) z (l * 64 + m) n s q (omega arith) in
      let g = six x y l m r p f.0 in
      simp (eq-eqb a (224 + l) (omega arith), eq-eqb b (128 + m) (omega arith), eq-eqb c (128 + n) (omega arith)))
      (λ e.
      let d = and_both (eqb a (224 + l) && eqb b (128 + m)) (eqb c (128 + n)) e in
      let f = and_both (eqb a (224 + l)) (eqb b (128 + m)) d.0 in
      eq-eqb (x * 4096 + y * 64 + z) (l * 4096 + m * 64 + n) (omega (arith, eqb-true a (224 + l) f.0, eqb-true b (128 + m) f.1, eqb-true c (128 + n) d.1)))

  within_three : within 0x2000 0x200a (x * 4096 + y * 64 + z) ≡ (eqb a 226 && eqb b 128 && within 128 138 c)
  within_three =
      let v = x * 4096 + y * 64 + z in
      same (within 0x2000 0x200a v) (eqb a 226 && eqb b 128 && within 128 138 c)
      (λ e.
      let l = within_low 0x2000 0x200a v e in let h = within_high 0x2000 0x200a v e in
      let d : x ≡ 2 = omega arith in let f : y ≡ 0 = omega arith in
      simp (eq-eqb a 226 (omega arith), eq-eqb b 128 (omega arith), within_true 128 138 c (omega arith) (omega arith)))
      (λ e.
      let d = and_both (eqb a 226 && eqb b 128) (within 128 138 c) e in
      let f = and_both (eqb a 226) (eqb b 128) d.0 in
      let g = eqb-true a 226 f.0 in let h = eqb-true b 128 f.1 in
      let l = within_low 128 138 c d.1 in let m = within_high 128 138 c d.1 in
      within_true 0x2000 0x200a v (omega arith) (omega arith))

  white_three : is_white_space (x * 4096 + y * 64 + z) ≡ is_blank3 a b c
  white_three =
      let v = x * 4096 + y * 64 + z in
      let least : 2048 ≤ v = test (eqb x 0) (λ e. let d = o (eqb-true x 0 e) in omega arith) (λ e. omega (arith, eqb-false x 0 e)) in
      let no : (n : ℕ) → n < 2048 → eqb v n ≡ false = λ n l. ne_eqb v n (λ e. omega arith) in
      simp (lt-leb v 13 (omega arith), and-false, no 0x20 (omega arith), no 0x85 (omega arith), no 0xa0 (omega arith), eqb_three 1 26 0 (omega arith) (omega arith), within_three, eqb_three 2 0 40 (omega arith) (omega arith), eqb_three 2 0 41 (omega arith) (omega arith), eqb_three 2 0 47 (omega arith) (omega arith), eqb_three 2 1 31 (omega arith) (omega arith), eqb_three 3 0 0 (omega arith) (omega arith))
      (spread (eqb a 225 && eqb b 154 && eqb c 128) (eqb a 226 && eqb b 128) (within 128 138 c) (eqb c 168) (eqb c 169) (eqb c 175) (eqb a 226 && eqb b 129 && eqb c 159) (eqb a 227 && eqb b 128 && eqb c 128))
    where
      spread : (f e w p q r m n : Bool) → (f || (e && w) || (e && p) || (e && q) || (e && r) || m || n) ≡ (f || (e && (w || p || q || r)) || m || n)
      spread true e w p q r m n = refl
      spread false true w p q r m n = refl
      spread false false w p q r m n = refl

-- the list ends at 3000
white_above : (v : ℕ) → 0x3000 < v → is_white_space v ≡ false
white_above v h =
    let no : (n : ℕ) → n ≤ 0x3000 → eqb v n ≡ false = λ n l. ne_eqb v n (λ e. omega arith) in
    simp (lt-leb v 13 (omega arith), and-false, no 0x20 (omega arith), no 0x85 (omega arith), no 0xa0 (omega arith), no 0x1680 (omega arith), lt-leb v 0x200a (omega arith), no 0x2028 (omega arith), no 0x2029 (omega arith), no 0x202f (omega arith), no 0x205f (omega arith), no 0x3000 (omega arith))

-- no value below 10000 has four bytes
least_four : (x y z w : ℕ) → (x ≡ 0 → 16 ≤ y) → 0x10000 ≤ x * 262144 + y * 4096 + z * 64 + w
least_four x y z w o = test (eqb x 0) (λ e. let d = o (eqb-true x 0 e) in omega arith) (λ e. omega (arith, eqb-false x 0 e))

pub white_whole : (w : List ℕ) → Whole w → is_white_space (code_point w) ≡ is_blank w
white_whole w (one a h) = white_one a h
white_whole w (two a b p q r s) = white_two a b (a - 192) (b - 128) (omega arith) (omega arith) (omega arith) (omega arith) (omega arith)
white_whole w (three a b c p q o m r s t u) =
    white_three a b c (a - 224) (b - 128) (c - 128) (omega arith) (omega arith) (omega arith) (λ e. let d = o (omega arith) in omega arith) (omega arith) (omega arith)
white_whole w (four a b c d p q o g r s t u h k) =
    let l = least_four (a - 240) (b - 128) (c - 128) (d - 128) (λ e. let m = o (omega arith) in omega arith) in
    white_above ((a - 240) * 262144 + (b - 128) * 4096 + (c - 128) * 64 + (d - 128)) (omega arith)

white_by : (x : Bool) (a : ℕ) (t : List ℕ) → whole (a ∷ take (more a t) t) ≡ x
    → is_white_space (code_point (cond x (a ∷ take (more a t) t) replacement)) ≡ is_blank (cond x (a ∷ take (more a t) t) replacement)
white_by true a t e = white_whole (a ∷ take (more a t) t) (whole_sound a t e)
white_by false a t e = refl

white_after : (s : List ℕ) (k : ℕ) → map (λ (c : List ℕ). is_white_space (code_point c)) (map shown (parts_after s k)) ≡ map is_blank (map shown (parts_after s k))
white_after [] k = refl
white_after (a ∷ s) zero =
    ap (λ (x : Bool). x ∷ map (λ (c : List ℕ). is_white_space (code_point c)) (map shown (parts_after s (more a s)))) (white_by (whole (a ∷ take (more a s) s)) a s refl)
    ∙ ap (λ (l : List Bool). is_blank (shown (a ∷ take (more a s) s)) ∷ l) (white_after s (more a s))
white_after (a ∷ s) (suc k) = white_after s k

-- trimming raw bytes takes White_Space off both ends of the decoded text, and nothing else
pub code_points_trim : (s : List ℕ) → code_points (trim s) ≡ drop_both is_white_space (code_points s)
code_points_trim s = ap (map code_point) (chars_trim s) ∙ map_both is_white_space is_blank code_point (chars s) (white_after s 0)
