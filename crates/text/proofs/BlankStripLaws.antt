-- Taking the characters of a class of blanks off raw bytes is dropping parts, at either end (`strip_both_parts`): a
-- blank's first byte goes on with no sequence, so a blank at the end is a part whatever stands before it. See
-- BlankLaws. Assumes nothing.
use mathlib.Core.Path.{◌≡◌, refl, sym, ap, ◌∙◌, subst}
use mathlib.Core.Bool.{Bool, true, false, cond, true≢false}
use mathlib.Core.List.{List, [], ◌∷◌, ◌++◌, flatten, reverse, reverse-cons, reverse-append, reverse-reverse, append-nil}
use Prim.Native.Nat.{ℕ, zero, suc, ◌-◌, ◌<◌, ◌≤◌}
use native.Mathlib.Numerals.{sub-one}
use native.Mathlib.Nat.{not-suc-le-zero}
use native.Mathlib.Omega.{arith}
use lib.ListN.{length, take, drop, length-append, length-reverse, take-append-drop}
use lib.Seq.{drop-append_seam}
use lib.Dec.{eqb, eqb-suc-zero}
use Rattle.text.specs.Utf8.{more, parts}
use Rattle.text.specs.Blank.{is_blank, size_of, strip_after, strip, back, strip_end, drop_while, drop_end, drop_both}
use Rattle.text.proofs.BoolLaws.{test}
use Rattle.text.proofs.Utf8Laws.{parts_append, flatten_parts, flatten_append}
use Rattle.text.proofs.BlankLaws.{blank_part, blank_head}
use Rattle.text.proofs.DropLaws.{drop_reverse}

by_fuel : (P : List ℕ → Type 0) → ((s : List ℕ) → ((t : List ℕ) → length t < length s → P t) → P s) → (n : ℕ) (s : List ℕ) → length s ≤ n → P s
by_fuel P f zero s h = f s (λ t l. absurd (omega arith))
by_fuel P f (suc n) s h = f s (λ t l. by_fuel P f n t (omega arith))

-- induction on the length
pub by_length : (P : List ℕ → Type 0) → ((s : List ℕ) → ((t : List ℕ) → length t < length s → P t) → P s) → (s : List ℕ) → P s
by_length P f s = by_fuel P f (length s) s (omega arith)

-- what stands first: no character of p, or the character w
pub data Front (p : List ℕ → Bool) (s : List ℕ) : Type 0 where
  none : size_of p s ≡ 0 → Front p s
  some : (w t : List ℕ) → s ≡ w ++ t → p w ≡ true → size_of p s ≡ length w → 0 < length w → Front p s

module _ (p : List ℕ → Bool) where
  pub front : p [] ≡ false → (s : List ℕ) → Front p s
  front h [] = none (simp h)
  front h (a ∷ []) = test (p (a ∷ [])) (λ e. some (a ∷ []) [] refl e (simp e) (omega arith)) (λ e. none (simp e))
  front h (a ∷ b ∷ []) =
      test (p (a ∷ []))
      (λ e. some (a ∷ []) (b ∷ []) refl e (simp e) (omega arith))
      (λ d. test (p (a ∷ b ∷ [])) (λ e. some (a ∷ b ∷ []) [] refl e (simp (d, e)) (omega arith)) (λ e. none (simp (d, e))))
  front h (a ∷ b ∷ c ∷ s) =
      test (p (a ∷ []))
      (λ e. some (a ∷ []) (b ∷ c ∷ s) refl e (simp e) (omega arith))
      (λ d. test (p (a ∷ b ∷ []))
      (λ e. some (a ∷ b ∷ []) (c ∷ s) refl e (simp (d, e)) (omega arith))
      (λ f. test (p (a ∷ b ∷ c ∷ [])) (λ e. some (a ∷ b ∷ c ∷ []) s refl e (simp (d, f, e)) (omega arith)) (λ e. none (simp (d, f, e)))))

  strip_skip : (s : List ℕ) (k : ℕ) → strip_after p s k ≡ strip p (drop k s)
  strip_skip [] zero = refl
  strip_skip [] (suc k) = refl
  strip_skip (a ∷ s) zero = refl
  strip_skip (a ∷ s) (suc k) = strip_skip s k

  pub strip_none : (s : List ℕ) → size_of p s ≡ 0 → strip p s ≡ s
  strip_none [] h = refl
  strip_none (a ∷ s) h = ap (λ (n : ℕ). cond (eqb n 0) (a ∷ s) (strip_after p s (n - 1))) h

  pub strip_some : (w t : List ℕ) → size_of p (w ++ t) ≡ length w → 0 < length w → strip p (w ++ t) ≡ strip p t
  strip_some [] t h l = absurd (not-suc-le-zero l)
  strip_some (a ∷ w) t h l =
      ap (λ (n : ℕ). cond (eqb n 0) (a ∷ (w ++ t)) (strip_after p (w ++ t) (n - 1))) h
      ∙ simp (eqb-suc-zero, sub-one) (strip_skip (w ++ t) (length w) ∙ ap (strip p) (drop-append_seam w t))

-- what is left is the end of what there was

module _ (p : List ℕ → Bool) where
  keep_le : (x : Bool) (n k : ℕ) (s t : List ℕ) → length s ≡ n → length t ≤ n → length (cond x s t) ≤ n
  keep_le true n k s t e h = omega arith
  keep_le false n k s t e h = h

  pub strip_le : (s : List ℕ) (k : ℕ) → length (strip_after p s k) ≤ length s
  strip_le [] k = omega arith
  strip_le (a ∷ s) zero = keep_le (eqb (size_of p (a ∷ s)) 0) (suc (length s)) 0 (a ∷ s) (strip_after p s (size_of p (a ∷ s) - 1)) refl (let h = strip_le s (size_of p (a ∷ s) - 1) in omega arith)
  strip_le (a ∷ s) (suc k) = let h = strip_le s k in omega arith

  -- one byte more in front of what t is the end of
  behind : (a : ℕ) (s t : List ℕ) → length t ≤ length s → t ≡ drop (length s - length t) s → t ≡ drop (suc (length s) - length t) (a ∷ s)
  behind a s t l e = let f : suc (length s) - length t ≡ suc (length s - length t) = omega arith in e ∙ sym (ap (λ (n : ℕ). drop n (a ∷ s)) f)

  keep_is : (x : Bool) (a : ℕ) (s t : List ℕ) → length t ≤ length s → t ≡ drop (length s - length t) s → cond x (a ∷ s) t ≡ drop (suc (length s) - length (cond x (a ∷ s) t)) (a ∷ s)
  keep_is true a s t l e = let f : suc (length s) - suc (length s) ≡ 0 = omega arith in sym (ap (λ (n : ℕ). drop n (a ∷ s)) f)
  keep_is false a s t l e = behind a s t l e

  strip_is_by : (s : List ℕ) (k : ℕ) → strip_after p s k ≡ drop (length s - length (strip_after p s k)) s
  strip_is_by [] k = refl
  strip_is_by (a ∷ s) zero = let j = size_of p (a ∷ s) - 1 in keep_is (eqb (size_of p (a ∷ s)) 0) a s (strip_after p s j) (strip_le s j) (strip_is_by s j)
  strip_is_by (a ∷ s) (suc k) = behind a s (strip_after p s k) (strip_le s k) (strip_is_by s k)

  pub strip_is : (s : List ℕ) → strip p s ≡ drop (length s - length (strip p s)) s
  strip_is s = strip_is_by s 0

pub strip_end_is : (p : List ℕ → Bool) (s : List ℕ) → strip_end p s ≡ take (length (strip_end p s)) s
strip_end_is p s =
    let t = strip (back p) (reverse s) in
    let l = strip_le (back p) (reverse s) 0 in
    let n = length-reverse s in
    let m = length-reverse t in
    let f : length s - (length (reverse s) - length t) ≡ length (strip_end p s) = omega arith in
    ap reverse (strip_is (back p) (reverse s) ∙ drop_reverse (length (reverse s) - length t) s (omega arith))
    ∙ reverse-reverse (take (length s - (length (reverse s) - length t)) s)
    ∙ ap (λ (i : ℕ). take i s) f

-- a class of blanks whose members are found at both ends
pub record Class (p : List ℕ → Bool) : Type 0 where
  pub sub : (w : List ℕ) → p w ≡ true → is_blank w ≡ true
  pub first : (w t : List ℕ) → p w ≡ true → size_of p (w ++ t) ≡ length w
  pub last : (w t : List ℕ) → p w ≡ true → size_of (back p) (reverse w ++ t) ≡ length w

-- a blank at the end is the last part
pub parts_snoc : (s w : List ℕ) → is_blank w ≡ true → parts (s ++ w) ≡ parts s ++ (w ∷ [])
parts_snoc s [] h = absurd (true≢false (sym h))
parts_snoc s (b ∷ w) h = parts_append s b w (blank_head b w h) ∙ ap (λ (l : List (List ℕ)). parts s ++ l) (ap parts (sym (append-nil (b ∷ w))) ∙ blank_part (b ∷ w) [] h)

module _ (p : List ℕ → Bool) (c : Class p) where
  nil : p [] ≡ false
  nil = test (p []) (λ e. absurd (true≢false (sym (c.sub [] e)))) (λ e. e)

  pub some_length : (w : List ℕ) → p w ≡ true → length w ≡ 0 → ⊥
  some_length [] h e = true≢false (sym (c.sub [] h))
  some_length (a ∷ w) h e = omega arith

  first_none_lem : (s : List ℕ) → size_of p s ≡ 0 → drop_while p (parts s) ≡ parts s
  first_none_lem [] h = refl
  first_none_lem (a ∷ s) h =
      let w = a ∷ take (more a s) s in
      let no : p w ≡ false = test (p w)
      (λ e. let k : size_of p (a ∷ s) ≡ length w = ap (λ (t : List ℕ). size_of p (a ∷ t)) (sym (take-append-drop (more a s) s)) ∙ c.first w (drop (more a s) s) e in absurd (omega arith))
      (λ e. e) in
      simp no

  strip_parts_step : (s : List ℕ) → Front p s → ((t : List ℕ) → length t < length s → parts (strip p t) ≡ drop_while p (parts t)) → parts (strip p s) ≡ drop_while p (parts s)
  strip_parts_step s (none e) ih = ap parts (strip_none p s e) ∙ sym (first_none_lem s e)
  strip_parts_step s (some w t e y z l) ih =
      let z2 : size_of p (w ++ t) ≡ length w = subst (λ (x : List ℕ). size_of p x ≡ length w) e z in
      let k = ap length e in let m = length-append w t in
      let i = ih t (omega arith) in
      rw e
      (ap parts (strip_some p w t z2 l)
      ∙ i
      ∙ sym (ap (drop_while p) (blank_part w t (c.sub w y)) ∙ simp y))

  -- at the front
  pub strip_parts : (s : List ℕ) → parts (strip p s) ≡ drop_while p (parts s)
  strip_parts s = by_length (λ (t : List ℕ). parts (strip p t) ≡ drop_while p (parts t)) (λ t ih. strip_parts_step t (front p nil t) ih) s

  -- the last part of what ends with no character of p
  last_none : (r : List ℕ) (qs : List (List ℕ)) → size_of (back p) r ≡ 0 → reverse (parts (reverse r)) ≡ qs → drop_while p qs ≡ qs
  unfolding flatten
  last_none r [] h e = refl
  last_none r (v ∷ qs) h e =
      let no : p v ≡ false = test (p v)
      (λ y.
      let g : parts (reverse r) ≡ reverse qs ++ (v ∷ []) = sym (reverse-reverse (parts (reverse r))) ∙ ap reverse e ∙ reverse-cons v qs in
      let d : reverse r ≡ flatten (reverse qs) ++ v = sym (flatten_parts (reverse r)) ∙ ap flatten g ∙ flatten_append (reverse qs) (v ∷ []) ∙ ap (λ (l : List ℕ). flatten (reverse qs) ++ l) (append-nil v) in
      let f : r ≡ reverse v ++ reverse (flatten (reverse qs)) = sym (reverse-reverse r) ∙ ap reverse d ∙ reverse-append (flatten (reverse qs)) v in
      let k : size_of (back p) r ≡ length v = ap (size_of (back p)) f ∙ c.last v (reverse (flatten (reverse qs))) y in
      absurd (some_length v y (sym k ∙ h)))
      (λ y. y) in
      simp no

  strip_end_step : (r : List ℕ) → Front (back p) r
      → ((t : List ℕ) → length t < length r → reverse (parts (reverse (strip (back p) t))) ≡ drop_while p (reverse (parts (reverse t))))
      → reverse (parts (reverse (strip (back p) r))) ≡ drop_while p (reverse (parts (reverse r)))
  strip_end_step r (none e) ih =
      ap (λ (l : List ℕ). reverse (parts (reverse l))) (strip_none (back p) r e) ∙ sym (last_none r (reverse (parts (reverse r))) e refl)
  strip_end_step r (some w t e y z l) ih =
      let z2 : size_of (back p) (w ++ t) ≡ length w = subst (λ (x : List ℕ). size_of (back p) x ≡ length w) e z in
      let k = ap length e in let m = length-append w t in
      let i = ih t (omega arith) in
      let g : reverse (parts (reverse (w ++ t))) ≡ reverse w ∷ reverse (parts (reverse t)) =
      ap (λ (x : List ℕ). reverse (parts x)) (reverse-append w t)
      ∙ ap reverse (parts_snoc (reverse t) (reverse w) (c.sub (reverse w) y))
      ∙ reverse-append (parts (reverse t)) (reverse w ∷ []) in
      rw e
      (ap (λ (x : List ℕ). reverse (parts (reverse x))) (strip_some (back p) w t z2 l)
      ∙ i
      ∙ sym (ap (drop_while p) g ∙ simp y))

  -- at the end
  pub strip_end_parts : (s : List ℕ) → parts (strip_end p s) ≡ drop_end p (parts s)
  strip_end_parts s =
      let r = reverse s in
      let e = by_length (λ (t : List ℕ). reverse (parts (reverse (strip (back p) t))) ≡ drop_while p (reverse (parts (reverse t)))) (λ t ih. strip_end_step t (front (back p) nil t) ih) r in
      sym (reverse-reverse (parts (strip_end p s))) ∙ ap reverse e ∙ ap (λ (x : List ℕ). drop_end p (parts x)) (reverse-reverse s)

  -- at both ends: trimming bytes is dropping parts
  pub strip_both_parts : (s : List ℕ) → parts (strip_end p (strip p s)) ≡ drop_both p (parts s)
  strip_both_parts s = strip_end_parts (strip p s) ∙ ap (drop_end p) (strip_parts s)

  pub strip_both_is : (s : List ℕ) → strip_end p (strip p s) ≡ flatten (drop_both p (parts s))
  strip_both_is s = sym (flatten_parts (strip_end p (strip p s))) ∙ ap flatten (strip_both_parts s)
