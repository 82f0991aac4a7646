-- Parts and decoding: parts put together are the bytes (`flatten_parts`), cuts before a byte that is no 80..bf
-- (`parts_append`, `decode_split`), ASCII (`decode_ascii`), lengths (`length_decode_le`). See Utf8WholeLaws, Utf8Steps.
-- Assumes nothing.
use mathlib.Core.Path.{◌≡◌, refl, sym, ap, ◌∙◌}
use mathlib.Core.Bool.{Bool, true, false, cond}
use mathlib.Core.List.{List, [], ◌∷◌, ◌++◌, map, flatten, append_assoc}
use Prim.Native.Nat.{ℕ, zero, suc, ◌-◌, ◌*◌, ◌<◌, ◌≤◌}
use native.Mathlib.Nat.{not-suc-le-zero}
use native.Mathlib.Omega.{arith}
use lib.ListN.{length, take, drop, length-drop, length-append, take-append-drop}
use lib.Seq.{take-append-le, take-append_seam, drop-append_seam, length-take-le}
use lib.Dec.{eqb}
use borrow.Author.Tests.{lt-ltb, lt-leb}
use Rattle.text.specs.Utf8.{within, need, low, high, run, more, parts_after, parts, whole, replacement, shown, decode}
use Rattle.text.proofs.BoolLaws.{within_false}

-- the table

cond_ge : (x y : Bool) → 128 ≤ cond x 160 (cond y 144 128)
cond_ge true y = omega arith
cond_ge false true = omega arith
cond_ge false false = omega arith

pub low_ge : (a : ℕ) → 128 ≤ low a
unfolding low
low_ge a = cond_ge (eqb a 224) (eqb a 240)

cond_le : (x y : Bool) → cond x 159 (cond y 143 191) ≤ 191
cond_le true y = omega arith
cond_le false true = omega arith
cond_le false false = omega arith

pub high_le : (a : ℕ) → high a ≤ 191
unfolding high
high_le a = cond_le (eqb a 237) (eqb a 244)

pub need_ascii : (a : ℕ) → a < 128 → need a ≡ 1
unfolding need
need_ascii a h = simp (lt-ltb a 128 h)

-- run and more

cond_run_le : (x : Bool) (k n : ℕ) → k ≤ n → cond x (suc k) 0 ≤ suc n
cond_run_le true k n h = omega arith
cond_run_le false k n h = omega arith

pub run_le : (lo hi n : ℕ) (s : List ℕ) → run lo hi n s ≤ length s
run_le lo hi zero s = omega arith
run_le lo hi (suc n) [] = omega arith
run_le lo hi (suc n) (b ∷ s) = cond_run_le (within lo hi b) (run 128 191 n s) (length s) (run_le 128 191 n s)

pub more_le : (a : ℕ) (s : List ℕ) → more a s ≤ length s
more_le a s = run_le (low a) (high a) (need a - 1) s

-- a sequence goes on with no other bytes than 80..bf
pub run_append : (lo hi n : ℕ) (s : List ℕ) (b : ℕ) (c : List ℕ) → 128 ≤ lo → hi ≤ 191 → within 128 191 b ≡ false → run lo hi n (s ++ (b ∷ c)) ≡ run lo hi n s
run_append lo hi zero s b c p q h = refl
run_append lo hi (suc n) [] b c p q h = simp (within_false 128 191 b p q h)
run_append lo hi (suc n) (x ∷ s) b c p q h = ap (λ (k : ℕ). cond (within lo hi x) (suc k) 0) (run_append 128 191 n s b c (omega arith) (omega arith) h)

pub more_append : (a : ℕ) (s : List ℕ) (b : ℕ) (c : List ℕ) → within 128 191 b ≡ false → more a (s ++ (b ∷ c)) ≡ more a s
more_append a s b c h = run_append (low a) (high a) (need a - 1) s b c (low_ge a) (high_le a) h

pub more_ascii : (a : ℕ) (s : List ℕ) → a < 128 → more a s ≡ 0
more_ascii a s h = rw (need_ascii a h)

-- parts

pub parts_skip : (s : List ℕ) (k : ℕ) → parts_after s k ≡ parts (drop k s)
parts_skip [] zero = refl
parts_skip [] (suc k) = refl
parts_skip (a ∷ s) zero = refl
parts_skip (a ∷ s) (suc k) = parts_skip s k

pub parts_cons : (a : ℕ) (s : List ℕ) → parts (a ∷ s) ≡ (a ∷ take (more a s) s) ∷ parts (drop (more a s) s)
parts_cons a s = ap (λ (l : List (List ℕ)). (a ∷ take (more a s) s) ∷ l) (parts_skip s (more a s))

pub parts_ascii : (a : ℕ) (s : List ℕ) → a < 128 → parts (a ∷ s) ≡ (a ∷ []) ∷ parts s
parts_ascii a s h = rw (more_ascii a s h)

after_append : (s : List ℕ) (k b : ℕ) (c : List ℕ) → k ≤ length s → within 128 191 b ≡ false → parts_after (s ++ (b ∷ c)) k ≡ parts_after s k ++ parts (b ∷ c)
after_append [] zero b c p h = refl
after_append [] (suc k) b c p h = absurd (not-suc-le-zero p)
after_append (a ∷ s) zero b c p h =
    let m = more_le a s in
    rw (more_append a s b c h) (simp (take-append-le (more a s) s (b ∷ c) m, after_append s (more a s) b c m h))
after_append (a ∷ s) (suc k) b c p h = after_append s k b c (omega arith) h

-- a cut before a byte that is no 80..bf cuts no part
pub parts_append : (s : List ℕ) (b : ℕ) (c : List ℕ) → within 128 191 b ≡ false → parts (s ++ (b ∷ c)) ≡ parts s ++ parts (b ∷ c)
parts_append s b c h = after_append s 0 b c (omega arith) h

flatten_after : (s : List ℕ) (k : ℕ) → flatten (parts_after s k) ≡ drop k s
unfolding flatten
flatten_after [] zero = refl
flatten_after [] (suc k) = refl
flatten_after (a ∷ s) zero = ap (λ (l : List ℕ). a ∷ l) (ap (λ (l : List ℕ). take (more a s) s ++ l) (flatten_after s (more a s)) ∙ take-append-drop (more a s) s)
flatten_after (a ∷ s) (suc k) = flatten_after s k

-- nothing is lost
pub flatten_parts : (s : List ℕ) → flatten (parts s) ≡ s
flatten_parts s = flatten_after s 0

-- decode

pub map_append : {A B : Type 0} (f : A → B) (xs ys : List A) → map f (xs ++ ys) ≡ map f xs ++ map f ys
map_append f [] ys = refl
map_append f (x ∷ xs) ys = ap (λ l. f x ∷ l) (map_append f xs ys)

pub flatten_append : (xs ys : List (List ℕ)) → flatten (xs ++ ys) ≡ flatten xs ++ flatten ys
unfolding flatten
flatten_append [] ys = refl
flatten_append (x ∷ xs) ys = rw (flatten_append xs ys) (sym (append_assoc x (flatten xs) (flatten ys)))

pub decode_append : (s : List ℕ) (b : ℕ) (c : List ℕ) → within 128 191 b ≡ false → decode (s ++ (b ∷ c)) ≡ decode s ++ decode (b ∷ c)
decode_append s b c h = rw (parts_append s b c h, map_append shown (parts s) (parts (b ∷ c)), flatten_append (map shown (parts s)) (map shown (parts (b ∷ c))))

pub decode_ascii : (a : ℕ) (s : List ℕ) → a < 128 → decode (a ∷ s) ≡ a ∷ decode s
unfolding flatten
decode_ascii a s h = ap (λ (l : List (List ℕ)). flatten (map shown l)) (parts_ascii a s h) ∙ simp (need_ascii a h)

-- an ASCII byte stands for itself, whatever is around it
pub decode_split : (s : List ℕ) (b : ℕ) (c : List ℕ) → b < 128 → decode (s ++ (b ∷ c)) ≡ decode s ++ (b ∷ decode c)
decode_split s b c h = decode_append s b c (simp (lt-leb 128 b h)) ∙ ap (λ (l : List ℕ). decode s ++ l) (decode_ascii b c h)

cond_length : (x : Bool) (p : List ℕ) (n : ℕ) → length p ≡ suc n → length (cond x p replacement) ≤ 3 * suc n
cond_length true p n h = omega arith
cond_length false p n h = omega arith

length_after : (s : List ℕ) (k : ℕ) → length (flatten (map shown (parts_after s k))) ≤ 3 * length (drop k s)
unfolding flatten
length_after [] zero = omega arith
length_after [] (suc k) = omega arith
length_after (a ∷ s) zero =
    let m = more a s in
    let p = a ∷ take m s in
    let i = length_after s m in
    let l = length-take-le m s (more_le a s) in
    let d = length-drop m s in
    let c = cond_length (whole p) p m (omega arith) in
    rw (length-append (shown p) (flatten (map shown (parts_after s m)))) (omega (arith, more_le a s))
length_after (a ∷ s) (suc k) = length_after s k

pub length_decode_le : (s : List ℕ) → length (decode s) ≤ 3 * length s
length_decode_le s = length_after s 0

-- a part that begins with a and goes on with the bytes q
pub part_is : (a : ℕ) (q r : List ℕ) → more a (q ++ r) ≡ length q → parts (a ∷ (q ++ r)) ≡ (a ∷ q) ∷ parts r
part_is a q r e = parts_cons a (q ++ r) ∙ ap (λ (m : ℕ). (a ∷ take m (q ++ r)) ∷ parts (drop m (q ++ r))) e ∙ simp (take-append_seam, drop-append_seam)
