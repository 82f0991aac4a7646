-- Numbers by their place: what a call that read one leaves to the next (`number_next`, `size_next`, `point_next`),
-- and what `number_from` reads (`plain_comma`, `any_comma`, `past_end`). Fields are in ParamsLaws. Assumes nothing.
use mathlib.Core.Path.{◌≡◌, refl, sym, ap, ◌∙◌}
use mathlib.Core.Bool.{true}
use mathlib.Core.List.{List}
use Prim.Native.Nat.{ℕ, suc, ◌+◌, ◌-◌, ◌*◌, ◌<◌, ◌≤◌}
use native.Mathlib.Omega.{arith}
use lib.Dec.{leb}
use lib.IntN.{ℤ, pos}
use lib.ListN.{length, get_or, take, drop, length-drop, length-take, drop_of_length-le}
use lib.Seq.{drop-drop}
use borrow.Author.Tests.{leb-true, leb-false}
use Rattle.text.specs.Class.{is_digit}
use Rattle.text.specs.Fields.{index_of, before, after}
use Rattle.numbers.specs.Int.{max_z}
use Rattle.numbers.specs.Number.{value_from, number_spelled, field_or}
use Rattle.text.proofs.BoolLaws.{test, within_high}
use Rattle.text.proofs.FieldsLaws.{index_le}
use Rattle.numbers.proofs.NumberPlainLaws.{field_digits, index_digit, index_end, index_here, value_digit, value_end}
use Rattle.parameters.specs.FieldValues.{size_or, point_of}
use Rattle.parameters.specs.Params.{number_at, size_at, point_at, place_of, number_from, size_from, point_from}
use Rattle.parameters.specs.declared.field_reader.Numbered.{Numbered}
use Rattle.parameters.specs.declared.params.Pointed.{Pointed}

-- places

place_of_lem : (s : List ℕ) (k : ℕ) → drop (place_of s (drop k s)) s ≡ drop k s
place_of_lem s k =
    test (leb k (length s))
    (λ e. let h = leb-true k (length s) e in let j : length s - (length s - k) ≡ k = omega arith in rw (length-drop k s, j))
    (λ e. let h = leb-false k (length s) e in rw (drop_of_length-le s {i = k} (omega arith)) (drop_of_length-le s {i = length s - 0} (omega arith)))

after_at : (s t : List ℕ) (at : ℕ) → drop at s ≡ t → drop (at + suc (index_of 44 t)) s ≡ after 44 t
unfolding after
after_at s t at e = sym (drop-drop (suc (index_of 44 t)) at s) ∙ ap (drop (suc (index_of 44 t))) e

-- behind the first comma of t, which stands at a place of s
pub place_after : (s t : List ℕ) (at : ℕ) → drop at s ≡ t → drop (place_of s (after 44 t)) s ≡ after 44 t
place_after s t at e = let k = at + suc (index_of 44 t) in let h = after_at s t at e in rw (← h) (place_of_lem s k)

-- what a call has read, by what stands at its place: a number, a size, a point
module _ (d : ℤ) (s : List ℕ) (at : ℕ) {t : List ℕ} {r : Numbered} (here : drop at s ≡ t) where
  pub number_value : r ≡ number_from d s at → r.value ≡ number_at d t
  unfolding number_from
  number_value is = rw (is, here)

  pub number_next : r ≡ number_from d s at → drop r.next s ≡ after 44 t
  unfolding number_from
  number_next is = rw (is, here) (place_after s t at here)

  pub size_value : r ≡ size_from d s at → r.value ≡ size_at d t
  unfolding size_from
  size_value is = rw (is, here)

  pub size_next : r ≡ size_from d s at → drop r.next s ≡ after 44 t
  unfolding size_from
  size_next is = rw (is, here) (place_after s t at here)

module _ (s : List ℕ) (at : ℕ) {t : List ℕ} {r : Pointed} (here : drop at s ≡ t) where
  pub point_value : r ≡ point_from s at → r.point ≡ point_at t
  unfolding point_from
  point_value is = rw (is, here)

  pub point_next : r ≡ point_from s at → drop r.next s ≡ after 44 (after 44 t)
  unfolding point_from
  point_next is = rw (is, here) (place_after s (after 44 t) (at + suc (index_of 44 t)) (after_at s t at here))

-- the place behind a comma, and where there is none
module _ (s : List ℕ) (at n : ℕ) (h : at ≤ length s) (e : n ≡ at + index_of 44 (drop at s)) where
  pub next_comma : n < length s → n + 1 ≡ place_of s (after 44 (drop at s))
  unfolding after
  next_comma l = simp length-drop (omega arith)

  pub next_end : length s ≤ n → n ≡ place_of s (after 44 (drop at s))
  unfolding after
  next_end l = simp length-drop (omega (arith, index_le 44 (drop at s), length-drop at s))

-- a place where nothing stands: its field is empty
pub past_end : (d : ℤ) (s : List ℕ) (at : ℕ) {z : ℤ} → length s ≤ at → z ≡ d → record { value = z; next = length s } ≡ number_from d s at
unfolding number_from number_at before after number_spelled
past_end d s at h e = rw (e, drop_of_length-le s {i = at} h) (ap (λ (n : ℕ). record { value = d; next = n }) (omega arith))

-- a field's number, whose comma or end is n bytes off
module _ (d : ℤ) (s : List ℕ) (at n : ℕ) (z : ℤ) (h : at ≤ length s) (e : n ≡ index_of 44 (drop at s)) (v : z ≡ field_or d (take (at + n - at) (drop at s))) where
  any_value : z ≡ number_at d (drop at s)
  unfolding number_at before
  any_value = let k : at + n - at ≡ index_of 44 (drop at s) = omega arith in rw k at v

  pub any_comma : at + n < length s → record { value = z; next = at + n + 1 } ≡ number_from d s at
  unfolding number_from
  any_comma l = rw (any_value, next_comma s at (at + n) h (omega arith) l)

  pub any_end : length s ≤ at + n → record { value = z; next = at + n } ≡ number_from d s at
  unfolding number_from
  any_end l = rw (any_value, next_end s at (at + n) h (omega arith) l)

-- the loop over digits: read on from `end` with their value v, the field at `at` has the same value and the same comma
pub record Ran (s : List ℕ) (at v end : ℕ) : Type 0 where
  pub low : at ≤ end
  pub high : end ≤ length s
  pub small : v < 1000000000
  pub place : at + index_of 44 (drop at s) ≡ end + index_of 44 (drop end s)
  pub digits : value_from 0 (before 44 (drop at s)) ≡ value_from v (before 44 (drop end s))

module _ (s : List ℕ) (at v end : ℕ) (r : Ran s at v end) where
  -- a turn of it
  pub ran_digit : {w : ℕ} → end < length s → v < 100000000 → is_digit (get_or s end 0) ≡ true → w ≡ v * 10 + (get_or s end 0 - 48) → Ran s at w (end + 1)
  ran_digit h b d e =
      record {
        low = omega (arith, r.low);
        high = omega arith;
        small = omega (arith, within_high 48 57 (get_or s end 0) d);
        place = omega (arith, r.place, index_digit s end v h d);
        digits = r.digits ∙ value_digit s end v h d ∙ ap (λ (n : ℕ). value_from n (before 44 (drop (end + 1) s))) (sym e);
      }

  -- digits up to the end or a comma: their value is the field's number
  module _ (d : ℤ) (some : at < end) where
    ended : index_of 44 (drop end s) ≡ 0 → end ≡ at + index_of 44 (drop at s)
    ended e = omega (arith, r.place)

    digits_number : index_of 44 (drop end s) ≡ 0 → pos v ≡ number_at d (drop at s)
    unfolding number_at before
    digits_number e =
        sym (field_digits d (before 44 (drop at s)) v (simp (length-take, length-drop) (omega (arith, r.high, ended e))) (r.digits ∙ value_end (drop end s) v e) (omega (arith, r.small)))

    pub plain_comma : end < length s → get_or s end 0 ≡ 44 → record { value = pos v; next = end + 1 } ≡ number_from d s at
    unfolding number_from
    plain_comma b e =
        let z = index_here s end b e in
        rw (digits_number z, next_comma s at end (omega arith) (ended z) b)

    pub plain_end : end ≡ length s → record { value = pos v; next = end } ≡ number_from d s at
    unfolding number_from
    plain_end b =
        let z = index_end s end (omega arith) in
        rw (digits_number z, next_end s at end (omega arith) (ended z) (omega arith))

-- a size by its number, a point by its two

pub size_is : (d : ℤ) (s : List ℕ) (at : ℕ) (r : Numbered) (z : ℤ) → r ≡ number_from d s at → z ≡ max_z r.value (pos 1) → record { value = z; next = r.next } ≡ size_from d s at
unfolding number_from size_from size_at size_or number_at
size_is d s at r z is e = rw (e, is)

pub point_is : (s : List ℕ) (at : ℕ) (x y : Numbered) → x ≡ number_from (pos 0) s at → y ≡ number_from (pos 0) s x.next → record { point = record { x = x.value; y = y.value }; next = y.next } ≡ point_from s at
unfolding number_from point_from point_at point_of number_at
point_is s at x y p q =
    let h = number_next (pos 0) s at refl p in
    rw (q, h, p)
