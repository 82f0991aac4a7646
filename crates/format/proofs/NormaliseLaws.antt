-- The normalised text from a place on, as the loops over blocks and lines want it (`normalised_end`, `block_turn_lem`,
-- `line_turn_lem`), and its length (`block_counts`, `lined`). Assumes nothing.
use mathlib.Core.Path.{◌≡◌, sym, ap, ◌∙◌, refl}
use mathlib.Core.List.{List, [], ◌++◌, ◌∷◌, append-nil}
use Prim.Native.Nat.{ℕ, ◌+◌, ◌-◌, ◌<◌, ◌≤◌}
use native.Mathlib.Numerals.{add-one}
use native.Mathlib.Omega.{arith}
use lib.Dec.{ltb, eqb}
use lib.ListN.{length, length-append, length-drop, take, drop, drop_of_length-le}
use lib.Seq.{length-take-le, drop-drop, drop-cons}
use borrow.Author.Tests.{ltb-true, ltb-false}
use Rattle.text.specs.Blank.{front, trim_ascii, drop_while}
use Rattle.text.proofs.BoolLaws.{test}
use Rattle.text.proofs.DropSteps.{rest}
use Rattle.text.proofs.ScanLaws.{size_with, size_without}
use Rattle.walk_theory.specs.Language.{First, unit}
use Rattle.grammar.specs.Units.{EplUnit, not_lf, line, last, bytes}
use Rattle.grammar.specs.Found.{text_line, line_by}
use Rattle.grammar.specs.Normal.{chunk, written, normalised, kept}
use Rattle.grammar.proofs.NormalChunkLaws.{normalised_is}
use Rattle.grammar.proofs.TurnLineLaws.{front_index}
use Rattle.grammar.proofs.NormalLaws.{normalised_nil}
use Rattle.grammar.proofs.UnitsTrimmedLaws.{length_trimmed_le}
use Rattle.normal_lines.specs.Lines.{ended, line_size}
use Rattle.format.specs.Normalise.{Blocks}
use Rattle.normal_lines.proofs.LinesLaws.{ended_none, ended_length, index_length}
use Rattle.normal_lines.proofs.LinesPieceLaws.{front_le}
use Rattle.text.specs.Fields.{index_of}
use Rattle.text.proofs.FieldsLaws.{index_le}
use Rattle.walk_theory.specs.Normal.{each}
use Rattle.grammar.proofs.FoundLineLaws.{line_by_lem}

-- ---- a part with the LF behind it
kept_ended : (t : List ℕ) → each bytes (kept t) ≡ ended t
kept_ended [] = refl
kept_ended (b ∷ t) = append-nil _

-- where the first line ends
drop_index : (s : List ℕ) → drop_while not_lf s ≡ drop (index_of 10 s) s
drop_index [] = refl
drop_index (b ∷ s) = test (eqb b 10) (λ e. simp e) (λ e. simp (e, drop_index s))

module _ (s : List ℕ) (n : ℕ) (e : n ≡ index_of 10 s) where
  text_by : text_line s ≡ line_by (take n s) (drop n s)
  text_by = rw e (λ i. line_by (front_index s i) (drop_index s i))

  index_in : n ≤ length s
  index_in = rw e (index_le 10 s)

  -- what is written of it, and what follows: behind its LF, or nothing
  text_line_lem : n < length s → (go : List ℕ → List ℕ) → written (text_line s) go ≡ ended (trim_ascii (take n s)) ++ go (drop (n + 1) s)
  text_line_lem h go =
      let k : text_line s ≡ unit (line (take n s)) (drop (n + 1) s) = text_by ∙ rw (add-one, drop-cons s n 0) in
      ap (λ (f : First EplUnit). written f go) k ∙ ap (λ (x : List ℕ). x ++ go (drop (n + 1) s)) (kept_ended (trim_ascii (take n s)))

  text_last : 0 < length s → length s ≤ n → (go : List ℕ → List ℕ) → written (text_line s) go ≡ ended (trim_ascii (take n s)) ++ go (drop n s)
  text_last p h go =
      let d = drop_of_length-le s {i = n} h in
      let k : text_line s ≡ unit (last (take n s)) (drop n s) =
      text_by ∙ ap (line_by (take n s)) d ∙ line_by_lem (take n s) (omega (arith, length-take-le n s index_in)) ∙ ap (unit (last (take n s))) (sym d) in
      ap (λ (f : First EplUnit). written f go) k ∙ ap (λ (x : List ℕ). x ++ go (drop n s)) (kept_ended (trim_ascii (take n s)))

-- nothing is left at the end
pub normalised_end : (s : List ℕ) (at : ℕ) → length s ≤ at → normalised (drop at s) ≡ []
normalised_end s at h = ap normalised (drop_of_length-le s {i = at} h) ∙ normalised_nil

-- ---- what stands at a place, as `&s[at..]` gives it
abbrev pub here : List ℕ → ℕ → List ℕ
here s at = take (length s - at) (drop at s)

-- a block of n bytes stands there, or a line where n is 0
pub record Stands (s : List ℕ) (at n : ℕ) : Type 0 where
  pub in_src : at < length s
  pub blocks : Blocks (here s at) n

-- a line of k bytes stands there, and m of them stay
pub record Lined (s : List ℕ) (at k m : ℕ) : Type 0 where
  pub fits : at + k ≤ length s
  pub moves : 0 < k
  pub left : m ≤ k
  pub some : 0 < m → length (normalised (drop at s)) ≡ m + 1 + length (normalised (drop (at + k) s))
  pub none : m ≤ 0 → length (normalised (drop at s)) ≡ length (normalised (drop (at + k) s))

module _ {s : List ℕ} {at n : ℕ} (w : Stands s at n) where
  long : length (here s at) ≡ length s - at
  long = ap length (rest s at) ∙ length-drop at s

  by_chunk : normalised (drop at s) ≡ written (chunk (here s at)) normalised
  by_chunk = ap normalised (sym (rest s at)) ∙ normalised_is (here s at)

  behind : (k : ℕ) → normalised (drop k (here s at)) ≡ normalised (drop (at + k) s)
  behind k = ap (λ (l : List ℕ). normalised (drop k l)) (rest s at) ∙ ap normalised (drop-drop k at s)

  -- a block of n bytes
  pub block_in : at + n ≤ length s
  block_in = omega (arith, w.blocks.inside, long, w.in_src)

  pub block_turn_lem : 0 < n → normalised (drop at s) ≡ ended (take n (here s at)) ++ normalised (drop (at + n) s)
  block_turn_lem h = by_chunk ∙ w.blocks.block h normalised ∙ ap (λ (l : List ℕ). ended (take n (here s at)) ++ l) (behind n)

  pub block_counts : 0 < n → length (normalised (drop at s)) ≡ n + 1 + length (normalised (drop (at + n) s))
  block_counts h =
      let part = take n (here s at) in
      let l = length-take-le n (here s at) w.blocks.inside in
      omega (arith, ap length (block_turn_lem h), length-append (ended part) (normalised (drop (at + n) s)), ended_length part (λ z. omega (arith, z, l, h)), l)

  -- a line of k bytes, its LF among them
  module _ {k : ℕ} (none : n ≤ 0) (size : k ≡ line_size (here s at)) where
    abbrev part : List ℕ
    part = trim_ascii (front not_lf (here s at))

    abbrev end : ℕ
    end = length (front not_lf (here s at))

    -- an LF stands behind it, or the line ends the text
    cases : {P : Type 0} → (end < length (here s at) → k ≡ end + 1 → P) → (length (here s at) ≤ end → k ≡ end → P) → P
    cases with-lf without =
        test (ltb end (length (here s at)))
        (λ e. with-lf (ltb-true end (length (here s at)) e) (size ∙ sym (size_with end (length (here s at)) (ltb-true end (length (here s at)) e)) ∙ sym (add-one end)))
        (λ e. without (ltb-false end (length (here s at)) e) (size ∙ sym (size_without end (length (here s at)) (ltb-false end (length (here s at)) e))))

    pub line_in : at + k ≤ length s
    line_in = cases (λ h e. omega (arith, e, h, long, w.in_src)) (λ h e. omega (arith, e, long, front_le not_lf (here s at), w.in_src))

    pub line_some : 0 < k
    line_some = cases (λ h e. omega (arith, e)) (λ h e. omega (arith, e, h, long, w.in_src))

    by_line_lem : normalised (drop at s) ≡ written (text_line (here s at)) normalised
    by_line_lem = by_chunk ∙ ap (λ (f : First EplUnit). written f normalised) (w.blocks.line (omega (arith, none)))

    line_is : take end (here s at) ≡ front not_lf (here s at)
    line_is = ap (λ (j : ℕ). take j (here s at)) (index_length (here s at)) ∙ sym (front_index (here s at))

    pub line_turn_lem : normalised (drop at s) ≡ ended part ++ normalised (drop (at + k) s)
    line_turn_lem =
        cases
        (λ h e.
        by_line_lem ∙ text_line_lem (here s at) end (index_length (here s at)) h normalised
        ∙ (λ i. ended (trim_ascii (line_is i)) ++ behind (end + 1) i) ∙ ap (λ (j : ℕ). ended part ++ normalised (drop (at + j) s)) (sym e))
        (λ h e.
        by_line_lem ∙ text_last (here s at) end (index_length (here s at)) (omega (arith, long, w.in_src)) h normalised
        ∙ (λ i. ended (trim_ascii (line_is i)) ++ behind end i) ∙ ap (λ (j : ℕ). ended part ++ normalised (drop (at + j) s)) (sym e))

    pub line_counts : length (normalised (drop at s)) ≡ length (ended part) + length (normalised (drop (at + k) s))
    line_counts = ap length line_turn_lem ∙ length-append (ended part) (normalised (drop (at + k) s))

    -- m bytes are left of the line, and an LF behind them where there are any
    pub lined : {m : ℕ} → m ≡ length part → Lined s at k m
    lined left =
        let t = length_trimmed_le (front not_lf (here s at)) in
        record {
          fits = line_in;
          moves = line_some;
          left = cases (λ h e. omega (arith, left, e, t)) (λ h e. omega (arith, left, e, t));
          some = λ h. omega (arith, line_counts, left, ended_length part (λ z. omega (arith, z, left, h)));
          none = λ h. omega (arith, line_counts, ap length (ended_none part (omega (arith, left, h))));
        }
