-- Two strings joined (01, "Joining two files"): "the first normalised, a line `N`, the second normalised".
use Rattle.std.specs.Prelude.{◌≡◌, cond, List, [], ◌++◌, ℕ, ◌≤◌, ltb, length}
use Rattle.elements.specs.Given.{longest, Due, text, denied}
use Rattle.walk_theory.specs.Language.{Language, clear}
use Rattle.walk_theory.specs.Division.{Division}
use Rattle.walk_theory.specs.Labels.{Label, Divides}
use Rattle.walk_theory.specs.Step.{state}
use Rattle.walk_theory.specs.Trace.{Outcome, listed, refusal_of, outcome}
use Rattle.walk_theory.specs.Normal.{each}

-- the line between them: it stands before anything, clears to the reference r wherever it is read, and is no block
pub record Clearing (L : Language) (blocks : L.U → List (List ℕ)) (r : L.R) (n : L.U) : Type 0 where
  pub stands : (rest : List ℕ) → L.Stands n rest
  pub clears : (r' : L.R) → L.act r' n ≡ clear r
  pub no_block : blocks n ≡ []

abbrev pub joined : (L : Language) → (List ℕ → List ℕ) → L.U → List ℕ → List ℕ → List ℕ
joined L normalised n s t = normalised s ++ (L.bytes n ++ normalised t)

-- of what the two files list: "If either file is refused, its number and place are given, the first file's before the
-- second's"; "25 a joined text over 16,777,216 bytes (place: its length), after both files' refusals and before 15"
abbrev pub join_due : {F P : Type 0} → Outcome F P → Outcome F P → List ℕ → Due
join_due (refusal_of k p) o j = denied k p
join_due (listed ls m) (refusal_of k p) j = denied k p
join_due (listed ls m) (listed ms k) j = cond (ltb longest (length j)) (denied 25 (length j)) (text j)

module _ (L : Language) (F : Type 0) (frame : List ℕ → L.E → F) (normalised : List ℕ → List ℕ)
    (n : L.U) (r : L.R) where
  open L use {U, P}

  -- what is due to a call that joins s and t, r being the fresh reference
  abbrev pub join_of : List ℕ → List ℕ → Due
  join_of s t =
      join_due (outcome L F frame s (state 0 r 0)) (outcome L F frame t (state 0 r 0)) (joined L normalised n s t)

  -- of accepted strings s and t with the labels ls and ms, k elements being pending at the end of t
  pub record Joins (blocks : U → List (List ℕ)) (s t : List ℕ) (ls ms : List (Label F P)) (k : ℕ) : Type 0 where
    -- "The labels of the result are those of the first followed by those of the second, every frame the same";
    -- "Elements pending in the first are never printed", nor counted: those pending at the end are the second's
    pub divides : Divides L F frame (joined L normalised n s t) r (ls ++ ms) k
    -- so the walk over it lists, where it is within the limit
    pub lists : length (joined L normalised n s t) ≤ longest
        → outcome L F frame (joined L normalised n s t) (state 0 r 0) ≡ listed (ls ++ ms) k
    -- "all graphic blocks of both stand in it in order"
    pub blocks_of_both : (us vs ws : List U) → Division L s us → Division L t vs
        → Division L (joined L normalised n s t) ws → each blocks ws ≡ each blocks us ++ each blocks vs
