-- Inner: the nearest so far, "the earlier one if equal".
use Rattle.std.specs.Prelude.{cond, ◌||◌, List, ℕ, eqb, ltb, length}
use Rattle.elements.specs.declared.LabelElement.{LabelElement}
use Rattle.elements.specs.declared.LabelPosition.{LabelPosition}
use Rattle.elements.specs.declared.walk_state.WalkState.{WalkState}
use Rattle.label_index.specs.declared.entry.LabelEntry.{LabelEntry}
use Rattle.label_opening.specs.Opened.{start_of, first_from, started_opening}
use Rattle.where_element.specs.Found.{Spot}
use Rattle.where_label.specs.Found.{itself, nearest_in}
use Rattle.where_nearest.specs.declared.nearest.Best.{Best}

-- with the element n, whose distance is d
abbrev pub better : Best → ℕ → ℕ → Best
better b n d = cond (eqb n 0 || ltb d b.distance) (record { number = n; distance = d }) b

-- of the first label of the walk of s from w
abbrev pub nearest_first : LabelPosition → List ℕ → WalkState → ℕ → Spot
nearest_first q s w i = nearest_in q (first_from LabelElement itself s w i)

-- of the entry e with the number i, out of n
abbrev pub nearest_entry : List ℕ → ℕ → ℕ → LabelEntry → LabelPosition → Spot
nearest_entry s n i e q = nearest_in q (started_opening LabelElement itself s i (start_of (length s) n i e))
