-- What is due to a call that fills a list of entries (01, "The label index"), and what it does with the list.
use Rattle.std.specs.Prelude.{◌≡◌, List, ℕ, length}
use Rattle.std.proofs.lemmas.List.Edits.{sets}
use Rattle.elements.specs.declared.LabelPosition.{LabelPosition}
use Rattle.elements.specs.Refusals.{number_of}
use Rattle.walk_theory.specs.Index.{Filling, filled, unfilled, indexing, filling}
use Rattle.grammar.specs.Epl.{epl, origin}
use Rattle.label_index.specs.declared.entry.LabelEntry.{LabelEntry}
use Rattle.label_index.specs.declared.labels.Indexed.{Indexed}
use Rattle.label_index.specs.declared.labels.Indexed.TheVariants.{Labels, Refused}
use Rattle.label_index.specs.declared.labels.Todo.{Todo}
use Rattle.label_index.specs.Entries.{entries_from}

-- the label count, or a refusal's number and place
pub data Counted : Type 0 where
  counted : ℕ → Counted
  refused : ℕ → ℕ → Counted

-- what the code answers, a refusal by 01's number
abbrev pub counted_of : Indexed → Counted
counted_of (Labels n) = counted n
counted_of (Refused k p) = refused (number_of k) p

abbrev pub EplFilling : Type 0
EplFilling = Filling LabelPosition

-- "answer the label count"
abbrev pub answer_of : EplFilling → Counted
answer_of (filled es) = counted (length es)
answer_of (unfilled k p) = refused k p

-- the list l afterwards: "one entry a label in print order"; "The list is untouched by a refused file; entries past the
-- last label keep their values"
abbrev pub list_of : EplFilling → List LabelEntry → List LabelEntry
list_of (filled es) l = sets l 0 (entries_from es)
list_of (unfilled k p) l = l

-- what the call does with its list: l becomes n, and g is given back
pub record Indexes (n l : List LabelEntry) (f : EplFilling) (g : Counted) : Type 0 where
  pub answer : g ≡ answer_of f
  pub list : n ≡ list_of f l

-- what is due for an input s, whatever the list
abbrev pub indexing_of : List ℕ → EplFilling
indexing_of s = indexing epl origin s

-- for a list of m entries
abbrev pub filling_of : List ℕ → ℕ → EplFilling
filling_of s m = filling epl origin s m

-- ---- inner: how many entries are to be made
abbrev pub todo_of : EplFilling → ℕ
todo_of (filled es) = length es
todo_of (unfilled k p) = 0

pub record Plans (f : EplFilling) (p : Todo) : Type 0 where
  pub answers : counted_of p.answer ≡ answer_of f
  pub makes : p.todo ≡ todo_of f
