-- The entries that the loop makes are the index's (`made_entries`). Assumes nothing.
use mathlib.Core.Path.{◌≡◌, refl, ap, ◌∙◌}
use mathlib.Core.List.{List, ◌∷◌}
use Prim.Native.Nat.{ℕ, zero, suc}
use lib.ListN.{length}
use Rattle.lent_lists.specs.Filled.{made}
use Rattle.walk_theory.specs.Index.{entries}
use Rattle.walk_theory.proofs.NextLaws.{turns, turns_all}
use Rattle.walk_theory.proofs.UnrefusedLaws.{next_from_lem}
use Rattle.grammar.specs.Epl.{epl, origin}
use Rattle.grammar.proofs.FoundLaws.{reads}
use Rattle.label_index.specs.Entries.{entries_from, cursor_of, begins, next_of, WithinCursor}
use Rattle.label_index.specs.declared.entry.Cursor.{Cursor}
use Rattle.label_index.specs.declared.entry.LabelEntry.{LabelEntry}

-- a step keeps what it asks
pub stays_within : (s : List ℕ) (c : Cursor) → WithinCursor s c → WithinCursor s (next_of s c)
stays_within s c w =
    let v = next_from_lem epl reads s (cursor_of c) (record { inside = w.inside; unrefused = w.unrefused }) in
    record { short = w.short; inside = v.inside; unrefused = v.unrefused }

made_is : (s : List ℕ) (n : ℕ) (c : Cursor) → made (next_of s) (λ x. x.entry) n c ≡ entries_from (turns epl reads s n (cursor_of c))
made_is s zero c = refl
made_is s (suc n) c = ap (λ (x : List LabelEntry). (next_of s c).entry ∷ x) (made_is s n (next_of s c))

-- as many turns as there are labels make the index's entries
pub made_entries : (s : List ℕ) (n : ℕ) → n ≡ length (entries epl origin s) → made (next_of s) (λ x. x.entry) n begins ≡ entries_from (entries epl origin s)
made_entries s n e = made_is s n begins ∙ ap entries_from (turns_all epl reads s n (cursor_of begins) e)
