-- What a call that writes an element or a label is due (01, "Writing EPL"): the text, or the refusal by number and
-- place. 15 comes with the buffer (`Fills`, crate `elements`).
use Rattle.std.specs.Prelude.{Bool, cond, ◌||◌, List, [], ◌∷◌, ℕ, zero, suc, eqb, ltb, pos, length}
use Rattle.std.specs.Int.Signed.{lt_z}
use Rattle.elements.specs.declared.LabelElement.{LabelElement}
use Rattle.elements.specs.declared.PrintCounts.{PrintCounts}
use Rattle.elements.specs.Given.{Due, text, denied, within, longest}
use Rattle.spellings.specs.Spelled.{spell, spell_label}
use Rattle.spellings.specs.Writable.{writable}

-- "23 (place: its number in the label, 0 if alone)"; 14 first
unfoldable pub element_due : List ℕ → LabelElement → Due
element_due s e = within longest s (cond (writable s e) (text (spell s e)) (denied 23 0))

-- the number of the first element that is not writable, or how many there are
abbrev pub first_bad : List ℕ → List LabelElement → ℕ
first_bad s [] = zero
first_bad s (e ∷ es) = cond (writable s e) (suc (first_bad s es)) zero

-- "A label with no element, more than 16,777,216 elements or a negative count", n being how many elements it has
abbrev pub no_label : ℕ → PrintCounts → Bool
no_label n q = eqb n 0 || ltb longest n || lt_z q.sets (pos 0) || lt_z q.copies (pos 0)

-- ".. is 23 too, after its elements (place: its element count)"
unfoldable pub label_due : List ℕ → List LabelElement → PrintCounts → Due
label_due s es q =
    within longest s
    (cond (ltb (first_bad s es) (length es)) (denied 23 (first_bad s es))
    (cond (no_label (length es) q) (denied 23 (length es)) (text (spell_label s es q))))
