-- What a call that writes a host's struct is due (01, "Writing EPL"): "23 (place: its number in the label, 0 if alone)
-- an element that no single line or block of any length, read at reference 0,0, yields". A struct that no element has
-- is none, so no line yields it; of any other this is `element_due` of its element (`PlainLaws`).
use Rattle.std.specs.Prelude.{cond, ◌&&◌, List, ℕ}
use Rattle.elements.specs.Given.{Due, text, denied, within, longest}
use Rattle.structs.specs.declared.answer.Element.{Element}
use Rattle.spellings.specs.Spelled.{spell}
use Rattle.spellings.specs.Writable.{writable}
use Rattle.structs_read.specs.Unflat.{element_of, standing}

unfoldable pub plain_due : List ℕ → Element → Due
plain_due s x =
    within longest s
    (cond (standing x && writable s (element_of x)) (text (spell s (element_of x))) (denied 23 0))
