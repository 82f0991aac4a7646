-- `where_label::find::put_found`. Invariant: with the numbers that the walk still has, the list is what it shall be.
-- Measure: what is left of the walk.
use Rattle.std.proofs.Common.{◌-◌, length}
use Rattle.text.proofs.WroteTowardLaws.{Toward}
use Rattle.where_element.specs.Element.{numbers_from}
use Rattle.where_label.specs.Find.{elements_from, is_found, found_of}
use Rattle.where_label.proofs.find.put_found.Given as goal

abbrev pub invariant-loop-next : goal.invariant-loop-next
invariant-loop-next l = Toward l.list l.to (numbers_from (is_found l.l) l.here.pending (elements_from l.input l.here)) l.fn.list 0 (found_of l.l (elements_from l.input l.fn.st))

abbrev pub decreases-loop-next : goal.decreases-loop-next
decreases-loop-next l = length l.input - l.here.place
