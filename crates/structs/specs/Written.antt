-- The flat answer to a call that fills a lent buffer or list (01, "Who causes which number").
use Rattle.std.specs.Prelude.{cond, eqb}
use Rattle.elements.specs.Given.{Given, bytes, refused}
use Rattle.label_index.specs.Plan as index
use Rattle.label_index.specs.Plan.{Counted, counted}
use Rattle.where_element.specs.Found as spots
use Rattle.where_element.specs.Found.{Spot}
use Rattle.structs.specs.declared.written.Written.{Written}

-- number 0 is a length, any other a refusal
abbrev pub given_flat : Written → Given
given_flat r = cond (eqb r.number 0) (bytes r.place) (refused r.number r.place)

-- the same of a label count
abbrev pub counted_flat : Written → Counted
counted_flat r = cond (eqb r.number 0) (counted r.place) (index.refused r.number r.place)

-- the same of an element's number
abbrev pub spot_flat : Written → Spot
spot_flat r = cond (eqb r.number 0) (spots.element r.place) (spots.refused r.number r.place)
