-- A language of units whose elements carry the place of their unit's first byte, blanks included: 0 in the unit itself,
-- and moved as the element is.
use Rattle.std.specs.Prelude.{ℕ, ◌+◌}
use Rattle.walk_theory.specs.Language.{Act, keep, clear, yield, print, outside, Language}

pub record Placed (E : Type 0) : Type 0 where
  pub place : ℕ
  pub element : E

abbrev pub placed_act : {R E P : Type 0} → Act R E P → Act R (Placed E) P
placed_act (keep r) = keep r
placed_act (clear r) = clear r
placed_act (yield e) = yield (record { place = 0; element = e })
placed_act (print q) = print q
placed_act (outside n) = outside n

abbrev pub placed : Language → Language
placed L =
    record {
      U = L.U;
      R = L.R;
      E = Placed L.E;
      P = L.P;
      bytes = L.bytes;
      Stands = L.Stands;
      first = L.first;
      act = λ r u. placed_act (L.act r u);
      shifted = λ at d. record { place = at + d.place; element = L.shifted at d.element };
    }
