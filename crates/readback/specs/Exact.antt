-- 01, "Writing EPL": "an element that no single line or block of any length, read at reference 0,0, yields": what it
-- is to be yielded.
use Rattle.std.specs.Prelude.{◌≡◌, List, ℕ, length}
use Rattle.elements.specs.declared.LabelElement.{LabelElement}
use Rattle.elements.specs.Spans.{In}
use Rattle.walk_theory.specs.Language.{yield}
use Rattle.grammar.specs.Units.{EplUnit, bytes, Stands}
use Rattle.grammar.specs.Epl.{origin, acts}
use Rattle.readback.specs.Shown.{shown}

-- its data lies in s, and some unit yields it at 0,0, data compared by bytes
pub record Yieldable (s : List ℕ) (e : LabelElement) : Type 0 where
  pub within : In (length s) e
  pub unit : EplUnit
  pub rest : List ℕ
  pub stands : Stands unit rest
  pub it : LabelElement
  pub yields : acts origin unit ≡ yield it
  pub same : shown (bytes unit) it ≡ shown s e
