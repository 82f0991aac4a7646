-- Twice two bytes, side by side.
use Rattle.std.proofs.Common.{refl}
use Rattle.text.proofs.WordLaws.{word_four}
use Rattle.byte_slices.proofs.word.four.Goals as goal

pub returns-clause-word : goal.returns-clause-word
returns-clause-word c = word_four c.two.ensures.word c.two-2.ensures.word refl
