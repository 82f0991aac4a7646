-- Twice one byte, side by side.
use Rattle.std.proofs.Common.{refl}
use Rattle.text.proofs.WordLaws.{word_two}
use Rattle.byte_slices.proofs.word.two.Goals as goal

pub returns-clause-word : goal.returns-clause-word
returns-clause-word c = word_two c.one.ensures.word c.one-2.ensures.word refl
