-- Twice four bytes, side by side.
use Rattle.std.proofs.Common.{refl}
use Rattle.text.proofs.WordLaws.{word_eight}
use Rattle.byte_slices.proofs.word.eight.Goals as goal

pub returns : goal.returns
returns c = word_eight c.four.ensures.word c.four-2.ensures.word refl
