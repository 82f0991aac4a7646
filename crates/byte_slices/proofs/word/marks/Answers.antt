-- Each operation works on each byte apart (`word_marks`).
use Rattle.text.proofs.WordLaws.{rep, zero_marks, word_marks}
use Rattle.byte_slices.proofs.word.marks.Goals as goal

pub returns : goal.returns
unfolding zero_marks rep
returns c = word_marks c.eight.ensures c.wide.ensures.value c.wide.ensures.upper_bound
