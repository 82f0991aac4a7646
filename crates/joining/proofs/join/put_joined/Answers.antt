-- `joining::join::put_joined`: the first text, the line and the second text are put one behind the other.
use Rattle.std.proofs.Common.{refl, sym, [], ◌∷◌, append-nil}
use Rattle.text.proofs.WroteTowardLaws.{begin, put, finish}
use Rattle.grammar.specs.Normal.{normalised}
use Rattle.joining.specs.Join.{joined_text}
use Rattle.joining.proofs.join.put_joined.Goals as goal

pub returns : goal.returns
returns c =
    let a = c.args in
    let t = normalised a.second.now in
    let one = put (begin a.out.now 0 (joined_text a.first.now a.second.now)) (78 ∷ 10 ∷ t) refl c.put_chunks-end.ensures in
    let two = put one t refl c.put_ended-next.ensures in
    finish (put two [] (sym (append-nil t)) c.put_chunks.ensures) refl
