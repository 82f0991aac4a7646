-- A part of the input: how the code takes it (`part_is`), its length (`part_le`, `decode_part_le`), and that it depends
-- on no other bytes (`part_local`). Other laws of frames are in FrameLaws. Assumes nothing.
use mathlib.Core.Path.{◌≡◌, sym, ap, ◌∙◌}
use mathlib.Core.List.{List, ◌++◌}
use Prim.Native.Nat.{ℕ, ◌+◌, ◌-◌, ◌*◌, ◌≤◌, min}
use native.Mathlib.Omega.{arith}
use lib.Dec.{leb}
use lib.ListN.{length, take, drop, drop_of_length-le, length-take, length-drop}
use lib.Seq.{drop-length, drop-append-add, drop-append-le, take-append-le}
use borrow.Author.Tests.{leb-true, leb-false}
use Rattle.text.specs.Utf8.{decode}
use Rattle.text.proofs.Utf8Laws.{length_decode_le}
use Rattle.text.proofs.BoolLaws.{test}
use Rattle.text.proofs.DropSteps.{rest}
use Rattle.elements.specs.Spans.{later}
use Rattle.elements.specs.declared.DataSpan.{DataSpan}
use Rattle.frame_bytes.specs.Frame.{part}

drop_min : (k : ℕ) (s : List ℕ) → drop (min k (length s)) s ≡ drop k s
drop_min k s =
    test (leb k (length s))
    (λ e. let l = leb-true k (length s) e in let m : min k (length s) ≡ k = omega arith in ap (λ (n : ℕ). drop n s) m)
    (λ e. let l = leb-false k (length s) e in let m : min k (length s) ≡ length s = omega arith in ap (λ (n : ℕ). drop n s) m ∙ drop-length s ∙ sym (drop_of_length-le s {i = k} (omega arith)))

-- as `&s[a..]` and its first bytes give it
pub part_is : (s : List ℕ) (d : DataSpan) (a : ℕ) → a ≡ min d.start (length s) → take d.len (take (length s - a) (drop a s)) ≡ part s d
part_is s d a e = ap (take d.len) (rest s a ∙ ap (λ (n : ℕ). drop n s) e ∙ drop_min d.start s)

pub part_le : (s : List ℕ) (d : DataSpan) → length (part s d) ≤ d.len
part_le s d = omega (arith, length-take d.len (drop d.start s))

-- of an input of so many bytes
pub part_in : (s : List ℕ) (d : DataSpan) → length (part s d) ≤ length s
part_in s d = omega (arith, length-take d.len (drop d.start s), length-drop d.start s)

pub decode_part_le : (s : List ℕ) (d : DataSpan) → length (decode (part s d)) ≤ 3 * d.len
decode_part_le s d = omega (arith, length_decode_le (part s d), part_le s d)

-- bytes before and after x change nothing of a part that lies in x
pub part_local : (pre x post : List ℕ) (d : DataSpan) → d.start + d.len ≤ length x → part (pre ++ (x ++ post)) (later (length pre) d) ≡ part x d
part_local pre x post d h =
    ap (take d.len) (drop-append-add pre (x ++ post) d.start ∙ drop-append-le d.start x post (omega arith))
    ∙ take-append-le d.len (drop d.start x) post (rw (length-drop d.start x) (omega arith))
