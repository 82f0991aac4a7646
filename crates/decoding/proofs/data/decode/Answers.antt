-- `decoding::data::decode` meets its contract: 14, 15, or the bytes are written. Assumes nothing.
use Rattle.std.proofs.Common.{◌≡◌, ap, ◌∙◌, List, ℕ, ◌≤◌, min, length, drop, length-take, length-drop, arith}
use Rattle.std.proofs.lemmas.List.Edits.{sets}
use Rattle.text.specs.Utf8.{decode}
use Rattle.text.proofs.Utf8Laws.{length_decode_le}
use Rattle.frame_bytes.specs.Frame.{part}
use Rattle.elements.specs.declared.DataSpan.{DataSpan}
use Rattle.elements.specs.Given.{text, longest}
use Rattle.elements.proofs.GivenLaws.{within_long, within_short, fills_denied, fills_short, fills_written}
use Rattle.decoding.proofs.data.decode.Goals as goal

-- p is the data, and n its length as it was measured
measured : (s : List ℕ) (d : DataSpan) (p : List ℕ) (n : ℕ) → length s ≤ longest → p ≡ part s d → n ≡ min 50331648 (length (decode p))
    → n ≡ length (decode (part s d))
measured s d p n h at m =
    m ∙ ap (λ (x : List ℕ). min 50331648 (length (decode x))) at
    ∙ omega (arith, length_decode_le (part s d), length-take d.len (drop d.start s), length-drop d.start s)

pub returns-then-input-gt-LONGEST : goal.returns-then-input-gt-LONGEST
returns-then-input-gt-LONGEST c =
    let s = c.args.input.now in
    fills_denied c.args.out.now (within_long longest s (text (decode (part s c.args.d))) c.if-input-gt-LONGEST.true)

pub returns-then-out-n : goal.returns-then-out-n
returns-then-out-n c =
    let s = c.args.input.now in
    let d = c.args.d in
    let h = c.if-input-gt-LONGEST.false in
    fills_short c.args.out.now (within_short longest s (text (decode (part s d))) h)
    (measured s d c.part-p.result.now c.decoded_len-n.result h c.part-p.ensures c.decoded_len-n.ensures) c.if-out-n.true

pub write_decoded-requires : goal.write_decoded-requires
write_decoded-requires c =
    let s = c.args.input.now in
    let d = c.args.d in
    let e = measured s d c.part-p.result.now c.decoded_len-n.result c.if-input-gt-LONGEST.false c.part-p.ensures c.decoded_len-n.ensures in
    omega (arith, ap (λ (x : List ℕ). length (decode x)) c.part-p.ensures)

pub returns : goal.returns
returns c =
    let s = c.args.input.now in
    let d = c.args.d in
    let h = c.if-input-gt-LONGEST.false in
    fills_written c.args.out.now (within_short longest s (text (decode (part s d))) h)
    (measured s d c.part-p.result.now c.decoded_len-n.result h c.part-p.ensures c.decoded_len-n.ensures) c.if-out-n.false
    (c.write_decoded.ensures.is ∙ ap (λ (x : List ℕ). sets c.args.out.now 0 (decode x)) c.part-p.ensures)
