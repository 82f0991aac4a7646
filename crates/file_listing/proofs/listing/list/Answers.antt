-- `file_listing::listing::list` meets its contract: the first pass says what is due, and only what fits is written.
-- Assumes nothing.
use Rattle.std.proofs.Common.{◌≡◌, sym, ap, ◌∙◌, refl, List, [], ℕ, length, arith}
use Rattle.elements.specs.declared.filled.Filled.{Filled}
use Rattle.elements.specs.declared.filled.Filled.TheVariants.{Bytes, Refused}
use Rattle.elements.specs.Given.{Given, needed, given_of, bytes, text}
use Rattle.elements.proofs.GivenLaws.{needed_denied, fills_denied, fills_short, fills_written, bytes≢refused, bytes_inj}
use Rattle.file_listing.specs.Listing.{due_of, FramedLabel, listing_of, listing_due, pending_at, text_from}
use Rattle.frame_bytes.specs.Frame.{frame_of}
use Rattle.walk_theory.specs.Reach.{Final, accepted, refusal}
use Rattle.walk_theory.specs.Trace.{ending, final, labels_in}
use Rattle.grammar.specs.Epl.{epl}
use Rattle.elements.specs.Walk.{fresh}
use Rattle.walk.specs.Steps.{trace_of}
use Rattle.file_listing.proofs.listing.list.Goals as goal

-- the labels that are written, where the walk lists them
due_by_final : (f : Final) (ls : List FramedLabel) (n : ℕ) → bytes n ≡ needed (listing_due (ending f ls))
    → listing_due (ending f ls) ≡ text (listing_of ls (pending_at f))
due_by_final (accepted m) ls n e = refl
due_by_final (refusal m q) ls n e = absurd (bytes≢refused e)

module _ (s : List ℕ) (n : ℕ) (e : bytes n ≡ needed (due_of s)) where
  due_text : due_of s ≡ text (text_from s fresh)
  due_text = due_by_final (final (trace_of s fresh)) (labels_in epl (List ℕ) frame_of s [] (trace_of s fresh)) n e

  due_length : n ≡ length (text_from s fresh)
  due_length = bytes_inj (e ∙ ap needed due_text)

-- what was measured, by the answer q that was matched
told : (r q : Filled) (g : Given) → r ≡ q → given_of r ≡ g → given_of q ≡ g
told r q g e h = ap given_of (sym e) ∙ h

pub returns-then-out-n : goal.returns-then-out-n
returns-then-out-n c =
    let s = c.args.input.now in
    let n = c.in-Bytes.n in
    let e = told c.measure.result (Bytes n) (needed (due_of s)) c.in-Bytes.is c.measure.ensures in
    fills_short c.args.out.now (due_text s n e) (due_length s n e) c.if-out-n.true

pub put_labels-requires : goal.put_labels-requires
put_labels-requires c =
    let s = c.args.input.now in
    let n = c.in-Bytes.n in
    omega (arith, due_length s n (told c.measure.result (Bytes n) (needed (due_of s)) c.in-Bytes.is c.measure.ensures))

pub returns-in-Refused : goal.returns-in-Refused
returns-in-Refused c =
    let s = c.args.input.now in
    let q = Refused c.in-Refused.k c.in-Refused.p in
    fills_denied c.args.out.now (needed_denied (due_of s) (told c.measure.result q (needed (due_of s)) c.in-Refused.is c.measure.ensures))

pub returns-else-out-n : goal.returns-else-out-n
returns-else-out-n c =
    let s = c.args.input.now in
    let n = c.in-Bytes.n in
    let e = told c.measure.result (Bytes n) (needed (due_of s)) c.in-Bytes.is c.measure.ensures in
    let w = c.put_labels.ensures in
    fills_written c.args.out.now (due_text s n e) (omega (arith, w.next)) (omega (arith, w.next, due_length s n e)) w.wrote.is
