-- How long a listing is, as the first pass counts it (`size_from`), is how long it is (`size_is`). Other laws of listings
-- are in ListingLaws. Assumes nothing.
use mathlib.Core.Path.{◌≡◌, sym, ap, ◌∙◌, refl}
use mathlib.Core.List.{List, [], ◌∷◌, ◌++◌}
use Prim.Native.Nat.{ℕ, ◌+◌, ◌*◌}
use native.Mathlib.Omega.{arith}
use native.Mathlib.Nat.{zero-add}
use lib.ListN.{length, length-append}
use Rattle.elements.specs.Walk.{fresh}
use Rattle.elements.specs.Given.{Given, bytes, refused, needed}
use Rattle.frame_bytes.specs.Frame.{frame_of}
use Rattle.walk_theory.specs.Reach.{Final, accepted, refusal}
use Rattle.walk_theory.specs.Trace.{stops, refuses, yields, clears, prints, ending, final, labels_in}
use Rattle.grammar.specs.Epl.{epl}
use Rattle.walk.specs.Steps.{EplTrace, trace_of}
use Rattle.file_listing.specs.Listing.{FramedLabel, lines_of, label_lines, pending_line, listing_of, listing_due, due_of}
use Rattle.file_listing.proofs.ListingLaws.{length_lines, length_label}

-- the length, as the first pass counts it: of the labels so far, and of what is pending
abbrev pub size_from : List ℕ → ℕ → ℕ → EplTrace → Given
size_from s total pend (stops n) = bytes (total + length (pending_line n))
size_from s total pend (refuses n k) = refused n k
size_from s total pend (yields e t) = size_from s total (pend + (2 * length (frame_of s e) + 1)) t
size_from s total pend (clears t) = size_from s total 0 t
size_from s total pend (prints n q t) = size_from s (total + (27 + pend)) 0 t

abbrev longer : ℕ → Given → Given
longer k (bytes n) = bytes (k + n)
longer k (refused n p) = refused n p

longer_zero : (z : Given) → longer 0 z ≡ z
longer_zero (bytes n) = ap bytes (zero-add n)
longer_zero (refused n p) = refl

size_cons : (f : Final) (k : ℕ) (l : FramedLabel) (ls : List FramedLabel) → longer k (needed (listing_due (ending f (l ∷ ls)))) ≡ longer (k + length (label_lines l)) (needed (listing_due (ending f ls)))
size_cons (accepted n) k l ls = ap bytes (omega (arith, length-append (label_lines l) (listing_of ls n)))
size_cons (refusal n p) k l ls = refl

size_trace : (s : List ℕ) (k : ℕ) (p : List (List ℕ)) (t : EplTrace) → longer k (needed (listing_due (ending (final t) (labels_in epl (List ℕ) frame_of s p t)))) ≡ size_from s k (length (lines_of p)) t
size_trace s k p (stops n) = refl
size_trace s k p (refuses n j) = refl
size_trace s k p (yields e t) = size_trace s k (p ++ (frame_of s e ∷ [])) t ∙ ap (λ (m : ℕ). size_from s k m t) (length_lines p (frame_of s e))
size_trace s k p (clears t) = size_trace s k [] t
size_trace s k p (prints n q t) =
    size_cons (final t) k (record { count = n; says = q; frames = p }) (labels_in epl (List ℕ) frame_of s [] t)
    ∙ size_trace s (k + length (label_lines (record { count = n; says = q; frames = p }))) [] t
    ∙ ap (λ (m : ℕ). size_from s (k + m) 0 t) (length_label n q p)

pub size_is : (s : List ℕ) → needed (due_of s) ≡ size_from s 0 0 (trace_of s fresh)
size_is s = sym (longer_zero (needed (due_of s))) ∙ size_trace s 0 [] (trace_of s fresh)
