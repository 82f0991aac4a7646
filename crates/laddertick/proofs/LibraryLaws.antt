-- There are functions that meet the contracts (`library`): those that answer as the definitions say. What is to be shown
-- is that a refusal's number in a definition is always one of a refusal. Assumes nothing.
use mathlib.Core.Path.{◌≡◌, refl, sym, ap, subst, ◌∙◌}
use mathlib.Core.Bool.{Bool, true, false, cond, ◌&&◌, ◌||◌}
use mathlib.Core.List.{List, [], ◌∷◌, ◌++◌, map}
use mathlib.Core.Logic.{inl, inr}
use mathlib.Core.Option.{Option, none, some}
use Prim.Native.Nat.{ℕ, zero, suc, ◌+◌, ◌≤◌, ◌<◌}
use native.Mathlib.Omega.{arith}
use lib.Dec.{eqb, ltb}
use lib.ListN.{length, take, get_elem?}
use borrow.Author.Tests.{eqb-true, eqb-false, ltb-true, ltb-false}
use Rattle.text.proofs.BoolLaws.{test}
use Rattle.elements.specs.declared.filled.Filled.{Filled}
use Rattle.elements.specs.declared.filled.Filled.TheVariants as filled
use Rattle.elements.specs.declared.DataSpan.{DataSpan}
use Rattle.elements.specs.declared.LabelElement.{LabelElement}
use Rattle.elements.specs.declared.LabelPosition.{LabelPosition}
use Rattle.elements.specs.declared.PrintCounts.{PrintCounts}
use Rattle.elements.specs.declared.refusal.Refusal.{Refusal}
use Rattle.elements.specs.declared.refusal.Refusal.TheVariants.{TextFields, BarcodeFields, Barcode2dFields, LineFields, DiagonalFields, BoxFields, BarcodeType, Barcode2dType, QrData, GraphicFields, GraphicNegative, GraphicTruncated, OutOfRange, InputTooLong, OutputTooShort, StateOutside, NoValue, OutsideProfile, SizeOutside, TooManyLabels, NoSuchLabel, RectangleTurned, NotReadable}
use Rattle.elements.specs.declared.walk_state.WalkState.{WalkState}
use Rattle.elements.specs.Refusals.{number_of}
use Rattle.elements.specs.Given.{Given, bytes, refused, Due, text, denied, within, fitting, needed, stored, Fills, given_of, longest}
use Rattle.elements.specs.Walk.{fresh}
use Rattle.text.specs.Utf8.{decode}
use Rattle.frame_bytes.specs.Frame.{part, frame_of}
use Rattle.walk_theory.specs.Index as theory_index
use Rattle.walk_theory.specs.Index.{Opening, opens, denies, first_in, opening_found, opening, indexing_by}
use Rattle.walk_theory.specs.Step as theory
use Rattle.walk_theory.specs.Step.{State, step}
use Rattle.walk_theory.specs.Reach.{Final, accepted, refusal}
use Rattle.walk_theory.specs.Strict.{Along}
use Rattle.walk_theory.specs.Trace.{stops, refuses, yields, clears, prints, final, ending, left, on_answer, trace, labels_in}
use Rattle.walk_theory.proofs.RefusalLaws.{Says}
use Rattle.walk_theory.proofs.TraceLaws.{trace_is, goes_by}
use Rattle.walk_theory.proofs.TurnLaws.{step_long}
use Rattle.grammar.specs.Epl.{EplPrint, origin, epl}
use Rattle.grammar.specs.Normal.{normalised}
use Rattle.grammar.proofs.FoundLaws.{reads}
use Rattle.walk.specs.declared.answer.Answer.{Answer}
use Rattle.walk.specs.declared.answer.Answer.TheVariants.{Element, Clear, Print, End, Refused}
use Rattle.walk.specs.Steps.{EplAnswer, EplTrace, state_of, answer_of, trace_of}
use Rattle.structs.specs.declared.answer.Element as struct
use Rattle.structs.specs.Steps.{walk_of}
use Rattle.decoding.specs.Decoding as decoding
use Rattle.file_listing.specs.Listing.{FramedLabel, listing_due}
use Rattle.file_listing.specs.Listing as listing
use Rattle.format.specs.Normalise as normal
use Rattle.profile.specs.Strict.{strict, Own}
use Rattle.profile.proofs.StrictLaws.{along}
use Rattle.strict.specs.Verdict.{checked_of, strict_end}
use Rattle.strict.specs.Listing.{strict_due_of}
use Rattle.label_index.specs.declared.entry.LabelEntry.{LabelEntry}
use Rattle.label_index.specs.declared.labels.Indexed.TheVariants as indexed
use Rattle.label_index.specs.Entries.{EplEntry, entries_of}
use Rattle.label_index.specs.Plan as plan
use Rattle.label_index.specs.Plan.{EplFilling, Indexes, filling_of, counted_of}
use Rattle.label_opening.specs.Opened.{FramedOpening, opening_due}
use Rattle.label_opening.specs.Opened as opened
use Rattle.joining.specs.Join.{file_of, join_due_of, told}
use Rattle.where_element.specs.declared.place.Rectangle.{Rectangle}
use Rattle.where_element.specs.declared.found.Found.{Found}
use Rattle.where_element.specs.declared.found.Found.TheVariants as found
use Rattle.where_element.specs.Found as spots
use Rattle.where_element.specs.Found.{given_found, spot_of}
use Rattle.where_element.specs.Place.{is_turned}
use Rattle.where_element.specs.Element.{inside_of, touching_of, nearest_of}
use Rattle.where_label.specs.Found.{itself, opening_of, found_in, nearest_in, ElementOpening, inside_due, touching_due, nearest_due}
use Rattle.dots_label.specs.Conversion as conversion
use Rattle.spellings.specs.Due.{no_label, element_due}
use Rattle.spellings.specs.Spelled.{spell, spell_label}
use Rattle.spellings.specs.Writable.{writable}
use Rattle.structs_read.specs.Unflat.{element_of, standing}
use Rattle.writing_element.specs.Plain.{plain_due}
use Rattle.writing_label.specs.Label.{plain_bad, plain_label_due, at300, plain_label_due300}
use Rattle.laddertick.specs.HostContracts.{Library, Decoder, Filling, Finding, Entering}
use Rattle.laddertick.proofs.ContractsLaws.{Line, step_outside, step_inside}

-- ---- a number of a refusal
abbrev Known : ℕ → Type 0
Known n = (k : Refusal) × (number_of k ≡ n)

-- refusals with the numbers from m on
abbrev Numbered : ℕ → List Refusal → Type 0
Numbered m [] = Unit
Numbered m (k ∷ ks) = (number_of k ≡ m) × Numbered (suc m) ks

above : (m n : ℕ) → m ≤ n → (m ≡ n → ⊥) → m < n
above m n h e = test (ltb m n) (λ b. ltb-true m n b) (λ b. absurd (e (both (ltb-false m n b))))
  where
    both : n ≤ m → m ≡ n
    both k = omega arith

known_in : (ks : List Refusal) (m n : ℕ) → Numbered m ks → m ≤ n → n < m + length ks → Known n
known_in [] m n c lo hi = absurd (omega arith)
known_in (k ∷ ks) m n c lo hi =
    test (eqb m n) (λ e. (k, c.0 ∙ eqb-true m n e)) (λ e. known_in ks (suc m) n c.1 (above m n lo (eqb-false m n e)) (omega arith))

lines : List Refusal
lines = TextFields ∷ BarcodeFields ∷ Barcode2dFields ∷ LineFields ∷ DiagonalFields ∷ BoxFields ∷ BarcodeType ∷ Barcode2dType ∷ QrData ∷ GraphicFields ∷ GraphicNegative ∷ GraphicTruncated ∷ OutOfRange ∷ []

line_known : (n : ℕ) → Line n → Known n
unfolding lines
line_known n (inl h) = known_in lines 1 n (refl, (refl, (refl, (refl, (refl, (refl, (refl, (refl, (refl, (refl, (refl, (refl, (refl, tt))))))))))))) h.0 (below n h.1)
  where
    below : (n : ℕ) → n ≤ 13 → n < 14
    below n h = omega arith
line_known n (inr e) = (SizeOutside, sym e)

own_known : (n : ℕ) → Own n → Known n
own_known n (inl e) = (NoValue, sym e)
own_known n (inr e) = (OutsideProfile, sym e)

-- ---- steps
says_known : (a : EplAnswer) → Says Line a → Says Known a
says_known (theory.element e st) h = tt
says_known (theory.cleared st) h = tt
says_known (theory.printed n q st) h = tt
says_known (theory.ended st) h = tt
says_known (theory.refused n p st) h = line_known n h

step_known : (s : List ℕ) (w : WalkState) → Says Known (step epl s (state_of w))
step_known s w =
    test (ltb longest (length s))
    (λ e. subst (Says Known) (sym (step_long epl s (state_of w) (ltb-true longest (length s) e))) (InputTooLong, refl))
    (λ e. short (ltb-false longest (length s) e))
  where
    out : Known 16
    out = (StateOutside, refl)

    short : length s ≤ longest → Says Known (step epl s (state_of w))
    short h =
        test (ltb (length s) w.place) (λ e. subst (Says Known) (sym (step_outside s w h (inl (ltb-true (length s) w.place e)))) out)
        (λ e. test (ltb w.place w.pending) (λ f. subst (Says Known) (sym (step_outside s w h (inr (ltb-true w.place w.pending f)))) out)
        (λ f. says_known (step epl s (state_of w)) (step_inside s (state_of w) (record { short = h; inside = ltb-false (length s) w.place e; counted = ltb-false w.place w.pending f }))))

answering : (a : EplAnswer) → Says Known a → (r : Answer) × (answer_of r ≡ a)
answering (theory.element e st) h = (Element (walk_of st) e, refl)
answering (theory.cleared st) h = (Clear (walk_of st), refl)
answering (theory.printed n q st) h = (Print (walk_of st) (record { count = n; counts = q }), refl)
answering (theory.ended st) h = (End (walk_of st), refl)
answering (theory.refused n p st) h = (Refused (walk_of st) h.0 p, λ i. theory.refused (h.1 i) p st)

-- ---- walks
abbrev TraceKnown : EplTrace → Type 0
TraceKnown (stops n) = Unit
TraceKnown (refuses n k) = Known n
TraceKnown (yields e t) = TraceKnown t
TraceKnown (clears t) = TraceKnown t
TraceKnown (prints n q t) = TraceKnown t

trace_by : (k : ℕ) (s : List ℕ) (st : State LabelPosition) → left s st < k → TraceKnown (trace epl s st)
trace_by zero s st h = absurd (omega arith)
trace_by (suc k) s st h = subst TraceKnown (sym (trace_is epl reads s st)) (by (λ st' l. trace_by k s st' l) (step epl s st) refl)
  where
    by : ((st' : State LabelPosition) → left s st' < k → TraceKnown (trace epl s st')) → (a : EplAnswer) → step epl s st ≡ a → TraceKnown (on_answer epl (trace epl s) a)
    by again (theory.element x st') e = let g = goes_by epl reads s st (theory.element x st') (sym e) in again st' (omega (arith, g.1, g.2))
    by again (theory.cleared st') e = let g = goes_by epl reads s st (theory.cleared st') (sym e) in again st' (omega (arith, g.1, g.2))
    by again (theory.printed n q st') e = let g = goes_by epl reads s st (theory.printed n q st') (sym e) in again st' (omega (arith, g.1, g.2))
    by again (theory.ended st') e = tt
    by again (theory.refused n p st') e = subst (Says Known) e (step_known s (walk_of st))

trace_known : (s : List ℕ) (st : State LabelPosition) → TraceKnown (trace epl s st)
trace_known s st = trace_by (suc (left s st)) s st (omega arith)

abbrev FinalKnown : Final → Type 0
FinalKnown (accepted n) = Unit
FinalKnown (refusal n p) = Known n

final_known : (t : EplTrace) → TraceKnown t → FinalKnown (final t)
final_known (stops n) h = tt
final_known (refuses n k) h = h
final_known (yields e t) h = final_known t h
final_known (clears t) h = final_known t h
final_known (prints n q t) h = final_known t h

plain_known : (s : List ℕ) → FinalKnown (final (trace_of s fresh))
plain_known s = final_known (trace_of s fresh) (trace_known s (state_of fresh))

strict_known : (s : List ℕ) → FinalKnown (strict_end s)
strict_known s = by (along s (state_of fresh))
  where
    by : Along Own (trace_of s fresh) (trace strict s (state_of fresh)) → FinalKnown (strict_end s)
    by (inl q) = subst FinalKnown (ap final q) (plain_known s)
    by (inr h) = subst FinalKnown (sym h.3) (own_known h.0 h.2)

-- ---- what is due
abbrev DueKnown : Due → Type 0
DueKnown (text t) = Unit
DueKnown (denied n p) = Known n

cond_known : (b : Bool) (x y : Due) → DueKnown x → DueKnown y → DueKnown (cond b x y)
cond_known true x y h k = h
cond_known false x y h k = k

within_known : (s : List ℕ) (d : Due) → DueKnown d → DueKnown (within longest s d)
within_known s d h = cond_known (ltb longest (length s)) (denied 14 0) d (InputTooLong, refl) h

listing_known : (f : Final) (ls : List FramedLabel) → FinalKnown f → DueKnown (listing_due (ending f ls))
listing_known (accepted n) ls h = tt
listing_known (refusal n p) ls h = h

text_or_23 : (b : Bool) (t : List ℕ) → DueKnown (cond b (text t) (denied 23 0))
text_or_23 b t = cond_known b (text t) (denied 23 0) tt (NotReadable, refl)

element_known : (s : List ℕ) (e : LabelElement) → DueKnown (element_due s e)
unfolding element_due
element_known s e = within_known s (cond (writable s e) (text (spell s e)) (denied 23 0)) (text_or_23 (writable s e) (spell s e))

plain_due_known : (s : List ℕ) (x : struct.Element) → DueKnown (plain_due s x)
unfolding plain_due
plain_due_known s x =
    within_known s (cond (standing x && writable s (element_of x)) (text (spell s (element_of x))) (denied 23 0))
    (text_or_23 (standing x && writable s (element_of x)) (spell s (element_of x)))

label_known : (s : List ℕ) (xs : List struct.Element) (q : PrintCounts) → DueKnown (plain_label_due s xs q)
unfolding plain_label_due
label_known s xs q =
    let whole = cond (no_label (length xs) q) (denied 23 (length xs)) (text (spell_label s (map element_of xs) q)) in
    within_known s (cond (ltb (plain_bad s xs) (length xs)) (denied 23 (plain_bad s xs)) whole)
    (cond_known (ltb (plain_bad s xs) (length xs)) (denied 23 (plain_bad s xs)) whole (NotReadable, refl)
    (cond_known (no_label (length xs) q) (denied 23 (length xs)) (text (spell_label s (map element_of xs) q)) (NotReadable, refl) tt))

-- ---- opening
module _ (F : Type 0) (frame : List ℕ → LabelElement → F) where
  abbrev OpeningKnown : Opening F EplPrint → Type 0
  OpeningKnown (opens l) = Unit
  OpeningKnown (denies n p) = Known n

  either_known : (b : Bool) (x y : Opening F EplPrint) → OpeningKnown x → OpeningKnown y → OpeningKnown (cond b x y)
  either_known true x y h k = h
  either_known false x y h k = k

  first_known : (i : ℕ) (s : List ℕ) (p : List F) (t : EplTrace) → TraceKnown t → OpeningKnown (first_in epl F frame i s p t)
  first_known i s p (stops n) h = (NoSuchLabel, refl)
  first_known i s p (refuses n k) h = h
  first_known i s p (yields e t) h = first_known i s (p ++ (frame s e ∷ [])) t h
  first_known i s p (clears t) h = first_known i s [] t h
  first_known i s p (prints n q t) h = tt

  found_known : (i : ℕ) (s : List ℕ) (e : Option EplEntry) → OpeningKnown (opening_found epl F frame i s e)
  found_known i s none = (NoSuchLabel, refl)
  found_known i s (some e) =
      either_known (ltb (length s) e.upto || ltb e.upto e.from) (denies 16 e.upto)
      (first_in epl F frame i (take e.upto s) [] (trace epl (take e.upto s) (theory.state e.from e.start 0))) (StateOutside, refl)
      (first_known i (take e.upto s) [] (trace epl (take e.upto s) (theory.state e.from e.start 0)) (trace_known (take e.upto s) (theory.state e.from e.start 0)))

  opening_known : (s : List ℕ) (es : List EplEntry) (i : ℕ) → OpeningKnown (opening epl F frame s es i)
  opening_known s es i = either_known (ltb longest (length s)) (denies 14 0) (opening_found epl F frame i s (get_elem? es i)) (InputTooLong, refl) (found_known i s (get_elem? es i))

opened_known : (o : FramedOpening) → OpeningKnown (List ℕ) frame_of o → DueKnown (opening_due o)
opened_known (opens l) h = tt
opened_known (denies n p) h = h

numbers_known : (f : List LabelElement → List ℕ) (o : ElementOpening) → OpeningKnown LabelElement itself o → DueKnown (found_in f o)
numbers_known f (opens l) h = tt
numbers_known f (denies n p) h = h

checked_known : (s : List ℕ) (b : Rectangle) (d : Due) → DueKnown d → DueKnown (within longest s (cond (is_turned b) (denied 22 0) d))
checked_known s b d h = within_known s (cond (is_turned b) (denied 22 0) d) (cond_known (is_turned b) (denied 22 0) d (RectangleTurned, refl) h)

-- ---- calls
abbrev GivenKnown : Given → Type 0
GivenKnown (bytes n) = Unit
GivenKnown (refused n p) = Known n

fitting_known : (d : Due) (m : ℕ) → DueKnown d → GivenKnown (needed (fitting d m))
fitting_known (text t) m h = by (ltb m (length t))
  where
    by : (b : Bool) → GivenKnown (needed (cond b (denied 15 (length t)) (text t)))
    by true = (OutputTooShort, refl)
    by false = tt
fitting_known (denied n p) m h = h

giving : (g : Given) → GivenKnown g → (r : Filled) × (given_of r ≡ g)
giving (bytes n) h = (filled.Bytes n, refl)
giving (refused n p) h = (filled.Refused h.0 p, λ i. refused (h.1 i) p)

finding : (g : Given) → GivenKnown g → (r : Found) × (given_found r ≡ g)
finding (bytes n) h = (found.Number n, refl)
finding (refused n p) h = (found.Refused h.0 p, λ i. refused (h.1 i) p)

fills : (d : Due) → DueKnown d → (l : List ℕ) → (c : Filling) × Fills c.buffer l d (given_of c.answer)
fills d h l =
    let r = giving (needed (fitting d (length l))) (fitting_known d (length l) h) in
    (record { answer = r.0; buffer = stored (fitting d (length l)) l }, record { answer = r.1; buffer = refl })

finds : (d : Due) → DueKnown d → (l : List ℕ) → (c : Finding) × Fills c.list l d (given_found c.answer)
finds d h l =
    let r = finding (needed (fitting d (length l))) (fitting_known d (length l) h) in
    (record { answer = r.0; list = stored (fitting d (length l)) l }, record { answer = r.1; buffer = refl })

abbrev FillingKnown : EplFilling → Type 0
FillingKnown (theory_index.filled es) = Unit
FillingKnown (theory_index.unfilled n p) = Known n

into_known : (m : ℕ) (es : List EplEntry) (f : Final) → FinalKnown f → FillingKnown (theory_index.into m (indexing_by es f))
into_known m es (refusal n p) h = h
into_known m es (accepted n) h = by (ltb m (length es))
  where
    by : (b : Bool) → FillingKnown (cond b (theory_index.unfilled 20 (length es)) (theory_index.filled es))
    by true = (TooManyLabels, refl)
    by false = tt

enters : (f : EplFilling) → FillingKnown f → (l : List LabelEntry) → (c : Entering) × Indexes c.list l f (counted_of c.answer)
enters (theory_index.filled es) h l = (record { answer = indexed.Labels (length es); list = plan.list_of (theory_index.filled es) l }, record { answer = refl; list = refl })
enters (theory_index.unfilled n p) h l = (record { answer = indexed.Refused h.0 p; list = l }, record { answer = λ i. plan.refused (h.1 i) p; list = refl })

nears : (q : LabelPosition) (o : ElementOpening) → OpeningKnown LabelElement itself o → (r : Found) × (spot_of r ≡ nearest_in q o)
nears q (opens l) h = (found.Number (nearest_of q l.frames), refl)
nears q (denies n p) h = (found.Refused h.0 p, λ i. spots.refused (h.1 i) p)

-- ---- what each call is due
steps_by : (s : List ℕ) (w : WalkState) → (r : Answer) × (answer_of r ≡ step epl s (state_of w))
steps_by s w = answering (step epl s (state_of w)) (step_known s w)

lists_by : (s l : List ℕ) → (c : Filling) × Fills c.buffer l (listing.due_of s) (given_of c.answer)
lists_by s l = fills (listing.due_of s) (listing_known (final (trace_of s fresh)) (labels_in epl (List ℕ) frame_of s [] (trace_of s fresh)) (plain_known s)) l

normalises_by : (s l : List ℕ) → (c : Filling) × Fills c.buffer l (normal.due_of s) (given_of c.answer)
normalises_by s l = fills (normal.due_of s) (within_known s (text (normalised s)) tt) l

decodes_by : (s : List ℕ) (d : DataSpan) (l : List ℕ) → (c : Filling) × Fills c.buffer l (decoding.due_of s d) (given_of c.answer)
decodes_by s d l = fills (decoding.due_of s d) (within_known s (text (decode (part s d))) tt) l

strictly_by : (s l : List ℕ) → (c : Filling) × Fills c.buffer l (strict_due_of s) (given_of c.answer)
strictly_by s l = fills (strict_due_of s) (listing_known (strict_end s) (labels_in strict (List ℕ) frame_of s [] (trace strict s (state_of fresh))) (strict_known s)) l

indexes_by : (s : List ℕ) (l : List LabelEntry) → (c : Entering) × Indexes c.list l (filling_of s (length l)) (counted_of c.answer)
indexes_by s l = enters (filling_of s (length l)) (into_known (length l) (theory_index.entries epl origin s) (final (trace_of s fresh)) (plain_known s)) l

opens_by : (s : List ℕ) (es : List LabelEntry) (i : ℕ) (l : List ℕ) → (c : Filling) × Fills c.buffer l (opened.due_of s es i) (given_of c.answer)
opens_by s es i l = fills (opened.due_of s es i) (opened_known (opened.opening_of s es i) (opening_known (List ℕ) frame_of s (entries_of es) i)) l

inside_by : (s : List ℕ) (es : List LabelEntry) (i : ℕ) (b : Rectangle) (l : List ℕ) → (c : Finding) × Fills c.list l (inside_due s es i b) (given_found c.answer)
inside_by s es i b l = finds (inside_due s es i b) (checked_known s b (found_in (inside_of b) (opening_of s es i)) (numbers_known (inside_of b) (opening_of s es i) (opening_known LabelElement itself s (entries_of es) i))) l

touching_by : (s : List ℕ) (es : List LabelEntry) (i : ℕ) (b : Rectangle) (l : List ℕ) → (c : Finding) × Fills c.list l (touching_due s es i b) (given_found c.answer)
touching_by s es i b l = finds (touching_due s es i b) (checked_known s b (found_in (touching_of b) (opening_of s es i)) (numbers_known (touching_of b) (opening_of s es i) (opening_known LabelElement itself s (entries_of es) i))) l

nearest_by : (s : List ℕ) (es : List LabelEntry) (i : ℕ) (q : LabelPosition) → (r : Found) × (spot_of r ≡ nearest_due s es i q)
nearest_by s es i q = nears q (opening_of s es i) (opening_known LabelElement itself s (entries_of es) i)

pub library : Library
library = record {
  step = λ s w. (steps_by s w).0;
  list = λ s l. (lists_by s l).0;
  normalise = λ s l. (normalises_by s l).0;
  check = checked_of;
  strict_list = λ s l. (strictly_by s l).0;
  index = λ s l. (indexes_by s l).0;
  open_label = λ s es i l. (opens_by s es i l).0;
  inside = λ s es i b l. (inside_by s es i b l).0;
  touching = λ s es i b l. (touching_by s es i b l).0;
  nearest = λ s es i q. (nearest_by s es i q).0;
  to_300 = λ s es i l. let c = conversion.conversion_of s es i (length l) in record { answer = conversion.answer_of c; list = conversion.list_of c l };
  write = λ s e l. (fills (element_due s e) (element_known s e) l).0;
  write_plain = λ s x l. (fills (plain_due s x) (plain_due_known s x) l).0;
  write_label = λ s xs q l. (fills (plain_label_due s xs q) (label_known s xs q) l).0;
  write_label_300 = λ s xs q l. (fills (plain_label_due300 s xs q) (label_known s (map at300 xs) q) l).0;
  steps = λ s w. (steps_by s w).1;
  lists = λ s l. (lists_by s l).1;
  normalises = λ s l. (normalises_by s l).1;
  checks = λ s. refl;
  strictly_lists = λ s l. (strictly_by s l).1;
  indexes = λ s l. (indexes_by s l).1;
  opens = λ s es i l. (opens_by s es i l).1;
  join = λ s t l. record { answer = told (file_of s t) (needed (fitting (join_due_of s t) (length l))); buffer = stored (fitting (join_due_of s t) (length l)) l };
  unites = λ s t l. record { answers = refl; buffer = refl };
  insides = λ s es i b l. (inside_by s es i b l).1;
  touches = λ s es i b l. (touching_by s es i b l).1;
  nears = λ s es i q. (nearest_by s es i q).1;
  converts = λ s es i l. record { answer = refl; list = refl };
  writes = λ s e l. (fills (element_due s e) (element_known s e) l).1;
  writes_plain = λ s x l. (fills (plain_due s x) (plain_due_known s x) l).1;
  writes_label = λ s xs q l. (fills (plain_label_due s xs q) (label_known s xs q) l).1;
  writes_label_300 = λ s xs q l. (fills (plain_label_due300 s xs q) (label_known s (map at300 xs) q) l).1;
}

pub decoder : Decoder
decoder = record { decode = λ s d l. (decodes_by s d l).0; decodes = λ s d l. (decodes_by s d l).1 }
