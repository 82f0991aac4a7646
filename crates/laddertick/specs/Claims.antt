-- What is claimed of the entry points: of any functions that meet their contracts (`Library`), as the code is proved
-- to (`Proved`).
-- Read first; each name leads to its definition. Quoted words are those of the three demands, or of 01.
use Rattle.std.specs.Prelude.{◌≡◌, true, false, ◌&&◌, List, [], ◌∷◌, ◌++◌, ◌↔◌, ◌⊎◌, ℕ, ◌+◌, ◌*◌, ◌/◌, ◌^◌, ◌≤◌, ◌<◌, ℤ, pos, negsuc, nat_abs, ◌-ℤ◌, length, take, drop}
use Rattle.std.proofs.Math.Option.{some}
use Rattle.std.specs.Int.Signed.{le_z, lt_z}
use Rattle.std.specs.Float.{binary64}
use Rattle.std.specs.Float.Ieee.{of_int}
use Rattle.std.proofs.Math.ListN.{get_elem?}
use Rattle.text.specs.Blank.{drop_both, is_white_space, trim}
use Rattle.text.specs.Utf8.{code_points, decode}
use Rattle.numbers.specs.Int.{in32}
use Rattle.numbers.specs.Number.{field_number, field_or}
use Rattle.numbers.specs.declared.number.Number.{Number}
use Rattle.texts.specs.Font.{width_of}
use Rattle.elements.specs.declared.filled.Filled.TheVariants as filled
use Rattle.elements.specs.declared.LabelElement.{LabelElement}
use Rattle.elements.specs.declared.LabelPosition.{LabelPosition}
use Rattle.elements.specs.declared.PrintCounts.{PrintCounts}
use Rattle.elements.specs.declared.DataSpan.{DataSpan}
use Rattle.elements.specs.declared.refusal.Refusal.{Refusal}
use Rattle.elements.specs.declared.refusal.Refusal.TheVariants.{OutOfRange, SizeOutside}
use Rattle.elements.specs.declared.walk_state.WalkState.{WalkState}
use Rattle.elements.specs.Refusals.{number_of}
use Rattle.elements.specs.Spans.{In}
use Rattle.elements.specs.Walk.{fresh}
use Rattle.frame_bytes.specs.Frame.{be32, head, frame_of}
use Rattle.parameters.specs.declared.reading.LineReading.TheVariants as reading
use Rattle.command_letters.specs.declared.command.Command.{Command}
use Rattle.command_letters.specs.Command.{command_of}
use Rattle.commands.specs.Line.{read_line}
use Rattle.walk_theory.specs.Language.{bad, yield, outside}
use Rattle.walk_theory.specs.Division.{Division}
use Rattle.elements.specs.Given.{longest}
use Rattle.walk_theory.specs.Step.{State, element, cleared, printed, ended, refused}
use Rattle.walk_theory.specs.Reach.{Final, accepted, refusal}
use Rattle.walk_theory.specs.Trace.{listed}
use Rattle.walk_theory.specs.Normal.{each}
use Rattle.walk_theory.specs.Index.{Along, EntryOf, opens}
use Rattle.walk_theory.specs.Labels.{Label}
use Rattle.text.specs.Ascii.{ascii, spelt}
use Rattle.grammar.specs.WellFormed.{well_formed, fault_of}
use Rattle.grammar.specs.Units.{Header, EplUnit, block, line, last, bytes, Stands}
use Rattle.grammar.specs.Found.{first}
use Rattle.grammar.specs.Epl.{EplPrint, origin, acts, epl}
use Rattle.grammar.specs.Spelled.{Spells}
use Rattle.grammar.specs.Ranges.{AllFit, OneOut, numbers_of, sums_of, sizes_of, Beyond, Beyond13}
use Rattle.grammar.specs.Ranges.{ref_after, InRange, role_of, Does}
use Rattle.grammar.specs.Shapes.{kind_of, place_of, Shape}
use Rattle.grammar.specs.NumberField.{Held, NumberField}
use Rattle.grammar.specs.LineFaults.{LineFault}
use Rattle.grammar.specs.Faults.{Fault}
use Rattle.grammar.specs.Divided.{labels_by, pending_by, Earliest, together}
use Rattle.grammar.specs.Becomes.{Becomes}
use Rattle.grammar.specs.Normal.{blocks, normalised}
use Rattle.walk.specs.declared.answer.Answer.{Answer}
use Rattle.walk.specs.declared.answer.Answer.TheVariants.{Element, End, Refused}
use Rattle.walk.specs.Steps.{EplAnswer, state_of, answer_of}
use Rattle.structs.specs.declared.answer.Element as struct
use Rattle.structs.specs.Flat.{flat_element}
use Rattle.structs.specs.Steps.{walk_of, flat_of}
use Rattle.structs.specs.Frames.{frame_flat, answer_frame, state_in}
use Rattle.file_listing.specs.Listing.{FramedLabel, label_lines, listing_of, outcome_of, due_of}
use Rattle.file_listing.specs.Printing.{refusal_line, printed_of, shown_of, shown_for}
use Rattle.profile.specs.Asks.{InProfile, Objected}
use Rattle.profile.specs.Strict.{Own}
use Rattle.strict.specs.declared.verdict.Checked.{Checked}
use Rattle.label_index.specs.declared.entry.LabelEntry.{LabelEntry}
use Rattle.label_index.specs.declared.labels.Indexed.TheVariants as indexed
use Rattle.label_index.specs.Entries.{entries_of}
use Rattle.where_element.specs.declared.place.Rectangle.{Rectangle}
use Rattle.where_element.specs.Place.{is_turned, is_inside, is_touching, Shared, distance}
use Rattle.where_element.specs.Element.{position_of, is_on, inside_of, touching_of, distances, FirstLeast}
use Rattle.where_element.specs.declared.found.Found.TheVariants as found
use Rattle.where_element.specs.Found as spots
use Rattle.where_element.specs.Found.{spot_of}
use Rattle.where_label.specs.Found.{itself, opening_of}
use Rattle.walk_theory.specs.Index as theory
use Rattle.label_opening.specs.Opened as opening
use Rattle.dots.specs.declared.element.Element300.{Element300}
use Rattle.dots.specs.Length.{Near, Nearest, to300}
use Rattle.dots_label.specs.Conversion.{Drawn}
use Rattle.dots_label.specs.Promise.{Denied, Resolved}
use Rattle.laddertick.specs.Framed.{Framed}
use Rattle.laddertick.specs.Converted as converted
use Rattle.laddertick.specs.HostContracts.{Library, Decoder, Filling, Denies, Gives}
use Rattle.laddertick.specs.HostContracts.{DeniesList, GivesEntries, JoinDenies, JoinGives}
use Rattle.laddertick.specs.HostContracts.{DeniesNumbers, GivesNumbers}
use Rattle.laddertick.specs.Proved.{Proved}
use Rattle.laddertick.specs.Walked.{Walked, answered, Outside}
use Rattle.laddertick.specs.Coloured.{Coloured}
use Rattle.laddertick.specs.Placed.{Within, own_touches, Larger}
use Rattle.laddertick.specs.Sized.{Sized}
use Rattle.laddertick.specs.Spanned.{HasData, HasText, span_of, DataOf}
use Rattle.laddertick.specs.Zeroed.{no_element, of_its_kind}
use Rattle.laddertick.specs.Table.{Holds}
use Rattle.laddertick.specs.Starred as starred
use Rattle.laddertick.specs.Distinct as distinct
use Rattle.laddertick.specs.Profiled as profiled
use Rattle.laddertick.specs.Indexed as tabled
use Rattle.laddertick.specs.Joined as joined
use Rattle.laddertick.specs.Changed as changed
use Rattle.command_letters.specs.declared.command.Command.TheVariants.{Clear, Print}
use Rattle.walk_theory.specs.Labels.{flush}
use Rattle.line_changes.specs.OneLine.{Ending, unit_of, Replaced, Quiet, Is, Between}
use Rattle.line_changes.specs.OneLine.{Next, says_of, at_hand, InLabel, Counted}
use Rattle.laddertick.specs.Replacing.{Replacing}
use Rattle.laddertick.specs.Lying as laid
use Rattle.laddertick.specs.Written as written
use Rattle.laddertick.specs.Writing.{Writing}

-- "the string divides end to end into graphic blocks and command lines by 01's grammar with every position and size
-- within signed 32 bits", and has these labels and n elements pending at its end
pub record Divides (s : List ℕ) (ls : List FramedLabel) (n : ℕ) : Type 0 where
  pub units : List EplUnit
  pub division : Division epl s units
  -- every unit's numbers fit at the reference that stands there
  pub range : InRange origin units
  pub found : labels_by frame_of origin [] units ≡ ls
  -- "elements pending there are no label, and their count is the division's"
  pub pending : pending_by 0 units ≡ n

-- demand 1, refusals: a refused call leaves the state and every lent buffer as they came, and has a number of 01. (That
-- memory is touched only inside its ends and that every call returns, asking nothing, is what `Proved` says of every
-- call.)
pub record Demand1 (library : Library) : Type 0 where
  -- "A refused walk step hands its state back"
  pub step_hands_back : (s : List ℕ) (w w' : WalkState) (k : Refusal) (p : ℕ) → library.step s w ≡ Refused w' k p
      → w' ≡ w
  -- "a refused call leaves each lent buffer byte for byte as it came"
  pub list_keeps : (s l : List ℕ) (k : Refusal) (p : ℕ) → (library.list s l).answer ≡ filled.Refused k p
      → (library.list s l).buffer ≡ l
  pub normalise_keeps : (s l : List ℕ) (k : Refusal) (p : ℕ) → (library.normalise s l).answer ≡ filled.Refused k p
      → (library.normalise s l).buffer ≡ l
  pub strict_list_keeps : (s l : List ℕ) (k : Refusal) (p : ℕ) → (library.strict_list s l).answer ≡ filled.Refused k p
      → (library.strict_list s l).buffer ≡ l
  -- "The list is untouched by a refused file"
  pub index_keeps : (s : List ℕ) (l : List LabelEntry) (k : Refusal) (p : ℕ)
      → (library.index s l).answer ≡ indexed.Refused k p → (library.index s l).list ≡ l
  pub open_keeps : (s : List ℕ) (es : List LabelEntry) (i : ℕ) (l : List ℕ) (k : Refusal) (p : ℕ)
      → (library.open_label s es i l).answer ≡ filled.Refused k p → (library.open_label s es i l).buffer ≡ l
  pub join_keeps : (s t l : List ℕ) → ((library.join s t l).answer.number ≡ 0 → ⊥) → (library.join s t l).buffer ≡ l
  pub decode_keeps : (decoder : Decoder) (s : List ℕ) (d : DataSpan) (l : List ℕ) (k : Refusal) (p : ℕ)
      → (decoder.decode s d l).answer ≡ filled.Refused k p → (decoder.decode s d l).buffer ≡ l
  pub write_keeps : (s : List ℕ) (e : LabelElement) (l : List ℕ) (k : Refusal) (p : ℕ)
      → (library.write s e l).answer ≡ filled.Refused k p → (library.write s e l).buffer ≡ l
  pub write_plain_keeps : (s : List ℕ) (x : struct.Element) (l : List ℕ) (k : Refusal) (p : ℕ)
      → (library.write_plain s x l).answer ≡ filled.Refused k p → (library.write_plain s x l).buffer ≡ l
  pub write_label_keeps : (s : List ℕ) (xs : List struct.Element) (q : PrintCounts) (l : List ℕ) (k : Refusal) (p : ℕ)
      → (library.write_label s xs q l).answer ≡ filled.Refused k p → (library.write_label s xs q l).buffer ≡ l
  pub write_label_300_keeps : (s : List ℕ) (xs : List Element300) (q : PrintCounts) (l : List ℕ) (k : Refusal) (p : ℕ)
      → (library.write_label_300 s xs q l).answer ≡ filled.Refused k p → (library.write_label_300 s xs q l).buffer ≡ l
  -- "14 input over 16,777,216 bytes (place 0)", whatever the state and the buffer: "Order: 14, .."
  pub long_step : (s : List ℕ) (w : WalkState) → longest < length s
      → answer_of (library.step s w) ≡ refused 14 0 (state_of w)
  pub long_list : (s l : List ℕ) → longest < length s → Denies 14 0 l (library.list s l)
  pub long_normalise : (s l : List ℕ) → longest < length s → Denies 14 0 l (library.normalise s l)
  pub long_check : (s : List ℕ) → longest < length s
      → library.check s ≡ record { number = 14; field = 0; held = 0; place = 0 }
  pub long_strict_list : (s l : List ℕ) → longest < length s → Denies 14 0 l (library.strict_list s l)
  pub long_decode : (decoder : Decoder) (s : List ℕ) (d : DataSpan) (l : List ℕ) → longest < length s
      → Denies 14 0 l (decoder.decode s d l)
  pub to_300_keeps : (s : List ℕ) (es : List LabelEntry) (i : ℕ) (l : List Element300)
      → ((library.to_300 s es i l).answer.number ≡ 0 → ⊥) → (library.to_300 s es i l).list ≡ l
  pub long_to_300 : (s : List ℕ) (es : List LabelEntry) (i : ℕ) (l : List Element300) → longest < length s
      → Denied 14 0 l (library.to_300 s es i l).list (library.to_300 s es i l).answer
  pub long_index : (s : List ℕ) (l : List LabelEntry) → longest < length s → DeniesList 14 0 l (library.index s l)
  pub long_open : (s : List ℕ) (es : List LabelEntry) (i : ℕ) (l : List ℕ) → longest < length s
      → Denies 14 0 l (library.open_label s es i l)
  -- of the first file, whatever the second is, and of the second where the first is accepted (`joins`)
  pub long_join : (s t l : List ℕ) → longest < length s → JoinDenies 14 1 0 l (library.join s t l)
  -- ".. 16 ..": "walk state with its place past the end, or its pending count above its place (place: as given)",
  -- whatever the string says
  pub outside : (s : List ℕ) (w : WalkState) → length s ≤ longest → Outside s w
      → answer_of (library.step s w) ≡ refused 16 w.place (state_of w)
  -- ".. then the earliest refused line": from any other state a refusal is one of 1 to 13, or 19
  pub inside : (s : List ℕ) (w : WalkState) → length s ≤ longest → (Outside s w → ⊥)
      → (k : Refusal) (p : ℕ) (w' : WalkState) → library.step s w ≡ Refused w' k p
      → ((1 ≤ number_of k) × (number_of k ≤ 13)) ⊎ (number_of k ≡ 19)
  -- from any state the steps reach an end or a refusal, as the claims that go by a walk from some state want it
  pub ends : (s : List ℕ) (w : WalkState) → (xs : List Answer) × (z : Final) × Walked (library.step s) w xs z
  -- "The end prints nothing", from any state: it is answered at the end of the string, and what was pending is pending
  pub end_keeps : (s : List ℕ) (w w' : WalkState) → library.step s w ≡ End w'
      → (w'.place ≡ length s) × (w'.pending ≡ w.pending)
  -- ".. and is answered again and again", with the same state
  pub ended_again : (s : List ℕ) (w w' : WalkState) → library.step s w ≡ End w' → library.step s w' ≡ End w'
  -- the data that a step answers lies within the input, so that a host which reads it stays inside what it lent
  pub data_inside : (s : List ℕ) (w w' : WalkState) (e : LabelElement) → library.step s w ≡ Element w' e
      → In (length s) e
  pub numbered : (k : Refusal) → (1 ≤ number_of k) × (number_of k ≤ 25)

-- demand 2: the command forms, from 01's words. The definitions that the code's readers are proved equal to
-- (`command_of`, `well_formed`, `first`, `acts`, `field_number`, `field_or`) say the same
pub record Demand2 : Type 0 where
  -- which command a line spells, which line is not well formed, what is wrong with what stands first
  pub spelled : (t : List ℕ) (c : Command) → (command_of t ≡ c) ↔ Spells c t
  pub line_faults : (t : List ℕ) (n : ℕ) → ((well_formed t ≡ false) × (fault_of t ≡ n)) ↔ LineFault t n
  pub faults : (s : List ℕ) (n : ℕ) → (first s ≡ bad n) ↔ Fault s n
  -- a unit that stands does what its command says where its numbers fit at the reference
  pub in_range : (r : LabelPosition) (u : EplUnit) (rest : List ℕ) → Stands u rest → AllFit (numbers_of r u)
      → Does (role_of u) r (ref_after r u) (acts r u)
  -- it is 13 exactly where a sum with the reference does not fit, 19 exactly where they do and a size does not ("the
  -- position comes first"), and no other number
  pub position_outside : (r : LabelPosition) (u : EplUnit) (rest : List ℕ) → Stands u rest
      → (acts r u ≡ outside 13) ↔ OneOut (sums_of r u)
  pub size_outside : (r : LabelPosition) (u : EplUnit) (rest : List ℕ) → Stands u rest
      → (acts r u ≡ outside 19) ↔ (AllFit (sums_of r u) × OneOut (sizes_of u))
  pub outside_numbers : (r : LabelPosition) (u : EplUnit) (rest : List ℕ) → Stands u rest → (n : ℕ)
      → acts r u ≡ outside n → (n ≡ 13) ⊎ (n ≡ 19)
  -- "13 and 19 together cover what 13 covered": one of all the numbers does not fit
  pub out_of_range : (r : LabelPosition) (u : EplUnit) (rest : List ℕ) → Stands u rest
      → ((acts r u ≡ outside 13) ⊎ (acts r u ≡ outside 19)) ↔ OneOut (numbers_of r u)
  -- what it yields is of the kind that its command and type have, and stands where the sums say; a frame begins so
  pub shape : (r : LabelPosition) (u : EplUnit) (rest : List ℕ) (e : LabelElement) → Stands u rest → acts r u ≡ yield e
      → Shape r u e
  -- "data lies between the first and last quote"; of a graphic it is "the payload": the bytes of the unit at the start
  -- and of the length that the element's struct has
  pub spanned : (r : LabelPosition) (u : EplUnit) (rest : List ℕ) (e : LabelElement) → Stands u rest
      → acts r u ≡ yield e → HasData e → DataOf u (take (span_of e).len (drop (span_of e).start (bytes u)))
  pub begins : (s : List ℕ) (e : LabelElement) → take 9 (frame_of s e) ≡ head (kind_of e) (place_of e)
  -- what a number field held: "a value, an empty field, a field that is no number, and a number beyond 32 bits"; one of
  -- the four, and no other
  pub held : (f : List ℕ) (n : Number) → (field_number f ≡ n) ↔ Held f n
  -- "A number field .."
  pub numbers : (d : ℤ) (f : List ℕ) (z : ℤ) → (field_or d f ≡ z) ↔ NumberField d f z
  -- the reader of a line refuses 1 to 9 exactly where the line is not well formed, with 01's number; a well-formed one
  -- it refuses only as 13 or 19
  pub ill_formed : (t : List ℕ) (r : LabelPosition) → well_formed (trim t) ≡ false
      → (n : Refusal) × (read_line t r ≡ reading.Refused n) × (number_of n ≡ fault_of (trim t))
  pub is_well_formed : (t : List ℕ) (r : LabelPosition) (n : Refusal) → well_formed (trim t) ≡ true
      → read_line t r ≡ reading.Refused n → (n ≡ OutOfRange) ⊎ (n ≡ SizeOutside)
  -- "`LE` is read as `LO` is, with colour flag 2", whatever blanks stand around either
  pub exclusive_or : (t u v : List ℕ) (r : LabelPosition) → trim t ≡ spelt "LO" v → trim u ≡ spelt "LE" v
      → Coloured 2 (read_line t r) (read_line u r)
  -- "Unicode blanks (White_Space: ..)": trimming bytes takes the code points of 01's list off both ends of the decoded
  -- text
  pub blanks : (t : List ℕ) → code_points (trim t) ≡ drop_both is_white_space (code_points t)
  -- "A product below 2^53 gives the width exactly"
  pub widths : (height across : ℕ) → 0 < height → 0 < across → height * across < 2 ^ 53
      → width_of (pos height) (pos across) ≡ of_int binary64 (pos across)
  -- 01's starred cases; and a file for each command and type with all its fields distinct, with the lines that `list`
  -- writes, character by character
  pub starred : Holds starred.table
  pub distinct : Holds distinct.table
  -- and files under the well-site profile
  pub profiled : Holds profiled.table
  -- and files with their index, and labels opened
  pub tabled : Holds tabled.table
  -- and pairs of files, joined
  pub joined : Holds joined.table
  -- and files in which one line is changed, listed before and after
  pub changed : Holds changed.table
  pub laid : laid.Holds laid.table
  -- and labels converted to 300 dots
  pub converted : Holds converted.table
  -- and labels as they are written, character by character
  pub written : written.Holds written.table

-- the normalised text of a string that divides and has these labels and n elements pending at its end
pub record Normalising (library : Library) (s : List ℕ) (ls : List FramedLabel) (n : ℕ) : Type 0 where
  -- "the normaliser writes it where the buffer has room, and 15 gives its length where not"
  pub text : List ℕ
  pub gives : (l : List ℕ) → Gives text l (library.normalise s l)
  -- it is "that under format.rs": unit by unit, a line without the ASCII blanks at its ends, a block copied whole, an
  -- LF behind each
  pub becomes : (us : List EplUnit) → Division epl s us → Becomes us text
  -- "The normalised text of an accepted string of n bytes has at most n + n/6 + 1 bytes"
  pub size : length text ≤ length s + length s / 6 + 1
  -- "if it too is within the limit it is accepted with the same labels and the same count pending": the steps over it
  -- reach the end with this count, and these are the labels answered
  pub accepted_alike : length text ≤ longest → (xs : List Answer) × Walked (library.step text) fresh xs (accepted n)
      × (answered text [] xs ≡ ls)
  -- "normalising it again changes nothing"
  pub again : length text ≤ longest → (l : List ℕ) → Gives text l (library.normalise text l)
  -- "accepted with the same labels and the same count pending", by its division
  pub divides : Divides text ls n
  -- "its graphic blocks are the string's, byte for byte, in order and no others"
  pub same_blocks : (us vs : List EplUnit) → Division epl s us → Division epl text vs → each blocks vs ≡ each blocks us

-- the whole walk of s from the fresh state, each step given the state that the last one returned
pub record Demand3 (library : Library) (s : List ℕ) : Type 0 where
  -- "No string divides in two ways"
  pub one_division : (us vs : List EplUnit) → Division epl s us → Division epl s vs → us ≡ vs
  -- the steps reach an end, the end of the string with a count pending or a refusal, and no other
  pub answers : List Answer
  pub final : Final
  pub reached : Walked (library.step s) fresh answers final
  pub one_walk : (ys : List Answer) (f : Final) → Walked (library.step s) fresh ys f → (ys ≡ answers) × (f ≡ final)
  -- "the steps reach the end exactly when the string divides end to end .. with every position and size within signed
  -- 32 bits"
  pub accepted_exactly : ((n : ℕ) × (final ≡ accepted n))
      ↔ ((us : List EplUnit) × Division epl s us × InRange origin us)
  -- "It is then accepted, and the labels answered and the count pending at the end are those of its division"
  pub divides_accepted : (ls : List FramedLabel) (n : ℕ) → Divides s ls n
      → (final ≡ accepted n) × (answered s [] answers ≡ ls)
  pub accepted_divides : (n : ℕ) → final ≡ accepted n → (ls : List FramedLabel) × Divides s ls n
  -- "otherwise the steps reach a refusal"
  pub else_refused : ((ls : List FramedLabel) (n : ℕ) → Divides s ls n → ⊥) → (n : ℕ) × (p : ℕ) × (final ≡ refusal n p)
  -- of the earliest refused unit: at fault as it stands, or with a number outside 32 bits
  pub earliest : (n p : ℕ) → (final ≡ refusal n p) ↔ Earliest Beyond s 0 origin n p
  -- "Files accepted are the same" with one number for positions and sizes: `accepted_exactly` speaks of all of them.
  -- "13 and 19 together cover what 13 covered", at the same place, and every other refusal is the same
  pub covered : (n p : ℕ) → ((m : ℕ) × (final ≡ refusal m p) × (together m ≡ n)) ↔ Earliest Beyond13 s 0 origin n p
  pub normalising : (ls : List FramedLabel) (n : ℕ) → Divides s ls n → Normalising library s ls n
  -- `list` writes the listing of the division's labels, which "ends with frame fe and their count" where elements are
  -- pending, and 15 comes last; or it refuses as the walk does, whatever the buffer
  pub lists_division : (ls : List FramedLabel) (n : ℕ) → Divides s ls n → (l : List ℕ)
      → Gives (listing_of ls n) l (library.list s l)
  pub lists_refusal : (n p : ℕ) → final ≡ refusal n p → (l : List ℕ) → Denies n p l (library.list s l)

-- 01, "The well-site profile", of a string within the limit: c is the verdict of `check` on it
pub record Profile (library : Library) (s : List ℕ) (c : Checked) : Type 0 where
  -- it is accepted exactly where it divides in range and "every number field .. holds a value", in the profile's range,
  -- stated on the units of the division and their fields
  pub accepted_exactly : (c.number ≡ 0)
      ↔ ((us : List EplUnit) × Division epl s us × InRange origin us × InProfile us)
  -- "number 0: all fields 0"
  pub accepted_tells : c.number ≡ 0 → c ≡ record { number = 0; field = 0; held = 0; place = 0 }
  -- "A file that the profile accepts is accepted by the plain reading with the same labels" and the same count pending
  -- at the end: those that `strict_list` lists
  pub accepted_alike : c.number ≡ 0 → (ls : List FramedLabel) × (n : ℕ) × (xs : List Answer)
      × Walked (library.step s) fresh xs (accepted n) × (answered s [] xs ≡ ls)
      × ((l : List ℕ) → Gives (listing_of ls n) l (library.strict_list s l))
  -- "a refusal other than 17 and 18 is the plain reading's own", number and place, and tells of no field
  pub refused_alike : (c.number ≡ 0 → ⊥) → (Own c.number → ⊥) → (xs : List Answer)
      × Walked (library.step s) fresh xs (refusal c.number c.place) × (c.field ≡ 0) × (c.held ≡ 0)
  -- "17 a field with no value, 18 a value outside the profile (place of both: as for 1)": the field, from 1, is the
  -- first of the earliest unit that is not as the profile asks, and held what is told; nothing before it is refused
  pub objected : Own c.number → Objected s 0 origin c.number c.place c.field c.held
  -- and the other way round: what is objected to so is what `check` tells, so there is one objection at most
  pub told : (n p k h : ℕ) → Objected s 0 origin n p k h
      → c ≡ record { number = n; field = k; held = h; place = p }
  -- `strict_list` refuses as `check` does, whatever the buffer
  pub denied : (c.number ≡ 0 → ⊥) → (l : List ℕ) → Denies c.number c.place l (library.strict_list s l)

-- 01, "The label index", of a string that divides and has these labels
pub record Indexing (library : Library) (s : List ℕ) (ls : List FramedLabel) : Type 0 where
  -- "one entry a label in print order", written where the list has room, and 20 gives their number where not
  pub entries : List LabelEntry
  pub gives : (l : List LabelEntry) → GivesEntries entries l (library.index s l)
  pub as_many : length entries ≡ length ls
  -- each lies within the string and has its label's count, and the walk over the string, cut at its last place, from
  -- its first place and with its reference answers that label and nothing else
  pub matched : Along (EntryOf epl (List ℕ) frame_of s) (entries_of entries) ls
  -- "Any label read from its entry alone gives the frames that the full listing has for it"
  pub opened : (i : ℕ) (f : FramedLabel) → get_elem? ls i ≡ some f → (l : List ℕ)
      → Gives (label_lines f) l (library.open_label s entries i l)

-- what opening does with a buffer l, by the labels that its walk answers and how this ends: "answers the first label,
-- reading nothing past its print"; else the refusal of the lines read; 21 "last where the entry yields no label"
abbrev pub Opens : List FramedLabel → Final → ℕ → List ℕ → Filling → Type 0
Opens (f ∷ fs) z i l c = Gives (label_lines f) l c
Opens [] (refusal n p) i l c = Denies n p l c
Opens [] (accepted n) i l c = Denies 21 i l c

-- 01, "The label index": opening the entry with the number i, whoever made the list, of a string within the limit
pub record Opening (library : Library) (s : List ℕ) (es : List LabelEntry) (i : ℕ) : Type 0 where
  -- "21 an entry number past the last label (place: the number)"
  pub past : length es ≤ i → (l : List ℕ) → Denies 21 i l (library.open_label s es i l)
  -- "An entry made otherwise gets 16 (place: its last place) if that is past the end or before its first"
  pub outside : (e : LabelEntry) → get_elem? es i ≡ some e → (length s < e.last) ⊎ (e.last < e.first)
      → (l : List ℕ) → Denies 16 e.last l (library.open_label s es i l)
  -- "it walks the file, cut at the last place, from the first place with the entry's reference and nothing pending"
  pub walks : (e : LabelEntry) → get_elem? es i ≡ some e → e.last ≤ length s → e.first ≤ e.last
      → (xs : List Answer) (z : Final)
      → Walked (library.step (take e.last s))
      (record { place = e.first; reference = e.reference; pending = 0 }) xs z
      → (l : List ℕ) → Opens (answered (take e.last s) [] xs) z i l (library.open_label s es i l)

-- 01, "Joining two files", of accepted strings s and t: ls and ms are the labels that the steps over them answer, and k
-- elements are pending at the end of t
pub record Joining (library : Library) (s t : List ℕ) (ls ms : List FramedLabel) (k : ℕ) : Type 0 where
  -- "the first normalised, a line `N`, the second normalised"
  pub text : List ℕ
  pub becomes : (us vs : List EplUnit) → Division epl s us → Division epl t vs
      → (a b : List ℕ) × Becomes us a × Becomes vs b × (text ≡ a ++ spelt "N\n" b)
  -- it is written where the buffer has room, and 15 gives its length where not
  pub gives : length text ≤ longest → (l : List ℕ) → JoinGives text l (library.join s t l)
  -- "25 a joined text over 16,777,216 bytes (place: its length), after both files' refusals and before 15": whatever
  -- the buffer
  pub too_long : longest < length text → (l : List ℕ) → JoinDenies 25 0 (length text) l (library.join s t l)
  -- "The labels of the result are those of the first followed by those of the second, every frame the same"; "Elements
  -- pending in the first are never printed", nor counted: those pending at the end are the second's
  pub divides : Divides text (ls ++ ms) k
  -- so the steps over it answer, where it is within the limit
  pub accepted_alike : length text ≤ longest → (xs : List Answer) × Walked (library.step text) fresh xs (accepted k)
      × (answered text [] xs ≡ ls ++ ms)
  -- "all graphic blocks of both stand in it in order", and no others
  pub blocks_of_both : (us vs ws : List EplUnit) → Division epl s us → Division epl t vs → Division epl text ws
      → each blocks ws ≡ each blocks us ++ each blocks vs

-- of any two strings, by the steps over each: "If either file is refused, its number and place are given, the first
-- file's before the second's", 14 too, whatever the buffer
pub record Joins (library : Library) (s t : List ℕ) : Type 0 where
  pub first_refused : (xs : List Answer) (n p : ℕ) → Walked (library.step s) fresh xs (refusal n p)
      → (l : List ℕ) → JoinDenies n 1 p l (library.join s t l)
  pub second_refused : (xs ys : List Answer) (m n p : ℕ) → Walked (library.step s) fresh xs (accepted m)
      → Walked (library.step t) fresh ys (refusal n p) → (l : List ℕ) → JoinDenies n 2 p l (library.join s t l)
  pub both_accepted : (xs ys : List Answer) (m k : ℕ) → Walked (library.step s) fresh xs (accepted m)
      → Walked (library.step t) fresh ys (accepted k)
      → Joining library s t (answered s [] xs) (answered t [] ys) k

-- 01, "What lies where": what is told of a label with the elements xs, opened from the entry with the number i
pub record Answers (library : Library) (s : List ℕ) (es : List LabelEntry) (i : ℕ) (xs : List LabelElement)
    : Type 0 where
  -- the numbers of "the elements whose position lies in a closed rectangle, in file order", 15 giving how many
  pub inside : (b : Rectangle) → is_turned b ≡ false → (l : List ℕ)
      → GivesNumbers (inside_of b xs) l (library.inside s es i b l)
  -- ".. in the same order, those boxes and diagonals whose own closed rectangle .. shares a point with it"
  pub touching : (b : Rectangle) → is_turned b ≡ false → (l : List ℕ)
      → GivesNumbers (touching_of b xs) l (library.touching s es i b l)
  -- "the element whose position is nearest to a point .., the earlier one if equal": the first of the least distances
  pub nearest : (q : LabelPosition)
      → (k : ℕ) × (library.nearest s es i q ≡ found.Number k) × FirstLeast (distances q xs) k

-- 01, "What lies where": of any string and any entries
pub record Lying (library : Library) (s : List ℕ) (es : List LabelEntry) (i : ℕ) : Type 0 where
  -- "The label is opened by its number in the index", with its elements
  pub opened : (f : Label LabelElement EplPrint) → opening_of s es i ≡ opens f → Answers library s es i f.frames
  -- ".. with all checks of opening": what `open_label` refuses, whatever its buffer, these refuse as it does
  pub inside_refused : (n p : ℕ) → ((l : List ℕ) → Denies n p l (library.open_label s es i l))
      → (b : Rectangle) → is_turned b ≡ false → (l : List ℕ) → DeniesNumbers n p l (library.inside s es i b l)
  pub touching_refused : (n p : ℕ) → ((l : List ℕ) → Denies n p l (library.open_label s es i l))
      → (b : Rectangle) → is_turned b ≡ false → (l : List ℕ) → DeniesNumbers n p l (library.touching s es i b l)
  pub nearest_refused : (n p : ℕ) → ((l : List ℕ) → Denies n p l (library.open_label s es i l))
      → (q : LabelPosition) → spot_of (library.nearest s es i q) ≡ spots.refused n p
  -- "22 a rectangle whose far corner is below its near one on either axis (place 0), directly after 14 and before 21"
  pub inside_turned : length s ≤ longest → (b : Rectangle) → is_turned b ≡ true → (l : List ℕ)
      → DeniesNumbers 22 0 l (library.inside s es i b l)
  pub touching_turned : length s ≤ longest → (b : Rectangle) → is_turned b ≡ true → (l : List ℕ)
      → DeniesNumbers 22 0 l (library.touching s es i b l)
  pub inside_long : longest < length s → (b : Rectangle) (l : List ℕ)
      → DeniesNumbers 14 0 l (library.inside s es i b l)
  pub touching_long : longest < length s → (b : Rectangle) (l : List ℕ)
      → DeniesNumbers 14 0 l (library.touching s es i b l)
  -- a refused call leaves the list as it came
  pub inside_keeps : (b : Rectangle) (l : List ℕ) (k : Refusal) (p : ℕ)
      → (library.inside s es i b l).answer ≡ found.Refused k p → (library.inside s es i b l).list ≡ l
  pub touching_keeps : (b : Rectangle) (l : List ℕ) (k : Refusal) (p : ℕ)
      → (library.touching s es i b l).answer ≡ found.Refused k p → (library.touching s es i b l).list ≡ l

-- 01, "From 203 to 300 dots": one length
pub record Dots : Type 0 where
  -- "the nearest whole number to 300/203 of the old", and no other
  pub nearest : (n z : ℤ) → Nearest n z ↔ (z ≡ to300 n)
  -- "203 times the new value differs from 300 times the old by at most 101, also below zero"
  pub near : (n : ℤ) → Near n (to300 n)
  -- "positions keep their order along each axis"
  pub order : (a b : ℤ) → le_z a b ≡ true → le_z (to300 a) (to300 b) ≡ true
  -- the old lengths whose new ones are within 32 bits
  pub range : (n : ℤ) → in32 (to300 n) ≡ (le_z (negsuc 1453130601) n && le_z n (pos 1453130601))

-- and one label, opened from the index: that of the entry with the number i, whoever made the list
pub record Resolution (library : Library) (s : List ℕ) (es : List LabelEntry) (i : ℕ) : Type 0 where
  -- "all checks of opening": what `open_label` refuses is refused alike
  pub unopened : (k p : ℕ) → opening.opening_of s es i ≡ theory.denies k p → (l : List Element300)
      → Denied k p l (library.to_300 s es i l).list (library.to_300 s es i l).answer
  -- the label that it opens, its elements ds in file order, each with the first byte of its line or block: refused, or
  -- converted
  pub opened : (f : FramedLabel) → opening.opening_of s es i ≡ theory.opens f → (ds : List Drawn) × Framed s es i f ds
      × ((l : List Element300)
      → Resolved f.says ds l (library.to_300 s es i l).list (library.to_300 s es i l).answer)

-- the flat answers of the static library, a : what `step` answers
pub record Flat : Type 0 where
  -- an answer of `laddertick_step` rebuilt to 01's frame from its fields alone: an element's, a print's, a refusal's,
  -- the end's where elements are pending; and the state for the next step
  pub frame : (s : List ℕ) (a : EplAnswer) → frame_flat s (flat_of a) ≡ answer_frame s a
  pub next : (a : EplAnswer) → state_of (flat_of a).next ≡ state_in a
  -- an element's kind stands in the answer and in the element
  pub kind : (e : LabelElement) (st : State LabelPosition)
      → (flat_of (element e st)).element.kind ≡ (flat_of (element e st)).kind
  -- what may have no frame is told by its kind
  pub clear : (st : State LabelPosition) → (flat_of (cleared st)).kind ≡ 17
  pub end : (st : State LabelPosition) → (flat_of (ended st)).kind ≡ 18
  -- an answer by all its fields: the kinds are "00" of a print, "ff" of a refusal, 17 of a clear, which has no frame,
  -- 18 of the end, whose frame is that of its state; "element count, sets, copies" are a print's alone, "its number
  -- (1 byte), its place" a refusal's, and "A field that its kind does not name is 0" (include/laddertick.h)
  pub element : (e : LabelElement) (st : State LabelPosition) → flat_of (element e st) ≡ record {
    kind = (flat_element e).kind;
    number = 0;
    place = 0;
    count = 0;
    sets = pos 0;
    copies = pos 0;
    next = walk_of st;
    element = flat_element e;
  }
  pub print : (n : ℕ) (q : EplPrint) (st : State LabelPosition) → flat_of (printed n q st) ≡ record {
    kind = 0;
    number = 0;
    place = 0;
    count = n;
    sets = q.sets;
    copies = q.copies;
    next = walk_of st;
    element = no_element;
  }
  pub clear_fields : (st : State LabelPosition) → flat_of (cleared st) ≡ record {
    kind = 17;
    number = 0;
    place = 0;
    count = 0;
    sets = pos 0;
    copies = pos 0;
    next = walk_of st;
    element = no_element;
  }
  pub end_fields : (st : State LabelPosition) → flat_of (ended st) ≡ record {
    kind = 18;
    number = 0;
    place = 0;
    count = 0;
    sets = pos 0;
    copies = pos 0;
    next = walk_of st;
    element = no_element;
  }
  pub refusal : (n p : ℕ) (st : State LabelPosition) → flat_of (refused n p st) ≡ record {
    kind = 255;
    number = n;
    place = p;
    count = 0;
    sets = pos 0;
    copies = pos 0;
    next = walk_of st;
    element = no_element;
  }
  -- an element's struct: "A field that its kind does not name is 0" (include/laddertick.h)
  pub zeroed : (e : LabelElement) → flat_element e ≡ of_its_kind (flat_element e)

-- data, of an input s within the limit
pub record Decoding (library : Library) (decoder : Decoder) (s : List ℕ) : Type 0 where
  -- "Data is decoded as `from_utf8_lossy` does": the len bytes from start on, as far as the input goes
  pub gives : (start len : ℕ) (l : List ℕ)
      → Gives (decode (take len (drop start s))) l (decoder.decode s (record { start = start; len = len }) l)
  -- of an element with text that a step answers, from any state, it gives the data of the element's frame: "data is
  -- length, then bytes", and there is nothing behind it
  pub frame : (w w' : WalkState) (e : LabelElement) → library.step s w ≡ Element w' e → HasText e
      → (t : List ℕ) × (a : List ℕ) × (frame_of s e ≡ a ++ (be32 (length t) ++ t))
      × ((l : List ℕ) → Gives t l (decoder.decode s (span_of e) l))

-- 01, "One line changed", of two accepted files that are alike but for one command line behind the units `before`, t in
-- s and t' in s', both with the ending e (`Replaced`); ls and ls' are the labels answered, n and n' elements are
-- pending at the end
pub record OneLineChanged (s s' t t' : List ℕ) (e : Ending) (before : List EplUnit) (ls ls' : List FramedLabel)
    (n n' : ℕ) : Type 0 where
  -- both divide alike but for the line, also behind it
  pub behind : List EplUnit
  pub old_division : Division epl s (before ++ unit_of e t ∷ behind)
  pub new_division : Division epl s' (before ++ unit_of e t' ∷ behind)
  -- behind the line an `N` comes first, or a print line ("a line that spells one", also where it prints nothing), or
  -- the end
  pub next : Next behind
  -- "Where an `N` stands between the line and the next print line or the end, every frame stays"
  pub dropped : (between : List EplUnit) (c : EplUnit) (later : List EplUnit) → behind ≡ between ++ c ∷ later
      → Between between → Is Clear c → (ls ≡ ls') × (n ≡ n')
  -- "all other labels keep their frames, and in the label at hand all other elements keep theirs in order": where the
  -- print line c comes first, both files have the labels before the line and those behind c, and between them the label
  -- that c prints: what is pending before the line, what the line yields, what stands between it and c
  pub printed : (between : List EplUnit) (c : EplUnit) (later : List EplUnit) → behind ≡ between ++ c ∷ later
      → Between between → Is Print c
      → InLabel frame_of before (unit_of e t) (unit_of e t') between (says_of c) ls ls' × (n ≡ n')
  -- "a label with no element left is not listed, and one that gains its first element is", with the number of its
  -- elements in frame 00
  pub not_listed : (q : EplPrint) → flush {F = List ℕ} q [] ≡ []
  pub is_listed : (q : EplPrint) (f : List ℕ) (fs : List (List ℕ))
      → flush q (f ∷ fs) ≡ record { count = length (f ∷ fs); says = q; frames = f ∷ fs } ∷ []
  -- each of the two lines yields an element or is passed over, by the command that it spells
  pub yields_or_not : Quiet (role_of (unit_of e t)) × Quiet (role_of (unit_of e t'))
  -- "if both lines yield an element, or neither does, the count in frame 00 stays too. If only one yields, it differs
  -- by one"
  pub counted : (between : List EplUnit) → Counted frame_of before (unit_of e t) (unit_of e t') between
  -- "Pending elements at the end are counted in the same way": where the end comes first no label changes
  pub pending : Between behind
      → (ls ≡ labels_by frame_of origin [] before) × (ls' ≡ labels_by frame_of origin [] before)
      × (n ≡ length (at_hand frame_of before (unit_of e t) behind))
      × (n' ≡ length (at_hand frame_of before (unit_of e t') behind))

pub record Claims (library : Library) : Type 0 where
  -- "inputs up to 16,777,216 bytes"; "the fresh state is place 0, reference 0,0, pending count 0"
  pub limit : longest ≡ 16777216
  pub start : fresh ≡ record { place = 0; reference = record { x = pos 0; y = pos 0 }; pending = 0 }
  pub demand1 : Demand1 library
  pub demand2 : Demand2
  -- "The sizes and the ratio are those that these fields give": of every element that a step answers, from any state,
  -- height and width are those of its font and multipliers, the ratio that of its wide and narrow bar
  pub sized : (s : List ℕ) (w w' : WalkState) (e : LabelElement) → library.step s w ≡ Element w' e → Sized e
  -- "No string divides in two ways", whatever its length
  pub one_division : (s : List ℕ) (us vs : List EplUnit) → Division epl s us → Division epl s vs → us ≡ vs
  -- demand 3, whole
  pub demand3 : (s : List ℕ) → length s ≤ longest → Demand3 library s
  -- "The normaliser knows 14 and 15 only": any string within the limit, refused by the steps or not, has a normalised
  -- text, which is written where the buffer has room
  pub normalises : (s l : List ℕ) → length s ≤ longest → Gives (normalised s) l (library.normalise s l)
  -- the well-site profile, "beside the plain" reading
  pub profile : (s : List ℕ) → length s ≤ longest → Profile library s (library.check s)
  -- the label index: of a string that divides; of one that does not, the steps' refusal; and opening
  pub index : (s : List ℕ) (ls : List FramedLabel) (n : ℕ) → length s ≤ longest → Divides s ls n
      → Indexing library s ls
  pub index_refused : (s : List ℕ) (xs : List Answer) (n p : ℕ) → length s ≤ longest
      → Walked (library.step s) fresh xs (refusal n p) → (l : List LabelEntry) → DeniesList n p l (library.index s l)
  pub opening : (s : List ℕ) (es : List LabelEntry) (i : ℕ) → length s ≤ longest → Opening library s es i
  -- two files joined
  pub joins : (s t : List ℕ) → Joins library s t
  -- one line changed: the steps reach the end of both files
  pub one_line : (s s' t t' : List ℕ) (e : Ending) (before : List EplUnit) → Replaced s s' t t' e before
      → length s ≤ longest → length s' ≤ longest → (xs xs' : List Answer) (n n' : ℕ)
      → Walked (library.step s) fresh xs (accepted n) → Walked (library.step s') fresh xs' (accepted n')
      → OneLineChanged s s' t t' e before (answered s [] xs) (answered s' [] xs') n n'
  -- ".. Replace one command line by another with the same ending": every such change is one of those
  pub replaces : (s s' t t' : List ℕ) (e : Ending) (before behind : List EplUnit)
      → Replacing s s' t t' e before behind → Replaced s s' t t' e before
  -- what lies where; and of a string that divides, the answers for a number in its own index are those of the elements
  -- of the label with this number in the division
  pub lying : (s : List ℕ) (es : List LabelEntry) (i : ℕ) → Lying library s es i
  pub lying_own : (s : List ℕ) (ls : List FramedLabel) (n : ℕ) (short : length s ≤ longest) (d : Divides s ls n)
      → (i : ℕ) (f : Label LabelElement EplPrint) → get_elem? (labels_by itself origin [] d.units) i ≡ some f
      → Answers library s (index s ls n short d).entries i f.frames
  -- "shares a point with it", literally: a point of both, over the integers, so that no far edge wraps
  pub shares : (x y w h : ℤ) (b : Rectangle) → is_turned b ≡ false → (is_touching x y w h b ≡ true) ↔ Shared x y w h b
  -- "position lies in a closed rectangle", by the four numbers
  pub inside : (p : LabelPosition) (b : Rectangle) → (is_inside p b ≡ true) ↔ Within p b
  -- "a rectangle whose far corner is below its near one on either axis"
  pub turned : (b : Rectangle) → (is_turned b ≡ true) ↔ ((lt_z b.x2 b.x1 ≡ true) ⊎ (lt_z b.y2 b.y1 ≡ true))
  -- an element's position, and the "own closed rectangle" of "boxes and diagonals", by the numbers of its struct, which
  -- claim `flat` pins
  pub position : (e : LabelElement) → position_of e ≡ record { x = (flat_element e).x; y = (flat_element e).y }
  pub own : (b : Rectangle) (e : LabelElement) → is_on b e ≡ own_touches b (flat_element e)
  -- "the larger of the two distances along x and y"
  pub near : (p q : LabelPosition) → Larger (nat_abs (p.x -ℤ q.x)) (nat_abs (p.y -ℤ q.y)) (distance p q)
  -- from 203 to 300 dots
  pub dots : Dots
  pub resolution : (s : List ℕ) (es : List LabelEntry) (i : ℕ) → Resolution library s es i
  -- writing EPL
  pub writing : Writing library
  -- a graphic block is its bytes, blanks, `GW`, four fields and payload; a line has none
  pub block_bytes : (bs p : List ℕ) (h : Header) → blocks (block bs h p)
      ≡ (bs ++ spelt "GW" (h.x ++ spelt "," (h.y ++ spelt ","
      (h.width ++ spelt "," (h.lines ++ spelt "," p))))) ∷ []
  pub line_blocks : (t : List ℕ) → (blocks (line t) ≡ []) × (blocks (last t) ≡ [])
  pub flat : Flat
  -- decoded data
  pub decoding : (decoder : Decoder) (s : List ℕ) → length s ≤ longest → Decoding library decoder s
  -- the listing program's buffer always has room: no listing has more than 16 bytes for each byte of its input, and 15
  -- is never printed
  pub room : (s : List ℕ) (ls : List FramedLabel) (n : ℕ) → outcome_of s ≡ listed ls n
      → length (listing_of ls n) ≤ 16 * length s
  -- n + n/6 + 1 bytes have room for the normalised text of any string of n bytes, also of one that is refused
  pub normalised_room : (s : List ℕ) → length (normalised s) ≤ length s + length s / 6 + 1
  -- "A refusal prints only ff, its number (1 byte), its place", character by character
  pub ff_line : refusal_line 6 12 ≡ ascii "ff060000000c\n"
  -- "The listing program reads standard input"; "over 65,536 bytes: 14"; of any other it prints what is due
  pub program_long : (s : List ℕ) → 65536 < length s → shown_for s (due_of s) ≡ ascii "ff0e00000000\n"
  pub program : (s : List ℕ) → length s ≤ 65536 → shown_for s (due_of s) ≡ shown_of (due_of s)
  pub never_15 : (s : List ℕ) → length s ≤ 65536 → printed_of s (16 * 65536) ≡ shown_of (due_of s)

-- the code is proved to meet its contracts, and whatever meets them has all of the above
pub record Theorem : Type 2 where
  pub proved : Proved
  -- there are such functions, so what is claimed is claimed of something
  pub library : Library
  pub decoder : Decoder
  pub claims : (library : Library) → Claims library
