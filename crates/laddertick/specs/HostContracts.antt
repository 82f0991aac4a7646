-- What the contracts of the entry points say, as types; and any functions that meet them, over which the claims are
-- made. That the code meets them is `Proved`.
use Rattle.std.specs.Prelude.{◌≡◌, List, ◌++◌, ℕ, ◌≤◌, ◌<◌, length, drop}
use Rattle.elements.specs.declared.filled.Filled.{Filled}
use Rattle.elements.specs.declared.DataSpan.{DataSpan}
use Rattle.elements.specs.declared.LabelPosition.{LabelPosition}
use Rattle.elements.specs.declared.LabelElement.{LabelElement}
use Rattle.elements.specs.declared.PrintCounts.{PrintCounts}
use Rattle.spellings.specs.Due.{element_due}
use Rattle.structs.specs.declared.answer.Element.{Element}
use Rattle.writing_element.specs.Plain.{plain_due}
use Rattle.writing_label.specs.Label.{plain_label_due, plain_label_due300}
use Rattle.elements.specs.declared.walk_state.WalkState.{WalkState}
use Rattle.elements.specs.Given.{bytes, refused, Fills, given_of}
use Rattle.walk_theory.specs.Step.{step}
use Rattle.grammar.specs.Epl.{epl}
use Rattle.walk.specs.declared.answer.Answer.{Answer}
use Rattle.walk.specs.Steps.{state_of, answer_of}
use Rattle.decoding.specs.Decoding as decoding
use Rattle.file_listing.specs.Listing as listing
use Rattle.format.specs.Normalise as normal
use Rattle.strict.specs.declared.verdict.Checked.{Checked}
use Rattle.strict.specs.Verdict.{checked_of}
use Rattle.strict.specs.Listing.{strict_due_of}
use Rattle.label_index.specs.declared.entry.LabelEntry.{LabelEntry}
use Rattle.label_index.specs.declared.labels.Indexed.{Indexed}
use Rattle.label_index.specs.Plan as plan
use Rattle.label_index.specs.Plan.{Indexes, filling_of, counted_of, counted}
use Rattle.label_opening.specs.Opened as opening
use Rattle.joining.specs.declared.answer.Joined.{Joined}
use Rattle.joining.specs.Join.{Joins}
use Rattle.where_element.specs.declared.place.Rectangle.{Rectangle}
use Rattle.where_element.specs.declared.found.Found.{Found}
use Rattle.where_element.specs.Found.{given_found, spot_of}
use Rattle.where_label.specs.Found.{inside_due, touching_due, nearest_due}
use Rattle.dots.specs.declared.element.Element300.{Element300}
use Rattle.dots_label.specs.declared.label.Label300.{Label300}
use Rattle.dots_label.specs.Conversion.{conversion_of, Converts}

-- `step` answers r to the input s and the state w
abbrev pub Stepped : List ℕ → WalkState → Answer → Type 0
Stepped s w r = answer_of r ≡ step epl s (state_of w)

-- `list` answers r to the input s and the buffer l, which becomes n
abbrev pub Listed : List ℕ → List ℕ → List ℕ → Filled → Type 0
Listed s l n r = Fills n l (listing.due_of s) (given_of r)

-- `normalise` answers r to the input s and the buffer l, which becomes n
abbrev pub Normalised : List ℕ → List ℕ → List ℕ → Filled → Type 0
Normalised s l n r = Fills n l (normal.due_of s) (given_of r)

-- `decode` answers r to the input s, the place d of some of it and the buffer l, which becomes n
abbrev pub Decoded : List ℕ → DataSpan → List ℕ → List ℕ → Filled → Type 0
Decoded s d l n r = Fills n l (decoding.due_of s d) (given_of r)

-- `check` answers r to the input s
abbrev pub Judged : List ℕ → Checked → Type 0
Judged s r = r ≡ checked_of s

-- `strict_list` answers r to the input s and the buffer l, which becomes n
abbrev pub StrictlyListed : List ℕ → List ℕ → List ℕ → Filled → Type 0
StrictlyListed s l n r = Fills n l (strict_due_of s) (given_of r)

-- `index` answers r to the input s and the list l, which becomes n
abbrev pub Entered : List ℕ → List LabelEntry → List LabelEntry → Indexed → Type 0
Entered s l n r = Indexes n l (filling_of s (length l)) (counted_of r)

-- `open_label` answers r to the input s, the entries es, the number i and the buffer l, which becomes n
abbrev pub Opened : List ℕ → List LabelEntry → ℕ → List ℕ → List ℕ → Filled → Type 0
Opened s es i l n r = Fills n l (opening.due_of s es i) (given_of r)

-- `join` answers r to the files s and t and the buffer l, which becomes n
abbrev pub JoinedBy : List ℕ → List ℕ → List ℕ → List ℕ → Joined → Type 0
JoinedBy s t l n r = Joins n l s t r

-- what a call that joins two files answers, and the buffer afterwards
pub record Union : Type 0 where
  pub answer : Joined
  pub buffer : List ℕ

-- `inside` answers r to the input s, the entries es, the number i, the rectangle b and the list l, which becomes n
abbrev pub Inside : List ℕ → List LabelEntry → ℕ → Rectangle → List ℕ → List ℕ → Found → Type 0
Inside s es i b l n r = Fills n l (inside_due s es i b) (given_found r)

-- `touching`, likewise
abbrev pub Touching : List ℕ → List LabelEntry → ℕ → Rectangle → List ℕ → List ℕ → Found → Type 0
Touching s es i b l n r = Fills n l (touching_due s es i b) (given_found r)

-- `nearest` answers r to the input s, the entries es, the number i and the point q
abbrev pub Nearest : List ℕ → List LabelEntry → ℕ → LabelPosition → Found → Type 0
Nearest s es i q r = spot_of r ≡ nearest_due s es i q

-- `to_300` answers r to the input s, the entries es, the number i and the list l, which becomes n
abbrev pub Converted : List ℕ → List LabelEntry → ℕ → List Element300 → List Element300 → Label300 → Type 0
Converted s es i l n r = Converts n l (conversion_of s es i (length l)) r

-- what a call that fills a lent buffer answers, and the buffer afterwards
pub record Filling : Type 0 where
  pub answer : Filled
  pub buffer : List ℕ

-- what a call that fills a lent list of entries answers, and the list afterwards
pub record Entering : Type 0 where
  pub answer : Indexed
  pub list : List LabelEntry

-- what a call that fills a lent list of numbers answers, and the list afterwards
pub record Finding : Type 0 where
  pub answer : Found
  pub list : List ℕ

-- what a call that fills a lent list of elements answers, and the list afterwards
pub record Converting : Type 0 where
  pub answer : Label300
  pub list : List Element300

-- `write` answers r to the input s, its element e and the buffer l, which becomes n
abbrev pub Spelled : List ℕ → LabelElement → List ℕ → List ℕ → Filled → Type 0
Spelled s e l n r = Fills n l (element_due s e) (given_of r)

-- `write_plain` answers r to the input s, the struct x and the buffer l, which becomes n
abbrev pub SpelledPlain : List ℕ → Element → List ℕ → List ℕ → Filled → Type 0
SpelledPlain s x l n r = Fills n l (plain_due s x) (given_of r)

-- `write_label` answers r to the input s, the structs xs, the counts q and the buffer l, which becomes n
abbrev pub SpelledLabel : List ℕ → List Element → PrintCounts → List ℕ → List ℕ → Filled → Type 0
SpelledLabel s xs q l n r = Fills n l (plain_label_due s xs q) (given_of r)

-- `write_label_300`, likewise
abbrev pub SpelledLabel300 : List ℕ → List Element300 → PrintCounts → List ℕ → List ℕ → Filled → Type 0
SpelledLabel300 s xs q l n r = Fills n l (plain_label_due300 s xs q) (given_of r)

-- functions of the input and the state, or of the input and the buffer as it came, that meet these contracts
pub record Library : Type 0 where
  pub step : List ℕ → WalkState → Answer
  pub list : List ℕ → List ℕ → Filling
  pub normalise : List ℕ → List ℕ → Filling
  pub check : List ℕ → Checked
  pub strict_list : List ℕ → List ℕ → Filling
  pub index : List ℕ → List LabelEntry → Entering
  pub open_label : List ℕ → List LabelEntry → ℕ → List ℕ → Filling
  pub inside : List ℕ → List LabelEntry → ℕ → Rectangle → List ℕ → Finding
  pub touching : List ℕ → List LabelEntry → ℕ → Rectangle → List ℕ → Finding
  pub nearest : List ℕ → List LabelEntry → ℕ → LabelPosition → Found
  pub to_300 : List ℕ → List LabelEntry → ℕ → List Element300 → Converting
  pub write : List ℕ → LabelElement → List ℕ → Filling
  pub write_plain : List ℕ → Element → List ℕ → Filling
  pub write_label : List ℕ → List Element → PrintCounts → List ℕ → Filling
  pub write_label_300 : List ℕ → List Element300 → PrintCounts → List ℕ → Filling
  pub steps : (s : List ℕ) (w : WalkState) → Stepped s w (step s w)
  pub lists : (s l : List ℕ) → Listed s l (list s l).buffer (list s l).answer
  pub normalises : (s l : List ℕ) → Normalised s l (normalise s l).buffer (normalise s l).answer
  pub checks : (s : List ℕ) → Judged s (check s)
  pub strictly_lists : (s l : List ℕ) → StrictlyListed s l (strict_list s l).buffer (strict_list s l).answer
  pub indexes : (s : List ℕ) (l : List LabelEntry) → Entered s l (index s l).list (index s l).answer
  pub opens : (s : List ℕ) (es : List LabelEntry) (i : ℕ) (l : List ℕ)
      → Opened s es i l (open_label s es i l).buffer (open_label s es i l).answer
  -- two files and the buffer
  pub join : List ℕ → List ℕ → List ℕ → Union
  pub unites : (s t l : List ℕ) → JoinedBy s t l (join s t l).buffer (join s t l).answer
  pub insides : (s : List ℕ) (es : List LabelEntry) (i : ℕ) (b : Rectangle) (l : List ℕ)
      → Inside s es i b l (inside s es i b l).list (inside s es i b l).answer
  pub touches : (s : List ℕ) (es : List LabelEntry) (i : ℕ) (b : Rectangle) (l : List ℕ)
      → Touching s es i b l (touching s es i b l).list (touching s es i b l).answer
  pub nears : (s : List ℕ) (es : List LabelEntry) (i : ℕ) (q : LabelPosition) → Nearest s es i q (nearest s es i q)
  pub converts : (s : List ℕ) (es : List LabelEntry) (i : ℕ) (l : List Element300)
      → Converted s es i l (to_300 s es i l).list (to_300 s es i l).answer
  pub writes : (s : List ℕ) (e : LabelElement) (l : List ℕ) → Spelled s e l (write s e l).buffer (write s e l).answer
  pub writes_plain : (s : List ℕ) (x : Element) (l : List ℕ)
      → SpelledPlain s x l (write_plain s x l).buffer (write_plain s x l).answer
  pub writes_label : (s : List ℕ) (xs : List Element) (q : PrintCounts) (l : List ℕ)
      → SpelledLabel s xs q l (write_label s xs q l).buffer (write_label s xs q l).answer
  pub writes_label_300 : (s : List ℕ) (xs : List Element300) (q : PrintCounts) (l : List ℕ)
      → SpelledLabel300 s xs q l (write_label_300 s xs q l).buffer (write_label_300 s xs q l).answer

-- a function that meets the contract of `decode`, which is beside the others
pub record Decoder : Type 0 where
  pub decode : List ℕ → DataSpan → List ℕ → Filling
  pub decodes : (s : List ℕ) (d : DataSpan) (l : List ℕ) → Decoded s d l (decode s d l).buffer (decode s d l).answer

-- ---- what a call did, from its answer and its buffer alone

-- "A refused call leaves each lent buffer byte for byte as it came": number and place, of a call that was lent l
abbrev pub Denies : ℕ → ℕ → List ℕ → Filling → Type 0
Denies n p l c = (given_of c.answer ≡ refused n p) × (c.buffer ≡ l)

-- the text t stands from the start of l on and its length is given, "Output bytes past the written length keep their
-- values"
abbrev pub Writes : List ℕ → List ℕ → Filling → Type 0
Writes t l c = (given_of c.answer ≡ bytes (length t)) × (c.buffer ≡ t ++ drop (length t) l)

-- the text t is written "where the buffer has room, and 15 gives its length where not"
pub record Gives (t l : List ℕ) (c : Filling) : Type 0 where
  pub room : length t ≤ length l → Writes t l c
  pub short : length l < length t → Denies 15 (length t) l c

-- the same of a call that was lent the list l: number and place, and the list as it came
abbrev pub DeniesList : ℕ → ℕ → List LabelEntry → Entering → Type 0
DeniesList n p l c = (counted_of c.answer ≡ plan.refused n p) × (c.list ≡ l)

-- the entries es stand from the start of l on and their number is given, "entries past the last label keep their
-- values"; "20 more labels than entries (place: the label count)"
pub record GivesEntries (es l : List LabelEntry) (c : Entering) : Type 0 where
  pub room : length es ≤ length l
      → (counted_of c.answer ≡ counted (length es)) × (c.list ≡ es ++ drop (length es) l)
  pub short : length l < length es → DeniesList 20 (length es) l c

-- the same of two files joined: number, file and place
abbrev pub JoinDenies : ℕ → ℕ → ℕ → List ℕ → Union → Type 0
JoinDenies n f p l c = (c.answer ≡ record { number = n; file = f; place = p }) × (c.buffer ≡ l)

-- the text t is written, from the start of l on, where the buffer has room; else 15, which is neither file's
pub record JoinGives (t l : List ℕ) (c : Union) : Type 0 where
  pub room : length t ≤ length l
      → (c.answer ≡ record { number = 0; file = 0; place = length t }) × (c.buffer ≡ t ++ drop (length t) l)
  pub short : length l < length t → JoinDenies 15 0 (length t) l c

-- the same of a call that was lent the list of numbers l
abbrev pub DeniesNumbers : ℕ → ℕ → List ℕ → Finding → Type 0
DeniesNumbers n p l c = (given_found c.answer ≡ refused n p) × (c.list ≡ l)

-- the numbers ns stand from the start of l on and how many there are is given, the numbers behind them keep their
-- values; "a lent list too short for them is 15"
pub record GivesNumbers (ns l : List ℕ) (c : Finding) : Type 0 where
  pub room : length ns ≤ length l
      → (given_found c.answer ≡ bytes (length ns)) × (c.list ≡ ns ++ drop (length ns) l)
  pub short : length l < length ns → DeniesNumbers 15 (length ns) l c
