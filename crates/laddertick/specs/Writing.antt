-- What is claimed of `write`, `write_plain`, `write_label` and `write_label_300` (01, "Writing EPL"): of any functions
-- that meet their contracts.
use Rattle.std.specs.Prelude.{◌≡◌, true, List, [], ◌∷◌, ◌++◌, map, ◌⊎◌, ℕ, ◌≤◌, ◌<◌, ℤ, pos, negsuc, length}
use Prim.Native.String.{String}
use Rattle.std.specs.Int.Signed.{mag, le_z}
use Rattle.text.specs.Ascii.{ascii, spelt}
use Rattle.elements.specs.declared.Barcode128WithData.{Barcode128WithData}
use Rattle.elements.specs.declared.BarcodeMode.TheVariants.{Ucc, Automatic, Ean}
use Rattle.elements.specs.declared.GraphicBox as box
use Rattle.elements.specs.declared.LabelElement.{LabelElement}
use Rattle.elements.specs.declared.LabelElement.TheVariants.{GraphicBox, Barcode128}
use Rattle.elements.specs.declared.LineColor.TheVariants.{Black, White, Xor}
use Rattle.elements.specs.declared.PrintCounts.{PrintCounts}
use Rattle.elements.specs.declared.walk_state.WalkState.{WalkState}
use Rattle.elements.specs.Given.{longest, text, given_of}
use Rattle.elements.specs.Walk.{fresh}
use Rattle.walk_theory.specs.Reach as theory
use Rattle.walk_theory.specs.Reach.{accepted}
use Rattle.grammar.specs.Epl.{epl}
use Rattle.walk.specs.declared.answer.Answer.{Answer}
use Rattle.walk.specs.declared.answer.Answer.TheVariants as answer
use Rattle.walk.specs.Steps.{answer_of}
use Rattle.structs.specs.declared.answer.Element.{Element}
use Rattle.structs.specs.Flat.{flat_element}
use Rattle.dots.specs.declared.element.Element300.{Element300}
use Rattle.dots_label.specs.Promise.{with_dots, Turned}
use Rattle.structs_read.specs.Unflat.{Stands, Sized}
use Rattle.spellings.specs.Due.{label_due}
use Rattle.spellings.specs.Spelled.{spell, spell_label}
use Rattle.readback.specs.Exact.{Yieldable}
use Rattle.readback.specs.Fits.{Fits, AllFits}
use Rattle.readback.specs.Shown.{Shown, shown}
use Rattle.readback.specs.Written.{ReadBack, label_of, Reread}
use Rattle.laddertick.specs.HostContracts.{Library, Filling, Denies, Gives}
use Rattle.laddertick.specs.Free.{Free}
use Rattle.laddertick.specs.Walked.{Walked}

-- ---- labels
-- every element is one that a line or a block yields
pub data AllYieldable (s : List ℕ) : List LabelElement → Type 0 where
  no_more_yieldable : AllYieldable s []
  and_yieldable : {e : LabelElement} {es : List LabelElement} → Fits e → Yieldable s e → AllYieldable s es
      → AllYieldable s (e ∷ es)

-- n elements with the counts q are no label: "A label with no element, more than 16,777,216 elements or a negative
-- count, which no file yields"
pub data NoLabel (n : ℕ) (q : PrintCounts) : Type 0 where
  without_element : n ≡ 0 → NoLabel n q
  too_many : longest < n → NoLabel n q
  negative_sets : (k : ℕ) → q.sets ≡ negsuc k → NoLabel n q
  negative_copies : (k : ℕ) → q.copies ≡ negsuc k → NoLabel n q

-- it is one
pub record IsLabel (n : ℕ) (q : PrintCounts) : Type 0 where
  pub some : 0 < n
  pub within : n ≤ longest
  pub sets : (k : ℕ) × (q.sets ≡ pos k)
  pub copies : (k : ℕ) × (q.copies ≡ pos k)

-- no element that a line or a block yields has the struct x: none has it, or nothing yields the one that has
abbrev pub NoneYieldable : List ℕ → Element → Type 0
NoneYieldable s x = (e : LabelElement) → Stands x e → Yieldable s e → ⊥

-- a struct's numbers have 32 bits and its sizes are f64s, as its Rattle type says
abbrev pub In32 : ℤ → Type 0
In32 z = mag z < 2147483648

pub record Typed (v : Element) : Type 0 where
  pub x : In32 v.x
  pub y : In32 v.y
  pub width : In32 v.width
  pub height : In32 v.height
  pub thickness : In32 v.thickness
  pub bytes_a_row : In32 v.row_bytes
  pub security : In32 v.security
  pub columns : In32 v.columns
  pub rows : In32 v.rows
  pub magnification : In32 v.magnification
  pub size : In32 v.size
  pub mode : In32 v.mode
  pub font : In32 v.font
  pub horizontal : In32 v.horizontal
  pub vertical : In32 v.vertical
  pub wide : In32 v.wide
  pub sizes : Sized v

abbrev pub AllTyped : List Element → Type 0
AllTyped [] = Unit
AllTyped (x ∷ xs) = Typed x × AllTyped xs

-- a list is the structs of yieldable elements, or it has a first struct that is no such element's, behind those of the
-- elements before it
abbrev pub AllStructs : List ℕ → List Element → Type 0
AllStructs s xs = (es : List LabelElement) × (xs ≡ map flat_element es) × AllYieldable s es

pub record FirstNone (s : List ℕ) (xs : List Element) : Type 0 where
  pub before : List LabelElement
  pub here : Element
  pub behind : List Element
  pub is : xs ≡ map flat_element before ++ (here ∷ behind)
  pub yieldable : AllYieldable s before
  pub none : NoneYieldable s here

-- the struct at 300 dots with the same numbers
abbrev pub same300 : Element → Element300
same300 v =
    with_dots v (record { 0 = v.x }) (record { 0 = v.y }) (record { 0 = v.width }) (record { 0 = v.height })
    (record { 0 = v.thickness })

-- the struct with these five numbers
abbrev pub resized : Element → ℤ → ℤ → ℤ → ℤ → ℤ → Element
resized v x y width height thickness =
    record {
      kind = v.kind;
      rotation = v.rotation;
      reverse = v.reverse;
      colour = v.colour;
      direction = v.direction;
      line = v.line;
      check = v.check;
      truncate = v.truncate;
      level = v.level;
      x = x;
      y = y;
      width = width;
      height = height;
      thickness = thickness;
      row_bytes = v.row_bytes;
      security = v.security;
      columns = v.columns;
      rows = v.rows;
      magnification = v.magnification;
      size = v.size;
      mode = v.mode;
      font = v.font;
      horizontal = v.horizontal;
      vertical = v.vertical;
      wide = v.wide;
      text_height = v.text_height;
      text_width = v.text_width;
      ratio = v.ratio;
      data_start = v.data_start;
      data_len = v.data_len;
    }

-- ---- the spellings that 01 names
-- t begins with these characters
abbrev pub Begins : String → List ℕ → Type 0
Begins c t = (u : List ℕ) × (t ≡ spelt c u)

-- "its thickness is the smaller side and both sides are at least 1"
pub record Lined (width height thickness : ℤ) : Type 0 where
  pub wide : le_z (pos 1) width ≡ true
  pub high : le_z (pos 1) height ≡ true
  pub in_width : le_z thickness width ≡ true
  pub in_height : le_z thickness height ≡ true
  pub side : (thickness ≡ width) ⊎ (thickness ≡ height)

-- t is a line `B` whose fourth field is f: "`B`: x, y, rotation, type, .."
pub record FourthField (f t : List ℕ) : Type 0 where
  pub x : List ℕ
  pub y : List ℕ
  pub rotation : List ℕ
  pub rest : List ℕ
  pub is : t ≡ spelt "B" (x ++ spelt "," (y ++ spelt "," (rotation ++ spelt "," (f ++ spelt "," rest))))
  -- no comma stands in the three before it
  pub x_free : Free 44 x
  pub y_free : Free 44 y
  pub rotation_free : Free 44 rotation

-- by the text that is written, of any input s
pub record Spelling : Type 0 where
  -- "A black box is written as `LO` where its thickness is the smaller side and both sides are at least 1, else as `X`"
  pub black_line : (s : List ℕ) (b : box.GraphicBox) → b.line_color ≡ Black
      → Lined b.width b.height b.border_thickness → Begins "LO" (spell s (GraphicBox b))
  pub black_corners : (s : List ℕ) (b : box.GraphicBox) → b.line_color ≡ Black
      → (Lined b.width b.height b.border_thickness → ⊥) → Begins "X" (spell s (GraphicBox b))
  -- "white and exclusive-OR boxes are `LW` and `LE`": those that a line yields
  pub white : (s : List ℕ) (b : box.GraphicBox) → Yieldable s (GraphicBox b) → b.line_color ≡ White
      → Begins "LW" (spell s (GraphicBox b))
  pub exclusive_or : (s : List ℕ) (b : box.GraphicBox) → Yieldable s (GraphicBox b) → b.line_color ≡ Xor
      → Begins "LE" (spell s (GraphicBox b))
  -- "Code 128 in mode Automatic is written with type 1"; "`0` is Code 128 in mode Ucc, `1E` in mode Ean"
  pub ucc : (s : List ℕ) (e : Barcode128WithData) → e.barcode.mode ≡ Ucc
      → FourthField (ascii "0") (spell s (Barcode128 e))
  pub automatic : (s : List ℕ) (e : Barcode128WithData) → e.barcode.mode ≡ Automatic
      → FourthField (ascii "1") (spell s (Barcode128 e))
  pub ean : (s : List ℕ) (e : Barcode128WithData) → e.barcode.mode ≡ Ean
      → FourthField (ascii "1E") (spell s (Barcode128 e))

-- two calls answer the same and leave the same buffer
abbrev pub Alike : Filling → Filling → Type 0
Alike a b = (given_of a.answer ≡ given_of b.answer) × (a.buffer ≡ b.buffer)

pub record Writing (library : Library) : Type 0 where
  -- 14 comes first
  pub long : (s : List ℕ) (e : LabelElement) (l : List ℕ) → longest < length s → Denies 14 0 l (library.write s e l)
  -- an element that a line or a block yields at reference 0,0 is written, "15 gives its length"
  pub written : (s : List ℕ) (e : LabelElement) (l : List ℕ) → length s ≤ longest → Fits e → Yieldable s e
      → Gives (spell s e) l (library.write s e l)
  -- how boxes and Code 128 are written
  pub spelling : Spelling
  -- "23 (place: .. 0 if alone) an element that no single line or block of any length, read at reference 0,0, yields"
  pub none : (s : List ℕ) (e : LabelElement) (l : List ℕ) → length s ≤ longest → Fits e → (Yieldable s e → ⊥)
      → Denies 23 0 l (library.write s e l)
  -- "Reading what was written .. yields equal elements .., data compared by bytes"
  pub read_back : (s : List ℕ) (e : LabelElement) → length s ≤ longest → Fits e → Yieldable s e → ReadBack s e
  -- the same by the code: the first step over what was written, where that is within the limit, answers such an element
  pub read_stepped : (s : List ℕ) (e : LabelElement) → length s ≤ longest → Fits e → Yieldable s e
      → length (spell s e) ≤ longest
      → (x : LabelElement) × (w : WalkState) × (library.step (spell s e) fresh ≡ answer.Element w x)
      × (shown (spell s e) x ≡ shown s e)
  -- the same of a label, and of its counts
  pub reread : (s t : List ℕ) (es : List LabelElement) (q : PrintCounts) → AllFits es → mag q.sets < 2147483648
      → mag q.copies < 2147483648 → label_due s es q ≡ text t → (t ≡ spell_label s es q) × Reread s es q
  -- no two elements have the same struct
  pub one_element : (x : Element) (e f : LabelElement) → Stands x e → Stands x f → e ≡ f
  -- of a host's struct x that is the element e's, what `write` does for e
  pub plain : (s : List ℕ) (x : Element) (e : LabelElement) (l : List ℕ) → Stands x e
      → Alike (library.write_plain s x l) (library.write s e l)
  -- a struct that no element has, or whose element nothing yields, is 23 at 0, after 14
  pub plain_long : (s : List ℕ) (x : Element) (l : List ℕ) → longest < length s
      → Denies 14 0 l (library.write_plain s x l)
  pub plain_none : (s : List ℕ) (x : Element) (l : List ℕ) → length s ≤ longest → Sized x
      → ((e : LabelElement) → Stands x e → ⊥) → Denies 23 0 l (library.write_plain s x l)
  pub plain_unyieldable : (s : List ℕ) (x : Element) (l : List ℕ) → length s ≤ longest → Typed x → NoneYieldable s x
      → Denies 23 0 l (library.write_plain s x l)
  -- ---- a label, from a list of structs: 14 comes first
  pub label_long : (s : List ℕ) (xs : List Element) (q : PrintCounts) (l : List ℕ) → longest < length s
      → Denies 14 0 l (library.write_label s xs q l)
  -- "from a label, `N`, its elements and its print line", "15 gives its length"
  pub label_written : (s : List ℕ) (es : List LabelElement) (q : PrintCounts) (l : List ℕ) → length s ≤ longest
      → AllYieldable s es → IsLabel (length es) q
      → Gives (spell_label s es q) l (library.write_label s (map flat_element es) q l)
  -- "23 (place: its number in the label ..) an element that no single line or block of any length, read at reference
  -- 0,0, yields", "it is given for no other element and comes before 15"; a struct that no element has is one
  pub label_none : (s : List ℕ) (es : List LabelElement) (x : Element) (ys : List Element) (q : PrintCounts)
      (l : List ℕ) → length s ≤ longest → AllYieldable s es → Typed x → NoneYieldable s x
      → Denies 23 (length es) l (library.write_label s (map flat_element es ++ (x ∷ ys)) q l)
  -- "A label with no element, more than 16,777,216 elements or a negative count, which no file yields, is 23 too, after
  -- its elements (place: its element count)"
  pub is_no_label : (s : List ℕ) (es : List LabelElement) (q : PrintCounts) (l : List ℕ) → length s ≤ longest
      → AllYieldable s es → NoLabel (length es) q
      → Denies 23 (length es) l (library.write_label s (map flat_element es) q l)
  -- these are all cases
  pub list_cases : (s : List ℕ) (xs : List Element) → length s ≤ longest → AllTyped xs
      → AllStructs s xs ⊎ FirstNone s xs
  pub label_cases : (n : ℕ) (q : PrintCounts) → IsLabel n q ⊎ NoLabel n q
  -- "Reading what was written, if it is within 16,777,216 bytes, yields equal elements and counts, data compared by
  -- bytes"
  pub label_reread : (s : List ℕ) (es : List LabelElement) (q : PrintCounts) → length s ≤ longest → AllYieldable s es
      → IsLabel (length es) q → In32 q.sets → In32 q.copies → Reread s es q
  -- the same by the code: the steps over what was written reach the end with nothing pending and answer this one label
  pub label_walked : (s : List ℕ) (es : List LabelElement) (q : PrintCounts) → length s ≤ longest → AllYieldable s es
      → IsLabel (length es) q → In32 q.sets → In32 q.copies → length (spell_label s es q) ≤ longest
      → (xs : List Answer) × Walked (library.step (spell_label s es q)) fresh xs (accepted 0)
      × (theory.answered epl Shown shown (spell_label s es q) [] (map answer_of xs) ≡ label_of s es q ∷ [])
  -- ---- at 300 dots: what `write_label` does for the same numbers
  pub label_300 : (s : List ℕ) (xs : List Element) (q : PrintCounts) (l : List ℕ)
      → Alike (library.write_label_300 s (map same300 xs) q l) (library.write_label s xs q l)
  -- so has every list
  pub every_300 : (ys : List Element300) → (xs : List Element) × (ys ≡ map same300 xs)
  -- an element that `to_300` converted has its new numbers, and else the element's
  pub converted_300 : (e : LabelElement) (y : Element300) → Turned e y
      → y ≡ same300 (resized (flat_element e) y.x.0 y.y.0 y.width.0 y.height.0 y.thickness.0)
