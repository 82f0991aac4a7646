-- One command line of a file replaced by another (01, "One line changed"): what is asked of the two lines, what stands
-- behind them, and the label at hand, by the grammar's units and their roles. Nothing here speaks of a reader.
use Rattle.std.specs.Prelude.{◌≡◌, List, [], ◌∷◌, ◌++◌, ◌⊎◌, ℕ, suc, ◌<◌, length}
use Rattle.text.specs.Blank.{trim}
use Rattle.elements.specs.declared.LabelElement.{LabelElement}
use Rattle.elements.specs.declared.LabelPosition.{LabelPosition}
use Rattle.command_letters.specs.declared.command.Command.{Command}
use Rattle.command_letters.specs.declared.command.Command.TheVariants.{Clear, Reference, Print}
use Rattle.walk_theory.specs.Labels.{Label, flush}
use Rattle.walk_theory.specs.Normal.{each, Solid}
use Rattle.grammar.specs.Spelled.{Spells}
use Rattle.grammar.specs.Units.{EplUnit, block, line, last, bytes, All, not_lf, Opens}
use Rattle.grammar.specs.Epl.{origin, EplPrint, acts, epl}
use Rattle.grammar.specs.Ranges.{ref_after, Role, passes, yields, role_of, counts_in}
use Rattle.grammar.specs.Divided.{yielded_by, pending_after, labels_by}

-- ---- the two lines

-- "with the same ending": LF, or the end of input
pub data Ending : Type 0 where
  lf : Ending
  end : Ending

-- a line without its ending, and the unit that it is with it
abbrev pub unit_of : Ending → List ℕ → EplUnit
unit_of lf t = line t
unit_of end t = last t

-- a line without its ending that may be replaced, and that may replace one: "neither is an `N`, reference or print
-- line"
pub record Changeable (t : List ℕ) : Type 0 where
  -- "A command line: no LF inside .., what follows its leading ASCII blanks within the line doesn't begin with `GW`"
  pub one_line : All not_lf t
  pub no_graphic : Opens t → ⊥
  pub no_n : Spells Clear (trim t) → ⊥
  pub no_reference : Spells Reference (trim t) → ⊥
  pub no_print : Spells Print (trim t) → ⊥

-- "ended by LF or, if not empty, by the end of input", before what stands behind it
abbrev pub EndsBy : Ending → List ℕ → List ℕ → Type 0
EndsBy lf t back = Unit
EndsBy end t back = (0 < length t) × (back ≡ [])

-- "Replace one command line by another with the same ending": t of the file s has become t' in s'
pub record Replaced (s s' t t' : List ℕ) (e : Ending) (before : List EplUnit) : Type 0 where
  -- the two files are the same but for the line
  pub front : List ℕ
  pub back : List ℕ
  pub old : s ≡ front ++ (bytes (unit_of e t) ++ back)
  pub new : s' ≡ front ++ (bytes (unit_of e t') ++ back)
  -- it begins where a unit begins: front is the text of units that stand whatever follows them, graphic blocks and
  -- lines that LF ends
  pub in_front : front ≡ each bytes before
  pub begins : Solid epl before
  pub old_ends : EndsBy e t back
  pub new_ends : EndsBy e t' back
  pub old_line : Changeable t
  pub new_line : Changeable t'

-- what such a line does: it is passed over, or yields an element
abbrev pub Quiet : Role → Type 0
Quiet k = (k ≡ passes) ⊎ (k ≡ yields)

-- ---- what stands behind them

-- a unit that is a line which spells the command c
abbrev pub Is : Command → EplUnit → Type 0
Is c (block bs h p) = ⊥
Is c (line t) = Spells c (trim t)
Is c (last t) = Spells c (trim t)

-- no `N` and no print line
abbrev pub Between : List EplUnit → Type 0
Between [] = Unit
Between (u ∷ us) = (Is Clear u → ⊥) × (Is Print u → ⊥) × Between us

-- what units have first: an `N`, a print line (also one that prints nothing), or neither up to the end
pub data Next (us : List EplUnit) : Type 0 where
  an_n : (between : List EplUnit) (c : EplUnit) (later : List EplUnit) → us ≡ between ++ c ∷ later → Between between
      → Is Clear c → Next us
  a_print : (between : List EplUnit) (c : EplUnit) (later : List EplUnit) → us ≡ between ++ c ∷ later → Between between
      → Is Print c → Next us
  the_end : Between us → Next us

-- what a print line says: its sets and copies
abbrev pub says_of : EplUnit → EplPrint
says_of (block bs h p) = counts_in []
says_of (line t) = counts_in (trim t)
says_of (last t) = counts_in (trim t)

-- ---- the label at hand

-- the reference behind units
abbrev pub ref_by : LabelPosition → List EplUnit → LabelPosition
ref_by r [] = r
ref_by r (u ∷ us) = ref_by (ref_after r u) us

-- F are frames, `frame s e` that of the element e in the string s
module _ {F : Type 0} (frame : List ℕ → LabelElement → F) where
  -- the frames of what is pending behind units, p being pending before them
  abbrev pub pending_in : LabelPosition → List F → List EplUnit → List F
  pending_in r p [] = p
  pending_in r p (u ∷ us) =
      pending_in (ref_after r u) (pending_after frame (role_of u) p (yielded_by frame u (acts r u))) us

  -- the frame of the element that u yields behind the units `before`, or none
  abbrev pub yielded_behind : List EplUnit → EplUnit → List F
  yielded_behind before u = yielded_by frame u (acts (ref_by origin before) u)

  -- the elements of the label at hand: those pending before the line u, what it yields, and those between it and the
  -- print line or the end
  abbrev pub at_hand : List EplUnit → EplUnit → List EplUnit → List F
  at_hand before u between =
      pending_in origin [] before ++ (yielded_behind before u ++ pending_in (ref_by origin before) [] between)

  -- "all other labels keep their frames, and in the label at hand all other elements keep theirs in order": the labels
  -- ls have become ls', q being what the next print line says
  pub record InLabel (before : List EplUnit) (u u' : EplUnit) (between : List EplUnit) (q : EplPrint)
      (ls ls' : List (Label F EplPrint)) : Type 0 where
    pub later : List (Label F EplPrint)
    pub old : ls ≡ labels_by frame origin [] before ++ (flush q (at_hand before u between) ++ later)
    pub new : ls' ≡ labels_by frame origin [] before ++ (flush q (at_hand before u' between) ++ later)

  -- how many elements the label at hand has
  pub record Counted (before : List EplUnit) (u u' : EplUnit) (between : List EplUnit) : Type 0 where
    -- "if both lines yield an element, or neither does, the count .. stays"
    pub stays : role_of u ≡ role_of u' → length (at_hand before u' between) ≡ length (at_hand before u between)
    -- "If only one yields, it differs by one"
    pub one_more : role_of u ≡ passes → role_of u' ≡ yields
        → length (at_hand before u' between) ≡ suc (length (at_hand before u between))
    pub one_less : role_of u ≡ yields → role_of u' ≡ passes
        → length (at_hand before u between) ≡ suc (length (at_hand before u' between))
