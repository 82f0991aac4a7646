-- What the profile has against what stands first is what it asks of its fields (`asked_judges`, `objection_asked`), and
-- so of a unit (`unit_judges`). Assumes nothing.
use mathlib.Core.Path.{◌≡◌, refl, sym, ap, subst, ◌∙◌}
use mathlib.Core.Bool.{Bool, true, false, not, true≢false, false≢true}
use mathlib.Core.List.{List, [], ◌∷◌, ◌++◌, append_assoc}
use Prim.Native.Nat.{ℕ, suc, ◌+◌, ◌*◌, ◌≤◌, zero-le}
use native.Mathlib.Omega.{arith}
use lib.Dec.{eqb}
use lib.IntN.{pos}
use lib.ListN.{length, take, drop, length-append}
use lib.Seq.{take-append_seam}
use borrow.Author.Tests.{eqb-true, eqb-false, le-ltb}
use Rattle.text.specs.Ascii.{letter}
use Rattle.text.specs.Blank.{front, trim}
use Rattle.text.specs.Fields.{index_of, before, after}
use Rattle.text.proofs.BoolLaws.{test}
use Rattle.command_letters.specs.declared.command.Command.{Command}
use Rattle.command_letters.specs.declared.command.Command.TheVariants.{Clear, Reference, Data, Line, Diagonal, Box, Print, Other}
use Rattle.command_letters.specs.declared.command.DataCommand.{DataCommand}
use Rattle.command_letters.specs.declared.command.DataCommand.TheVariants.{Text, Barcode, Barcode2d}
use Rattle.command_letters.specs.Command.{command_of}
use Rattle.graphics.specs.declared.gw_span.Graphic.{Graphic}
use Rattle.graphics.specs.declared.gw_span.Graphic.TheVariants as graphic
use Rattle.graphics.specs.declared.gw_span.GwNumbers.{GwNumbers}
use Rattle.graphics.specs.Block.{in_field, header_of, measured, gw_span}
use Rattle.commands.specs.Line.{params_of}
use Rattle.grammar.specs.LineFaults.{LineFault}
use Rattle.grammar.specs.Units.{Header, EplUnit, block, line, last, bytes, All, all_nil, all_cons, not_lf, closed, gw, Opens, Stands}
use Rattle.grammar.specs.WellFormed.{at_least, is_read, data_counted, counted, typed, asks_nothing, well_formed, fault_as, fault_of, count_fault, type_fault}
use Rattle.grammar.specs.Faults.{FirstLine, Headed}
use Rattle.grammar.proofs.LineFaultsLaws.{ill_has_fault, fault_is_ill}
use Rattle.grammar.proofs.UnitsOpensLaws.{not_opens, opens_not}
use Rattle.grammar.proofs.TurnLineLaws.{front_index}
use Rattle.grammar.proofs.FoundBlockLaws.{block_append, Before, header_is, numbers, span_sound, span_none, none_opens}
use Rattle.grammar.proofs.FaultsLaws.{line_of, front_is, opens_first, headed_span}
use Rattle.profile.specs.declared.rule.Held.{Held}
use Rattle.profile.specs.declared.rule.Objection.{Objection}
use Rattle.profile.specs.declared.rule.Objection.TheVariants.{Fine, To}
use Rattle.profile.specs.Profile.{number_of, kind_of, allowed, ruled, rules_from, by_rules, if_counted, data_rules, line_rules, corner_rules, block_rules, reference_objection, quoted_objection, command_objection, line_objection, objection_by, objection}
use Rattle.profile.specs.Asks.{Rule, any, width, ask, nth, data_asks, side_asks, corner_asks, y_ask, header_asks, asks_as, asks_of, Ask, FirstAmiss, here, Asked, of_line, of_block}
use Rattle.profile.proofs.AsksFieldLaws.{Judges, Judges1, judge_then, judge_field, Letter, any_letter, rotation_letter, font_letter, horizontal_letter, vertical_letter, width_letter}

fine≢to : (k : ℕ) (h : Held) → ◌≡◌ {A = Objection} Fine (To k h) → ⊥
fine≢to k h e = let z : ◌≡◌ {A = ℕ} 0 1 = cc in omega arith

-- ---- several fields
-- rules of the fields of s, k fields standing before them, and what they ask
data Slots : ℕ → List ℕ → List ℕ → List Ask → Type 0 where
  end : {k : ℕ} {s : List ℕ} → Slots k s [] []
  hold : {k q : ℕ} {r : Rule} {s qs : List ℕ} {xs : List Ask} → Letter q r → Slots (k + 1) (after 44 s) qs xs → Slots k s (q ∷ qs) (ask (k + 1) r (before 44 s) ∷ xs)
  skip : {k : ℕ} {s qs : List ℕ} {xs : List Ask} → Slots (k + 1) (after 44 s) qs xs → Slots k s (letter "-" ∷ qs) xs

judge_rules : {k : ℕ} {s qs : List ℕ} {xs : List Ask} → Slots k s qs xs → Judges xs (rules_from k qs s)
unfolding ruled
judge_rules end = tt
judge_rules {k} {s} (hold {q = q} {r = r} {qs = qs} {xs = xs} l m) =
    judge_then (ask (k + 1) r (before 44 s)) xs (ruled (k + 1) q (before 44 s)) (rules_from (k + 1) qs (after 44 s)) (judge_field (k + 1) q r l (before 44 s)) (judge_rules m)
judge_rules (skip m) = judge_rules m

-- x and y, and what follows them
point : {s qs : List ℕ} {xs : List Ask} → Slots 2 (after 44 (after 44 s)) qs xs → Slots 0 s (letter "x" ∷ letter "y" ∷ qs) (nth s 0 any ∷ nth s 1 any ∷ xs)
unfolding allowed
point m = hold (any_letter (letter "x") refl (λ z. refl)) (hold (any_letter (letter "y") refl (λ z. refl)) m)

module _ (s : List ℕ) where
  judge_sides : Judges (side_asks s) (by_rules line_rules s)
  unfolding allowed
  judge_sides = judge_rules (point (hold (any_letter (letter "w") refl (λ z. refl)) (hold (any_letter (letter "h") refl (λ z. refl)) end)))

  judge_corners : Judges (corner_asks s) (by_rules corner_rules s)
  unfolding allowed
  judge_corners =
      judge_rules (point (hold (any_letter (letter "t") refl (λ z. refl)) (hold (any_letter (letter "x") refl (λ z. refl)) (hold (any_letter (letter "y") refl (λ z. refl)) end))))

  judge_data : (c : DataCommand) → Judges (data_asks c s) (by_rules (data_rules c) s)
  unfolding allowed
  judge_data Text = judge_rules (point (hold rotation_letter (hold font_letter (hold horizontal_letter (hold vertical_letter end)))))
  judge_data Barcode =
      judge_rules
      (point (hold rotation_letter (skip (hold (any_letter (letter "n") refl (λ z. refl)) (hold (any_letter (letter "w") refl (λ z. refl)) (hold (any_letter (letter "h") refl (λ z. refl)) end))))))
  judge_data Barcode2d = judge_rules (point end)

  judge_block : Judges (nth s 0 any ∷ nth s 1 any ∷ nth s 2 width ∷ nth s 3 any ∷ []) (by_rules block_rules s)
  unfolding allowed
  judge_block = judge_rules (point (hold width_letter (hold (any_letter (letter "l") refl (λ z. refl)) end)))

-- ---- `R`
-- without a comma there is no y; with one it is all that follows
y_none : (s : List ℕ) → index_of 44 s ≡ length s → y_ask s ≡ []
y_none [] h = refl
y_none (b ∷ s) h = test (eqb b 44) (λ e. let k : ◌≡◌ {A = ℕ} 0 (suc (length s)) = simp e at h in absurd (omega arith)) (λ e. let k : suc (index_of 44 s) ≡ suc (length s) = simp e at h in simp e (y_none s (omega arith)))

y_some : (s : List ℕ) → (index_of 44 s ≡ length s → ⊥) → y_ask s ≡ ask 2 any (after 44 s) ∷ []
unfolding after
y_some [] n = absurd (n refl)
y_some (b ∷ s) n = test (eqb b 44) (λ e. simp e) (λ e. simp e (y_some s (λ h. n (simp e (ap suc h)))))

judge_one : (a : Ask) (o : Objection) → Judges1 a o → Judges (a ∷ []) o
judge_one a Fine m = (m, tt)
judge_one a (To k h) m = subst (λ (i : ℕ). FirstAmiss (a ∷ []) (number_of h) i (kind_of h)) (sym m.0) (here m.1)

judge_reference : (s : List ℕ) → Judges (nth s 0 any ∷ y_ask s) (reference_objection s)
unfolding reference_objection allowed
judge_reference s =
    let x = ruled 1 (letter "x") (before 44 s) in
    let jx = judge_field 1 (letter "x") any (any_letter (letter "x") refl (λ z. refl)) (before 44 s) in
    test (eqb (index_of 44 s) (length s))
    (λ e. simp (e, y_none s (eqb-true _ _ e)) (judge_then (nth s 0 any) [] x Fine jx tt))
    (λ e. simp (e, y_some s (eqb-false _ _ e))
    (judge_then (nth s 0 any) (ask 2 any (after 44 s) ∷ []) x (ruled 2 (letter "y") (after 44 s)) jx
    (judge_one (ask 2 any (after 44 s)) (ruled 2 (letter "y") (after 44 s)) (judge_field 2 (letter "y") any (any_letter (letter "y") refl (λ z. refl)) (after 44 s)))))

-- ---- a line by its command
judge_command : (c : Command) (t : List ℕ) → (asks_nothing c t ≡ false → counted c t ≡ true) → Judges (asks_as c t) (command_objection c t)
unfolding quoted_objection
judge_command Clear t o = tt
judge_command Reference t o = judge_reference (drop 1 t)
judge_command (Data c) t o = test (is_read t) (λ e. simp (e, o (ap not e)) (judge_data (params_of t) c)) (λ e. simp e tt)
judge_command (Line c) t o = simp (o refl) (judge_sides (drop 2 t))
judge_command Diagonal t o = simp (o refl) (judge_corners (drop 2 t))
judge_command Box t o = simp (o refl) (judge_corners (drop 1 t))
judge_command Print t o = tt
judge_command Other t o = tt

-- ---- enough fields: none of the faults 1 to 6
count_le : (c : Command) → count_fault c ≤ 6
count_le Clear = omega arith
count_le Reference = omega arith
count_le (Data Text) = omega arith
count_le (Data Barcode) = omega arith
count_le (Data Barcode2d) = omega arith
count_le (Line c) = omega arith
count_le Diagonal = omega arith
count_le Box = omega arith
count_le Print = omega arith
count_le Other = omega arith

type_ge : (c : Command) (t : List ℕ) → typed c t ≡ false → 7 ≤ type_fault c
type_ge Clear t e = absurd (true≢false e)
type_ge Reference t e = absurd (true≢false e)
type_ge (Data Text) t e = absurd (true≢false e)
type_ge (Data Barcode) t e = omega arith
type_ge (Data Barcode2d) t e = omega arith
type_ge (Line c) t e = absurd (true≢false e)
type_ge Diagonal t e = absurd (true≢false e)
type_ge Box t e = absurd (true≢false e)
type_ge Print t e = absurd (true≢false e)
type_ge Other t e = absurd (true≢false e)

module _ (t : List ℕ) where
  faultless_counted : ((n : ℕ) → n ≤ 6 → LineFault t n → ⊥) → asks_nothing (command_of t) t ≡ false → counted (command_of t) t ≡ true
  unfolding well_formed fault_of
  faultless_counted none a =
      test (counted (command_of t) t) (λ e. e)
      (λ e. absurd (none (fault_of t) (simp e (count_le (command_of t))) (ill_has_fault t (simp (a, e)))))

  counted_faultless : counted (command_of t) t ≡ true → (n : ℕ) → n ≤ 6 → LineFault t n → ⊥
  unfolding fault_of
  counted_faultless e n l f =
      let k : fault_as (command_of t) t ≡ n = (fault_is_ill t f).1 in
      test (typed (command_of t) t)
      (λ y. let z : ◌≡◌ {A = ℕ} 9 n = simp (e, y) at k in omega arith)
      (λ y. let z : type_fault (command_of t) ≡ n = simp (e, y) at k in omega (arith, type_ge (command_of t) t y))

-- nothing is said of too few
if_counted_lem : (b : Bool) (qs s : List ℕ) (k : ℕ) (h : Held) → if_counted b qs s ≡ To k h → b ≡ true
if_counted_lem true qs s k h e = refl
if_counted_lem false qs s k h e = absurd (fine≢to k h e)

objects_counted : (c : Command) (t : List ℕ) (k : ℕ) (h : Held) → command_objection c t ≡ To k h → counted c t ≡ true
unfolding quoted_objection
objects_counted Clear t k h e = absurd (fine≢to k h e)
objects_counted Reference t k h e = refl
objects_counted (Data c) t k h e = test (is_read t) (λ r. if_counted_lem (data_counted c (params_of t)) (data_rules c) (params_of t) k h (simp r at e)) (λ r. absurd (fine≢to k h (simp r at e)))
objects_counted (Line c) t k h e = if_counted_lem (at_least 4 (drop 2 t)) line_rules (drop 2 t) k h e
objects_counted Diagonal t k h e = if_counted_lem (at_least 5 (drop 2 t)) corner_rules (drop 2 t) k h e
objects_counted Box t k h e = if_counted_lem (at_least 5 (drop 1 t)) corner_rules (drop 1 t) k h e
objects_counted Print t k h e = absurd (fine≢to k h e)
objects_counted Other t k h e = absurd (fine≢to k h e)

-- ---- the header of a block
index_closed : {f : List ℕ} (s : List ℕ) → All in_field f → index_of 44 (closed f s) ≡ length f
index_closed s all_nil = refl
index_closed s (all_cons {b} h a) = test (eqb b 44) (λ e. absurd (false≢true (sym (simp e) ∙ h))) (λ e. simp (e, index_closed s a))

before_closed : {f : List ℕ} (s : List ℕ) → All in_field f → before 44 (closed f s) ≡ f
unfolding before
before_closed {f} s a = ap (λ (n : ℕ). take n (closed f s)) (index_closed s a) ∙ take-append_seam f (44 ∷ s)

after_closed : {f : List ℕ} (s : List ℕ) → All in_field f → after 44 (closed f s) ≡ s
unfolding after
after_closed {f} s a = ap (λ (n : ℕ). drop (suc n) (closed f s)) (index_closed s a) ∙ behind f
  where
    behind : (f : List ℕ) → drop (suc (length f)) (closed f s) ≡ s
    behind [] = refl
    behind (b ∷ f) = behind f

measured_span : (m : GwNumbers) (start left w l : ℕ) → m.width_bytes ≡ pos w → m.lines ≡ pos l → w * l ≤ left → (s : List ℕ) → objection_by s (measured m start left) ≡ by_rules block_rules (header_of s)
unfolding measured
measured_span m start left w l e f h s = simp (e, f, le-ltb w 0 zero-le, le-ltb l 0 zero-le, le-ltb left (w * l) h)

header_asks_lem : {s : List ℕ} {h : Header} {q : List ℕ} → Headed s h q → Judges (header_asks h) (by_rules block_rules (header_of s))
header_asks_lem {s} {h} {q} k =
    let w : Before k.bs h = record { blanks = k.blanks; in_x = k.in_x; in_y = k.in_y; in_width = k.in_width; in_lines = k.in_lines } in
    let t = drop 2 (gw h q) in
    let x : before 44 t ≡ h.x = simp (before_closed, k.in_x) in
    let y : before 44 (after 44 t) ≡ h.y = simp (before_closed, after_closed, k.in_x, k.in_y) in
    let v : before 44 (after 44 (after 44 t)) ≡ h.width = simp (before_closed, after_closed, k.in_x, k.in_y, k.in_width) in
    let l : before 44 (after 44 (after 44 (after 44 t))) ≡ h.lines = simp (before_closed, after_closed, k.in_x, k.in_y, k.in_width, k.in_lines) in
    rw (ap header_of k.cut ∙ header_is k.bs h q w)
    (subst (λ (xs : List Ask). Judges xs (by_rules block_rules t)) (λ i. ask 1 any (x i) ∷ ask 2 any (y i) ∷ ask 3 width (v i) ∷ ask 4 any (l i) ∷ []) (judge_block t))

-- ---- what stands first
objection_line : {s t : List ℕ} → FirstLine s t → (Opens t → ⊥) → objection s ≡ command_objection (command_of (trim t)) (trim t)
unfolding objection line_objection
objection_line {s} {t} l o = ap (objection_by s) (span_none s (opens_first l ∙ not_opens t o)) ∙ ap line_objection (sym (front_index s) ∙ front_is l)

pub asked_judges : {s : List ℕ} {xs : List Ask} → Asked s xs → Judges xs (objection s)
unfolding objection
asked_judges (of_line {t} l o none) = rw (objection_line l o) (judge_command (command_of (trim t)) (trim t) (faultless_counted (trim t) none))
asked_judges {s} (of_block {h} {q} {w} {l} k e f n) =
    rw (ap (objection_by s) (headed_span k) ∙ measured_span (numbers h) (length (k.bs ++ gw h [])) (length q) w l e f n s) (header_asks_lem k)

-- what is objected to is asked
pub objection_asked : (s : List ℕ) (k : ℕ) (h : Held) → objection s ≡ To k h → (xs : List Ask) × Asked s xs
unfolding objection
objection_asked s k h e = by (gw_span s) refl e
  where
    by : (o : Graphic) → gw_span s ≡ o → objection_by s o ≡ To k h → (xs : List Ask) × Asked s xs
    by graphic.NoGraphic g e =
        let l = line_of s in
        let o = opens_not (front not_lf s) (sym (opens_first l) ∙ none_opens s g) in
        let c = trim (front not_lf s) in
        (asks_as (command_of c) c, of_line l o (counted_faultless c (objects_counted (command_of c) c k h (sym (objection_line l o) ∙ ap (objection_by s) g ∙ e))))
    by (graphic.Refused n) g e = absurd (fine≢to k h e)
    by (graphic.Span x) g e =
        let z = span_sound s x g in
        let b = z.stands in
        (header_asks z.h, of_block (record { bs = z.bs; cut = z.cut ∙ block_append z.bs z.h z.p z.rest; blanks = b.blanks; in_x = b.in_x; in_y = b.in_y; in_width = b.in_width; in_lines = b.in_lines }) b.width_is b.lines_is (omega (arith, b.whole, length-append z.p z.rest)))

-- ---- a unit
unit_asked : (u : EplUnit) (rest : List ℕ) → Stands u rest → Asked (bytes u ++ rest) (asks_of u)
unit_asked (block bs h p) rest b =
    of_block (record { bs = bs; cut = block_append bs h p rest; blanks = b.blanks; in_x = b.in_x; in_y = b.in_y; in_width = b.in_width; in_lines = b.in_lines }) b.width_is b.lines_is (omega (arith, b.whole, length-append p rest))
unit_asked (line t) rest c =
    of_line (record { rest = 10 ∷ rest; cut = append_assoc t (10 ∷ []) rest; one_line = c.one_line; ends = refl }) c.no_graphic (λ n l. c.is_well_formed n)
unit_asked (last t) rest c =
    of_line (record { rest = []; cut = ap (λ (x : List ℕ). t ++ x) c.2; one_line = c.0.one_line; ends = tt }) c.0.no_graphic (λ n l. c.0.is_well_formed n)

pub unit_judges : (u : EplUnit) (rest : List ℕ) → Stands u rest → Judges (asks_of u) (objection (bytes u ++ rest))
unit_judges u rest st = asked_judges (unit_asked u rest st)
