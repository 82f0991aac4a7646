-- A graphic that is written: its block stands, and yields it. Assumes nothing.
use mathlib.Core.Path.{◌≡◌, refl, sym, ap, ◌∙◌}
use mathlib.Core.Bool.{true, ◌&&◌, ◌||◌, true≢false}
use mathlib.Core.List.{List, [], ◌∷◌, ◌++◌, append_assoc}
use Prim.Native.Nat.{ℕ, suc, ◌+◌, ◌*◌, ◌/◌, ◌%◌, ◌<◌, ◌≤◌}
use native.Mathlib.Nat.{div-add-mod', div-le_self, mul_comm, mul-zero}
use native.Mathlib.Omega.{arith}
use lib.Dec.{eqb, ltb}
use lib.ListN.{length, take, drop, length-take, length-drop}
use lib.Seq.{drop-append_seam, take_all}
use lib.IntN.{ℤ, pos, negsuc, nat_abs}
use lib.Signed.{le_z}
use borrow.Author.Tests.{eqb-true, ltb-true, leb-true, ne_eqb}
use Rattle.text.specs.Fields.{index_of}
use Rattle.text.proofs.BoolLaws.{test, and_both, or_cases}
use Rattle.elements.specs.declared.GraphicField.{GraphicField}
use Rattle.elements.specs.declared.LabelElement.{LabelElement}
use Rattle.elements.specs.declared.LabelElement.TheVariants as element
use Rattle.graphics.specs.Block.{in_field}
use Rattle.walk_theory.specs.Language.{yield}
use Rattle.grammar.specs.Units.{Header, block, closed, gw, All, all_nil, all_cons, Block, bytes}
use Rattle.grammar.specs.Epl.{origin, acts}
use Rattle.frame_bytes.specs.Frame.{part}
use Rattle.decimals.specs.Decimal.{decimal}
use Rattle.decimals.specs.Joined.{Without}
use Rattle.decimals.proofs.ReadLaws.{field_decimal, decimal_without}
use Rattle.spellings.proofs.FieldLaws.{In32, placed_origin}
use Rattle.spellings.proofs.CodeLaws.{decimal_low}
use Rattle.readback.specs.Shown.{shown}
use Rattle.readback.specs.Written.{header_for}
use Rattle.spellings.specs.Spelled.{lines_of}
use Rattle.spellings.specs.Writable.{inside, whole_rows}

-- a number is a header field

field_all : (t : List ℕ) → Without 44 t → Without 10 t → All in_field t
field_all [] w v = all_nil
field_all (x ∷ t) w v =
    test (eqb x 44)
    (λ e. let k : 0 ≡ suc (length t) = simp e at w in absurd (omega arith))
    (λ e. test (eqb x 10)
    (λ f. let k : 0 ≡ suc (length t) = simp f at v in absurd (omega arith))
    (λ f.
    let k : suc (index_of 44 t) ≡ suc (length t) = simp e at w in
    let j : suc (index_of 10 t) ≡ suc (length t) = simp f at v in
    all_cons (simp (e, f)) (field_all t (omega arith) (omega arith))))

decimal_field : (z : ℤ) → All in_field (decimal z)
decimal_field z = field_all (decimal z) (decimal_without 44 refl (λ e. omega arith) z) (decimal_low 10 (omega arith) z)

-- lines times row bytes

rows_le : (n row : ℕ) → lines_of n row ≤ n
rows_le n row = test (eqb row 0) (λ e. simp e (omega arith)) (λ e. simp e (div-le_self n row))

rows_times : (n row : ℕ) → (eqb n 0 || (ltb 0 row && eqb (n % row) 0)) ≡ true → n ≡ row * lines_of n row
rows_times n row h =
    or_cases (eqb n 0) (ltb 0 row && eqb (n % row) 0)
    (λ e.
    let z = eqb-true n 0 e in
    let k : lines_of n row ≡ 0 = let l = rows_le n row in omega arith in
    z ∙ sym (ap (λ (r : ℕ). row * r) k ∙ mul-zero row))
    (λ e.
    let k = and_both (ltb 0 row) (eqb (n % row) 0) e in
    let p = ltb-true 0 row k.0 in
    let m = eqb-true (n % row) 0 k.1 in
    let q : lines_of n row ≡ n / row = simp (ne_eqb row 0 (λ z. omega arith)) in
    let d = div-add-mod' n row in
    let c : row * (n / row) ≡ n / row * row = mul_comm row (n / row) in
    rw (q, c) (omega arith))
    h

-- the payload behind the header

closed_append : (f a b : List ℕ) → closed f (a ++ b) ≡ closed f a ++ b
closed_append f a b = sym (append_assoc f (44 ∷ a) b)

gw_append : (h : Header) (p : List ℕ) → gw h p ≡ gw h [] ++ p
gw_append h p =
    let l : closed h.lines p ≡ closed h.lines [] ++ p = closed_append h.lines [] p in
    ap (λ (t : List ℕ). 71 ∷ 87 ∷ t)
    (ap (λ (t : List ℕ). closed h.x (closed h.y (closed h.width t))) l
    ∙ ap (λ (t : List ℕ). closed h.x (closed h.y t)) (closed_append h.width (closed h.lines []) p)
    ∙ ap (closed h.x) (closed_append h.y (closed h.width (closed h.lines [])) p)
    ∙ closed_append h.x (closed h.y (closed h.width (closed h.lines []))) p)

payload_there : (h : Header) (p : List ℕ) → take (length p) (drop (length (gw h [])) (gw h p)) ≡ p
payload_there h p =
    ap (λ (t : List ℕ). take (length p) (drop (length (gw h [])) t)) (gw_append h p)
    ∙ ap (take (length p)) (drop-append_seam (gw h []) p)
    ∙ take_all (length p) p (omega arith)

not_below : (z : ℤ) → le_z (pos 0) z ≡ true → z ≡ pos (nat_abs z)
not_below (pos n) h = refl
not_below (negsuc n) h = absurd (true≢false (sym h))

module _ (s : List ℕ) (g : GraphicField) (hx : In32 g.position.x) (hy : In32 g.position.y) (hr : In32 g.row_bytes) (hs : length s < 2147483648) (i : inside s g.«data» ≡ true) (v : le_z (pos 0) g.row_bytes ≡ true) (w : whole_rows (length (part s g.«data»)) (nat_abs g.row_bytes) ≡ true) where
  pub there : g.«data».start + g.«data».len ≤ length s
  there = leb-true (g.«data».start + g.«data».len) (length s) i

  -- its bytes, its lines
  abbrev payload : List ℕ
  payload = part s g.«data»

  abbrev rows : ℕ
  rows = lines_of (length payload) (nat_abs g.row_bytes)

  abbrev header : Header
  header = header_for g.position g.row_bytes payload

  short : length payload ≤ length s
  short = let h = there in simp (length-take, length-drop) (omega arith)

  rows_in : In32 (pos rows)
  rows_in = omega (arith, rows_le (length payload) (nat_abs g.row_bytes), short)

  pub block_stands : Block [] header payload
  block_stands =
      record {
        blanks = all_nil;
        in_x = decimal_field g.position.x;
        in_y = decimal_field g.position.y;
        in_width = decimal_field g.row_bytes;
        in_lines = decimal_field (pos rows);
        w = nat_abs g.row_bytes;
        l = rows;
        width_is = field_decimal (pos 0) g.row_bytes hr ∙ not_below g.row_bytes v;
        lines_is = field_decimal (pos 0) (pos rows) rows_in;
        whole = rows_times (length payload) (nat_abs g.row_bytes) w;
      }

  -- what it yields
  abbrev pub block_it : LabelElement
  block_it = element.GraphicField (record { position = g.position; row_bytes = g.row_bytes; «data» = record { start = length (gw header []); len = length payload } })

  pub block_acts : acts origin (block [] header payload) ≡ yield block_it
  block_acts =
      rw (field_decimal (pos 0) g.position.x hx, field_decimal (pos 0) g.position.y hy, field_decimal (pos 0) g.row_bytes hr)
      (rw (placed_origin g.position.x g.position.y hx hy) refl)

  pub block_same : shown (bytes (block [] header payload)) block_it ≡ shown s (element.GraphicField g)
  block_same = rw (payload_there header payload) refl
