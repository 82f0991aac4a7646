-- A line is not well formed exactly where `LineFault` names a fault (`ill_has_fault`, `fault_is_ill`), and `fault_of` is
-- that fault's number; a well-formed one has none (`faultless`, `well_faultless`). Assumes nothing.
use mathlib.Core.Path.{◌≡◌, sym, ap, ◌∙◌}
use mathlib.Core.Bool.{true, false, true≢false, false≢true}
use mathlib.Core.List.{List, [], ◌∷◌}
use mathlib.Core.Logic.{inl, inr}
use Prim.Native.Nat.{ℕ, ◌<◌}
use native.Mathlib.Omega.{arith}
use lib.Dec.{eqb, leb}
use lib.ListN.{length, drop}
use borrow.Author.Tests.{leb-true, leb-false, le-leb, lt-leb, eqb-false, ne_eqb}
use Rattle.text.specs.Ascii.{ascii}
use Rattle.text.specs.Blank.{trim}
use Rattle.text.specs.Fields.{field, quoted, same}
use Rattle.text.specs.Table.{any_of}
use Rattle.text.specs.Utf8.{decode}
use Rattle.text.proofs.BoolLaws.{test}
use Rattle.text.proofs.FieldsLaws.{same_refl, same_true}
use Rattle.command_letters.specs.declared.command.Command.{Command}
use Rattle.command_letters.specs.declared.command.Command.TheVariants.{Clear, Reference, Data, Line, Diagonal, Box, Print, Other}
use Rattle.command_letters.specs.declared.command.DataCommand.{DataCommand}
use Rattle.command_letters.specs.declared.command.DataCommand.TheVariants.{Text, Barcode, Barcode2d}
use Rattle.command_letters.specs.Command.{command_of}
use Rattle.barcodes.specs.Barcode.{types}
use Rattle.barcodes_2d.specs.Barcode2d.{types2d}
use Rattle.commands.specs.Line.{params_of}
use Rattle.grammar.specs.Spelled.{Spells}
use Rattle.grammar.specs.LineFaults.{count, OneOf, SpellsRead, LineFault, few_a, few_b, few_2d, few_line, few_ls, few_x, type_b, type_2d, long_qr}
use Rattle.grammar.specs.WellFormed.{at_least, well_formed_as, well_formed, fault_as, fault_of}
use Rattle.grammar.proofs.SpelledLaws.{command_spells, spells_command}

one_any : (xs : List (List ℕ)) (f : List ℕ) → OneOf xs f → any_of xs f ≡ true
one_any [] f o = absurd o
one_any (x ∷ xs) f (inl e) = rw (e, same_refl x)
one_any (x ∷ xs) f (inr o) = test (same f x) (λ e. simp e) (λ e. simp (e, one_any xs f o))

pub any_one : (xs : List (List ℕ)) (f : List ℕ) → any_of xs f ≡ true → OneOf xs f
any_one [] f h = absurd (false≢true h)
any_one (x ∷ xs) f h = test (same f x) (λ e. inl (same_true f x e)) (λ e. inr (any_one xs f (simp e at h)))

not_any : (xs : List (List ℕ)) (f : List ℕ) → (OneOf xs f → ⊥) → any_of xs f ≡ false
not_any xs f n = test (any_of xs f) (λ e. absurd (n (any_one xs f e))) (λ e. e)

any_not : (xs : List (List ℕ)) (f : List ℕ) → any_of xs f ≡ false → OneOf xs f → ⊥
any_not xs f e o = true≢false (sym (one_any xs f o) ∙ e)

-- ---- a line that is not well formed has a fault
module _ (t : List ℕ) where
  abbrev params : List ℕ
  params = params_of t

  abbrev Faulty : Command → Type 0
  Faulty c = well_formed_as c t ≡ false → LineFault t (fault_as c t)

  -- where data is read
  a_fault : SpellsRead Text t → eqb (length (quoted t)) 0 ≡ false → Faulty (Data Text)
  a_fault p r h =
      test (at_least 7 params)
      (λ e. absurd (true≢false (simp (r, e) at h)))
      (λ e. simp e (few_a p (leb-false 7 (count params) e)))

  b_fault : SpellsRead Barcode t → eqb (length (quoted t)) 0 ≡ false → Faulty (Data Barcode)
  b_fault p r h =
      let f = trim (field params 3) in
      test (at_least 8 params)
      (λ e. test (any_of types f)
      (λ y. absurd (true≢false (simp (r, e, y) at h)))
      (λ y. simp (e, y) (type_b p (leb-true 8 (count params) e) (any_not types f y))))
      (λ e. simp e (few_b p (leb-false 8 (count params) e)))

  2d-fault : SpellsRead Barcode2d t → eqb (length (quoted t)) 0 ≡ false → Faulty (Data Barcode2d)
  2d-fault p r h =
      let f = trim (field params 2) in
      let n = length (decode (quoted t)) in
      test (at_least 3 params)
      (λ e. test (any_of types2d f)
      (λ y. test (same f (ascii "Q"))
      (λ q. test (leb n 9999)
      (λ l. absurd (true≢false (rw (r, e, y, q, l) at h)))
      (λ l. simp (e, y) (long_qr p (leb-true 3 (count params) e) (same_true f (ascii "Q") q) (leb-false n 9999 l))))
      (λ q. absurd (true≢false (rw (r, e, y, q) at h))))
      (λ y. simp (e, y) (type_2d p (leb-true 3 (count params) e) (any_not types2d f y))))
      (λ e. simp e (few_2d p (leb-false 3 (count params) e)))

  read_fault : (c : DataCommand) → SpellsRead c t → eqb (length (quoted t)) 0 ≡ false → Faulty (Data c)
  read_fault Text = a_fault
  read_fault Barcode = b_fault
  read_fault Barcode2d = 2d-fault

  data_fault : (c : DataCommand) → Spells (Data c) t → Faulty (Data c)
  data_fault c p h =
      test (eqb (length (quoted t)) 0)
      (λ e. absurd (true≢false (simp e at h)))
      (λ e. let n = eqb-false (length (quoted t)) 0 e in read_fault c (p, omega arith) e h)

  command_fault : (c : Command) → Spells c t → Faulty c
  command_fault Clear p h = absurd (true≢false h)
  command_fault Reference p h = absurd (true≢false h)
  command_fault (Data c) p h = data_fault c p h
  command_fault (Line c) p h =
      test (at_least 4 (drop 2 t)) (λ e. absurd (true≢false (simp e at h))) (λ e. simp e (few_line p (leb-false 4 (count (drop 2 t)) e)))
  command_fault Diagonal p h =
      test (at_least 5 (drop 2 t)) (λ e. absurd (true≢false (simp e at h))) (λ e. simp e (few_ls p (leb-false 5 (count (drop 2 t)) e)))
  command_fault Box p h =
      test (at_least 5 (drop 1 t)) (λ e. absurd (true≢false (simp e at h))) (λ e. simp e (few_x p (leb-false 5 (count (drop 1 t)) e)))
  command_fault Print p h = absurd (true≢false h)
  command_fault Other p h = absurd (true≢false h)

  pub ill_has_fault : well_formed t ≡ false → LineFault t (fault_of t)
  unfolding well_formed fault_of
  ill_has_fault h = command_fault (command_of t) (command_spells t) h

-- ---- a fault is that of a line that is not well formed
module _ (t : List ℕ) where
  -- not well formed, and n is its number
  abbrev pub Ill : ℕ → Type 0
  Ill n = (well_formed t ≡ false) × (fault_of t ≡ n)

  -- of a command c, by what its tests say
  abbrev IllAs : Command → ℕ → Type 0
  IllAs c n = (well_formed_as c t ≡ false) × (fault_as c t ≡ n)

  ill_as : (c : Command) (n : ℕ) → Spells c t → IllAs c n → Ill n
  unfolding well_formed fault_of
  ill_as c n p h = let e = spells_command p in (ap (λ (x : Command). well_formed_as x t) e ∙ h.0, ap (λ (x : Command). fault_as x t) e ∙ h.1)

  is_read_lem : 0 < length (quoted t) → eqb (length (quoted t)) 0 ≡ false
  is_read_lem h = ne_eqb (length (quoted t)) 0 (λ e. omega arith)

  pub fault_is_ill : {n : ℕ} → LineFault t n → Ill n
  fault_is_ill (few_a p h) = let r = is_read_lem p.1 in let k = lt-leb 7 (count (params_of t)) h in ill_as (Data Text) 1 p.0 (simp (r, k), simp k)
  fault_is_ill (few_b p h) = let r = is_read_lem p.1 in let k = lt-leb 8 (count (params_of t)) h in ill_as (Data Barcode) 2 p.0 (simp (r, k), simp k)
  fault_is_ill (few_2d p h) = let r = is_read_lem p.1 in let k = lt-leb 3 (count (params_of t)) h in ill_as (Data Barcode2d) 3 p.0 (simp (r, k), simp k)
  fault_is_ill (few_line {c} p h) = let k = lt-leb 4 (count (drop 2 t)) h in ill_as (Line c) 4 p (simp k, simp k)
  fault_is_ill (few_ls p h) = let k = lt-leb 5 (count (drop 2 t)) h in ill_as Diagonal 5 p (simp k, simp k)
  fault_is_ill (few_x p h) = let k = lt-leb 5 (count (drop 1 t)) h in ill_as Box 6 p (simp k, simp k)
  fault_is_ill (type_b p h o) =
      let r = is_read_lem p.1 in
      let k = le-leb 8 (count (params_of t)) h in
      let y = not_any types (trim (field (params_of t) 3)) o in
      ill_as (Data Barcode) 7 p.0 (simp (r, k, y), simp (k, y))
  fault_is_ill (type_2d p h o) =
      let r = is_read_lem p.1 in
      let k = le-leb 3 (count (params_of t)) h in
      let y = not_any types2d (trim (field (params_of t) 2)) o in
      ill_as (Data Barcode2d) 8 p.0 (simp (r, k, y), simp (k, y))
  fault_is_ill (long_qr p h q l) =
      let r = is_read_lem p.1 in
      let k = le-leb 3 (count (params_of t)) h in
      let n = lt-leb (length (decode (quoted t))) 9999 l in
      ill_as (Data Barcode2d) 9 p.0 (simp (r, k, q, n), simp (k, q))

-- ---- well formed, as the reader tests it, is: none of the faults
pub faultless : (t : List ℕ) → ((n : ℕ) → LineFault t n → ⊥) → well_formed t ≡ true
faultless t none = test (well_formed t) (λ e. e) (λ e. absurd (none (fault_of t) (ill_has_fault t e)))

pub well_faultless : (t : List ℕ) → well_formed t ≡ true → (n : ℕ) → LineFault t n → ⊥
well_faultless t e n f = true≢false (sym e ∙ (fault_is_ill t f).0)
