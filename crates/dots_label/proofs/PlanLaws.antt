-- What is due for a label, as code has it: by the first element that has a number, the room, and the elements that are
-- made (`label_graphic`, `label_outside`, `label_short`, `label_plan`); and for an entry, as the tests go (`due_found`,
-- `entry_long`, ..). Assumes nothing.
use mathlib.Core.Path.{◌≡◌, refl, sym, ap, subst, ◌∙◌}
use mathlib.Core.Bool.{Bool, true, false, cond}
use mathlib.Core.Option.{none, some}
use mathlib.Core.List.{List, [], ◌∷◌, ◌++◌}
use Prim.Native.Nat.{ℕ, zero, suc, ◌+◌, ◌≤◌, ◌<◌}
use native.Mathlib.Omega.{arith}
use lib.Dec.{eqb, ltb}
use lib.ListN.{length, take, drop, get_or, get_elem?}
use lib.Seq.{sets-eq}
use borrow.Author.Tests.{eqb-true, eqb-false, lt-ltb, le-ltb, ltb-true, ltb-false}
use Rattle.elements.specs.declared.LabelElement.{LabelElement}
use Rattle.elements.specs.declared.walk_state.WalkState.{WalkState}
use Rattle.elements.specs.Given.{longest}
use Rattle.lent_lists.specs.Filled.{made}
use Rattle.walk_theory.specs.Index.{denies, opening_by, opening_found}
use Rattle.grammar.specs.Epl.{EplPrint, epl}
use Rattle.label_index.specs.Entries.{entry_of, entries_of, no_entry}
use Rattle.label_index.specs.declared.entry.LabelEntry.{LabelEntry}
use Rattle.structs.specs.Flat.{flat_element}
use Rattle.dots.specs.declared.element.Element300.{Element300}
use Rattle.dots.specs.Element as one
use Rattle.dots.specs.Element.{element300}
use Rattle.dots.proofs.ElementLaws.{converted_fits}
use Rattle.dots_label.specs.Placed.{placed}
use Rattle.dots_label.specs.Conversion.{Drawn, DrawnOpening, Conversion, converts, denied, outside, first_of, into, elements300, label_conversion, conversion_by, conversion_of, list_of}
use Rattle.dots_label.specs.Walked.{drawn_from, first_drawn, fault_of, fault_from, next_of, entry_drawn, elements_of, Plans}
use Rattle.dots_label.specs.declared.fault.Fault.{Fault}
use Rattle.dots_label.specs.declared.fill.Cursor.{Cursor}
use Rattle.dots_label.specs.declared.plan.Plan.{Plan}
use Rattle.dots_label.proofs.WalkedLaws.{plainly, made_all}

-- each element of a list
abbrev pub each : (LabelElement → Element300) → List Drawn → List Element300
each f [] = []
each f (d ∷ ds) = f d.element ∷ each f ds

plain_is : (ds : List Drawn) → plainly ds ≡ each (λ e. one.or_nothing (one.converted_element (flat_element e))) ds
plain_is [] = refl
plain_is (d ∷ ds) = ap (λ (xs : List Element300). one.or_nothing (one.converted_element (flat_element d.element)) ∷ xs) (plain_is ds)

elements_is : (ds : List Drawn) → elements300 ds ≡ each (λ e. element300 (flat_element e)) ds
elements_is [] = refl
elements_is (d ∷ ds) = ap (λ (xs : List Element300). element300 (flat_element d.element) ∷ xs) (elements_is ds)

-- ---- the first element that has a number
module _ (g : Bool) where
  abbrev result_of : ℕ → Drawn → List Drawn → Bool → Fault
  result_of n d ds b = cond b (fault_from g (suc n) ds) (record { number = fault_of g d.element; place = d.place })

  pub fault_some : (n : ℕ) (ds : List Drawn) → ((fault_from g n ds).number ≡ 0 → ⊥) → (c : Conversion) → denied (fault_from g n ds).number (fault_from g n ds).place ≡ first_of (fault_of g) ds c
  fault_some n [] h c = absurd (h refl)
  fault_some n (d ∷ ds) h c = by (eqb (fault_of g d.element) 0) (λ h'. fault_some (suc n) ds h' c) h
    where
      by : (b : Bool) → (((fault_from g (suc n) ds).number ≡ 0 → ⊥) → denied (fault_from g (suc n) ds).number (fault_from g (suc n) ds).place ≡ first_of (fault_of g) ds c) → ((result_of n d ds b).number ≡ 0 → ⊥)
          → denied (result_of n d ds b).number (result_of n d ds b).place ≡ cond b (first_of (fault_of g) ds c) (denied (fault_of g d.element) d.place)
      by true again h = again h
      by false again h = refl

  -- where none has one
  pub record Unfaulted (n : ℕ) (ds : List Drawn) : Type 0 where
    pub on : (c : Conversion) → first_of (fault_of g) ds c ≡ c
    pub count : (fault_from g n ds).place ≡ n + length ds
    pub all : (f : LabelElement → Element300) (h : LabelElement → Element300) → ((e : LabelElement) → fault_of g e ≡ 0 → f e ≡ h e) → each f ds ≡ each h ds

  pub fault_none : (n : ℕ) (ds : List Drawn) → (fault_from g n ds).number ≡ 0 → Unfaulted n ds
  fault_none n [] e = record { on = λ c. refl; count = omega arith; all = λ f h k. refl }
  fault_none n (d ∷ ds) e = by (eqb (fault_of g d.element) 0) refl (fault_none (suc n) ds) e
    where
      by : (b : Bool) → eqb (fault_of g d.element) 0 ≡ b → ((fault_from g (suc n) ds).number ≡ 0 → Unfaulted (suc n) ds) → (result_of n d ds b).number ≡ 0 → Unfaulted n (d ∷ ds)
      by true q again e =
          let u = again e in
          record {
            on = λ c. simp q (u.on c);
            count = simp q (u.count ∙ omega arith);
            all = λ f h k. (λ i. k d.element (eqb-true (fault_of g d.element) 0 q) i ∷ u.all f h k i);
          }
      by false q again e = absurd (eqb-false (fault_of g d.element) 0 q e)

-- ---- a label
length_elements : (ds : List Drawn) → length (elements300 ds) ≡ length ds
length_elements [] = refl
length_elements (d ∷ ds) = ap suc (length_elements ds)

module _ (t : List ℕ) (m : ℕ) (q : EplPrint) (w : WalkState) (fresh : w.pending ≡ 0) (a : Fault) (first : a ≡ fault_from true w.pending (drawn_from t w)) where
  abbrev ds : List Drawn
  ds = drawn_from t w

  abbrev due : Conversion
  due = label_conversion m q ds

  pub label_graphic : (a.number ≡ 0 → ⊥) → denied a.number a.place ≡ due
  label_graphic h =
      ap (λ (x : Fault). denied x.number x.place) first
      ∙ fault_some true w.pending ds (λ e. h (ap (λ (x : Fault). x.number) first ∙ e)) _

  module _ (none : a.number ≡ 0) (o : Fault) (second : o ≡ fault_from false w.pending ds) where
    past_graphic : due ≡ first_of outside ds (into m q (elements300 ds))
    past_graphic = (fault_none true w.pending ds (sym (ap (λ (x : Fault). x.number) first) ∙ none)).on _

    pub label_outside : (o.number ≡ 0 → ⊥) → denied o.number o.place ≡ due
    label_outside h =
        ap (λ (x : Fault). denied x.number x.place) second
        ∙ fault_some false w.pending ds (λ e. h (ap (λ (x : Fault). x.number) second ∙ e)) _ ∙ sym past_graphic

    module _ (fits : o.number ≡ 0) where
      un : Unfaulted false w.pending ds
      un = fault_none false w.pending ds (sym (ap (λ (x : Fault). x.number) second) ∙ fits)

      past_outside : due ≡ cond (ltb m (length (elements300 ds))) (denied 15 (length (elements300 ds))) (converts q (elements300 ds))
      past_outside = past_graphic ∙ un.on _

      counted : o.place ≡ length ds
      counted = ap (λ (x : Fault). x.place) second ∙ un.count ∙ omega (arith, fresh)

      as_long : o.place ≡ length (elements300 ds)
      as_long = counted ∙ sym (length_elements ds)

      pub label_short : m < o.place → denied 15 o.place ≡ due
      label_short h = ap (denied 15) as_long ∙ sym (past_outside ∙ simp (lt-ltb m (length (elements300 ds)) (omega (arith, h, as_long))))

      abbrev pub planned : Element300 → Plan
      planned x = record { answer = record { number = 0; place = o.place; sets = q.sets; copies = q.copies }; todo = o.place; start = record { element = x; state = w; last = length t } }

      pub label_plan : o.place ≤ m → (x : Element300) → Plans t m due (planned x)
      label_plan h x =
          let is : due ≡ converts q (elements300 ds) = past_outside ∙ simp (le-ltb m (length (elements300 ds)) (omega (arith, h, as_long))) in
          subst (λ (c : Conversion). Plans t m c (planned x)) (sym is) (record {
            answers = λ i. record { number = 0; place = as_long i; sets = q.sets; copies = q.copies };
            makes = λ s cut. made_all s t o.place (planned x).start cut (sym counted) ∙ plain_is ds ∙ un.all (λ e. one.or_nothing (one.converted_element (flat_element e))) (λ e. element300 (flat_element e)) (λ e. converted_fits (flat_element e)) ∙ sym (elements_is ds);
            room = h;
            last = λ _. refl;
          })

-- ---- the entry with a number
pub found_at : (es : List LabelEntry) (i : ℕ) → i < length es → get_elem? (entries_of es) i ≡ some (entry_of (get_or es i no_entry))
found_at [] i h = absurd (omega arith)
found_at (e ∷ es) zero h = refl
found_at (e ∷ es) (suc i) h = found_at es i (omega arith)

pub found_past : (es : List LabelEntry) (i : ℕ) → length es ≤ i → get_elem? (entries_of es) i ≡ none
found_past [] i h = refl
found_past (e ∷ es) zero h = absurd (omega arith)
found_past (e ∷ es) (suc i) h = found_past es i (omega arith)

pub due_found : (s : List ℕ) (es : List LabelEntry) (i m : ℕ) → conversion_by m (entry_drawn s (length es) i (get_or es i no_entry)) ≡ conversion_of s es i m
due_found s es i m =
    ap (λ (o : DrawnOpening). conversion_by m (cond (ltb longest (length s)) (denies 14 0) o)) (by (ltb i (length es)) refl)
  where
    by : (b : Bool) → ltb i (length es) ≡ b
        → cond b (opening_by (placed epl) Drawn (λ _ d. d) i s (entry_of (get_or es i no_entry))) (denies 21 i) ≡ opening_found (placed epl) Drawn (λ _ d. d) i s (get_elem? (entries_of es) i)
    by true e = ap (opening_found (placed epl) Drawn (λ _ d. d) i s) (sym (found_at es i (ltb-true i (length es) e)))
    by false e = ap (opening_found (placed epl) Drawn (λ _ d. d) i s) (sym (found_past es i (ltb-false i (length es) e)))

-- ---- what is due for an entry, as the tests go
module _ (s : List ℕ) (n i : ℕ) (e : LabelEntry) (m : ℕ) where
  pub entry_long : longest < length s → denied 14 0 ≡ conversion_by m (entry_drawn s n i e)
  entry_long h = simp (lt-ltb 16777216 (length s) h)

  module _ (short : length s ≤ longest) where
    pub entry_past : n ≤ i → denied 21 i ≡ conversion_by m (entry_drawn s n i e)
    entry_past h = simp (le-ltb 16777216 (length s) short, le-ltb i n h)

    module _ (found : i < n) where
      pub entry_beyond : length s < e.last → denied 16 e.last ≡ conversion_by m (entry_drawn s n i e)
      entry_beyond h = simp (le-ltb 16777216 (length s) short, lt-ltb i n found, lt-ltb (length s) e.last h)

      pub entry_backwards : e.last ≤ length s → e.last < e.first → denied 16 e.last ≡ conversion_by m (entry_drawn s n i e)
      entry_backwards h k = simp (le-ltb 16777216 (length s) short, lt-ltb i n found, le-ltb (length s) e.last h, lt-ltb e.last e.first k)

      pub entry_walked : e.last ≤ length s → e.first ≤ e.last
          → conversion_by m (first_drawn (take e.last s) (record { reference = e.reference; pending = 0; place = e.first }) i) ≡ conversion_by m (entry_drawn s n i e)
      entry_walked h k = simp (le-ltb 16777216 (length s) short, lt-ltb i n found, le-ltb (length s) e.last h, le-ltb e.last e.first k)

-- ---- what the list becomes
pub listed : (c : Conversion) (l : List Element300) (n : ℕ) → length (elements_of c) ≡ n → n ≤ length l → elements_of c ++ drop n l ≡ list_of c l
listed (converts q xs) l n e h =
    let k : 0 + length xs ≡ n = omega (arith, e) in
    sym (sets-eq xs l 0 (omega (arith, e, h)) ∙ ap (λ (j : ℕ). xs ++ drop j l) k)
listed (denied k p) l n e h = ap (λ (j : ℕ). drop j l) (sym e)

-- ---- the file that is cut
take_short : (n : ℕ) (s : List ℕ) → length (take n s) ≤ length s
take_short zero s = omega arith
take_short (suc n) [] = omega arith
take_short (suc n) (b ∷ s) = let h = take_short n s in omega (arith, h)

take_again : (n : ℕ) (s : List ℕ) → take (length (take n s)) s ≡ take n s
take_again zero s = refl
take_again (suc n) [] = refl
take_again (suc n) (b ∷ s) = ap (λ (t : List ℕ). b ∷ t) (take_again n s)

length_made : (s : List ℕ) (n : ℕ) (c : Cursor) → length (made (next_of s) (λ x. x.element) n c) ≡ n
length_made s zero c = refl
length_made s (suc n) c = ap suc (length_made s n (next_of s c))

module _ (s : List ℕ) (n : ℕ) (l : List Element300) (d : Conversion) (p : Plan) (w : Plans (take n s) (length l) d p) where
  pub plan_within : 0 < p.todo → p.start.last ≤ length s
  plan_within h = let e = w.last h in let k = take_short n s in omega (arith, e, k)

  makes : made (next_of s) (λ x. x.element) p.todo p.start ≡ elements_of d
  makes = w.makes s (λ h. ap (λ (k : ℕ). take k s) (w.last h) ∙ take_again n s)

  pub plan_list : made (next_of s) (λ x. x.element) p.todo p.start ++ drop p.todo l ≡ list_of d l
  plan_list = ap (λ (xs : List Element300). xs ++ drop p.todo l) makes ∙ listed d l p.todo (sym (ap length makes) ∙ length_made s p.todo p.start) w.room
