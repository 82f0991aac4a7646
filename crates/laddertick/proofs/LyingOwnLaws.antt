-- What lies where in a string that divides: the elements of its own labels, wherever their data stands
-- (`labels_drawn`, `opened_as`, `answers_alike`).
-- What is told of an element goes by its position and fields alone, which are the same in its unit and in the string.
-- Assumes nothing.
use mathlib.Core.Path.{◌≡◌, refl, sym, ap, subst, ◌∙◌}
use mathlib.Core.Bool.{Bool, true, false, cond, ◌||◌}
use mathlib.Core.List.{List, [], ◌∷◌, ◌++◌, map}
use mathlib.Core.Option.{Option, none, some}
use Prim.Native.Nat.{ℕ, zero, suc}
use native.Mathlib.Omega.{arith}
use lib.Dec.{ltb}
use lib.ListN.{length, take, get_elem?}
use Rattle.elements.specs.Given.{longest}
use Rattle.elements.specs.Plain.{plain_of}
use Rattle.elements.specs.Spans.{later, shifted}
use Rattle.elements.specs.declared.LabelElement.{LabelElement}
use Rattle.elements.specs.declared.LabelPosition.{LabelPosition}
use Rattle.elements.specs.declared.plain.Fields.{Fields}
use Rattle.elements.specs.declared.plain.Plain.{Plain}
use Rattle.elements.proofs.PlainLaws.{plain_on_span}
use Rattle.walk_theory.specs.Index.{Opening, opens, denies, first_in, opening_found, opening}
use Rattle.walk_theory.specs.Labels.{Label, flush}
use Rattle.walk_theory.specs.Language.{keep, clear, yield, print, outside}
use Rattle.walk_theory.specs.Step as steps_of
use Rattle.walk_theory.specs.Trace.{stops, refuses, yields, clears, prints, trace}
use Rattle.grammar.specs.Epl.{EplAct, EplPrint, acts, epl}
use Rattle.grammar.specs.Units.{EplUnit}
use Rattle.grammar.specs.Ranges as ranges
use Rattle.grammar.specs.Ranges.{Role, ref_after, role_of}
use Rattle.grammar.specs.Divided.{yielded_by, pending_after, printed_by, labels_by}
use Rattle.walk.specs.Steps.{EplTrace}
use Rattle.label_index.specs.declared.entry.LabelEntry.{LabelEntry}
use Rattle.label_index.specs.Entries.{EplEntry}
use Rattle.where_element.specs.Place.{is_inside, distance}
use Rattle.where_element.specs.Element.{is_on_by, numbers_from, distances, FirstLeast}
use Rattle.where_label.specs.Found.{ElementOpening, itself}
use Rattle.laddertick.specs.HostContracts.{Library, GivesNumbers}
use Rattle.laddertick.specs.Claims.{Answers}

-- ---- an element without its data
pub record Drawn : Type 0 where
  pub position : LabelPosition
  pub fields : Fields

abbrev pub drawn_in : Plain → Drawn
drawn_in p = record { position = p.position; fields = p.fields }

abbrev pub drawn : LabelElement → Drawn
drawn e = drawn_in (plain_of e)

abbrev pub drawn_of : List ℕ → LabelElement → Drawn
drawn_of s e = drawn e

pub drawn_shifted : (n : ℕ) (e : LabelElement) → drawn (shifted n e) ≡ drawn e
drawn_shifted n e = ap drawn_in (plain_on_span (later n) e)

abbrev pub drawn_label : Label LabelElement EplPrint → Label Drawn EplPrint
drawn_label l = record { count = l.count; says = l.says; frames = map drawn l.frames }

abbrev pub drawn_opening : ElementOpening → Opening Drawn EplPrint
drawn_opening (opens l) = opens (drawn_label l)
drawn_opening (denies k p) = denies k p

map_join : {A B : Type 0} (h : A → B) (xs ys : List A) → map h (xs ++ ys) ≡ map h xs ++ map h ys
map_join h [] ys = refl
map_join h (x ∷ xs) ys = λ i. h x ∷ map_join h xs ys i

map_count : {A B : Type 0} (h : A → B) (xs : List A) → length (map h xs) ≡ length xs
map_count h [] = refl
map_count h (x ∷ xs) = ap suc (map_count h xs)

pub map_at : {A B : Type 0} (h : A → B) (xs : List A) (i : ℕ) (x : A) → get_elem? xs i ≡ some x → get_elem? (map h xs) i ≡ some (h x)
map_at h [] i x e = absurd (let z : ◌≡◌ {A = ℕ} 0 1 = cc in omega arith)
map_at h (y ∷ ys) zero x e = let z : y ≡ x = cc in ap (λ (w : _). some (h w)) z
map_at h (y ∷ ys) (suc i) x e = map_at h ys i x e

-- ---- opening, without data
first_drawn_lem : (i : ℕ) (s : List ℕ) (p : List LabelElement) (t : EplTrace) → first_in epl Drawn drawn_of i s (map drawn p) t ≡ drawn_opening (first_in epl LabelElement itself i s p t)
first_drawn_lem i s p (stops n) = refl
first_drawn_lem i s p (refuses n k) = refl
first_drawn_lem i s p (yields e t) = ap (λ (q : List Drawn). first_in epl Drawn drawn_of i s q t) (sym (map_join drawn p (e ∷ []))) ∙ first_drawn_lem i s (p ++ (e ∷ [])) t
first_drawn_lem i s p (clears t) = first_drawn_lem i s [] t
first_drawn_lem i s p (prints n o t) = refl

cond_drawn : (b : Bool) (k p : ℕ) (x : Opening Drawn EplPrint) (y : ElementOpening) → x ≡ drawn_opening y → cond b (denies k p) x ≡ drawn_opening (cond b (denies k p) y)
cond_drawn true k p x y h = refl
cond_drawn false k p x y h = h

found_drawn : (i : ℕ) (s : List ℕ) (o : Option EplEntry) → opening_found epl Drawn drawn_of i s o ≡ drawn_opening (opening_found epl LabelElement itself i s o)
found_drawn i s none = refl
found_drawn i s (some e) =
    let c = take e.upto s in
    let t = trace epl c (steps_of.state e.from e.start 0) in
    cond_drawn (ltb (length s) e.upto || ltb e.upto e.from) 16 e.upto (first_in epl Drawn drawn_of i c [] t) (first_in epl LabelElement itself i c [] t) (first_drawn_lem i c [] t)

opening_drawn : (s : List ℕ) (es : List EplEntry) (i : ℕ) → opening epl Drawn drawn_of s es i ≡ drawn_opening (opening epl LabelElement itself s es i)
opening_drawn s es i =
    let o = get_elem? es i in
    cond_drawn (ltb longest (length s)) 14 0 (opening_found epl Drawn drawn_of i s o) (opening_found epl LabelElement itself i s o) (found_drawn i s o)

-- ---- the labels of a division, without data
yielded_drawn : (u : EplUnit) (a : EplAct) → yielded_by drawn_of u a ≡ map drawn (yielded_by itself u a)
yielded_drawn u (yield e) = refl
yielded_drawn u (keep r) = refl
yielded_drawn u (clear r) = refl
yielded_drawn u (print q) = refl
yielded_drawn u (outside n) = refl

flush_drawn : (c : EplPrint) (p : List LabelElement) → flush c (map drawn p) ≡ map drawn_label (flush c p)
unfolding flush
flush_drawn c [] = refl
flush_drawn c (e ∷ es) = ap (λ (n : ℕ). record { count = suc n; says = c; frames = map drawn (e ∷ es) } ∷ []) (map_count drawn es)

pub labels_drawn : (us : List EplUnit) (r : LabelPosition) (p : List LabelElement) → labels_by drawn_of r (map drawn p) us ≡ map drawn_label (labels_by itself r p us)
labels_drawn [] r p = refl
labels_drawn (u ∷ us) r p = by (λ q. labels_drawn us (ref_after r u) q) (role_of u)
  where
    by : ((q : List LabelElement) → labels_by drawn_of (ref_after r u) (map drawn q) us ≡ map drawn_label (labels_by itself (ref_after r u) q us)) → (o : Role)
        → printed_by drawn_of o (map drawn p) ++ labels_by drawn_of (ref_after r u) (pending_after drawn_of o (map drawn p) (yielded_by drawn_of u (acts r u))) us
        ≡ map drawn_label (printed_by itself o p ++ labels_by itself (ref_after r u) (pending_after itself o p (yielded_by itself u (acts r u))) us)
    by on ranges.passes = on p
    by on ranges.clears = on []
    by on ranges.yields =
        let y = yielded_by itself u (acts r u) in
        ap (λ (q : List Drawn). labels_by drawn_of (ref_after r u) q us) (ap (λ (x : List Drawn). map drawn p ++ x) (yielded_drawn u (acts r u)) ∙ sym (map_join drawn p y)) ∙ on (p ++ y)
    by on (ranges.prints c) = (λ j. flush_drawn c p j ++ on [] j) ∙ sym (map_join drawn_label (flush c p) (labels_by itself (ref_after r u) [] us))

-- ---- what is told of elements that are drawn alike
numbers_of : (Drawn → Bool) → ℕ → List Drawn → List ℕ
numbers_of t n [] = []
numbers_of t n (d ∷ ds) = cond (t d) (n ∷ numbers_of t (suc n) ds) (numbers_of t (suc n) ds)

numbers_drawn : (t : Drawn → Bool) (n : ℕ) (xs : List LabelElement) → numbers_from (λ e. t (drawn e)) n xs ≡ numbers_of t n (map drawn xs)
unfolding numbers_of
numbers_drawn t n [] = refl
numbers_drawn t n (x ∷ xs) = ap (λ (ns : List ℕ). cond (t (drawn x)) (n ∷ ns) ns) (numbers_drawn t (suc n) xs)

distances_drawn : (q : LabelPosition) (xs : List LabelElement) → distances q xs ≡ map (λ d. distance d.position q) (map drawn xs)
distances_drawn q [] = refl
distances_drawn q (x ∷ xs) = λ i. distance (drawn x).position q ∷ distances_drawn q xs i

module _ (xs ys : List LabelElement) (h : map drawn xs ≡ map drawn ys) where
  same_numbers : (t : Drawn → Bool) → numbers_from (λ e. t (drawn e)) 0 xs ≡ numbers_from (λ e. t (drawn e)) 0 ys
  same_numbers t = numbers_drawn t 0 xs ∙ ap (numbers_of t 0) h ∙ sym (numbers_drawn t 0 ys)

  same_distances : (q : LabelPosition) → distances q xs ≡ distances q ys
  same_distances q = distances_drawn q xs ∙ ap (map (λ d. distance d.position q)) h ∙ sym (distances_drawn q ys)

  pub answers_alike : (library : Library) (s : List ℕ) (es : List LabelEntry) (i : ℕ) → Answers library s es i xs → Answers library s es i ys
  answers_alike library s es i a = record {
    inside = λ b t l. subst (λ (ns : List ℕ). GivesNumbers ns l (library.inside s es i b l)) (same_numbers (λ d. is_inside d.position b)) (a.inside b t l);
    touching = λ b t l. subst (λ (ns : List ℕ). GivesNumbers ns l (library.touching s es i b l)) (same_numbers (λ d. is_on_by b d.position d.fields)) (a.touching b t l);
    nearest = λ q. ((a.nearest q).0, (a.nearest q).1, subst (λ (ds : List ℕ). FirstLeast ds (a.nearest q).0) (same_distances q) (a.nearest q).2);
  }

-- a label that is opened, by what is drawn
pub opened_as : (s : List ℕ) (es : List EplEntry) (i : ℕ) (f : Label LabelElement EplPrint) → opening epl Drawn drawn_of s es i ≡ opens (drawn_label f)
    → (g : Label LabelElement EplPrint) × (opening epl LabelElement itself s es i ≡ opens g) × (map drawn g.frames ≡ map drawn f.frames)
opened_as s es i f h = by (opening epl LabelElement itself s es i) refl
  where
    by : (o : ElementOpening) → opening epl LabelElement itself s es i ≡ o → (g : Label LabelElement EplPrint) × (opening epl LabelElement itself s es i ≡ opens g) × (map drawn g.frames ≡ map drawn f.frames)
    by (opens g) k = let e : opens (drawn_label g) ≡ opens (drawn_label f) = sym (opening_drawn s es i ∙ ap drawn_opening k) ∙ h in let z : drawn_label g ≡ drawn_label f = cc in (g, k, ap (λ (l : Label Drawn EplPrint). l.frames) z)
    by (denies n p) k = let e : ◌≡◌ {A = Opening Drawn EplPrint} (denies n p) (opens (drawn_label f)) = sym (opening_drawn s es i ∙ ap drawn_opening k) ∙ h in let z : ◌≡◌ {A = ℕ} 0 1 = cc in absurd (omega arith)
