-- What lies where, of functions that meet the contracts (`lying`), and a shared
-- point (`shares`). Assumes nothing.
use mathlib.Core.Path.{◌≡◌, refl, sym, ap, subst, ◌∙◌}
use mathlib.Core.Bool.{Bool, true, false, cond, ◌||◌}
use mathlib.Core.List.{List, [], ◌∷◌, ◌++◌}
use mathlib.Core.Logic.{◌↔◌}
use mathlib.Core.Option.{Option, none, some}
use Prim.Native.Nat.{ℕ, zero, suc, ◌≤◌, ◌<◌}
use native.Mathlib.Omega.{arith}
use lib.Dec.{ltb}
use lib.IntN.{ℤ}
use lib.ListN.{length, length-append, take, get_elem?}
use Rattle.elements.specs.Given.{refused, Due, text, denied, Fills, given_of, longest}
use Rattle.elements.specs.declared.LabelElement.{LabelElement}
use Rattle.elements.specs.declared.LabelPosition.{LabelPosition}
use Rattle.elements.specs.declared.refusal.Refusal.{Refusal}
use Rattle.elements.proofs.GivenLaws.{bytes≢refused, fills_kept, text_written, text_short, refusal_due, within_long, within_short}
use Rattle.frame_bytes.specs.Frame.{frame_of}
use Rattle.walk_theory.specs.Index.{opens, denies, first_in, opening_found, opening}
use Rattle.walk_theory.specs.Labels.{Label}
use Rattle.walk_theory.specs.Step as steps_of
use Rattle.walk_theory.specs.Step.{State, element, cleared, printed, ended, step}
use Rattle.walk_theory.specs.Trace as trace_of_lem
use Rattle.walk_theory.specs.Trace.{stops, refuses, yields, clears, prints, on_answer, trace}
use Rattle.walk_theory.proofs.TraceLaws.{goes_by}
use Rattle.grammar.specs.Epl.{EplPrint, epl}
use Rattle.grammar.proofs.FoundLaws.{reads}
use Rattle.walk.specs.Steps.{EplAnswer, EplTrace}
use Rattle.label_index.specs.declared.entry.LabelEntry.{LabelEntry}
use Rattle.label_index.specs.Entries.{EplEntry, entries_of}
use Rattle.label_opening.specs.Opened.{FramedOpening, opening_due, due_of}
use Rattle.where_element.specs.declared.place.Rectangle.{Rectangle}
use Rattle.where_element.specs.Place.{is_turned, is_touching, Shared}
use Rattle.where_element.specs.Element.{inside_of, touching_of, nearest_of, distances, FirstLeast}
use Rattle.where_element.proofs.ElementLaws.{nearest_is}
use Rattle.where_element.proofs.PlaceLaws.{touching_shared, shared_touching}
use Rattle.where_element.specs.declared.found.Found.{Found}
use Rattle.where_element.specs.declared.found.Found.TheVariants as found
use Rattle.where_element.specs.Found as spots
use Rattle.where_element.specs.Found.{given_found, spot_of}
use Rattle.where_label.specs.Found.{ElementOpening, itself, opening_of, found_in, checked, inside_due, touching_due, nearest_in}
use Rattle.laddertick.specs.HostContracts.{Library, Finding, Filling, Denies, DeniesNumbers, GivesNumbers}
use Rattle.laddertick.specs.Claims.{Lying}

-- ---- the label with its frames and with its elements are opened or refused alike
abbrev Alike : FramedOpening → ElementOpening → Type 0
Alike (opens f) (opens e) = Unit
Alike (opens f) (denies k p) = ⊥
Alike (denies k p) (opens e) = ⊥
Alike (denies k p) (denies n q) = (k ≡ n) × (p ≡ q)

first_alike : (i : ℕ) (s : List ℕ) (p : List (List ℕ)) (q : List LabelElement) (t : EplTrace) → Alike (first_in epl (List ℕ) frame_of i s p t) (first_in epl LabelElement itself i s q t)
first_alike i s p q (stops n) = (refl, refl)
first_alike i s p q (refuses n k) = (refl, refl)
first_alike i s p q (yields e t) = first_alike i s (p ++ (frame_of s e ∷ [])) (q ++ (e ∷ [])) t
first_alike i s p q (clears t) = first_alike i s [] [] t
first_alike i s p q (prints n o t) = tt

cond_alike : (b : Bool) (k p : ℕ) (f : FramedOpening) (e : ElementOpening) → Alike f e → Alike (cond b (denies k p) f) (cond b (denies k p) e)
cond_alike true k p f e h = (refl, refl)
cond_alike false k p f e h = h

found_alike : (i : ℕ) (s : List ℕ) (o : Option EplEntry) → Alike (opening_found epl (List ℕ) frame_of i s o) (opening_found epl LabelElement itself i s o)
found_alike i s none = (refl, refl)
found_alike i s (some e) =
    let c = take e.upto s in
    let t = trace epl c (steps_of.state e.from e.start 0) in
    cond_alike (ltb (length s) e.upto || ltb e.upto e.from) 16 e.upto (first_in epl (List ℕ) frame_of i c [] t) (first_in epl LabelElement itself i c [] t) (first_alike i c [] [] t)

opening_alike : (s : List ℕ) (es : List LabelEntry) (i : ℕ) → Alike (opening epl (List ℕ) frame_of s (entries_of es) i) (opening_of s es i)
opening_alike s es i =
    let o = get_elem? (entries_of es) i in
    cond_alike (ltb longest (length s)) 14 0 (opening_found epl (List ℕ) frame_of i s o) (opening_found epl LabelElement itself i s o) (found_alike i s o)

denied_alike : (f : FramedOpening) (e : ElementOpening) (n p : ℕ) → Alike f e → opening_due f ≡ denied n p → e ≡ denies n p
denied_alike (opens f) e n p h k = let z : ◌≡◌ {A = ℕ} 0 1 = cc in absurd (omega arith)
denied_alike (denies a b) (opens e) n p h k = absurd h
denied_alike (denies a b) (denies c d) n p h k = let x : a ≡ n = cc in let y : b ≡ p = cc in λ i. denies ((sym h.0 ∙ x) i) ((sym h.1 ∙ y) i)

-- ---- a label has an element
some_by : (k i : ℕ) (s : List ℕ) (st : State LabelPosition) (p : List LabelElement) (f : Label LabelElement EplPrint) → st.pending ≡ length p
    → first_in epl LabelElement itself i s p (trace_of_lem.steps epl k s st) ≡ opens f → 0 < length f.frames
some_by zero i s st p f n h = let z : ◌≡◌ {A = ℕ} 0 1 = cc in absurd (omega arith)
some_by (suc k) i s st p f n h = by (λ w r m g. some_by k i s w r f m g) (step epl s st) refl h
  where
    by : ((w : State LabelPosition) (r : List LabelElement) → w.pending ≡ length r → first_in epl LabelElement itself i s r (trace_of_lem.steps epl k s w) ≡ opens f → 0 < length f.frames)
        → (a : EplAnswer) → a ≡ step epl s st → first_in epl LabelElement itself i s p (on_answer epl (λ st'. trace_of_lem.steps epl k s st') a) ≡ opens f → 0 < length f.frames
    by on (element e w) q h = let g = goes_by epl reads s st (element e w) q in on w (p ++ (e ∷ [])) (omega (arith, n, g.3, length-append p (e ∷ []))) h
    by on (cleared w) q h = let g = goes_by epl reads s st (cleared w) q in on w [] (omega (arith, g.3)) h
    by on (printed c o w) q h =
        let g = goes_by epl reads s st (printed c o w) q in
        let z : p ≡ f.frames = cc in
        omega (arith, n, g.4, g.5, ap length z)
    by on (ended w) q h = let z : ◌≡◌ {A = ℕ} 0 1 = cc in absurd (omega arith)
    by on (steps_of.refused c o w) q h = let z : ◌≡◌ {A = ℕ} 0 1 = cc in absurd (omega arith)

cond_opens : (b : Bool) (k p : ℕ) (o : ElementOpening) (f : Label LabelElement EplPrint) → cond b (denies k p) o ≡ opens f → o ≡ opens f
cond_opens true k p o f h = let z : ◌≡◌ {A = ℕ} 0 1 = cc in absurd (omega arith)
cond_opens false k p o f h = h

some_found : (i : ℕ) (s : List ℕ) (o : Option EplEntry) (f : Label LabelElement EplPrint) → opening_found epl LabelElement itself i s o ≡ opens f → 0 < length f.frames
unfolding trace
some_found i s none f h = let z : ◌≡◌ {A = ℕ} 0 1 = cc in absurd (omega arith)
some_found i s (some e) f h =
    let c = take e.upto s in
    let st = steps_of.state e.from e.start 0 in
    some_by (suc (trace_of_lem.left c st)) i c st [] f refl (cond_opens (ltb (length s) e.upto || ltb e.upto e.from) 16 e.upto (first_in epl LabelElement itself i c [] (trace epl c st)) f h)

opened_some : (s : List ℕ) (es : List LabelEntry) (i : ℕ) (f : Label LabelElement EplPrint) → opening_of s es i ≡ opens f → 0 < length f.frames
opened_some s es i f h = let o = get_elem? (entries_of es) i in some_found i s o f (cond_opens (ltb longest (length s)) 14 0 (opening_found epl LabelElement itself i s o) f h)

first_least : (q : LabelPosition) (xs : List LabelElement) → 0 < length xs → FirstLeast (distances q xs) (nearest_of q xs)
first_least q [] h = absurd (omega arith)
first_least q (x ∷ xs) h = nearest_is q x xs

number_is : (r : Found) (k : ℕ) → spot_of r ≡ spots.element k → r ≡ found.Number k
number_is (found.Number n) k h = let z : n ≡ k = cc in ap found.Number z
number_is (found.Refused n p) k h = let z : ◌≡◌ {A = ℕ} 0 1 = cc in absurd (omega arith)

-- ---- a call that fills the list l, by what is due to it
module _ (d : Due) (l : List ℕ) (c : Finding) (f : Fills c.list l d (given_found c.answer)) where
  gives_numbers : (ns : List ℕ) → d ≡ text ns → GivesNumbers ns l c
  gives_numbers ns e = let g = subst (λ (x : Due). Fills c.list l x (given_found c.answer)) e f in record { room = text_written ns g; short = text_short ns g }

  denies_numbers : {n p : ℕ} → d ≡ denied n p → DeniesNumbers n p l c
  denies_numbers e = refusal_due (subst (λ (x : Due). Fills c.list l x (given_found c.answer)) e f)

  keeps_numbers : (k : Refusal) (p : ℕ) → c.answer ≡ found.Refused k p → c.list ≡ l
  keeps_numbers k p h = fills_kept d (subst (λ (x : Found). Fills c.list l d (given_found x)) h f)

-- what is refused whatever the buffer is denied
due_denied : (d : Due) (n p : ℕ) (c : List ℕ → Filling) → ((l : List ℕ) → Fills (c l).buffer l d (given_of (c l).answer)) → ((l : List ℕ) → Denies n p l (c l)) → d ≡ denied n p
due_denied (text t) n p c f h = absurd (bytes≢refused (sym (text_written t (f t) (omega arith)).0 ∙ (h t).0))
due_denied (denied a b) n p c f h =
    let e : refused a b ≡ refused n p = sym (refusal_due (f [])).0 ∙ (h []).0 in
    let x : a ≡ n = cc in
    let y : b ≡ p = cc in
    λ i. denied (x i) (y i)

-- ---- what is due, by the tests
proper_by : (t : Bool) (b : Rectangle) (g : List LabelElement → List ℕ) (o : ElementOpening) → is_turned b ≡ false
    → cond t (denied 14 0) (cond (is_turned b) (denied 22 0) (found_in g (cond t (denies 14 0) o))) ≡ found_in g (cond t (denies 14 0) o)
proper_by true b g o h = refl
proper_by false b g o h = simp h

module _ (s : List ℕ) (es : List LabelEntry) (i : ℕ) (b : Rectangle) (g : List LabelElement → List ℕ) where
  proper_due : is_turned b ≡ false → checked s b (found_in g (opening_of s es i)) ≡ found_in g (opening_of s es i)
  proper_due h = proper_by (ltb longest (length s)) b g (opening_found epl LabelElement itself i s (get_elem? (entries_of es) i)) h

  turned_due : length s ≤ longest → is_turned b ≡ true → checked s b (found_in g (opening_of s es i)) ≡ denied 22 0
  turned_due short h = within_short longest s _ short ∙ (simp h)

  long_due : longest < length s → checked s b (found_in g (opening_of s es i)) ≡ denied 14 0
  long_due h = within_long longest s _ h

-- ---- the claims
module _ (library : Library) (s : List ℕ) (es : List LabelEntry) (i : ℕ) where
  refuses_alike : (n p : ℕ) → ((l : List ℕ) → Denies n p l (library.open_label s es i l)) → opening_of s es i ≡ denies n p
  refuses_alike n p h = denied_alike (opening epl (List ℕ) frame_of s (entries_of es) i) (opening_of s es i) n p (opening_alike s es i) (due_denied (due_of s es i) n p (λ l. library.open_label s es i l) (λ l. library.opens s es i l) h)

  pub lying : Lying library s es i
  lying = record {
    opened = λ f h. record {
      inside = λ b t l. gives_numbers (inside_due s es i b) l (library.inside s es i b l) (library.insides s es i b l) _ (proper_due s es i b (inside_of b) t ∙ ap (found_in (inside_of b)) h);
      touching = λ b t l. gives_numbers (touching_due s es i b) l (library.touching s es i b l) (library.touches s es i b l) _ (proper_due s es i b (touching_of b) t ∙ ap (found_in (touching_of b)) h);
      nearest = λ q. (nearest_of q f.frames, number_is (library.nearest s es i q) (nearest_of q f.frames) (library.nears s es i q ∙ ap (nearest_in q) h), first_least q f.frames (opened_some s es i f h));
    };
    inside_refused = λ n p h b t l. denies_numbers (inside_due s es i b) l (library.inside s es i b l) (library.insides s es i b l) (proper_due s es i b (inside_of b) t ∙ ap (found_in (inside_of b)) (refuses_alike n p h));
    touching_refused = λ n p h b t l. denies_numbers (touching_due s es i b) l (library.touching s es i b l) (library.touches s es i b l) (proper_due s es i b (touching_of b) t ∙ ap (found_in (touching_of b)) (refuses_alike n p h));
    nearest_refused = λ n p h q. library.nears s es i q ∙ ap (nearest_in q) (refuses_alike n p h);
    inside_turned = λ short b t l. denies_numbers (inside_due s es i b) l (library.inside s es i b l) (library.insides s es i b l) (turned_due s es i b (inside_of b) short t);
    touching_turned = λ short b t l. denies_numbers (touching_due s es i b) l (library.touching s es i b l) (library.touches s es i b l) (turned_due s es i b (touching_of b) short t);
    inside_long = λ h b l. denies_numbers (inside_due s es i b) l (library.inside s es i b l) (library.insides s es i b l) (long_due s es i b (inside_of b) h);
    touching_long = λ h b l. denies_numbers (touching_due s es i b) l (library.touching s es i b l) (library.touches s es i b l) (long_due s es i b (touching_of b) h);
    inside_keeps = λ b l k p h. keeps_numbers (inside_due s es i b) l (library.inside s es i b l) (library.insides s es i b l) k p h;
    touching_keeps = λ b l k p h. keeps_numbers (touching_due s es i b) l (library.touching s es i b l) (library.touches s es i b l) k p h;
  }

pub shares : (x y w h : ℤ) (b : Rectangle) → is_turned b ≡ false → (is_touching x y w h b ≡ true) ↔ Shared x y w h b
shares x y w h b t = (touching_shared x y w h b t, shared_touching x y w h b)
