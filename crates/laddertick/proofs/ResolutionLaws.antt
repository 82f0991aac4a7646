-- From 203 to 300 dots, of any functions that meet the contracts: what opening refuses is refused, and what it opens is
-- refused or converted (`resolution`). Assumes nothing.
use mathlib.Core.Path.{◌≡◌, refl, sym, ap, subst, ◌∙◌}
use mathlib.Core.List.{List, [], ◌∷◌}
use Prim.Native.Nat.{ℕ, ◌<◌}
use lib.ListN.{length, take, get_or}
use borrow.Author.Tests.{lt-ltb}
use Rattle.frame_bytes.specs.Frame.{frame_of}
use Rattle.elements.specs.Given.{longest}
use Rattle.walk_theory.specs.Index as theory
use Rattle.file_listing.specs.Listing.{FramedLabel}
use Rattle.label_index.specs.declared.entry.LabelEntry.{LabelEntry}
use Rattle.label_index.specs.Entries.{no_entry}
use Rattle.label_opening.specs.Opened as opening
use Rattle.dots.specs.declared.element.Element300.{Element300}
use Rattle.dots_label.specs.Conversion.{Drawn, DrawnOpening, Conversion, converts, denied, conversion_by, drawn_of, Converts}
use Rattle.dots_label.specs.declared.label.Label300.{Label300}
use Rattle.dots_label.specs.Promise.{Denied, Resolved}
use Rattle.dots_label.proofs.PlacedLaws as placed
use Rattle.dots_label.proofs.PromiseLaws.{denies, resolved, opening_placed, placed_denies, placed_opens}
use Rattle.dots_label.proofs.BeginsLaws.{OfLabel, label_begins}
use Rattle.grammar.specs.Epl.{epl}
use Rattle.laddertick.specs.HostContracts.{Library}
use Rattle.laddertick.specs.Framed.{Framed, frames_of}
use Rattle.laddertick.specs.Claims.{Resolution}

same_frames : (t : List ℕ) (ds : List Drawn) → placed.frames_of epl (List ℕ) frame_of t ds ≡ frames_of t ds
same_frames t [] = refl
same_frames t (d ∷ ds) = ap (λ (fs : List (List ℕ)). frame_of t d.element ∷ fs) (same_frames t ds)

keeps_by : (c : Conversion) (n l : List Element300) (r : Label300) → Converts n l c r → (r.number ≡ 0 → ⊥) → n ≡ l
keeps_by (converts q xs) n l r w h = absurd (h (ap (λ (x : Label300). x.number) w.answer))
keeps_by (denied k p) n l r w h = w.list

module _ (library : Library) (s : List ℕ) (es : List LabelEntry) (i : ℕ) where
  abbrev t : List ℕ
  t = take (get_or es i no_entry).last s

  -- by what opening with places answers
  by : (o : DrawnOpening) → drawn_of s es i ≡ o → (l : List Element300) → Converts (library.to_300 s es i l).list l (conversion_by (length l) o) (library.to_300 s es i l).answer
  by o e l = subst (λ (x : DrawnOpening). Converts (library.to_300 s es i l).list l (conversion_by (length l) x) (library.to_300 s es i l).answer) e (library.converts s es i l)

  pub to_300_keeps : (l : List Element300) → ((library.to_300 s es i l).answer.number ≡ 0 → ⊥) → (library.to_300 s es i l).list ≡ l
  to_300_keeps l = keeps_by (conversion_by (length l) (drawn_of s es i)) _ l _ (library.converts s es i l)

  pub long_to_300 : (l : List Element300) → longest < length s → Denied 14 0 l (library.to_300 s es i l).list (library.to_300 s es i l).answer
  long_to_300 l h = let e : drawn_of s es i ≡ theory.denies 14 0 = simp (lt-ltb 16777216 (length s) h) in denies 14 0 l _ _ (by (theory.denies 14 0) e l)

  pub resolution : Resolution library s es i
  resolution = record {
    unopened = λ k p e l. denies k p l _ _ (by (theory.denies k p) (placed_denies (List ℕ) frame_of s i t (drawn_of s es i) k p (sym (opening_placed (List ℕ) frame_of s i es) ∙ e)) l);
    opened = λ f e. opened_of f e;
  }
    where
      opened_of : (f : FramedLabel) → opening.opening_of s es i ≡ theory.opens f → (ds : List Drawn) × Framed s es i f ds
          × ((l : List Element300) → Resolved f.says ds l (library.to_300 s es i l).list (library.to_300 s es i l).answer)
      opened_of f e =
          let w = placed_opens (List ℕ) frame_of s i t (drawn_of s es i) f (sym (opening_placed (List ℕ) frame_of s i es) ∙ e) in
          (w.0, record { drawn = w.1; begins = subst (OfLabel t) w.1 (label_begins s i es); frames = w.2 ∙ same_frames t w.0 }, λ l. resolved f.says w.0 l _ _ (by _ w.1 l))
