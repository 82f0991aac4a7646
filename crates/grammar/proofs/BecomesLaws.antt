-- The normalised text of a string that divides is what becomes of its units (`becomes`); trimming takes ASCII blanks
-- off both ends (`stripped`).
-- Assumes nothing.
use mathlib.Core.Path.{◌≡◌, refl, sym, ap, subst, ◌∙◌}
use mathlib.Core.Bool.{Bool, false}
use mathlib.Core.List.{List, [], ◌∷◌, ◌++◌, append-nil, append_assoc, reverse, reverse-append, reverse-reverse}
use Prim.Native.Nat.{ℕ}
use Rattle.text.specs.Blank.{is_ascii_blank, drop_while, front, trim_ascii}
use Rattle.walk_theory.specs.Division.{Division, done, more}
use Rattle.walk_theory.specs.Normal.{each}
use Rattle.grammar.specs.Units.{EplUnit, block, line, last, bytes, All, all_nil, all_cons}
use Rattle.grammar.specs.Epl.{epl}
use Rattle.grammar.specs.Normal.{kept, normal, normalised}
use Rattle.grammar.specs.Becomes.{Bare, Stripped, ended, Becomes, nothing, a_block, a_line, a_last}
use Rattle.grammar.proofs.FrontLaws.{front_drop, front_all, drop_stops}
use Rattle.grammar.proofs.NormalLaws.{normalised_unit, normalised_nil}

-- ---- a line without its blanks
all_append : {p : ℕ → Bool} {s t : List ℕ} → All p s → All p t → All p (s ++ t)
all_append all_nil b = b
all_append (all_cons h a) b = all_cons h (all_append a b)

all_reverse : {p : ℕ → Bool} {s : List ℕ} → All p s → All p (reverse s)
all_reverse all_nil = all_nil
all_reverse {p} (all_cons {b} {s} h a) = subst (All p) (sym (reverse-append (b ∷ []) s)) (all_append (all_reverse a) (all_cons h all_nil))

bare_by : (s : List ℕ) → ((b : ℕ) (t : List ℕ) → s ≡ b ∷ t → is_ascii_blank b ≡ false) → Bare s
bare_by [] h = tt
bare_by (b ∷ t) h = h b t refl

-- what is left behind the blanks in front: the trimmed line, and the blanks at its end
halves : (x : List ℕ) → x ≡ reverse (drop_while is_ascii_blank (reverse x)) ++ reverse (front is_ascii_blank (reverse x))
halves x = sym (reverse-reverse x) ∙ ap reverse (sym (front_drop is_ascii_blank (reverse x))) ∙ reverse-append (front is_ascii_blank (reverse x)) (drop_while is_ascii_blank (reverse x))

pub stripped : (t : List ℕ) → Stripped t (trim_ascii t)
stripped t =
    let x = drop_while is_ascii_blank t in
    let end = reverse (front is_ascii_blank (reverse x)) in
    record {
      before = front is_ascii_blank t;
      behind = end;
      cut = sym (front_drop is_ascii_blank t) ∙ ap (λ (z : List ℕ). front is_ascii_blank t ++ z) (halves x);
      blanks_before = front_all is_ascii_blank t;
      blanks_behind = all_reverse (front_all is_ascii_blank (reverse x));
      first = bare_by (trim_ascii t) (λ b r e. drop_stops is_ascii_blank t b (r ++ end) (halves x ∙ ap (λ (z : List ℕ). z ++ end) e));
      last = subst Bare (sym (reverse-reverse (drop_while is_ascii_blank (reverse x)))) (bare_by (drop_while is_ascii_blank (reverse x)) (drop_stops is_ascii_blank (reverse x)));
    }

-- ---- the whole text
kept_ended : (u n : List ℕ) → each bytes (kept u) ++ n ≡ ended u n
kept_ended [] n = refl
kept_ended (b ∷ u) n = ap (λ (z : List ℕ). z ++ n) (append-nil ((b ∷ u) ++ 10 ∷ [])) ∙ append_assoc (b ∷ u) (10 ∷ []) n

-- one unit u before others, which become n
unit_becomes : (u : EplUnit) (us : List EplUnit) (n : List ℕ) → Becomes us n → Becomes (u ∷ us) (each bytes (normal u) ++ n)
unit_becomes (block bs h p) us n c = subst (Becomes (block bs h p ∷ us)) (sym (append_assoc (bytes (block bs h p)) (10 ∷ []) n)) (a_block bs h p us n c)
unit_becomes (line t) us n c = subst (Becomes (line t ∷ us)) (sym (kept_ended (trim_ascii t) n)) (a_line t (trim_ascii t) us n (stripped t) c)
unit_becomes (last t) us n c = subst (Becomes (last t ∷ us)) (sym (kept_ended (trim_ascii t) n)) (a_last t (trim_ascii t) us n (stripped t) c)

pub becomes : {s : List ℕ} {us : List EplUnit} → Division epl s us → Becomes us (normalised s)
becomes done = subst (Becomes []) (sym normalised_nil) nothing
becomes (more {u} {us} {s} {rest} e st d) = subst (Becomes (u ∷ us)) (sym (ap normalised e ∙ normalised_unit u rest st)) (unit_becomes u us (normalised rest) (becomes d))
