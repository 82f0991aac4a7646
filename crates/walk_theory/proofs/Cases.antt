-- A language of one-byte units, which meets what this crate asks of a language, and the definitions on small strings of
-- it by computation: what a theorem cannot pin, as the first place of an entry behind a print line that printed
-- nothing. Assumes nothing.
use mathlib.Core.Path.{◌≡◌, refl, sym, ap, ◌∙◌}
use mathlib.Core.Bool.{Bool, true, false, cond}
use mathlib.Core.List.{List, [], ◌∷◌}
use Prim.Native.Nat.{ℕ, ◌+◌, ◌≤◌, ◌<◌}
use native.Mathlib.Omega.{arith}
use lib.Dec.{eqb}
use lib.ListN.{length, get_or}
use lib.Seq.{get_or-append-add}
use Rattle.elements.specs.Given.{longest}
use Rattle.walk_theory.specs.Language.{First, none, bad, unit, Act, keep, clear, yield, print, outside, Language}
use Rattle.walk_theory.specs.Division.{Division, Reads, Firm, units_of}
use Rattle.walk_theory.specs.Labels.{Label, flush, labels, labels_of, Divides}
use Rattle.walk_theory.specs.Step.{state, handing, answer, step}
use Rattle.walk_theory.specs.Trace.{listed, trace, outcome}
use Rattle.walk_theory.specs.Normal.{none_left, and_solid, no_longer, Normalises, Normal}
use Rattle.walk_theory.specs.Claims.{Local, Walks}
use Rattle.walk_theory.specs.Index.{unfilled, entries, filling, opens, denies, opening, Indexed}
use Rattle.walk_theory.proofs.Whole.{whole}
use Rattle.walk_theory.proofs.Index.{indexed}
use Rattle.walk_theory.proofs.Again.{normal_text}

-- `N` clears to 0, `P` prints, `!` is out of range, 5 and 7 set the reference, any other byte but `?`, which is a
-- fault, yields an element: its place
abbrev acts : ℕ → ℕ → Act ℕ ℕ Unit
acts r b = cond (eqb b 78) (clear 0) (cond (eqb b 80) (print tt) (cond (eqb b 33) (outside 13) (cond (eqb b 53) (keep 5) (cond (eqb b 55) (keep 7) (yield 0)))))

abbrev found : List ℕ → First ℕ
found [] = none
found (b ∷ s) = cond (eqb b 63) (bad 1) (unit b s)

abbrev letters : Language
letters = record { U = ℕ; R = ℕ; E = ℕ; P = Unit; bytes = λ b. b ∷ []; Stands = λ b rest. eqb b 63 ≡ false; first = found; act = acts; shifted = λ at e. at + e }

-- an element's frame is the byte there
abbrev byte : List ℕ → ℕ → ℕ
byte s e = get_or s e 0

reads : Reads letters
reads = record { at_end = refl; finds = λ u rest st. simp st; sound = sound; empty = empty }
  where
    sound : (s : List ℕ) (u : ℕ) (rest : List ℕ) → found s ≡ unit u rest → (s ≡ u ∷ rest) × (eqb u 63 ≡ false) × (0 < 1)
    sound [] u rest e = let z : ◌≡◌ {A = ℕ} 0 1 = cc in absurd (omega arith)
    sound (b ∷ s) u rest e = by (eqb b 63) refl e
      where
        by : (c : Bool) → eqb b 63 ≡ c → cond c (bad 1) (unit b s) ≡ unit u rest → (b ∷ s ≡ u ∷ rest) × (eqb u 63 ≡ false) × (0 < 1)
        by true q h = let z : ◌≡◌ {A = ℕ} 0 1 = cc in absurd (omega arith)
        by false q h = let k : b ≡ u = cc in let m : s ≡ rest = cc in (cc, ap (λ (x : ℕ). eqb x 63) (sym k) ∙ q, omega arith)

    empty : (s : List ℕ) → found s ≡ none → s ≡ []
    empty [] e = refl
    empty (b ∷ s) e = by (eqb b 63) e
      where
        by : (c : Bool) → cond c (bad 1) (unit b s) ≡ none → b ∷ s ≡ []
        by true h = let z : ◌≡◌ {A = ℕ} 0 1 = cc in absurd (omega arith)
        by false h = let z : ◌≡◌ {A = ℕ} 0 1 = cc in absurd (omega arith)

local : Local letters ℕ byte
local r u e h pre post =
    let at : e ≡ 0 = zero (eqb u 78) (eqb u 80) (eqb u 33) (eqb u 53) (eqb u 55) e h in
    get_or-append-add pre (u ∷ post) e 0 ∙ ap (byte (u ∷ post)) at ∙ sym (ap (byte (u ∷ [])) at)
  where
    zero : (a b c d f : Bool) (x : ℕ) → ◌≡◌ {A = Act ℕ ℕ Unit} (cond a (clear 0) (cond b (print tt) (cond c (outside 13) (cond d (keep 5) (cond f (keep 7) (yield 0)))))) (yield x) → x ≡ 0
    zero true b c d f x q = let z : ◌≡◌ {A = ℕ} 0 1 = cc in absurd (omega arith)
    zero false true c d f x q = let z : ◌≡◌ {A = ℕ} 0 1 = cc in absurd (omega arith)
    zero false false true d f x q = let z : ◌≡◌ {A = ℕ} 0 1 = cc in absurd (omega arith)
    zero false false false true f x q = let z : ◌≡◌ {A = ℕ} 0 1 = cc in absurd (omega arith)
    zero false false false false true x q = let z : ◌≡◌ {A = ℕ} 0 1 = cc in absurd (omega arith)
    zero false false false false false x q = cc

-- its normalised text is the text
law : Normalises letters ℕ byte (λ s. s) (λ u. []) (λ u. u ∷ [])
law = record {
  at_end = refl;
  at_unit = λ u rest st. refl;
  solid = λ u rest st. and_solid (λ x. st) none_left;
  same_run = λ u us r p. refl;
  same_blocks = λ u. refl;
  settled = λ u. refl;
  grows = λ u rest st. no_longer (omega arith);
}

-- ---- what follows for it
walk_letters : (s : List ℕ) → length s ≤ longest → Walks letters ℕ byte 0 s
walk_letters s short = whole letters reads ℕ byte local s short 0

normal_letters : {s us : List ℕ} → Division letters s us → Normal letters ℕ byte (λ y. y) (λ u. []) 0 s us
normal_letters d = normal_text letters ℕ byte (λ y. y) (λ u. []) (λ u. u ∷ []) law 0 d

-- ---- the walk and its end
pending_end : outcome letters ℕ byte (65 ∷ 80 ∷ 66 ∷ 67 ∷ []) (state 0 0 0) ≡ listed (record { count = 1; says = tt; frames = 65 ∷ [] } ∷ []) 2
unfolding trace step answer handing
pending_end = refl

end_again : outcome letters ℕ byte (65 ∷ 66 ∷ []) (state 2 0 2) ≡ listed [] 2
unfolding trace step answer handing
end_again = refl

-- a print line before the end leaves nothing pending, and so does a clear
printed_end : outcome letters ℕ byte (65 ∷ 66 ∷ 80 ∷ []) (state 0 0 0) ≡ listed (record { count = 2; says = tt; frames = 65 ∷ 66 ∷ [] } ∷ []) 0
unfolding trace step answer handing
printed_end = refl

cleared_end : outcome letters ℕ byte (65 ∷ 66 ∷ 78 ∷ []) (state 0 0 0) ≡ listed [] 0
unfolding trace step answer handing
cleared_end = refl

-- the division has the same: `AP`, and `BC` pending
divided_end : labels_of letters ℕ byte 0 [] (65 ∷ 80 ∷ 66 ∷ 67 ∷ []) ≡ labels (record { count = 1; says = tt; frames = 65 ∷ [] } ∷ []) 2
unfolding flush
divided_end = refl

-- ---- the index
firm : Firm letters
firm u b rest st t = st

index_letters : (s : List ℕ) → length s ≤ longest → (ls : List (Label ℕ Unit)) (n : ℕ) → Divides letters ℕ byte s 0 ls n → Indexed letters ℕ byte 0 s ls
index_letters s short = indexed letters reads firm ℕ byte local s short 0

-- `5AP`, an empty `P`, `B7CP`: the second entry starts behind the empty print line, with the reference that the first
-- label left
two : List ℕ
two = 53 ∷ 65 ∷ 80 ∷ 80 ∷ 66 ∷ 55 ∷ 67 ∷ 80 ∷ []

entries_two : entries letters 0 two ≡ record { from = 0; upto = 3; count = 1; start = 0 } ∷ record { from = 4; upto = 8; count = 2; start = 5 } ∷ []
unfolding units_of two
entries_two = refl

-- what is pending at the end, behind `A` and a clear, has no entry; a list that is one too short, and one that is not
entries_pending : entries letters 0 (65 ∷ 80 ∷ 66 ∷ 78 ∷ 67 ∷ []) ≡ record { from = 0; upto = 2; count = 1; start = 0 } ∷ []
unfolding units_of
entries_pending = refl

fills_short : filling letters 0 two 1 ≡ unfilled 20 2
unfolding units_of trace step answer handing two
fills_short = refl

fills_refused : filling letters 0 (65 ∷ 80 ∷ 63 ∷ []) 0 ≡ unfilled 1 2
unfolding units_of trace step answer handing
fills_refused = refl

-- ---- opening: the second label; past the last; an entry whose last place is before its first, and one past the end
opens_second : opening letters ℕ byte two (entries letters 0 two) 1 ≡ opens (record { count = 2; says = tt; frames = 66 ∷ 67 ∷ [] })
unfolding units_of trace step answer handing two
opens_second = refl

opens_past : opening letters ℕ byte two (entries letters 0 two) 2 ≡ denies 21 2
unfolding units_of two
opens_past = refl

opens_backwards : opening letters ℕ byte two (record { from = 5; upto = 3; count = 1; start = 0 } ∷ []) 0 ≡ denies 16 3
unfolding two
opens_backwards = refl

opens_beyond : opening letters ℕ byte two (record { from = 0; upto = 9; count = 1; start = 0 } ∷ []) 0 ≡ denies 16 9
unfolding two
opens_beyond = refl

-- an entry that yields no label; one with a wrong count, and with a refused byte behind its print
opens_none : opening letters ℕ byte two (record { from = 0; upto = 2; count = 1; start = 0 } ∷ []) 0 ≡ denies 21 0
unfolding trace step answer handing two
opens_none = refl

opens_first : opening letters ℕ byte (65 ∷ 80 ∷ 63 ∷ []) (record { from = 0; upto = 3; count = 9; start = 0 } ∷ []) 0 ≡ opens (record { count = 1; says = tt; frames = 65 ∷ [] })
unfolding trace step answer handing
opens_first = refl
