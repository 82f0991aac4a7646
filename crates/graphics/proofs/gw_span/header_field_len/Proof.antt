-- `graphics::gw_span::header_field_len` meets its contract. Invariant: `Within`, nothing but bytes of the field stands
-- before i. Measure: t's length less i.
-- Assumes nothing.
use mathlib.Core.Path.{sym, ◌∙◌, ◌≡◌}
use mathlib.Core.Bool.{true, false}
use mathlib.Core.List.{List, ◌++◌, append-nil, append_assoc}
use Prim.Native.Nat.{◌-◌, ℕ, ◌+◌, ◌<◌, ◌≤◌}
use native.Mathlib.Numerals.{add-one}
use native.Mathlib.Omega.{arith}
use lib.ListN.{length, get_or, take, drop, drop_of_length-le}
use lib.Seq.{drop-cons, take-suc}
use Rattle.text.specs.Blank.{drop_while, front}
use Rattle.graphics.specs.Block.{in_field, FieldLen}
use borrow.Author.Rules.{rules}
use Rattle.graphics.proofs.gw_span.header_field_len.Statement.{statement}
use Rattle.graphics.proofs.gw_span.header_field_len.Tie as tie

-- nothing but bytes of the first header field stands in t before i
record Within (t : List ℕ) (i : ℕ) : Type 0 where
  passed : front in_field t ≡ take i t ++ front in_field (drop i t)
  left : drop_while in_field t ≡ drop_while in_field (drop i t)
  fits : i ≤ length t

module _ (t : List ℕ) (i : ℕ) (w : Within t i) where
  field_step : i < length t → in_field (get_or t i 0) ≡ true → Within t (i + 1)
  field_step h e =
      record {
        passed = w.passed ∙ rw (add-one, take-suc t i 0, drop-cons t i 0) (simp (e, append_assoc));
        left = w.left ∙ rw (add-one, drop-cons t i 0) (simp e);
        fits = omega arith;
      }

  field_stop : i < length t → in_field (get_or t i 0) ≡ false → FieldLen t i
  field_stop h e =
      record {
        is = sym (w.passed ∙ rw (drop-cons t i 0) (simp (e, append-nil)));
        left = sym (w.left ∙ rw (drop-cons t i 0) (simp e));
        fits = w.fits;
      }

  field_end : length t ≤ i → FieldLen t i
  field_end h =
      record {
        is = sym (w.passed ∙ rw (drop_of_length-le t) (simp append-nil));
        left = sym (w.left ∙ rw (drop_of_length-le t));
        fits = w.fits;
      }

abbrev invariant-loop : tie.invariant-loop-i
invariant-loop t i₀ i = Within t i

abbrev decreases-loop : tie.decreases-loop-i
decreases-loop t i₀ i = length t - i

loop-again : tie.Need-loop-i-preserved invariant-loop decreases-loop
loop-again c =
    let l = c in
    field_step l.args.t.now l.loop-i.i l.loop-i.invariant (search rules) (sym c.in_field.ensures ∙ c.if-in_field.true)

returns : tie.Need-returns-else-in_field invariant-loop decreases-loop
returns c =
    let l = c in
    field_stop l.args.t.now l.loop-i.i l.loop-i.invariant (search rules) (sym c.in_field.ensures ∙ c.if-in_field.false)

returns-2 : tie.Need-returns-after-loop-i invariant-loop decreases-loop
returns-2 c = field_end c.args.t.now c.loop-i.i c.loop-i.invariant c.loop-i-test.false

pub header_field_len_spec : {M : Type 1} → statement M
header_field_len_spec =
    tie.close
    (tie.spec invariant-loop decreases-loop (λ c. search rules) (λ c. search rules) (λ c κs. search rules) (λ c. search rules)
    (λ c. search rules)
    loop-again returns returns-2)
