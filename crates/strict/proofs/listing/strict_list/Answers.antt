-- `strict::listing::strict_list` meets its contract: 17 and 18 by the check, else what is due to `list`. Assumes
-- nothing.
use Rattle.std.proofs.Common.{◌≡◌, sym, ap, ◌∙◌, List, inl, inr, ℕ, ◌<◌, length, arith}
use Rattle.elements.specs.Given.{Due, denied, fitting, needed, stored}
use Rattle.elements.proofs.GivenLaws.{fills_denied}
use Rattle.profile.specs.Strict.{Own}
use Rattle.strict.specs.declared.verdict.Checked.{Checked}
use Rattle.strict.specs.Verdict.{checked_of}
use Rattle.strict.specs.Listing.{strict_due_of}
use Rattle.strict.proofs.ListingLaws.{own_due, plain_due_lem}
use Rattle.strict.proofs.listing.strict_list.Goals as goal

-- the check answered r: 17 or 18
own : (s : List ℕ) (r : Checked) (n : ℕ) → r ≡ checked_of s → 0 < n → r.number ≡ n → strict_due_of s ≡ denied n r.place
own s r n k h e =
    own_due s n h (sym (ap (λ (c : Checked). c.number) k) ∙ e) ∙ ap (λ (c : Checked). denied n c.place) (sym k)

-- or neither
not_own : (s : List ℕ) (r : Checked) → r ≡ checked_of s → (r.number ≡ 17 → ⊥) → (r.number ≡ 18 → ⊥) → Own (checked_of s).number → ⊥
not_own s r k a b (inl e) = a (ap (λ (c : Checked). c.number) k ∙ e)
not_own s r k a b (inr e) = b (ap (λ (c : Checked). c.number) k ∙ e)

pub returns-then-n-eq17 : goal.returns-then-n-eq17
returns-then-n-eq17 c =
    fills_denied c.args.out.now (own c.args.input.now c.check-c.result 17 c.check-c.ensures (omega arith) c.if-n-eq17.true)

pub returns-then-n-eq18 : goal.returns-then-n-eq18
returns-then-n-eq18 c =
    fills_denied c.args.out.now (own c.args.input.now c.check-c.result 18 c.check-c.ensures (omega arith) c.if-n-eq18.true)

pub returns : goal.returns
returns c =
    let s = c.args.input.now in
    let w = c.list.ensures in
    let e = plain_due_lem s (not_own s c.check-c.result c.check-c.ensures c.if-n-eq17.false c.if-n-eq18.false) in
    let m = length c.args.out.now in
    record {
      answer = w.answer ∙ ap (λ (x : Due). needed (fitting x m)) (sym e);
      buffer = w.buffer ∙ ap (λ (x : Due). stored (fitting x m) c.args.out.now) (sym e);
    }
