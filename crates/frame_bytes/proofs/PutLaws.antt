-- Digits put and then the next are one run (`then`), a line is ended (`line`), a run told in another way (`counted`,
-- `retold`, `same`, `number_put`), and one that is put part by part (`left_step`, `left_none`). Assumes nothing.
use mathlib.Core.Path.{◌≡◌, sym, ap, ◌∙◌}
use mathlib.Core.List.{List, [], ◌∷◌, ◌++◌, append_assoc, append-nil}
use Prim.Native.Nat.{ℕ, ◌+◌, ◌*◌, ◌≤◌}
use native.Mathlib.Omega.{arith}
use lib.ListN.{length, length-append}
use lib.IntN.{ℤ}
use lib.Seq.{sets}
use mir.Syntax.{w32}
use mir.Val.{SFits, of_z, to_z}
use mir.Facts.{to_z-of_z}
use Rattle.text.specs.Wrote.{Wrote, Put}
use Rattle.text.proofs.WroteLaws.{wrote_left, wrote}
use Rattle.frame_bytes.specs.Hex.{hexes, line_of}
use Rattle.frame_bytes.specs.Frame.{number}
use Rattle.frame_bytes.specs.Put.{PutHex}
use Rattle.frame_bytes.proofs.HexLaws.{hexes_append, length_hexes}

-- from where the first run ends
next : {m n l : List ℕ} {at j : ℕ} {xs ys : List ℕ} → Wrote m l at xs → j ≡ at + length xs → Wrote n m j ys → Wrote n l at (xs ++ ys)
next {m} {n} {l} {at} {j} {xs} {ys} a e b = wrote (b.is ∙ ap (λ (k : ℕ). sets m k ys) e ∙ wrote_left xs ys a)

pub then : {m n l : List ℕ} {at j r : ℕ} {xs ys : List ℕ} {i k : ℕ} → PutHex m l at xs i j → PutHex n m j ys k r → PutHex n l at (xs ++ ys) (i + k) r
then {xs = xs} {ys = ys} p q =
    let a = length_hexes xs in
    record {
      wrote = rw (hexes_append xs ys) (next p.wrote (omega arith) q.wrote);
      many = rw (length-append xs ys) (omega arith);
      next = omega arith;
    }

-- the line is ended
pub line : {m n l : List ℕ} {at j r : ℕ} {f : List ℕ} {k : ℕ} → PutHex m l at f k j → Put n m j (10 ∷ []) r → Put n l at (line_of f) r
line {f = f} p q =
    let a = length_hexes f in
    record { wrote = next p.wrote (omega arith) q.wrote; next = rw (length-append (hexes f) (10 ∷ [])) (omega arith) }

-- the number of bytes put, told in another way
pub counted : {n l : List ℕ} {at r : ℕ} {bs : List ℕ} {k i : ℕ} → k ≡ i → PutHex n l at bs k r → PutHex n l at bs i r
counted e p = record { wrote = p.wrote; many = p.many ∙ e; next = omega arith }

-- the number of bytes put is the length of bs
pub whole : {n l : List ℕ} {at r : ℕ} {bs : List ℕ} {k : ℕ} → PutHex n l at bs k r → PutHex n l at bs (length bs) r
whole p = counted (sym p.many) p

-- the same bytes, told in another way
pub retold : {n l : List ℕ} {at r : ℕ} {bs cs : List ℕ} {k : ℕ} → bs ≡ cs → PutHex n l at bs k r → PutHex n l at cs k r
retold e p = rw e at p

-- the bytes, and their number with them, told in another way
pub same : {n l : List ℕ} {at r : ℕ} {bs cs : List ℕ} → bs ≡ cs → PutHex n l at bs (length bs) r → PutHex n l at cs (length cs) r
same e p = whole (retold e p)

-- a number, read back from its bits
pub number_put : {n l : List ℕ} {at k r : ℕ} (z : ℤ) → SFits w32 z → PutHex n l at (number (to_z w32 (of_z w32 z))) k r → PutHex n l at (number z) k r
number_put z h p = retold (ap number (to_z-of_z h)) p

-- of the bytes `all`, those before `rest` are written
pub record Left (n l : List ℕ) (at r : ℕ) (all rest : List ℕ) : Type 0 where
  pub done : List ℕ
  pub split : all ≡ done ++ rest
  pub put : PutHex n l at done (length done) r

module _ {n l : List ℕ} {at r : ℕ} {all rest : List ℕ} (w : Left n l at r all rest) where
  pub left_room : at + 2 * length all ≤ length l → r + 2 * length rest ≤ length n
  left_room h = omega (arith, ap length w.split ∙ length-append w.done rest, w.put.next, w.put.wrote.long)

  pub left_step : {m : List ℕ} {q : ℕ} (xs more : List ℕ) → rest ≡ xs ++ more → PutHex m n r xs (length xs) q → Left m l at q all more
  left_step xs more e p =
      record {
        done = w.done ++ xs;
        split = w.split ∙ ap (λ (z : List ℕ). w.done ++ z) e ∙ sym (append_assoc w.done xs more);
        put = counted (sym (length-append w.done xs)) (then w.put p);
      }

  pub left_none : rest ≡ [] → PutHex n l at all (length all) r
  left_none e = same (sym (w.split ∙ ap (λ (z : List ℕ). w.done ++ z) e ∙ append-nil w.done)) w.put
