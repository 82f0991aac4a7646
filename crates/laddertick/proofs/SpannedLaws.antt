-- Which bytes of its unit are an element's data (`spanned`): between the first and the last quote of a line, the payload
-- of a block. Assumes nothing.
use mathlib.Core.Path.{◌≡◌, refl, sym, ap, subst, ◌∙◌}
use mathlib.Core.Bool.{not, true≢false}
use mathlib.Core.List.{List, [], ◌∷◌, ◌++◌, reverse, reverse_aux, reverse-append, reverse-cons, reverse-reverse, append_assoc}
use Prim.Native.Nat.{ℕ, suc, ◌+◌, ◌<◌, ◌≤◌}
use native.Mathlib.Omega.{arith}
use lib.Dec.{eqb}
use lib.ListN.{length, take, drop, take-append-drop, length-drop, length-append, length-reverse}
use lib.Seq.{length-take-le, take-length, take-append_seam, drop-append_seam}
use borrow.Author.Tests.{eqb-true}
use Rattle.text.specs.Blank.{trim_start, trim}
use Rattle.text.specs.Fields.{index_of, before, after, before_last, quoted}
use Rattle.text.proofs.BlankTrimLaws.{trim_start_is, trim_end_is}
use Rattle.text.proofs.BoolLaws.{test}
use Rattle.text.proofs.FieldsLaws.{index_le, before_last_le}
use Rattle.elements.specs.declared.DataSpan.{DataSpan}
use Rattle.elements.specs.declared.LabelElement.{LabelElement}
use Rattle.elements.specs.declared.LabelElement.TheVariants as kind
use Rattle.elements.specs.declared.LabelPosition.{LabelPosition}
use Rattle.elements.specs.Spans.{spans}
use Rattle.frame_bytes.specs.Frame.{part}
use Rattle.frame_bytes.proofs.FramePartLaws.{part_local}
use Rattle.parameters.specs.declared.position.Placed.{Placed}
use Rattle.parameters.specs.declared.position.Placed.TheVariants as placing
use Rattle.parameters.specs.declared.reading.LineReading.TheVariants as reading
use Rattle.parameters.specs.Position.{placed, yields}
use Rattle.command_letters.specs.declared.command.Command.{Command}
use Rattle.command_letters.specs.declared.command.Command.TheVariants.{Clear, Reference, Data, Line, Diagonal, Box, Print, Other}
use Rattle.command_letters.specs.Command.{command_of}
use Rattle.commands.specs.Line as commands
use Rattle.commands.specs.Line.{command_reading, lead_of, read_line}
use Rattle.commands.proofs.LineLaws.{lead_le}
use Rattle.walk_theory.specs.Language.{yield}
use Rattle.grammar.specs.Units.{Header, EplUnit, block, line, last, gw, bytes, number, all_nil, all_cons, Stands}
use Rattle.grammar.specs.Epl.{act_of, acts}
use Rattle.grammar.proofs.EplLaws.{act_yields, read_some}
use Rattle.grammar.proofs.FoundBlockLaws.{block_append}
use Rattle.grammar.proofs.WellFormedLaws.{data_of, yielded}
use Rattle.laddertick.specs.Free.{Free}
use Rattle.laddertick.specs.Spanned.{HasData, span_of, Quoted, DataOf}

-- ---- the first and the last b of a text
module _ (b : ℕ) where
  cut_first : (s : List ℕ) → index_of b s < length s → s ≡ before b s ++ (b ∷ after b s)
  unfolding before after
  cut_first [] h = absurd (omega arith)
  cut_first (x ∷ s) h =
      test (eqb x b)
      (λ e. simp e (ap (λ (y : ℕ). y ∷ s) (eqb-true x b e)))
      (λ e. let k : suc (index_of b s) < suc (length s) = simp e at h in simp e (ap (λ (l : List ℕ). x ∷ l) (cut_first s (omega arith))))

  free_before : (s : List ℕ) → Free b (before b s)
  unfolding before
  free_before [] = all_nil
  free_before (x ∷ s) = test (eqb x b) (λ e. simp e all_nil) (λ e. simp e (all_cons {b = x} (ap not e) (free_before s)))

  free_onto : {s r : List ℕ} → Free b s → Free b r → Free b (reverse_aux s r)
  free_onto all_nil k = k
  free_onto (all_cons h a) k = free_onto a (all_cons h k)

  some_after : (s : List ℕ) → 0 < length (after b s) → index_of b s < length s
  unfolding after
  some_after s h = omega (arith, length-drop (suc (index_of b s)) s)

  cut_last : (s : List ℕ) → 0 < length (before_last b s) → s ≡ before_last b s ++ (b ∷ reverse (before b (reverse s)))
  unfolding before_last
  cut_last s h =
      let r : List ℕ = reverse s in
      let k = some_after r (omega (arith, length-reverse (after b r))) in
      sym (reverse-reverse s)
      ∙ ap reverse (cut_first r k)
      ∙ reverse-append (before b r) (b ∷ after b r)
      ∙ ap (λ (l : List ℕ). l ++ reverse (before b r)) (reverse-cons b (after b r))
      ∙ append_assoc (reverse (after b r)) (b ∷ []) (reverse (before b r))

quotes_of : (t : List ℕ) → 0 < length (quoted t) → Quoted t (quoted t)
quotes_of t h = record {
  front = before 34 t;
  back = reverse (before 34 (reverse (after 34 t)));
  is = cut_first 34 t (some_after 34 t (omega (arith, before_last_le 34 (after 34 t)))) ∙ ap (λ (l : List ℕ). before 34 t ++ (34 ∷ l)) (cut_last 34 (after 34 t) h);
  front_free = free_before 34 t;
  back_free = free_onto 34 (free_before 34 (reverse (after 34 t))) all_nil;
  some = h;
}

-- ---- a line
module _ (t : List ℕ) (h : 0 < length (quoted t)) where
  -- where the data stands in it
  abbrev own : DataSpan
  own = record { start = suc (index_of 34 t); len = length (quoted t) }

  before_long : length (before 34 t) ≡ index_of 34 t
  unfolding before
  before_long = length-take-le (index_of 34 t) t (index_le 34 t)

  own_fits : own.start + own.len ≤ length t
  unfolding after
  own_fits = omega (arith, before_last_le 34 (after 34 t), length-drop (suc (index_of 34 t)) t)

  own_part : part t own ≡ quoted t
  unfolding quotes_of
  own_part =
      let f : List ℕ = before 34 t ++ (34 ∷ []) in
      let z : List ℕ = 34 ∷ reverse (before 34 (reverse (after 34 t))) in
      let n : suc (index_of 34 t) ≡ length f = omega (arith, before_long, length-append (before 34 t) (34 ∷ [])) in
      let c : t ≡ f ++ (quoted t ++ z) =
      (quotes_of t h).is ∙ sym (append_assoc (before 34 t) (34 ∷ []) (quoted t ++ z)) in
      ap (λ (k : ℕ). take (length (quoted t)) (drop k t)) n
      ∙ ap (λ (l : List ℕ). take (length (quoted t)) (drop (length f) l)) c
      ∙ ap (take (length (quoted t))) (drop-append_seam f (quoted t ++ z))
      ∙ take-append_seam (quoted t) z

module _ (t : List ℕ) where
  -- blanks, the line, blanks
  cut : t ≡ take (lead_of t) t ++ (trim t ++ drop (length (trim t)) (trim_start t))
  cut =
      sym (take-append-drop (lead_of t) t)
      ∙ ap (λ (l : List ℕ). take (lead_of t) t ++ l)
      (sym (trim_start_is t) ∙ sym (take-append-drop (length (trim t)) (trim_start t)) ∙ ap (λ (l : List ℕ). l ++ drop (length (trim t)) (trim_start t)) (sym (trim_end_is (trim_start t))))

  lead_long : length (take (lead_of t) t) ≡ lead_of t
  lead_long = length-take-le (lead_of t) t (omega (arith, lead_le t))

  line_part : (s post : List ℕ) → s ≡ take (lead_of t) t ++ (trim t ++ post) → 0 < length (quoted (trim t)) → part s (commands.span_of (lead_of t) (trim t)) ≡ quoted (trim t)
  line_part s post c h =
      let u = trim t in
      let i = index_of 34 u in
      let k = length (quoted u) in
      let at : lead_of t + i + 1 ≡ length (take (lead_of t) t) + suc i = omega (arith, lead_long) in
      ap (λ (n : ℕ). take k (drop n s)) at
      ∙ ap (λ (l : List ℕ). take k (drop (length (take (lead_of t) t) + suc i) l)) c
      ∙ part_local (take (lead_of t) t) u post (own u h) (own_fits u h)
      ∙ own_part u h

-- ---- an element's data by its struct
spans_flat : (e : LabelElement) → HasData e → spans e ≡ span_of e ∷ []
spans_flat (kind.Text e) h = refl
spans_flat (kind.GraphicField e) h = refl
spans_flat (kind.Barcode128 e) h = refl
spans_flat (kind.BarcodeEan13 e) h = refl
spans_flat (kind.BarcodeEan8 e) h = refl
spans_flat (kind.BarcodeUca e) h = refl
spans_flat (kind.Barcode2of5 e) h = refl
spans_flat (kind.Barcode39 e) h = refl
spans_flat (kind.BarcodePdf417 e) h = refl
spans_flat (kind.BarcodeAztec e) h = refl
spans_flat (kind.BarcodeDatamatrix e) h = refl
spans_flat (kind.BarcodeQr e) h = refl
spans_flat (kind.Maxicode e) h = refl
spans_flat (kind.BarcodeUcpe e) h = refl
spans_flat (kind.GraphicBox e) h = absurd (true≢false h)
spans_flat (kind.DiagonalLine e) h = absurd (true≢false h)

none : {d : DataSpan} → d ∷ [] ≡ [] → ⊥
none h = let n = ap length h in omega arith

-- by the command c of a line t, its blanks off
by_command : (c : Command) (lead : ℕ) (t : List ℕ) (r : LabelPosition) (e : LabelElement) → command_reading c lead t r ≡ reading.Element e → span_of e ∷ [] ≡ data_of c lead t
    → (span_of e ≡ commands.span_of lead t) × (0 < length (quoted t))
by_command (Data c) lead t r e h k = let d : span_of e ≡ commands.span_of lead t = cc in (d, read_some c lead t r e h)
by_command Clear lead t r e h k = absurd (none k)
by_command Reference lead t r e h k = absurd (none k)
by_command (Line c) lead t r e h k = absurd (none k)
by_command Diagonal lead t r e h k = absurd (none k)
by_command Box lead t r e h k = absurd (none k)
by_command Print lead t r e h k = absurd (none k)
by_command Other lead t r e h k = absurd (none k)

line_data : (t s post : List ℕ) (r : LabelPosition) (e : LabelElement) → s ≡ take (lead_of t) t ++ (trim t ++ post) → read_line t r ≡ reading.Element e → HasData e → Quoted (trim t) (part s (span_of e))
unfolding read_line
line_data t s post r e c h d =
    let k = by_command (command_of (trim t)) (lead_of t) (trim t) r e h (sym (spans_flat e d) ∙ (yielded t r e h).1) in
    subst (Quoted (trim t)) (sym (ap (part s) k.0 ∙ line_part t s post c k.1)) (quotes_of (trim t) k.1)

-- ---- a block
block_data : (r : LabelPosition) (bs : List ℕ) (h : Header) (p : List ℕ) (e : LabelElement) → acts r (block bs h p) ≡ yield e → part (bs ++ gw h p) (span_of e) ≡ p
block_data r bs h p e a = by _ (placed (number h.x) (number h.y) r) (λ q. payload) a
  where
    payload : take (length p) (drop (length (bs ++ gw h [])) (bs ++ gw h p)) ≡ p
    payload =
        ap (λ (l : List ℕ). take (length p) (drop (length (bs ++ gw h [])) l)) (sym (block_append bs h [] p))
        ∙ ap (take (length p)) (drop-append_seam (bs ++ gw h []) p)
        ∙ take-length p

    by : (f : LabelPosition → LabelElement) (o : Placed) → ((q : LabelPosition) → part (bs ++ gw h p) (span_of (f q)) ≡ p) → act_of r (yields o f) ≡ yield e → part (bs ++ gw h p) (span_of e) ≡ p
    by f (placing.At q) i a = let k : f q ≡ e = cc in subst (λ (x : LabelElement). part (bs ++ gw h p) (span_of x) ≡ p) k (i q)
    by f placing.Outside i a = let z : ◌≡◌ {A = ℕ} 0 1 = cc in absurd (omega arith)

pub spanned : (r : LabelPosition) (u : EplUnit) (rest : List ℕ) (e : LabelElement) → Stands u rest → acts r u ≡ yield e → HasData e → DataOf u (take (span_of e).len (drop (span_of e).start (bytes u)))
spanned r (block bs h p) rest e s a d = block_data r bs h p e a
spanned r (line t) rest e s a d =
    let l : List ℕ = take (lead_of t) t in
    let z : List ℕ = drop (length (trim t)) (trim_start t) in
    let c : t ++ (10 ∷ []) ≡ l ++ (trim t ++ (z ++ (10 ∷ []))) =
    ap (λ (x : List ℕ). x ++ (10 ∷ [])) (cut t) ∙ append_assoc l (trim t ++ z) (10 ∷ []) ∙ ap (λ (x : List ℕ). l ++ x) (append_assoc (trim t) z (10 ∷ [])) in
    line_data t (t ++ (10 ∷ [])) (z ++ (10 ∷ [])) r e c (act_yields r (read_line t r) e a) d
spanned r (last t) rest e s a d = line_data t t (drop (length (trim t)) (trim_start t)) r e (cut t) (act_yields r (read_line t r) e a) d
