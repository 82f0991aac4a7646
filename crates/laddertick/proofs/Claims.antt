-- The claims hold of any functions that meet the contracts (`theorem`). Assumes nothing.
use mathlib.Core.Path.{◌≡◌, refl, sym, ap, subst, ◌∙◌}
use mathlib.Core.Bool.{false}
use mathlib.Core.List.{List, [], ◌++◌, ◌∷◌, map}
use mathlib.Core.Option.{some}
use mathlib.Core.Logic.{◌↔◌}
use Prim.Native.Nat.{ℕ, zero, suc, ◌≤◌, ◌<◌}
use native.Mathlib.Omega.{arith}
use lib.ListN.{length, take, get_elem?}
use Rattle.text.specs.Ascii.{ascii}
use Rattle.text.proofs.BlankWhiteLaws.{code_points_trim}
use Rattle.texts.proofs.FontLaws.{width_exact}
use Rattle.elements.specs.declared.LabelElement.{LabelElement}
use Rattle.elements.specs.declared.refusal.Refusal.{Refusal}
use Rattle.elements.specs.declared.refusal.Refusal.TheVariants.{TextFields, BarcodeFields, Barcode2dFields, LineFields, DiagonalFields, BoxFields, BarcodeType, Barcode2dType, QrData, GraphicFields, GraphicNegative, GraphicTruncated, OutOfRange, InputTooLong, OutputTooShort, StateOutside, NoValue, OutsideProfile, SizeOutside, TooManyLabels, NoSuchLabel, RectangleTurned, NotReadable, GraphicInLabel, JoinedTooLong}
use Rattle.elements.specs.Refusals.{number_of}
use Rattle.elements.specs.Walk.{fresh}
use Rattle.frame_bytes.specs.Frame.{be32, head, frame_of}
use Rattle.frame_bytes.proofs.FrameLaws.{frame_local}
use Rattle.elements.specs.Given.{longest}
use Rattle.walk_theory.specs.Division.{Division}
use Rattle.walk_theory.specs.Labels as labels_of_lem
use Rattle.walk_theory.specs.Labels.{flush, Label, labels, labels_of}
use Rattle.walk_theory.specs.Index.{opens, entries, opening}
use Rattle.walk_theory.specs.Reach as theory
use Rattle.walk_theory.specs.Reach.{Final, accepted, refusal}
use Rattle.walk_theory.specs.Normal.{each, Normal}
use Rattle.walk_theory.specs.Trace.{listed, ending}
use Rattle.walk_theory.specs.Claims.{Local, Walks}
use Rattle.walk_theory.proofs.DivisionLaws.{unique}
use Rattle.walk_theory.proofs.Whole.{whole}
use Rattle.walk_theory.proofs.Again.{normal_text}
use Rattle.walk_theory.proofs.Index.{indexed}
use Rattle.walk_theory.proofs.OutcomeLaws.{divides→listed, listed→divides}
use Rattle.walk_theory.proofs.TraceLaws.{reach_outcome}
use Rattle.elements.proofs.GivenLaws.{within_long, within_short}
use Rattle.grammar.specs.Units.{EplUnit}
use Rattle.grammar.specs.WellFormed.{well_formed, fault_of}
use Rattle.grammar.specs.Epl.{EplPrint, origin, epl}
use Rattle.grammar.specs.Shapes.{kind_of, place_of}
use Rattle.grammar.specs.LineFaults.{LineFault}
use Rattle.grammar.specs.Ranges.{Beyond, Beyond13, InRange}
use Rattle.grammar.specs.Divided.{labels_by, Earliest}
use Rattle.grammar.specs.Normal.{normal, blocks, normalised}
use Rattle.grammar.proofs.FoundLaws.{reads, firm}
use Rattle.grammar.proofs.SpelledLaws.{spelled}
use Rattle.grammar.proofs.RangesLaws.{in_range, position_outside, size_outside, outside_numbers, out_of_range}
use Rattle.grammar.proofs.ShapesLaws.{shape}
use Rattle.grammar.proofs.NumberFieldLaws.{fields_held, number_fields}
use Rattle.grammar.proofs.DividedLabelsLaws.{in_range_labels, labels_in_range}
use Rattle.grammar.proofs.LineFaultsLaws.{ill_has_fault, fault_is_ill}
use Rattle.grammar.proofs.FaultsLaws.{faults}
use Rattle.grammar.proofs.DividedEarliestLaws.{fails_earliest, one_earliest, divides_no_earliest, earliest_together, together_earliest}
use Rattle.grammar.proofs.NormalLaws.{length_normalised_le, block_bytes, line_blocks}
use Rattle.grammar.proofs.Normalises.{normalises}
use Rattle.grammar.proofs.BecomesLaws.{becomes}
use Rattle.grammar.proofs.WellFormedLaws.{ill_formed, well_formed_range}
use Rattle.grammar.proofs.EplLaws.{inside}
use Rattle.line_changes.specs.OneLine.{Ending, unit_of, Replaced}
use Rattle.line_changes.proofs.LineLaws.{next_of, unit_role}
use Rattle.line_changes.proofs.OneLineLaws as changes
use Rattle.line_changes.proofs.OneLineLaws.{old_division, new_division}
use Rattle.walk.specs.declared.answer.Answer.{Answer}
use Rattle.walk.specs.Steps.{answer_of}
use Rattle.structs.proofs.FramesLaws.{flat_frame, flat_kind, flat_next}
use Rattle.file_listing.specs.Listing.{FramedLabel, listing_of, outcome_of, listing_due, due_of}
use Rattle.file_listing.specs.Printing.{refusal_line, shown_of, shown_for}
use Rattle.format.specs.Normalise as format
use Rattle.profile.specs.Asks.{InProfile}
use Rattle.strict.specs.declared.verdict.Checked.{Checked}
use Rattle.strict.specs.Verdict.{bare, checked_of}
use Rattle.strict.specs.Listing.{strict_due_of}
use Rattle.strict.specs.Look.{end_of}
use Rattle.strict.proofs.ListingLaws.{own_due}
use Rattle.strict.proofs.VerdictLaws.{accepted_by, clean_listed, listed_accepted, refused_plain, objected_by_lem}
use Rattle.file_listing.proofs.ListingRoomLaws.{length_listing_le, never_short}
use Rattle.label_index.specs.declared.entry.LabelEntry.{LabelEntry}
use Rattle.walk_theory.specs.Join as theory_join
use Rattle.joining.specs.Join.{joined_text, clear_line}
use Rattle.joining.proofs.JoinLaws.{due_first, due_second, due_long, due_text}
use Rattle.joining.proofs.EplLaws.{epl_joins}
use Rattle.label_index.specs.Entries.{EplEntry, entries_from}
use Rattle.where_label.specs.Found.{itself, opening_of}
use Rattle.laddertick.specs.HostContracts.{Library, Gives, DeniesList}
use Rattle.laddertick.specs.Walked.{Walked, answered}
use Rattle.laddertick.specs.Claims.{Answers, Divides, Normalising, Demand3, Profile, Indexing, Joining, Joins, OneLineChanged, Claims, Theorem}
use Rattle.laddertick.proofs.ColouredLaws.{exclusive_or}
use Rattle.laddertick.proofs.SpannedLaws.{spanned}
use Rattle.laddertick.proofs.ZeroedLaws.{zeroed}
use Rattle.laddertick.proofs.WalkedLaws.{walked, one_walked, ends, answered_is}
use Rattle.laddertick.proofs.ContractsLaws.{step_hands_back, list_keeps, normalise_keeps, strict_list_keeps, long_step, long_list, long_normalise, long_check, long_strict_list, outside, end_keeps, ended_again, data_inside, denies}
use Rattle.laddertick.proofs.ContractsLaws as calls
use Rattle.laddertick.proofs.DecodingLaws.{decode_keeps, long_decode, decoding}
use Rattle.laddertick.proofs.LibraryLaws.{library, decoder}
use Rattle.laddertick.proofs.ObjectedLaws.{objected_told}
use Rattle.laddertick.proofs.IndexLaws as index_laws
use Rattle.laddertick.proofs.ReplacedLaws.{replaces}
use Rattle.laddertick.proofs.LyingLaws as lying_laws
use Rattle.laddertick.proofs.PlacedLaws as placed
use Rattle.laddertick.proofs.LyingOwnLaws.{Drawn, drawn_of, drawn_label, drawn_shifted, map_at, labels_drawn, opened_as, answers_alike}
use Rattle.laddertick.proofs.IndexLaws.{index_keeps, open_keeps, long_index, long_open}
use Rattle.laddertick.proofs.JoinedLaws.{walked_lists, union_denies, union_gives, join_keeps, long_join}
use Rattle.laddertick.proofs.Proved.{proved}
use Rattle.laddertick.proofs.Starred.{starred}
use Rattle.laddertick.proofs.Distinct.{distinct}
use Rattle.laddertick.proofs.Profiled.{profiled}
use Rattle.laddertick.proofs.IndexedRows as tabled
use Rattle.laddertick.proofs.JoinedRows.{joined}
use Rattle.laddertick.proofs.Changed.{changed}
use Rattle.laddertick.proofs.Lying as laid
use Rattle.dots.proofs.LengthLaws.{to300_near, to300_nearest, nearest_to300, to300_order, to300_range}
use Rattle.dots.specs.Length.{Nearest}
use Rattle.laddertick.proofs.ResolutionLaws.{resolution, to_300_keeps, long_to_300}
use Rattle.laddertick.proofs.Converted as converted
use Rattle.laddertick.proofs.Written as written
use Rattle.laddertick.proofs.WritingLaws.{writing}

-- a frame looks only at the bytes of its own unit, wherever they stand
local : Local epl (List ℕ) frame_of
local r u e h pre post = frame_local pre (epl.bytes u) post e (inside r u e h)

walks : (s : List ℕ) → length s ≤ longest → Walks epl (List ℕ) frame_of origin s
walks s short = whole epl reads (List ℕ) frame_of local s short origin

-- ---- a division in range, by its labels and by its numbers
labelled : (s : List ℕ) (ls : List FramedLabel) (n : ℕ) (d : Divides s ls n) → labels_of epl (List ℕ) frame_of origin [] d.units ≡ labels ls n
labelled s ls n d = in_range_labels (List ℕ) frame_of d.division origin [] d.range ∙ (λ i. labels (d.found i) (d.pending i))

divided : (s : List ℕ) (ls : List FramedLabel) (n : ℕ) (us : List EplUnit) → Division epl s us → labels_of epl (List ℕ) frame_of origin [] us ≡ labels ls n → Divides s ls n
divided s ls n us d e = let i = labels_in_range (List ℕ) frame_of d origin [] ls n e in record { units = us; division = d; range = i.0; found = i.1; pending = i.2 }

-- what the claims call divided is what the theory does, and the other way round
in_theory : (s : List ℕ) (ls : List FramedLabel) (n : ℕ) → Divides s ls n → labels_of_lem.Divides epl (List ℕ) frame_of s origin ls n
in_theory s ls n d = record { units = d.units; division = d.division; range = labelled s ls n d }

of_theory : (s : List ℕ) (ls : List FramedLabel) (n : ℕ) → labels_of_lem.Divides epl (List ℕ) frame_of s origin ls n → Divides s ls n
of_theory s ls n d = divided s ls n d.units d.division d.range

-- two ends that list the same are one
ending_same : (f g : Final) (ls ms : List FramedLabel) → ending f ls ≡ ending g ms → f ≡ g
ending_same (accepted m) (accepted n) ls ms e = let k : m ≡ n = cc in ap accepted k
ending_same (accepted m) (refusal n p) ls ms e = absurd (let z : ◌≡◌ {A = ℕ} 0 1 = cc in omega arith)
ending_same (refusal m p) (accepted n) ls ms e = absurd (let z : ◌≡◌ {A = ℕ} 0 1 = cc in omega arith)
ending_same (refusal m p) (refusal n q) ls ms e = let a : m ≡ n = cc in let b : p ≡ q = cc in λ i. refusal (a i) (b i)

lt_of_ne : (n : ℕ) → (n ≡ 0 → ⊥) → 0 < n
lt_of_ne zero z = absurd (z refl)
lt_of_ne (suc n) z = omega arith

module _ (library : Library) where
  -- what `normalise` does with any string within the limit
  normal_gives : (s l : List ℕ) → length s ≤ longest → Gives (normalised s) l (library.normalise s l)
  normal_gives s l short = calls.gives (format.due_of s) l (library.normalise s l) (normalised s) (within_short longest s _ short) (library.normalises s l)

  -- the theory's walk, by the code's answers
  module _ (s : List ℕ) (short : length s ≤ longest) where
    abbrev the_walk : Walks epl (List ℕ) frame_of origin s
    the_walk = walks s short

    abbrev by_code : (xs : List Answer) × Walked (library.step s) fresh xs the_walk.final × (map answer_of xs ≡ the_walk.answers)
    by_code = walked library.step library.steps s the_walk.ends

    code_answered : theory.answered epl (List ℕ) frame_of s [] the_walk.answers ≡ answered s [] by_code.0
    code_answered = ap (theory.answered epl (List ℕ) frame_of s []) (sym by_code.2) ∙ answered_is s [] by_code.0

    accepts : (ls : List FramedLabel) (n : ℕ) → Divides s ls n → (the_walk.final ≡ accepted n) × (answered s [] by_code.0 ≡ ls)
    accepts ls n d = let a = the_walk.divides→accepted ls n (in_theory s ls n d) in (a.0, sym code_answered ∙ a.1)

  normalising_of : (s : List ℕ) (ls : List FramedLabel) (n : ℕ) → length s ≤ longest → Divides s ls n → Normalising library s ls n
  normalising_of s ls n short d = record {
    text = normalised s;
    gives = λ l. normal_gives s l short;
    becomes = λ us c. becomes c;
    size = t.size;
    accepted_alike = λ k.
        let a = accepts (normalised s) k ls n alike in
        let c = by_code (normalised s) k in
        (c.0, subst (Walked (library.step (normalised s)) fresh c.0) a.0 c.1, a.1);
    again = λ k l. subst (λ (x : List ℕ). Gives x l (library.normalise (normalised s) l)) t.again (normal_gives (normalised s) l k);
    divides = alike;
    same_blocks = λ us vs p q. ap (each blocks) (unique epl reads refl q t.division) ∙ t.same_blocks ∙ ap (each blocks) (unique epl reads refl d.division p);
  }
    where
      t : Normal epl (List ℕ) frame_of normalised blocks origin s d.units
      t = normal_text epl (List ℕ) frame_of normalised blocks normal (normalises (List ℕ) frame_of frame_local) origin d.division

      alike : Divides (normalised s) ls n
      alike = divided (normalised s) ls n t.vs t.division (t.same_labels ∙ labelled s ls n d)

  demand_of : (s : List ℕ) → length s ≤ longest → Demand3 library s
  demand_of s short = record {
    one_division = w.one_division;
    answers = c.0;
    final = w.final;
    reached = c.1;
    one_walk = λ ys f y. one_walked (library.step s) y c.1;
    accepted_exactly = ((λ e. let d = (divides e.0 e.1).1 in (d.units, d.division, d.range)), λ x. (_, (accepts s short _ _ (record { units = x.0; division = x.1; range = x.2; found = refl; pending = refl })).0));
    divides_accepted = accepts s short;
    accepted_divides = divides;
    else_refused = λ none. refused w.final refl none;
    earliest = λ n p. (to_earliest n p, of_earliest n p);
    covered = λ n p. ((λ x. subst (λ (k : ℕ). Earliest Beyond13 s 0 origin k p) x.2 (earliest_together (to_earliest x.0 p x.1))), λ e. let k = together_earliest e in (k.0, of_earliest k.0 p k.1, k.2));
    normalising = λ ls n d. normalising_of s ls n short d;
    lists_division = λ ls n d l. calls.gives (due_of s) l (library.list s l) (listing_of ls n) (ap listing_due (divides→listed epl reads (List ℕ) frame_of local s short origin ls n (in_theory s ls n d))) (library.lists s l);
    lists_refusal = λ n p e l. denies (due_of s) l (library.list s l) (ap listing_due (outcome_is ∙ ap (λ (f : Final). ending f (theory.answered epl (List ℕ) frame_of s [] w.answers)) e)) (library.lists s l);
  }
    where
      w : Walks epl (List ℕ) frame_of origin s
      w = the_walk s short

      c : (xs : List Answer) × Walked (library.step s) fresh xs w.final × (map answer_of xs ≡ w.answers)
      c = by_code s short

      outcome_is : outcome_of s ≡ ending w.final (theory.answered epl (List ℕ) frame_of s [] w.answers)
      outcome_is = reach_outcome epl reads (List ℕ) frame_of w.ends

      divides : (n : ℕ) → w.final ≡ accepted n → (ls : List FramedLabel) × Divides s ls n
      divides n e = let i = w.accepted→divides n e in (i.0, of_theory s i.0 n i.1)

      refused : (f : Final) → w.final ≡ f → ((ls : List FramedLabel) (n : ℕ) → Divides s ls n → ⊥) → (n : ℕ) × (p : ℕ) × (w.final ≡ refusal n p)
      refused (accepted n) e none = let d = divides n e in absurd (none d.0 n d.1)
      refused (refusal n p) e none = (n, p, e)

      to_earliest : (n p : ℕ) → w.final ≡ refusal n p → Earliest Beyond s 0 origin n p
      to_earliest n p e = fails_earliest (List ℕ) frame_of (w.refused→fails n p e)

      -- there is one at most, and none where the end is reached
      of_earliest : (n p : ℕ) → Earliest Beyond s 0 origin n p → w.final ≡ refusal n p
      of_earliest n p x = by w.final refl
        where
          by : (f : Final) → w.final ≡ f → f ≡ refusal n p
          by (accepted m) e = let d = (divides m e).1 in absurd (divides_no_earliest d.division d.range x)
          by (refusal m q) e = let o = one_earliest (to_earliest m q e) x in λ i. refusal (o.0 i) (o.1 i)

  -- the end of the walk by its trace is that of the steps
  final_is : (s : List ℕ) (short : length s ≤ longest) → (the_walk s short).final ≡ end_of s fresh
  final_is s short = ending_same (the_walk s short).final (end_of s fresh) _ _ (sym (reach_outcome epl reads (List ℕ) frame_of (the_walk s short).ends))

  -- ---- the well-site profile
  profile_at : (s : List ℕ) → length s ≤ longest → Profile library s (checked_of s)
  unfolding in_theory of_theory divided
  profile_at s short = record {
    accepted_exactly = ((λ z. let a = (accepted_by s short z).2 in let d = of_theory s _ _ a.divides in (d.units, d.division, d.range, a.clean)), λ x. ap (λ (c : Checked). c.number) (clean_accepted x));
    accepted_tells = λ z. let a = accepted_by s short z in listed_accepted s short a.0 a.1 a.2.lists;
    accepted_alike = λ z.
        let a = accepted_by s short z in
        let d = of_theory s a.0 a.1 a.2.divides in
        let w = accepts s short a.0 a.1 d in (
          a.0,
          a.1,
          (by_code s short).0,
          subst (Walked (library.step s) fresh (by_code s short).0) w.0 (by_code s short).1,
          w.1,
          λ l. calls.gives (strict_due_of s) l (library.strict_list s l) (listing_of a.0 a.1) (ap listing_due a.2.lists) (library.strictly_lists s l),
        );
    refused_alike = λ z o.
        let r = refused_plain s short z o in
        ((by_code s short).0, subst (Walked (library.step s) fresh (by_code s short).0) (final_is s short ∙ r.0) (by_code s short).1, r.1, r.2);
    objected = objected_by_lem s short;
    told = objected_told s short;
    denied = λ z l. denies (strict_due_of s) l (library.strict_list s l) (own_due s (checked_of s).number (lt_of_ne (checked_of s).number z) refl) (library.strictly_lists s l);
  }
    where
      clean_accepted : ((us : List EplUnit) × Division epl s us × InRange origin us × InProfile us) → checked_of s ≡ bare 0 0
      clean_accepted x =
          let d : Divides s _ _ = record { units = x.0; division = x.1; range = x.2; found = refl; pending = refl } in
          listed_accepted s short _ _ (clean_listed s short _ _ (in_theory s _ _ d) x.3)

  profile_of : (s : List ℕ) → length s ≤ longest → Profile library s (library.check s)
  profile_of s short = subst (Profile library s) (sym (library.checks s)) (profile_at s short)

  -- ---- the label index
  indexing_of_lem : (s : List ℕ) (ls : List FramedLabel) (n : ℕ) → length s ≤ longest → Divides s ls n → Indexing library s ls
  indexing_of_lem s ls n short d =
      index_laws.indexing library s ls n (sym (final_is s short) ∙ (accepts s short ls n d).0)
      (indexed epl reads firm (List ℕ) frame_of local s short origin ls n (in_theory s ls n d))

  index_refused_of : (s : List ℕ) (xs : List Answer) (n p : ℕ) → length s ≤ longest → Walked (library.step s) fresh xs (refusal n p) → (l : List LabelEntry) → DeniesList n p l (library.index s l)
  index_refused_of s xs n p short w l = index_laws.unfilled_by library s l n p (sym (final_is s short) ∙ sym (one_walked (library.step s) w (by_code s short).1).1)

  -- ---- two files joined
  joining_of : (s t : List ℕ) (ls ms : List FramedLabel) (m k : ℕ) → outcome_of s ≡ listed ls m → outcome_of t ≡ listed ms k → Joining library s t ls ms k
  joining_of s t ls ms m k a b = record {
    text = joined_text s t;
    becomes = λ us vs d e. (normalised s, normalised t, becomes d, becomes e, refl);
    gives = λ h l. union_gives (library.join s t l) (library.unites s t l) (due_text s t (ls, m, a) (ms, k, b) h);
    too_long = λ h l. union_denies (library.join s t l) (library.unites s t l) (due_long s t (ls, m, a) (ms, k, b) h);
    divides = alike;
    accepted_alike = λ h.
        let d = accepts (joined_text s t) h (ls ++ ms) k alike in
        let c = by_code (joined_text s t) h in
        (c.0, subst (Walked (library.step (joined_text s t)) fresh c.0) d.0 c.1, d.1);
    blocks_of_both = w.blocks_of_both;
  }
    where
      w : theory_join.Joins epl (List ℕ) frame_of normalised clear_line origin blocks s t ls ms k
      w = epl_joins s t ls ms m k (listed→divides epl reads (List ℕ) frame_of local s origin ls m a) (listed→divides epl reads (List ℕ) frame_of local t origin ms k b)

      alike : Divides (joined_text s t) (ls ++ ms) k
      alike = of_theory (joined_text s t) (ls ++ ms) k w.divides

  joins_of : (s t : List ℕ) → Joins library s t
  joins_of s t = record {
    first_refused = λ xs n p w l. union_denies (library.join s t l) (library.unites s t l) (due_first s t (walked_lists library s xs (refusal n p) w));
    second_refused = λ xs ys m n p w v l. union_denies (library.join s t l) (library.unites s t l) (due_second s t (_, m, walked_lists library s xs (accepted m) w) (walked_lists library t ys (refusal n p) v));
    both_accepted = λ xs ys m k w v. joining_of s t _ _ m k (walked_lists library s xs (accepted m) w) (walked_lists library t ys (accepted k) v);
  }

  -- ---- one line changed
  -- an accepted walk answers the labels of a division
  walked_divides : (s : List ℕ) → length s ≤ longest → (xs : List Answer) (n : ℕ) → Walked (library.step s) fresh xs (accepted n) → labels_of_lem.Divides epl (List ℕ) frame_of s origin (answered s [] xs) n
  walked_divides s short xs n w =
      let o = one_walked (library.step s) (by_code s short).1 w in
      let d = (the_walk s short).accepted→divides n o.1 in
      let a = ((the_walk s short).divides→accepted d.0 n d.1).1 in
      subst (λ (ls : List FramedLabel). labels_of_lem.Divides epl (List ℕ) frame_of s origin ls n) (sym a ∙ code_answered s short ∙ ap (answered s []) o.0) d.1

  one_line_of : (s s' t t' : List ℕ) (e : Ending) (before : List EplUnit) → Replaced s s' t t' e before → length s ≤ longest → length s' ≤ longest → (xs xs' : List Answer) (n n' : ℕ)
      → Walked (library.step s) fresh xs (accepted n) → Walked (library.step s') fresh xs' (accepted n') → OneLineChanged s s' t t' e before (answered s [] xs) (answered s' [] xs') n n'
  unfolding flush
  one_line_of s s' t t' e before r short short' xs xs' n n' w w' = record {
    behind = k.0;
    old_division = k.1;
    new_division = new_division s s' t t' e before r k.0 k.1 (List ℕ) frame_of d'.division;
    next = next_of k.0;
    dropped = changes.stays (List ℕ) frame_of s s' t t' e before r k.0 k.1 (answered s [] xs) (answered s' [] xs') n n' d d';
    printed = changes.in_label (List ℕ) frame_of s s' t t' e before r k.0 k.1 (answered s [] xs) (answered s' [] xs') n n' d d';
    not_listed = λ q. refl;
    is_listed = λ q f fs. refl;
    yields_or_not = (unit_role e t r.old_line, unit_role e t' r.new_line);
    counted = changes.counted (List ℕ) frame_of s s' t t' e before r k.0 k.1 (answered s [] xs) (answered s' [] xs') n n' d d';
    pending = changes.at_end (List ℕ) frame_of s s' t t' e before r k.0 k.1 (answered s [] xs) (answered s' [] xs') n n' d d';
  }
    where
      d : labels_of_lem.Divides epl (List ℕ) frame_of s origin (answered s [] xs) n
      d = walked_divides s short xs n w

      d' : labels_of_lem.Divides epl (List ℕ) frame_of s' origin (answered s' [] xs') n'
      d' = walked_divides s' short' xs' n' w'

      k : (behind : List EplUnit) × Division epl s (before ++ unit_of e t ∷ behind)
      k = old_division s s' t t' e before r d.division

  -- ---- what lies where
  lying_own_of : (s : List ℕ) (ls : List FramedLabel) (n : ℕ) (short : length s ≤ longest) (d : Divides s ls n)
      → (i : ℕ) (f : Label LabelElement EplPrint) → get_elem? (labels_by itself origin [] d.units) i ≡ some f → Answers library s (indexing_of_lem s ls n short d).entries i f.frames
  unfolding indexing_of_lem
  lying_own_of s ls n short d i f h =
      let es = entries epl origin s in
      let x = indexed epl reads firm Drawn drawn_of (λ r u e k pre post. drawn_shifted (length pre) e) s short origin _ _ (record { units = d.units; division = d.division; range = in_range_labels Drawn drawn_of d.division origin [] d.range }) in
      let o = opened_as s es i f (x.opened i (drawn_label f) (ap (λ (ms : List (Label Drawn EplPrint)). get_elem? ms i) (labels_drawn d.units origin []) ∙ map_at drawn_label (labels_by itself origin [] d.units) i f h)) in
      let own : opening_of s (entries_from es) i ≡ opens o.0 = ap (λ (ys : List EplEntry). opening epl LabelElement itself s ys i) (index_laws.from_of es) ∙ o.1 in
      subst (λ (ys : List LabelEntry). Answers library s ys i f.frames)
      (sym (index_laws.indexing_entries library s ls n (sym (final_is s short) ∙ (accepts s short ls n d).0) (indexed epl reads firm (List ℕ) frame_of local s short origin ls n (in_theory s ls n d))))
      (answers_alike o.0.frames f.frames o.2 library s (entries_from es) i ((lying_laws.lying library s (entries_from es) i).opened o.0 own))

-- ---- demand 1: the numbers of refusals
numbered_of : (k : Refusal) → (1 ≤ number_of k) × (number_of k ≤ 25)
numbered_of TextFields = (omega arith, omega arith)
numbered_of BarcodeFields = (omega arith, omega arith)
numbered_of Barcode2dFields = (omega arith, omega arith)
numbered_of LineFields = (omega arith, omega arith)
numbered_of DiagonalFields = (omega arith, omega arith)
numbered_of BoxFields = (omega arith, omega arith)
numbered_of BarcodeType = (omega arith, omega arith)
numbered_of Barcode2dType = (omega arith, omega arith)
numbered_of QrData = (omega arith, omega arith)
numbered_of GraphicFields = (omega arith, omega arith)
numbered_of GraphicNegative = (omega arith, omega arith)
numbered_of GraphicTruncated = (omega arith, omega arith)
numbered_of OutOfRange = (omega arith, omega arith)
numbered_of InputTooLong = (omega arith, omega arith)
numbered_of OutputTooShort = (omega arith, omega arith)
numbered_of StateOutside = (omega arith, omega arith)
numbered_of NoValue = (omega arith, omega arith)
numbered_of OutsideProfile = (omega arith, omega arith)
numbered_of SizeOutside = (omega arith, omega arith)
numbered_of TooManyLabels = (omega arith, omega arith)
numbered_of NoSuchLabel = (omega arith, omega arith)
numbered_of RectangleTurned = (omega arith, omega arith)
numbered_of NotReadable = (omega arith, omega arith)
numbered_of GraphicInLabel = (omega arith, omega arith)
numbered_of JoinedTooLong = (omega arith, omega arith)

-- ---- demand 2
-- "All others begin kind, x, y"
begins_of : (s : List ℕ) (e : LabelElement) → take 9 (frame_of s e) ≡ head (kind_of e) (place_of e)
unfolding be32 head frame_of
begins_of s e = refl

-- ---- the listing program
refusal_line_lem : refusal_line 6 12 ≡ ascii "ff060000000c\n"
unfolding be32
refusal_line_lem = refl

over_program : (s : List ℕ) → 65536 < length s → shown_for s (due_of s) ≡ ascii "ff0e00000000\n"
unfolding be32
over_program s h = ap shown_of (within_long 65536 s (due_of s) h)

ill_lines : (t : List ℕ) (n : ℕ) → ((well_formed t ≡ false) × (fault_of t ≡ n)) ↔ LineFault t n
ill_lines t n = ((λ h. subst (LineFault t) h.1 (ill_has_fault t h.0)), fault_is_ill t)

claims : (library : Library) → Claims library
claims library = record {
  limit = refl;
  start = refl;
  demand1 = record {
    step_hands_back = step_hands_back library;
    list_keeps = list_keeps library;
    decode_keeps = decode_keeps library;
    long_decode = long_decode library;
    normalise_keeps = normalise_keeps library;
    strict_list_keeps = strict_list_keeps library;
    index_keeps = index_keeps library;
    open_keeps = open_keeps library;
    long_step = long_step library;
    long_list = long_list library;
    long_normalise = long_normalise library;
    long_check = long_check library;
    long_strict_list = long_strict_list library;
    to_300_keeps = to_300_keeps library;
    long_to_300 = long_to_300 library;
    long_index = long_index library;
    long_open = long_open library;
    outside = outside library;
    inside = calls.inside library;
    ends = ends library;
    end_keeps = end_keeps library;
    ended_again = ended_again library;
    data_inside = data_inside library;
    numbered = numbered_of;
    join_keeps = join_keeps library;
    write_keeps = calls.write_keeps library;
    write_plain_keeps = calls.write_plain_keeps library;
    write_label_keeps = calls.write_label_keeps library;
    write_label_300_keeps = calls.write_label_300_keeps library;
    long_join = long_join library;
  };
  demand2 = record {
    spelled = spelled;
    line_faults = ill_lines;
    faults = faults;
    in_range = in_range;
    position_outside = position_outside;
    size_outside = size_outside;
    outside_numbers = outside_numbers;
    out_of_range = out_of_range;
    shape = shape;
    spanned = spanned;
    begins = begins_of;
    held = fields_held;
    numbers = number_fields;
    ill_formed = ill_formed;
    is_well_formed = well_formed_range;
    exclusive_or = exclusive_or;
    blanks = code_points_trim;
    widths = width_exact;
    starred = starred;
    distinct = distinct;
    profiled = profiled;
    tabled = tabled.indexed;
    joined = joined;
    changed = changed;
    laid = laid.lying;
    converted = converted.converted;
    written = written.written;
  };
  sized = calls.sized library;
  one_division = λ s us vs d e. unique epl reads refl d e;
  demand3 = demand_of library;
  normalises = normal_gives library;
  profile = profile_of library;
  index = indexing_of_lem library;
  index_refused = index_refused_of library;
  opening = index_laws.opening library;
  joins = joins_of library;
  one_line = one_line_of library;
  replaces = replaces;
  lying = lying_laws.lying library;
  lying_own = lying_own_of library;
  shares = lying_laws.shares;
  inside = placed.inside;
  turned = placed.turned;
  position = placed.position;
  own = placed.own;
  near = placed.near;
  dots = record {
    nearest = λ n z. (nearest_to300 n z, λ e. subst (Nearest n) (sym e) (to300_nearest n));
    near = to300_near;
    order = to300_order;
    range = to300_range;
  };
  resolution = resolution library;
  writing = writing library;
  block_bytes = block_bytes;
  line_blocks = line_blocks;
  flat = record {
    frame = flat_frame;
    next = flat_next;
    kind = flat_kind;
    element = λ e st. refl;
    print = λ n q st. refl;
    clear = λ st. refl;
    end = λ st. refl;
    clear_fields = λ st. refl;
    end_fields = λ st. refl;
    refusal = λ n p st. refl;
    zeroed = zeroed;
  };
  decoding = decoding library;
  room = length_listing_le;
  normalised_room = length_normalised_le;
  ff_line = refusal_line_lem;
  program_long = over_program;
  program = λ s h. ap shown_of (within_short 65536 s (due_of s) h);
  never_15 = never_short;
}

pub theorem : Theorem
theorem = record { proved = proved; library = library; decoder = decoder; claims = claims }
