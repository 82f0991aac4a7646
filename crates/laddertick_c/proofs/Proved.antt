-- The code of the static library's functions, and the contracts that it is proved to meet, as `Proved` of the crate
-- `laddertick` has them for the plain ones: `says` that each asks nothing, and what its `ensures` says. a are the
-- arguments, r the result, z the arguments at exit. Assumes nothing.
use Rattle.laddertick_c.proofs.laddertick_start.Kinds as start_kinds
use Rattle.laddertick_c.proofs.laddertick_start.Reads as start_reads
use Rattle.laddertick_c.proofs.laddertick_step.Kinds as step_kinds
use Rattle.laddertick_c.proofs.laddertick_step.Reads as step_reads
use Rattle.laddertick_c.proofs.laddertick_data.Kinds as decode_kinds
use Rattle.laddertick_c.proofs.laddertick_data.Reads as decode_reads
use Rattle.laddertick_c.proofs.laddertick_list.Kinds as list_kinds
use Rattle.laddertick_c.proofs.laddertick_list.Reads as list_reads
use Rattle.laddertick_c.proofs.laddertick_normalise.Kinds as normalise_kinds
use Rattle.laddertick_c.proofs.laddertick_normalise.Reads as normalise_reads
use Rattle.laddertick_c.proofs.laddertick_check.Kinds as check_kinds
use Rattle.laddertick_c.proofs.laddertick_check.Reads as check_reads
use Rattle.laddertick_c.proofs.laddertick_strict_list.Kinds as strict_list_kinds
use Rattle.laddertick_c.proofs.laddertick_strict_list.Reads as strict_list_reads
use Rattle.laddertick_c.proofs.laddertick_join.Kinds as join_kinds
use Rattle.laddertick_c.proofs.laddertick_join.Reads as join_reads
use Rattle.laddertick_c.proofs.laddertick_write.Kinds as write_kinds
use Rattle.laddertick_c.proofs.laddertick_write.Reads as write_reads
use mathlib.Core.Path.{◌≡◌, refl}
use lib.ListN.{length}
use Rattle.elements.specs.Walk.{fresh}
use Rattle.decoding.specs.Decoding as decoding
use Rattle.where_label.specs.Found.{inside_due, touching_due, nearest_due}
use Rattle.structs.specs.Written.{given_flat, counted_flat, spot_flat}
use Rattle.elements.specs.Given.{Fills}
use Rattle.walk_theory.specs.Step as theory
use Rattle.grammar.specs.Epl.{epl}
use Rattle.walk.specs.Steps.{state_of}
use Rattle.structs.specs.Steps.{flat_of}
use Rattle.file_listing.specs.Listing as listing
use Rattle.format.specs.Normalise as normal
use Rattle.strict.specs.Verdict.{checked_of}
use Rattle.strict.specs.Listing.{strict_due_of}
use Rattle.label_index.specs.Plan.{Indexes, filling_of}
use Rattle.label_opening.specs.Opened as opening
use Rattle.joining.specs.Join.{Joins}
use Rattle.laddertick.specs.Proved.{Owes, Says}
use Rattle.laddertick_c.specs.contracts.laddertick_start as start_fn
use Rattle.laddertick_c.proofs.laddertick_start.Statement as start
use Rattle.laddertick_c.proofs.laddertick_start.Met as start_met
use Rattle.laddertick_c.specs.contracts.laddertick_step as step_fn
use Rattle.laddertick_c.proofs.laddertick_step.Statement as step
use Rattle.laddertick_c.proofs.laddertick_step.Met as step_met
use Rattle.laddertick_c.specs.contracts.laddertick_data as decode_fn
use Rattle.laddertick_c.proofs.laddertick_data.Statement as decode
use Rattle.laddertick_c.proofs.laddertick_data.Met as decode_met
use Rattle.laddertick_c.specs.contracts.laddertick_list as list_fn
use Rattle.laddertick_c.proofs.laddertick_list.Statement as list
use Rattle.laddertick_c.proofs.laddertick_list.Met as list_met
use Rattle.laddertick_c.specs.contracts.laddertick_normalise as normalise_fn
use Rattle.laddertick_c.proofs.laddertick_normalise.Statement as normalise
use Rattle.laddertick_c.proofs.laddertick_normalise.Met as normalise_met
use Rattle.laddertick_c.specs.contracts.laddertick_check as check_fn
use Rattle.laddertick_c.proofs.laddertick_check.Statement as check
use Rattle.laddertick_c.proofs.laddertick_check.Met as check_met
use Rattle.laddertick_c.specs.contracts.laddertick_strict_list as strict_list_fn
use Rattle.laddertick_c.proofs.laddertick_strict_list.Statement as strict_list
use Rattle.laddertick_c.proofs.laddertick_strict_list.Met as strict_list_met
use Rattle.laddertick_c.specs.contracts.laddertick_index as index_fn
use Rattle.laddertick_c.proofs.laddertick_index.Statement as index
use Rattle.laddertick_c.proofs.laddertick_index.Met as index_met
use Rattle.laddertick_c.specs.contracts.laddertick_open as open_fn
use Rattle.laddertick_c.proofs.laddertick_open.Statement as open_label
use Rattle.laddertick_c.proofs.laddertick_open.Met as open_met
use Rattle.laddertick_c.specs.contracts.laddertick_join as join_fn
use Rattle.laddertick_c.proofs.laddertick_join.Statement as join
use Rattle.laddertick_c.proofs.laddertick_join.Met as join_met
use Rattle.laddertick_c.specs.contracts.laddertick_inside as inside_fn
use Rattle.laddertick_c.proofs.laddertick_inside.Statement as inside
use Rattle.laddertick_c.proofs.laddertick_inside.Met as inside_met
use Rattle.laddertick_c.specs.contracts.laddertick_touching as touching_fn
use Rattle.laddertick_c.proofs.laddertick_touching.Statement as touching
use Rattle.laddertick_c.proofs.laddertick_touching.Met as touching_met
use Rattle.laddertick_c.specs.contracts.laddertick_nearest as nearest_fn
use Rattle.laddertick_c.proofs.laddertick_nearest.Statement as nearest
use Rattle.laddertick_c.proofs.laddertick_nearest.Met as nearest_met
use Rattle.laddertick_c.specs.contracts.laddertick_write as write_fn
use Rattle.laddertick_c.proofs.laddertick_write.Statement as write
use Rattle.laddertick_c.proofs.laddertick_write.Met as write_met
use Rattle.laddertick_c.specs.contracts.laddertick_write_label as write_label_fn
use Rattle.laddertick_c.proofs.laddertick_write_label.Statement as write_label
use Rattle.laddertick_c.proofs.laddertick_write_label.Met as write_label_met
use Rattle.laddertick_c.specs.contracts.laddertick_write_label_300 as write_label_300_fn
use Rattle.laddertick_c.proofs.laddertick_write_label_300.Statement as write_label_300
use Rattle.laddertick_c.proofs.laddertick_write_label_300.Met as write_label_300_met
use Rattle.writing_element.specs.Plain.{plain_due}
use Rattle.writing_label.specs.Label.{plain_label_due, plain_label_due300}
use Rattle.dots_label.specs.Conversion.{conversion_of, Converts}
use Rattle.laddertick_c.specs.contracts.laddertick_to_300 as to_300_fn
use Rattle.laddertick_c.proofs.laddertick_to_300.Statement as to_300
use Rattle.laddertick_c.proofs.laddertick_to_300.Met as to_300_met

pub record Proved : Type 2 where
  pub start : {M : Type 1} → start.statement M
  pub step : {M : Type 1} → step.statement M
  pub decode : {M : Type 1} → decode.statement M
  pub list : {M : Type 1} → list.statement M
  pub normalise : {M : Type 1} → normalise.statement M
  pub check : {M : Type 1} → check.statement M
  pub strict_list : {M : Type 1} → strict_list.statement M
  pub index : {M : Type 1} → index.statement M
  pub open_label : {M : Type 1} → open_label.statement M
  pub inside : {M : Type 1} → inside.statement M
  pub touching : {M : Type 1} → touching.statement M
  pub nearest : {M : Type 1} → nearest.statement M
  pub to_300 : {M : Type 1} → to_300.statement M
  pub write : {M : Type 1} → write.statement M
  pub write_label : {M : Type 1} → write_label.statement M
  pub write_label_300 : {M : Type 1} → write_label_300.statement M
  pub start_says : Says start_fn.ended (λ M 𝓤. start_fn.clauses {M = M} {𝓤 = 𝓤}) (λ κs a r z. r ≡ fresh)
  pub step_says : Says step_fn.ended (λ M 𝓤. step_fn.clauses {M = M} {𝓤 = 𝓤}) (λ κs a r z. r ≡ flat_of (theory.step epl a.0.now (state_of a.1.0)))
  pub decode_says : Says decode_fn.ended (λ M 𝓤. decode_fn.clauses {M = M} {𝓤 = 𝓤})
      (λ κs a r z. Fills z.1.1.1.0.now a.1.1.1.0.now (decoding.due_of a.0.now (record { start = a.1.0; len = a.1.1.0 })) (given_flat r))
  pub list_says : Says list_fn.ended (λ M 𝓤. list_fn.clauses {M = M} {𝓤 = 𝓤}) (λ κs a r z. Fills z.1.0.now a.1.0.now (listing.due_of a.0.now) (given_flat r))
  pub normalise_says : Says normalise_fn.ended (λ M 𝓤. normalise_fn.clauses {M = M} {𝓤 = 𝓤}) (λ κs a r z. Fills z.1.0.now a.1.0.now (normal.due_of a.0.now) (given_flat r))
  pub check_says : Says check_fn.ended (λ M 𝓤. check_fn.clauses {M = M} {𝓤 = 𝓤}) (λ κs a r z. r ≡ checked_of a.0.now)
  pub strict_list_says : Says strict_list_fn.ended (λ M 𝓤. strict_list_fn.clauses {M = M} {𝓤 = 𝓤}) (λ κs a r z. Fills z.1.0.now a.1.0.now (strict_due_of a.0.now) (given_flat r))
  pub write_says : Says write_fn.ended (λ M 𝓤. write_fn.clauses {M = M} {𝓤 = 𝓤}) (λ κs a r z. Fills z.1.1.0.now a.1.1.0.now (plain_due a.0.now a.1.0) (given_flat r))
  pub index_says : Says index_fn.ended (λ M 𝓤. index_fn.clauses {M = M} {𝓤 = 𝓤}) (λ κs a r z. Indexes z.1.0.now a.1.0.now (filling_of a.0.now (length a.1.0.now)) (counted_flat r))
  pub open_label_says : Says open_fn.ended (λ M 𝓤. open_fn.clauses {M = M} {𝓤 = 𝓤}) (λ κs a r z. Fills z.1.1.1.0.now a.1.1.1.0.now (opening.due_of a.0.now a.1.0.now a.1.1.0) (given_flat r))
  pub join : {M : Type 1} → join.statement M
  pub join_says : Says join_fn.ended (λ M 𝓤. join_fn.clauses {M = M} {𝓤 = 𝓤})
      (λ κs a r z. Joins z.1.1.0.now a.1.1.0.now a.0.now a.1.0.now r)
  pub inside_says : Says inside_fn.ended (λ M 𝓤. inside_fn.clauses {M = M} {𝓤 = 𝓤}) (λ κs a r z. Fills z.1.1.1.1.0.now a.1.1.1.1.0.now (inside_due a.0.now a.1.0.now a.1.1.0 a.1.1.1.0) (given_flat r))
  pub touching_says : Says touching_fn.ended (λ M 𝓤. touching_fn.clauses {M = M} {𝓤 = 𝓤}) (λ κs a r z. Fills z.1.1.1.1.0.now a.1.1.1.1.0.now (touching_due a.0.now a.1.0.now a.1.1.0 a.1.1.1.0) (given_flat r))
  pub nearest_says : Says nearest_fn.ended (λ M 𝓤. nearest_fn.clauses {M = M} {𝓤 = 𝓤}) (λ κs a r z. spot_flat r ≡ nearest_due a.0.now a.1.0.now a.1.1.0 (record { x = a.1.1.1.0; y = a.1.1.1.1.0 }))
  pub to_300_says : Says to_300_fn.ended (λ M 𝓤. to_300_fn.clauses {M = M} {𝓤 = 𝓤}) (λ κs a r z. Converts z.1.1.1.0.now a.1.1.1.0.now (conversion_of a.0.now a.1.0.now a.1.1.0 (length a.1.1.1.0.now)) r)
  pub write_label_says : Says write_label_fn.ended (λ M 𝓤. write_label_fn.clauses {M = M} {𝓤 = 𝓤}) (λ κs a r z. Fills z.1.1.1.1.0.now a.1.1.1.1.0.now (plain_label_due a.0.now a.1.0.now (record { sets = a.1.1.0; copies = a.1.1.1.0 })) (given_flat r))
  pub write_label_300_says : Says write_label_300_fn.ended (λ M 𝓤. write_label_300_fn.clauses {M = M} {𝓤 = 𝓤}) (λ κs a r z. Fills z.1.1.1.1.0.now a.1.1.1.1.0.now (plain_label_due300 a.0.now a.1.0.now (record { sets = a.1.1.0; copies = a.1.1.1.0 })) (given_flat r))
  pub start_owes : Owes 0 start_kinds.ps start_kinds.r start_reads.Post (λ κs a r z. r ≡ fresh)
  pub step_owes : Owes 1 step_kinds.ps step_kinds.r step_reads.Post (λ κs a r z. r ≡ flat_of (theory.step epl a.0.now (state_of a.1.0)))
  pub decode_owes : Owes 2 decode_kinds.ps decode_kinds.r decode_reads.Post
      (λ κs a r z. Fills z.1.1.1.0.now a.1.1.1.0.now (decoding.due_of a.0.now (record { start = a.1.0; len = a.1.1.0 })) (given_flat r))
  pub list_owes : Owes 2 list_kinds.ps list_kinds.r list_reads.Post (λ κs a r z. Fills z.1.0.now a.1.0.now (listing.due_of a.0.now) (given_flat r))
  pub normalise_owes : Owes 2 normalise_kinds.ps normalise_kinds.r normalise_reads.Post (λ κs a r z. Fills z.1.0.now a.1.0.now (normal.due_of a.0.now) (given_flat r))
  pub check_owes : Owes 1 check_kinds.ps check_kinds.r check_reads.Post (λ κs a r z. r ≡ checked_of a.0.now)
  pub strict_list_owes : Owes 2 strict_list_kinds.ps strict_list_kinds.r strict_list_reads.Post (λ κs a r z. Fills z.1.0.now a.1.0.now (strict_due_of a.0.now) (given_flat r))
  pub write_owes : Owes 2 write_kinds.ps write_kinds.r write_reads.Post (λ κs a r z. Fills z.1.1.0.now a.1.1.0.now (plain_due a.0.now a.1.0) (given_flat r))
  pub join_owes : Owes 3 join_kinds.ps join_kinds.r join_reads.Post
      (λ κs a r z. Joins z.1.1.0.now a.1.1.0.now a.0.now a.1.0.now r)

pub proved : Proved
proved = record {
  start = start_met.met;
  step = step_met.met;
  decode = decode_met.met;
  list = list_met.met;
  normalise = normalise_met.met;
  check = check_met.met;
  strict_list = strict_list_met.met;
  index = index_met.met;
  open_label = open_met.met;
  inside = inside_met.met;
  touching = touching_met.met;
  nearest = nearest_met.met;
  to_300 = to_300_met.met;
  write = write_met.met;
  write_label = write_label_met.met;
  write_label_300 = write_label_300_met.met;
  start_says = λ M 𝓤 𝓛 mem run κs a g. (refl, λ r z. refl);
  step_says = λ M 𝓤 𝓛 mem run κs a g. (refl, λ r z. refl);
  decode_says = λ M 𝓤 𝓛 mem run κs a g. (refl, λ r z. refl);
  list_says = λ M 𝓤 𝓛 mem run κs a g. (refl, λ r z. refl);
  normalise_says = λ M 𝓤 𝓛 mem run κs a g. (refl, λ r z. refl);
  check_says = λ M 𝓤 𝓛 mem run κs a g. (refl, λ r z. refl);
  strict_list_says = λ M 𝓤 𝓛 mem run κs a g. (refl, λ r z. refl);
  write_says = λ M 𝓤 𝓛 mem run κs a g. (refl, λ r z. refl);
  index_says = λ M 𝓤 𝓛 mem run κs a g. (refl, λ r z. refl);
  open_label_says = λ M 𝓤 𝓛 mem run κs a g. (refl, λ r z. refl);
  join = join_met.met;
  join_says = λ M 𝓤 𝓛 mem run κs a g. (refl, λ r z. refl);
  inside_says = λ M 𝓤 𝓛 mem run κs a g. (refl, λ r z. refl);
  touching_says = λ M 𝓤 𝓛 mem run κs a g. (refl, λ r z. refl);
  nearest_says = λ M 𝓤 𝓛 mem run κs a g. (refl, λ r z. refl);
  to_300_says = λ M 𝓤 𝓛 mem run κs a g. (refl, λ r z. refl);
  write_label_says = λ M 𝓤 𝓛 mem run κs a g. (refl, λ r z. refl);
  write_label_300_says = λ M 𝓤 𝓛 mem run κs a g. (refl, λ r z. refl);
  start_owes = λ κs a r z p. p;
  step_owes = λ κs a r z p. p;
  decode_owes = λ κs a r z p. p;
  list_owes = λ κs a r z p. p;
  normalise_owes = λ κs a r z p. p;
  check_owes = λ κs a r z p. p;
  strict_list_owes = λ κs a r z p. p;
  write_owes = λ κs a r z p. p;
  join_owes = λ κs a r z p. p;
}
