-- The code, and the contract that it is proved to meet. `statement` is the toolchain's: whatever the memory, where
-- what its `requires` asks holds the function's compiled body (its MIR) returns, touches only what it owns or was lent,
-- and what its `ensures` says holds then. `says`: the first clause asks nothing, and the second is the contract as
-- `HostContracts` has it.
use Rattle.std.specs.Prelude.{List, ℕ, ◌≡◌}
use borrow.Fn.Kinds.{ParamKind, ResultKind, Dens, res_t, ended_of, Out}
use Rattle.elements.proofs.walk_state.start.Kinds as start_kinds
use Rattle.elements.proofs.walk_state.start.Reads as start_reads
use Rattle.walk.proofs.step.step.Kinds as step_kinds
use Rattle.walk.proofs.step.step.Reads as step_reads
use Rattle.file_listing.proofs.listing.list.Kinds as list_kinds
use Rattle.file_listing.proofs.listing.list.Reads as list_reads
use Rattle.format.proofs.normalise.normalise.Kinds as normalise_kinds
use Rattle.format.proofs.normalise.normalise.Reads as normalise_reads
use Rattle.strict.proofs.check.check.Kinds as check_kinds
use Rattle.strict.proofs.check.check.Reads as check_reads
use Rattle.strict.proofs.listing.strict_list.Kinds as strict_list_kinds
use Rattle.strict.proofs.listing.strict_list.Reads as strict_list_reads
use Rattle.joining.proofs.join.join.Kinds as join_kinds
use Rattle.joining.proofs.join.join.Reads as join_reads
use Rattle.writing_element.proofs.write.write.Kinds as write_kinds
use Rattle.writing_element.proofs.write.write.Reads as write_reads
use Rattle.writing_element.proofs.plain.write_plain.Kinds as write_plain_kinds
use Rattle.writing_element.proofs.plain.write_plain.Reads as write_plain_reads
use seplogic.Ra.Ura.{Ura}
use base.Logic.{SProp, emp}
use contract.Lifetimes.{Lfts}
use contract.Monad.{Fun, fact}
use denote.Triple.Clauses.{AtExit, Clauses, Ended}
use denote.Triple.Entry.{Args, Res}
use types.Logic.{Logic}
use prog.Memory.{Memory}
use prog.Routine.{Routine}
use Rattle.elements.specs.Walk.{fresh}
use Rattle.elements.proofs.walk_state.start.Statement as start
use Rattle.elements.specs.contracts.walk_state.start as start_fn
use Rattle.walk.proofs.step.step.Statement as step
use Rattle.walk.specs.contracts.step.step as step_fn
use Rattle.file_listing.proofs.listing.list.Statement as list
use Rattle.file_listing.specs.contracts.listing.list as list_fn
use Rattle.format.proofs.normalise.normalise.Statement as normalise
use Rattle.format.specs.contracts.normalise.normalise as normalise_fn
use Rattle.decoding.proofs.data.decode.Statement as decode
use Rattle.decoding.specs.contracts.data.decode as decode_fn
use Rattle.strict.proofs.check.check.Statement as check
use Rattle.strict.specs.contracts.check.check as check_fn
use Rattle.strict.proofs.listing.strict_list.Statement as strict_list
use Rattle.strict.specs.contracts.listing.strict_list as strict_list_fn
use Rattle.label_index.proofs.labels.index.Statement as index
use Rattle.label_index.specs.contracts.labels.index as index_fn
use Rattle.label_opening.proofs.label.open_label.Statement as open_label
use Rattle.label_opening.specs.contracts.label.open_label as open_label_fn
use Rattle.joining.proofs.join.join.Statement as join
use Rattle.joining.specs.contracts.join.join as join_fn
use Rattle.where_label.proofs.find.inside.Statement as inside
use Rattle.where_label.specs.contracts.find.inside as inside_fn
use Rattle.where_label.proofs.find.touching.Statement as touching
use Rattle.where_label.specs.contracts.find.touching as touching_fn
use Rattle.where_nearest.proofs.nearest.nearest.Statement as nearest
use Rattle.where_nearest.specs.contracts.nearest.nearest as nearest_fn
use Rattle.dots_label.proofs.label.to_300.Statement as to_300
use Rattle.dots_label.specs.contracts.label.to_300 as to_300_fn
use Rattle.writing_element.proofs.write.write.Statement as write
use Rattle.writing_element.specs.contracts.write.write as write_fn
use Rattle.writing_element.proofs.plain.write_plain.Statement as write_plain
use Rattle.writing_element.specs.contracts.plain.write_plain as write_plain_fn
use Rattle.writing_label.proofs.label.write_label.Statement as write_label
use Rattle.writing_label.specs.contracts.label.write_label as write_label_fn
use Rattle.writing_label.proofs.at_300.write_label_300.Statement as write_label_300
use Rattle.writing_label.specs.contracts.at_300.write_label_300 as write_label_300_fn
use Rattle.laddertick.specs.HostContracts.{Stepped, Listed, Normalised, Decoded, Judged}
use Rattle.laddertick.specs.HostContracts.{StrictlyListed, Entered, Opened, JoinedBy}
use Rattle.laddertick.specs.HostContracts.{Inside, Touching, Nearest}
use Rattle.laddertick.specs.HostContracts.{Converted, Spelled, SpelledPlain, SpelledLabel, SpelledLabel300}

-- what is said of the arguments, the result and the arguments at exit by the first is said by the second
abbrev pub Owes : (n : ℕ) (ps : List (ParamKind n)) (r : ResultKind n) → Out n ps r → Out n ps r → Type 0
Owes n ps r P Q = (κs : Lfts n) (a : Dens κs ps) (x : (res_t r κs).Denot) (z : AtExit (ended_of n ps r) κs) → P κs a x z
    → Q κs a x z

-- T are a function's arguments, c its clauses as it is proved to meet them: it asks nothing (it has no `requires`), and
-- its `ensures` is this fact of the arguments, the result and the arguments at exit
abbrev pub Says : (T : Ended)
    → ((M : Type 1) (𝓤 : Ura M) → (𝓛 : Logic 𝓤) → (Memory → SProp 𝓤) → (Routine → Fun 𝓤) → Clauses 𝓤 T)
    → ((κs : Lfts T.signature.lifetimes) → Args T.signature κs → Res T.signature κs → AtExit T κs → Type 0)
    → Type 2
Says T c Q = (M : Type 1) (𝓤 : Ura M) (𝓛 : Logic 𝓤) (mem : Memory → SProp 𝓤) (run : Routine → Fun 𝓤)
    (κs : Lfts T.signature.lifetimes) (a : Args T.signature κs) (g : (c M 𝓤 𝓛 mem run κs a).ghost)
    → ((c M 𝓤 𝓛 mem run κs a).requires g ≡ emp 𝓤)
    × ((r : Res T.signature κs) (z : AtExit T κs) → (c M 𝓤 𝓛 mem run κs a).ensures g r z ≡ fact 𝓤 (Q κs a r z))

pub record Proved : Type 2 where
  pub start : {M : Type 1} → start.statement M
  pub step : {M : Type 1} → step.statement M
  pub list : {M : Type 1} → list.statement M
  pub normalise : {M : Type 1} → normalise.statement M
  pub decode : {M : Type 1} → decode.statement M
  pub check : {M : Type 1} → check.statement M
  pub strict_list : {M : Type 1} → strict_list.statement M
  pub index : {M : Type 1} → index.statement M
  pub open_label : {M : Type 1} → open_label.statement M
  pub inside : {M : Type 1} → inside.statement M
  pub touching : {M : Type 1} → touching.statement M
  pub nearest : {M : Type 1} → nearest.statement M
  pub to_300 : {M : Type 1} → to_300.statement M
  pub write : {M : Type 1} → write.statement M
  pub write_plain : {M : Type 1} → write_plain.statement M
  pub write_label : {M : Type 1} → write_label.statement M
  pub write_label_300 : {M : Type 1} → write_label_300.statement M
  -- a are the arguments, r the result, z the arguments at exit: the input, then the state or the buffer
  pub start_says : Says start_fn.ended (λ M 𝓤. start_fn.clauses {M = M} {𝓤 = 𝓤}) (λ κs a r z. r ≡ fresh)
  pub step_says : Says step_fn.ended (λ M 𝓤. step_fn.clauses {M = M} {𝓤 = 𝓤}) (λ κs a r z. Stepped a.0.now a.1.0 r)
  pub list_says : Says list_fn.ended (λ M 𝓤. list_fn.clauses {M = M} {𝓤 = 𝓤})
      (λ κs a r z. Listed a.0.now a.1.0.now z.1.0.now r)
  pub normalise_says : Says normalise_fn.ended (λ M 𝓤. normalise_fn.clauses {M = M} {𝓤 = 𝓤})
      (λ κs a r z. Normalised a.0.now a.1.0.now z.1.0.now r)
  -- the input, the data's place and the buffer
  pub decode_says : Says decode_fn.ended (λ M 𝓤. decode_fn.clauses {M = M} {𝓤 = 𝓤})
      (λ κs a r z. Decoded a.0.now a.1.0 a.1.1.0.now z.1.1.0.now r)
  pub check_says : Says check_fn.ended (λ M 𝓤. check_fn.clauses {M = M} {𝓤 = 𝓤}) (λ κs a r z. Judged a.0.now r)
  pub strict_list_says : Says strict_list_fn.ended (λ M 𝓤. strict_list_fn.clauses {M = M} {𝓤 = 𝓤})
      (λ κs a r z. StrictlyListed a.0.now a.1.0.now z.1.0.now r)
  pub write_says : Says write_fn.ended (λ M 𝓤. write_fn.clauses {M = M} {𝓤 = 𝓤})
      (λ κs a r z. Spelled a.0.now a.1.0 a.1.1.0.now z.1.1.0.now r)
  pub write_plain_says : Says write_plain_fn.ended (λ M 𝓤. write_plain_fn.clauses {M = M} {𝓤 = 𝓤})
      (λ κs a r z. SpelledPlain a.0.now a.1.0 a.1.1.0.now z.1.1.0.now r)
  pub index_says : Says index_fn.ended (λ M 𝓤. index_fn.clauses {M = M} {𝓤 = 𝓤})
      (λ κs a r z. Entered a.0.now a.1.0.now z.1.0.now r)
  pub open_label_says : Says open_label_fn.ended (λ M 𝓤. open_label_fn.clauses {M = M} {𝓤 = 𝓤})
      (λ κs a r z. Opened a.0.now a.1.0.now a.1.1.0 a.1.1.1.0.now z.1.1.1.0.now r)
  -- two files and the buffer
  pub join : {M : Type 1} → join.statement M
  pub join_says : Says join_fn.ended (λ M 𝓤. join_fn.clauses {M = M} {𝓤 = 𝓤})
      (λ κs a r z. JoinedBy a.0.now a.1.0.now a.1.1.0.now z.1.1.0.now r)
  -- the input, the entries, the number, the rectangle or the point, and the list of numbers
  pub inside_says : Says inside_fn.ended (λ M 𝓤. inside_fn.clauses {M = M} {𝓤 = 𝓤})
      (λ κs a r z. Inside a.0.now a.1.0.now a.1.1.0 a.1.1.1.0 a.1.1.1.1.0.now
      z.1.1.1.1.0.now r)
  pub touching_says : Says touching_fn.ended (λ M 𝓤. touching_fn.clauses {M = M} {𝓤 = 𝓤})
      (λ κs a r z. Touching a.0.now a.1.0.now a.1.1.0 a.1.1.1.0 a.1.1.1.1.0.now
      z.1.1.1.1.0.now r)
  pub nearest_says : Says nearest_fn.ended (λ M 𝓤. nearest_fn.clauses {M = M} {𝓤 = 𝓤})
      (λ κs a r z. Nearest a.0.now a.1.0.now a.1.1.0 a.1.1.1.0 r)
  pub to_300_says : Says to_300_fn.ended (λ M 𝓤. to_300_fn.clauses {M = M} {𝓤 = 𝓤})
      (λ κs a r z. Converted a.0.now a.1.0.now a.1.1.0 a.1.1.1.0.now z.1.1.1.0.now r)
  -- the input, the structs, sets, copies and the buffer
  pub write_label_says : Says write_label_fn.ended (λ M 𝓤. write_label_fn.clauses {M = M} {𝓤 = 𝓤})
      (λ κs a r z. SpelledLabel a.0.now a.1.0.now (record { sets = a.1.1.0; copies = a.1.1.1.0 })
      a.1.1.1.1.0.now z.1.1.1.1.0.now r)
  pub write_label_300_says : Says write_label_300_fn.ended (λ M 𝓤. write_label_300_fn.clauses {M = M} {𝓤 = 𝓤})
      (λ κs a r z. SpelledLabel300 a.0.now a.1.0.now (record { sets = a.1.1.0; copies = a.1.1.1.0 })
      a.1.1.1.1.0.now z.1.1.1.1.0.now r)
  -- the same of what a contract promises, as `owes` says it
  pub start_owes : Owes 0 start_kinds.ps start_kinds.r start_reads.Post (λ κs a r z. r ≡ fresh)
  pub step_owes : Owes 1 step_kinds.ps step_kinds.r step_reads.Post (λ κs a r z. Stepped a.0.now a.1.0 r)
  pub list_owes : Owes 2 list_kinds.ps list_kinds.r list_reads.Post
      (λ κs a r z. Listed a.0.now a.1.0.now z.1.0.now r)
  pub normalise_owes : Owes 2 normalise_kinds.ps normalise_kinds.r normalise_reads.Post
      (λ κs a r z. Normalised a.0.now a.1.0.now z.1.0.now r)
  pub check_owes : Owes 1 check_kinds.ps check_kinds.r check_reads.Post (λ κs a r z. Judged a.0.now r)
  pub strict_list_owes : Owes 2 strict_list_kinds.ps strict_list_kinds.r strict_list_reads.Post
      (λ κs a r z. StrictlyListed a.0.now a.1.0.now z.1.0.now r)
  pub write_owes : Owes 2 write_kinds.ps write_kinds.r write_reads.Post
      (λ κs a r z. Spelled a.0.now a.1.0 a.1.1.0.now z.1.1.0.now r)
  pub write_plain_owes : Owes 2 write_plain_kinds.ps write_plain_kinds.r write_plain_reads.Post
      (λ κs a r z. SpelledPlain a.0.now a.1.0 a.1.1.0.now z.1.1.0.now r)
  pub join_owes : Owes 3 join_kinds.ps join_kinds.r join_reads.Post
      (λ κs a r z. JoinedBy a.0.now a.1.0.now a.1.1.0.now z.1.1.0.now r)
