-- The code meets its contracts, by its own theorems (`proved`). Assumes nothing.
use mathlib.Core.Path.{refl}
use Rattle.elements.proofs.walk_state.start.Met as start
use Rattle.walk.proofs.step.step.Met as step
use Rattle.file_listing.proofs.listing.list.Met as list
use Rattle.format.proofs.normalise.normalise.Met as normalise
use Rattle.decoding.proofs.data.decode.Met as decode
use Rattle.strict.proofs.check.check.Met as check
use Rattle.strict.proofs.listing.strict_list.Met as strict_list
use Rattle.label_index.proofs.labels.index.Met as index
use Rattle.label_opening.proofs.label.open_label.Met as open_label
use Rattle.joining.proofs.join.join.Met as join
use Rattle.where_label.proofs.find.inside.Met as inside
use Rattle.where_label.proofs.find.touching.Met as touching
use Rattle.where_nearest.proofs.nearest.nearest.Met as nearest
use Rattle.dots_label.proofs.label.to_300.Met as to_300
use Rattle.writing_element.proofs.write.write.Met as write
use Rattle.writing_element.proofs.plain.write_plain.Met as write_plain
use Rattle.writing_label.proofs.label.write_label.Met as write_label
use Rattle.writing_label.proofs.at_300.write_label_300.Met as write_label_300
use Rattle.laddertick.specs.Proved.{Proved}

pub proved : Proved
proved = record {
  start = start.met;
  step = step.met;
  list = list.met;
  normalise = normalise.met;
  decode = decode.met;
  check = check.met;
  strict_list = strict_list.met;
  index = index.met;
  open_label = open_label.met;
  inside = inside.met;
  touching = touching.met;
  nearest = nearest.met;
  to_300 = to_300.met;
  write = write.met;
  write_plain = write_plain.met;
  write_label = write_label.met;
  write_label_300 = write_label_300.met;
  start_says = λ M 𝓤 𝓛 mem run κs a g. (refl, λ r z. refl);
  step_says = λ M 𝓤 𝓛 mem run κs a g. (refl, λ r z. refl);
  list_says = λ M 𝓤 𝓛 mem run κs a g. (refl, λ r z. refl);
  normalise_says = λ M 𝓤 𝓛 mem run κs a g. (refl, λ r z. refl);
  decode_says = λ M 𝓤 𝓛 mem run κs a g. (refl, λ r z. refl);
  check_says = λ M 𝓤 𝓛 mem run κs a g. (refl, λ r z. refl);
  strict_list_says = λ M 𝓤 𝓛 mem run κs a g. (refl, λ r z. refl);
  write_says = λ M 𝓤 𝓛 mem run κs a g. (refl, λ r z. refl);
  write_plain_says = λ M 𝓤 𝓛 mem run κs a g. (refl, λ r z. refl);
  index_says = λ M 𝓤 𝓛 mem run κs a g. (refl, λ r z. refl);
  open_label_says = λ M 𝓤 𝓛 mem run κs a g. (refl, λ r z. refl);
  join = join.met;
  join_says = λ M 𝓤 𝓛 mem run κs a g. (refl, λ r z. refl);
  inside_says = λ M 𝓤 𝓛 mem run κs a g. (refl, λ r z. refl);
  touching_says = λ M 𝓤 𝓛 mem run κs a g. (refl, λ r z. refl);
  nearest_says = λ M 𝓤 𝓛 mem run κs a g. (refl, λ r z. refl);
  to_300_says = λ M 𝓤 𝓛 mem run κs a g. (refl, λ r z. refl);
  write_label_says = λ M 𝓤 𝓛 mem run κs a g. (refl, λ r z. refl);
  write_label_300_says = λ M 𝓤 𝓛 mem run κs a g. (refl, λ r z. refl);
  start_owes = λ κs a r z p. p;
  step_owes = λ κs a r z p. p;
  list_owes = λ κs a r z p. p;
  normalise_owes = λ κs a r z p. p;
  check_owes = λ κs a r z p. p;
  strict_list_owes = λ κs a r z p. p;
  write_owes = λ κs a r z p. p;
  write_plain_owes = λ κs a r z p. p;
  join_owes = λ κs a r z p. p;
}
