-- `writing_element::place::put_there` meets its contract: what stands in the buffer where there is room, and where there
-- is none.
use Rattle.std.proofs.Common.{◌≡◌, refl, sym, ap, ◌∙◌, ℕ, length, arith}
use Rattle.decimals.proofs.PutLaws.{put_as}
use Rattle.writing_templates.specs.Fill.{fill}
use Rattle.writing_templates.specs.Template.{template}
use Rattle.writing_element.specs.Write.{which_at}
use Rattle.writing_element.proofs.PlaceLaws.{room_ends, placed_in, placed_out}
use Rattle.writing_element.proofs.place.put_there.Goals as goal

pub put_command-requires : goal.put_command-requires
put_command-requires c =
    omega (
      arith,
      c.command_len-n.ensures.is c.args.t.now refl,
      room_ends c.args.writing c.args.at c.command_len-n.result (length c.args.out.now) (sym c.is_room.ensures ∙ c.if-is_room.true),
    )

pub returns-then-is_room : goal.returns-then-is_room
returns-then-is_room c =
    let text = fill c.args.e c.args.t.now (template (which_at c.args.e)) in
    let long : c.command_len-n.result ≡ length text = c.command_len-n.ensures.is c.args.t.now refl ∙ ap (λ (w : ℕ). length (fill c.args.e c.args.t.now (template w))) c.which_of-w.ensures in
    record {
      len = long;
      small = c.command_len-n.ensures.small;
      buffer = (put_as (ap (λ (w : ℕ). fill c.args.e c.args.t.now (template w)) (sym c.which_of-w.ensures)) c.put_command.ensures).wrote.is
          ∙ sym (placed_in c.args.writing c.args.at text c.args.out.now long (sym c.is_room.ensures ∙ c.if-is_room.true));
    }

pub returns-else-is_room : goal.returns-else-is_room
returns-else-is_room c =
    let text = fill c.args.e c.args.t.now (template (which_at c.args.e)) in
    let long : c.command_len-n.result ≡ length text = c.command_len-n.ensures.is c.args.t.now refl ∙ ap (λ (w : ℕ). length (fill c.args.e c.args.t.now (template w))) c.which_of-w.ensures in
    record {
      len = long;
      small = c.command_len-n.ensures.small;
      buffer = sym (placed_out c.args.writing c.args.at text c.args.out.now long (sym c.is_room.ensures ∙ c.if-is_room.false));
    }
