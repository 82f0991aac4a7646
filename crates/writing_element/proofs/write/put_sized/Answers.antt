-- `writing_element::write::put_sized` meets its contract: where the command does not fit, and where it does.
use Rattle.std.proofs.Common.{◌≡◌, refl, sym, ap, ◌∙◌, ℕ, length, arith}
use Rattle.decimals.proofs.PutLaws.{put_as}
use Rattle.writing_templates.specs.Fill.{fill}
use Rattle.writing_templates.specs.Template.{template}
use Rattle.writing_element.specs.Write.{which_at}
use Rattle.writing_element.proofs.WriteLaws.{fills_short, fills_put}
use Rattle.writing_element.proofs.write.put_sized.Goals as goal

pub returns-then-out-n : goal.returns-then-out-n
returns-then-out-n c =
    let long : c.command_len-n.result ≡ length (fill c.args.e c.args.t.now (template (which_at c.args.e))) = c.command_len-n.ensures.is c.args.t.now refl ∙ ap (λ (w : ℕ). length (fill c.args.e c.args.t.now (template w))) c.which_of-w.ensures in
    fills_short c.args.out.now _ c.command_len-n.result long c.if-out-n.true

pub put_command-requires : goal.put_command-requires
put_command-requires c = omega (arith, c.command_len-n.ensures.is c.args.t.now refl, c.if-out-n.false)

pub returns : goal.returns
returns c =
    let long : c.command_len-n.result ≡ length (fill c.args.e c.args.t.now (template (which_at c.args.e))) = c.command_len-n.ensures.is c.args.t.now refl ∙ ap (λ (w : ℕ). length (fill c.args.e c.args.t.now (template w))) c.which_of-w.ensures in
    fills_put c.args.out.now c.command_len-n.result long c.if-out-n.false
    (put_as (ap (λ (w : ℕ). fill c.args.e c.args.t.now (template w)) (sym c.which_of-w.ensures)) c.put_command.ensures)
