-- `normal_lines::line::put_line`: a line that ends near is put at once.
use Rattle.std.proofs.Common.{◌∙◌, sym, ap, ℕ, List, length, add-one, arith}
use Rattle.text.specs.Blank.{drop_end, is_ascii_blank, trim_ascii}
use Rattle.text.specs.Scan.{size_by}
use Rattle.text.proofs.ScanLaws.{first_found, size_with}
use Rattle.normal_lines.specs.Lines.{ended}
use Rattle.normal_lines.proofs.LinesLaws.{index_length, line_is}
use Rattle.normal_lines.proofs.line.put_line.Goals as goal

pub put_ended-to-requires : goal.put_ended-to-requires
put_ended-to-requires c =
    let s = c.args.rest.now in
    let size = (first_found (c.near-n.ensures.found (omega arith))).is ∙ sym (index_length s) in
    let kept = c.trim_ascii_end.ensures ∙ ap (drop_end is_ascii_blank) c.trim_ascii_start.ensures ∙ ap trim_ascii (c.first.ensures ∙ line_is s size) in
    omega (arith, c.requires, ap (λ (l : List ℕ). length (ended l)) kept)

pub returns : goal.returns
returns c =
    let s = c.args.rest.now in
    let n = c.near-n.result in
    let m = length s in
    let size = (first_found (c.near-n.ensures.found (omega arith))).is ∙ sym (index_length s) in
    let kept = c.trim_ascii_end.ensures ∙ ap (drop_end is_ascii_blank) c.trim_ascii_start.ensures ∙ ap trim_ascii (c.first.ensures ∙ line_is s size) in
    record {
      put = rw (sym kept) c.put_ended-to.ensures;
      size = add-one n ∙ size_with n m (c.near-n.ensures.inside (omega arith)) ∙ ap (λ (k : ℕ). size_by k m) size;
    }
