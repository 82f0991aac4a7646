-- `normal_lines::line::line_len` meets its contract. Assumes nothing.
use mathlib.Core.Path.{sym, ap, ◌∙◌}
use Prim.Native.Nat.{ℕ}
use lib.ListN.{length, take}
use Rattle.text.specs.Blank.{drop_end, is_ascii_blank, trim_ascii}
use Rattle.text.specs.Scan.{size_by}
use Rattle.grammar.proofs.TurnLineLaws.{front_index}
use Rattle.normal_lines.proofs.LinesLaws.{index_length}
use borrow.Author.Rules.{rules}
use Rattle.normal_lines.proofs.line.line_len.Statement.{statement}
use Rattle.normal_lines.proofs.line.line_len.Tie as tie

returns : tie.Need-returns
returns c =
    let e = c in
    let f = e in
    let n = f in
    let s = n.args.rest.now in
    record {
      size = c.line_size.ensures ∙ ap (λ (k : ℕ). size_by k (length s)) (n.find-n.ensures.is ∙ sym (index_length s));
      len = ap length (
          e.trim_ascii_end-kept.ensures ∙ ap (drop_end is_ascii_blank) e.trim_ascii_start.ensures
          ∙ ap trim_ascii (f.first.ensures ∙ ap (λ (k : ℕ). take k s) n.find-n.ensures.is ∙ sym (front_index s))
          );
    }

pub line_len_spec : {M : Type 1} → statement M
line_len_spec =
    tie.close (tie.spec
    (λ c κs. search rules) (λ c κs. search rules) (λ c κs. search rules) (λ c κs. search rules) (λ c κs. search rules)
    returns)
