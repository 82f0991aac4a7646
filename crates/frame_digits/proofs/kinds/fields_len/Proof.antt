-- `frame_digits::kinds::fields_len` meets its contract.
-- Assumes nothing.
use mathlib.Core.Path.{sym}
use native.Mathlib.Omega.{arith}
use Rattle.frame_bytes.proofs.FrameLaws.{fields_size}
use borrow.Author.Rules.{rules}
use Rattle.frame_digits.proofs.kinds.fields_len.Statement.{statement}
use Rattle.frame_digits.proofs.kinds.fields_len.Tie as tie

returns : tie.Need-returns-in-Text
returns c = (sym (fields_size c.in-Text.is), omega arith)

returns-2 : tie.Need-returns-in-Box
returns-2 c = (sym (fields_size c.in-Box.is), omega arith)

returns-3 : tie.Need-returns-in-Diagonal
returns-3 c = (sym (fields_size c.in-Diagonal.is), omega arith)

returns-4 : tie.Need-returns-in-Graphic
returns-4 c = (sym (fields_size c.in-Graphic.is), omega arith)

returns-5 : tie.Need-returns-in-Code128
returns-5 c = (sym (fields_size c.in-Code128.is), omega arith)

returns-6 : tie.Need-returns-in-Bars
returns-6 c = (sym (fields_size c.in-Bars.is), omega arith)

returns-7 : tie.Need-returns-in-Ratio
returns-7 c = (sym (fields_size c.in-Ratio.is), omega arith)

returns-8 : tie.Need-returns-in-Pdf417
returns-8 c = (sym (fields_size c.in-Pdf417.is), omega arith)

returns-9 : tie.Need-returns-in-Aztec
returns-9 c = (sym (fields_size c.in-Aztec.is), omega arith)

returns-10 : tie.Need-returns-in-Datamatrix
returns-10 c = (sym (fields_size c.in-Datamatrix.is), omega arith)

returns-11 : tie.Need-returns-in-Qr
returns-11 c = (sym (fields_size c.in-Qr.is), omega arith)

returns-12 : tie.Need-returns-in-Maxicode
returns-12 c = (sym (fields_size c.in-Maxicode.is), omega arith)

pub fields_len_spec : {M : Type 1} → statement M
fields_len_spec =
    tie.close
    (tie.spec
    (λ c. search rules)
    (λ c. search rules)
    (λ c. search rules)
    (λ c. search rules)
    (λ c. search rules)
    (λ c. search rules)
    (λ c. search rules)
    (λ c. search rules)
    (λ c. search rules)
    (λ c. search rules)
    (λ c. search rules)
    (λ c. search rules)
    returns
    returns-2
    returns-3
    returns-4
    returns-5
    returns-6
    returns-7
    returns-8
    returns-9
    returns-10
    returns-11
    returns-12)
