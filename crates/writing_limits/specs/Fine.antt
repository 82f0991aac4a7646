-- Inner: an element's numbers by the fields of its flat form. No claim rests on these: they are proved to say what
-- `fine_fields` says (`FineLaws`).
use Rattle.std.specs.Prelude.{Bool, true, false, cond, not, ◌&&◌, ◌||◌, List, ℕ, ◌+◌, ◌%◌, min, eqb, leb, ℤ, pos, negsuc, nat_abs, ◌+ℤ◌, length}
use Rattle.std.specs.Int.Signed.{le_z, lt_z}
use Rattle.numbers.specs.Int.{in32, eq_z, min_z}
use Rattle.text.specs.Utf8.{decode}
use Rattle.texts.specs.declared.fonts.Scaled.{Scaled}
use Rattle.texts.specs.declared.fonts.Scaled.TheVariants.{Font, Outside}
use Rattle.texts.specs.Font.{font_of}
use Rattle.barcodes.specs.Ratio.{ratio_of}
use Rattle.spellings.specs.Fonts.{same_bits}
use Rattle.spellings.specs.Writable.{line_text}
use Rattle.structs.specs.declared.answer.Element.{Element}
use Rattle.writing_templates.specs.Fill.{field_at}

-- lo and more, hi at most unless that is 255
abbrev pub between : ℤ → ℕ → ℕ → Bool
between z lo hi = cond (lt_z z (pos lo)) false (cond (eqb hi 255) true (le_z z (pos hi)))

abbrev pub in_range : Element → ℕ → ℕ → ℕ → Bool
in_range e i lo hi = between (field_at e i) lo hi

abbrev pub is_number : Element → ℕ → ℤ → Bool
is_number e i z = eq_z (field_at e i) z

abbrev pub smaller : Element → ℤ
smaller e = min_z e.width e.height

abbrev pub is_line_at : Element → Bool
is_line_at e = in_range e 2 1 255 && in_range e 3 1 255 && is_number e 4 (smaller e)

abbrev pub sums : ℤ → ℤ → Bool
sums a b = in32 (a +ℤ b)

abbrev pub far_fits : Element → Bool
far_fits e = sums e.x e.width && sums e.y e.height

abbrev pub cornered : Element → Bool
cornered e = in_range e 2 0 255 && in_range e 3 0 255 && in_range e 4 1 255 && far_fits e

abbrev pub same : Bool → Bool → Bool
same a b = cond a b (not b)

abbrev pub sloped : Element → Bool
sloped e =
    cond (eqb e.direction 1) (same (in_range e 2 1 255) (in_range e 3 1 255))
    (in_range e 2 1 255 || in_range e 3 1 255)

abbrev pub fine_box_at : Element → Bool
fine_box_at e = is_line_at e || (eqb e.colour 0 && cornered e)

abbrev pub fine_diagonal_at : Element → Bool
fine_diagonal_at e = cornered e && sloped e

abbrev pub fine_bars_at : Element → Bool
fine_bars_at e = in_range e 2 1 255 && in_range e 3 1 255

abbrev pub fine_size : Element → Bool
fine_size e = in_range e 10 0 99 || in_range e 10 101 104 || in_range e 10 201 232 || is_number e 10 (pos 300)

abbrev pub fine_pdf : Element → Bool
fine_pdf e =
    in_range e 3 4 99 && (is_number e 6 (negsuc 0) || in_range e 6 1 8) && in_range e 7 0 255 && in_range e 8 0 255
    && in_range e 2 2 9

abbrev pub fine_matrix : Element → Bool
fine_matrix e = in_range e 3 1 40 && in_range e 7 0 255 && in_range e 8 0 255

abbrev pub fine_mode : Element → Bool
fine_mode e = in_range e 11 2 4 || in_range e 11 6 6

abbrev pub sized : Scaled → Element → Bool
sized (Font j) e = same_bits j.height e.text_height && same_bits j.width e.text_width
sized Outside e = false

abbrev pub fine_font_at : Element → Bool
fine_font_at e =
    in_range e 13 1 255 && in_range e 14 1 255 && sized (font_of e.font e.horizontal e.vertical (pos 0)) e

abbrev pub fine_ratio_at : Element → Bool
fine_ratio_at e = same_bits (ratio_of e.wide e.width) e.ratio

abbrev pub rows_at : ℕ → ℤ → Bool
rows_at len row = cond (eqb len 0) true (cond (lt_z row (pos 1)) false (eqb (len % nat_abs row) 0))

abbrev pub fine_rows : Element → ℕ → Bool
fine_rows e len = in_range e 5 0 255 && rows_at len e.row_bytes

abbrev pub fine_qr_at : Element → List ℕ → Bool
fine_qr_at e t = in_range e 9 1 100 && leb (min 10000 (length (decode t))) 9999

-- by its kind
abbrev pub fine_numbers : Element → List ℕ → Bool
fine_numbers e t =
    cond (eqb e.kind 1) (fine_font_at e)
    (cond (eqb e.kind 2) (fine_box_at e)
    (cond (eqb e.kind 3) (fine_diagonal_at e)
    (cond (eqb e.kind 4) (fine_rows e (length t))
    (cond (eqb e.kind 9) (fine_bars_at e && fine_ratio_at e)
    (cond (eqb e.kind 10) (fine_bars_at e && fine_ratio_at e)
    (cond (eqb e.kind 11) (fine_pdf e)
    (cond (eqb e.kind 12) (in_range e 9 1 55 && fine_size e)
    (cond (eqb e.kind 13) (fine_matrix e)
    (cond (eqb e.kind 14) (fine_qr_at e t)
    (cond (eqb e.kind 15) (fine_mode e) (fine_bars_at e)))))))))))

abbrev pub fine_bytes : ℕ → Element → List ℕ → Bool
fine_bytes len e t =
    cond (eqb e.kind 2) true
    (cond (eqb e.kind 3) true
    (cond (eqb e.kind 4) (leb (e.data_start + e.data_len) len)
    (leb (e.data_start + e.data_len) len && line_text t)))
