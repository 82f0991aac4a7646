-- The numbers of an element have 32 bits and its sizes are f64s, as its Rattle type says.
use Rattle.std.specs.Prelude.{List, [], ◌∷◌, ◌<◌, T, Float, ℤ}
use Rattle.std.specs.Float.{binary64}
use Rattle.std.specs.Float.Ieee.{fits}
use Rattle.std.specs.Int.Signed.{mag}
use Rattle.elements.specs.declared.LabelElement.{LabelElement}
use Rattle.elements.specs.declared.plain.Fields.{Fields}
use Rattle.elements.specs.declared.plain.Fields.TheVariants as fields
use Rattle.elements.specs.Plain.{plain_of}

abbrev pub numbers_in : Fields → List ℤ
numbers_in (fields.Text reverse f i) = f.font ∷ f.horizontal ∷ f.vertical ∷ []
numbers_in (fields.Box x c) = x.width ∷ x.height ∷ x.thickness ∷ []
numbers_in (fields.Diagonal x down) = x.width ∷ x.height ∷ x.thickness ∷ []
numbers_in (fields.Graphic row) = row ∷ []
numbers_in (fields.Code128 b m) = b.narrow ∷ b.height ∷ []
numbers_in (fields.Bars b) = b.narrow ∷ b.height ∷ []
numbers_in (fields.Ratio b check wide x) = b.narrow ∷ b.height ∷ wide ∷ []
numbers_in (fields.Pdf417 b) = b.row_height ∷ b.security ∷ b.columns ∷ b.rows ∷ b.module_width ∷ []
numbers_in (fields.Aztec b) = b.magnification ∷ b.size ∷ []
numbers_in (fields.Datamatrix b) = b.height ∷ b.columns ∷ b.rows ∷ []
numbers_in (fields.Qr b l) = b.magnification ∷ []
numbers_in (fields.Maxicode c) = c.mode ∷ []

abbrev pub floats_in : Fields → List Float
floats_in (fields.Text reverse f i) = i.height ∷ i.width ∷ []
floats_in (fields.Box x c) = []
floats_in (fields.Diagonal x down) = []
floats_in (fields.Graphic row) = []
floats_in (fields.Code128 b m) = []
floats_in (fields.Bars b) = []
floats_in (fields.Ratio b check wide x) = x ∷ []
floats_in (fields.Pdf417 b) = []
floats_in (fields.Aztec b) = []
floats_in (fields.Datamatrix b) = []
floats_in (fields.Qr b l) = []
floats_in (fields.Maxicode c) = []

abbrev pub All32 : List ℤ → Type 0
All32 [] = Unit
All32 (z ∷ zs) = (mag z < 2147483648) × All32 zs

abbrev pub AllFloats : List Float → Type 0
AllFloats [] = Unit
AllFloats (x ∷ xs) = T (fits binary64 x) × AllFloats xs

pub record Fits (e : LabelElement) : Type 0 where
  pub across : mag (plain_of e).position.x < 2147483648
  pub down : mag (plain_of e).position.y < 2147483648
  pub numbers : All32 (numbers_in (plain_of e).fields)
  pub floats : AllFloats (floats_in (plain_of e).fields)

-- every element of a label
pub data AllFits : List LabelElement → Type 0 where
  no_more_fits : AllFits []
  and_fits : {e : LabelElement} {es : List LabelElement} → Fits e → AllFits es → AllFits (e ∷ es)
