pub mod OptionsLaws
pub mod OptionsLastLaws
pub mod OptionsCommaLaws
pub mod Barcode2dLaws
pub mod Cases
pub mod MaxicodeLaws
pub mod MaxicodeCases
