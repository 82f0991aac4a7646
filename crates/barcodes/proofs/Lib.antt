pub mod BarcodeLaws
mod Cases
