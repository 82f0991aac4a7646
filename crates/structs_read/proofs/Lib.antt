pub mod UnflatLaws
pub mod StandingLaws
