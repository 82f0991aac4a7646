-- one length: its error, that it is the nearest, its order, where it has 32 bits
pub mod LengthLaws
-- one element: its lengths in their order, and all else
pub mod ElementLaws
-- lengths by computation
pub mod Cases
