pub mod Marks
pub mod Log
pub mod Rings
pub mod Bridges
pub mod Clipping
pub mod Lid
pub mod Areas
pub mod Contract
