pub mod Magnitudes
pub mod SideBySide
pub mod InFours
pub mod Engines
