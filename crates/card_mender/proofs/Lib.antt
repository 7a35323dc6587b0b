-- What is kept of a damaged card: it breaks no rule, and no more could be kept.
pub mod Runs
pub mod Headers
pub mod Standing
pub mod Mended
