pub mod Places
pub mod Sound
