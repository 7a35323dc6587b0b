-- That no answer depends on the engine.
pub mod Unread
