-- From packed rows to what is judged.
pub mod Packed
