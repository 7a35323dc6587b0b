-- Only for the code's own steps: no promise names what stands in this folder.
pub mod Alone
