pub mod Numbers
pub mod Equal
