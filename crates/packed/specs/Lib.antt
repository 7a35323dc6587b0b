pub mod Packing
pub mod Down
