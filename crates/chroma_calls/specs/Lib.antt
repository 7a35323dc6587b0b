pub mod FromChroma
