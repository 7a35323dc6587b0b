-- The one theorem over all rows.
pub mod Hold
