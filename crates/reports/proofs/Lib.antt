-- What the proofs of a report share.
pub mod Reports
