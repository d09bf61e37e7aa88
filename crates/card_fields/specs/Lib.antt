-- The fields of a slot as one value, and the kinds by name.
pub mod Fields
pub mod Kinds
