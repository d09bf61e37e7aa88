pub mod OneSlot
pub mod FieldByField
pub mod LegalElse
