pub mod Changes
pub mod Records
