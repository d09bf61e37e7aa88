-- Which keys are a recipe's.
pub mod Keys
