-- What serves the code alone. Who lays the page beside the definition may skip it.
pub mod Found
