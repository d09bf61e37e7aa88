pub mod Hand
pub mod Tests
