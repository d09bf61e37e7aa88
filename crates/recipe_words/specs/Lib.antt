-- What the words of a command stand for.
pub mod Given
