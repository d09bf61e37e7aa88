pub mod FirstAndRest
pub mod Each
pub mod ByNumber
