pub mod RoundFunction
