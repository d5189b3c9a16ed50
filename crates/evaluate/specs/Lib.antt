pub mod Evaluating
