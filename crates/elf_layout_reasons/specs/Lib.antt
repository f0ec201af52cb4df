pub mod Advice
pub mod Pair
pub mod Stuck
