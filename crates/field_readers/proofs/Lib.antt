pub mod EachInTurn
pub mod Readers
