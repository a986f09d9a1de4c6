pub mod ItemTurns
