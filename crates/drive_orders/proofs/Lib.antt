pub mod BoardTurns
