pub mod Numbers
pub mod Actors
pub mod Files
pub mod Stops
pub mod Places
pub mod TextStops
pub mod Rules
pub mod RuleWords
