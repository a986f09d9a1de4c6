pub mod ScenarioLines
pub mod Printed
pub mod WrongLine
pub mod Laws
