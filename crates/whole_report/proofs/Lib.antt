pub mod ScenarioLines
pub mod CanonicalLines
pub mod OneScenario
pub mod OneReport
pub mod ReportLines
