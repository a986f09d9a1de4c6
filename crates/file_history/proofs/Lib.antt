pub mod HistoryGrowth
mod CodewordAgreement
pub mod DeterminedByLiveUnits
pub mod RootedLayouts
pub mod KnownContents
mod WorkedFirstScenario
mod WorkedFirstLoss
mod WorkedBars
