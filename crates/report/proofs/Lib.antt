mod WorkedFirstScenario
pub mod RefusalText
pub mod FileBlocks
