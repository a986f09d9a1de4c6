pub mod WorkedVerdicts
