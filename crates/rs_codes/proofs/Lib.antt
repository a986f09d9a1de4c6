pub mod CodewordUnits
pub mod CorrectionUnits
pub mod HeldUnitLemmas
pub mod LagrangeWeights
pub mod UnitBuffers
pub mod WeightRows
pub mod WeightedSumLemmas
pub mod WeightsAtPositions
