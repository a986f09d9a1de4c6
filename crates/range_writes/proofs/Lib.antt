pub mod StandingSlots
mod HeldBytes
mod LegalWrites
mod FreshChanges
mod PulledWrite
mod LevelSizes
mod PlannedRuns
mod FileBytes
mod UntoldSlots
