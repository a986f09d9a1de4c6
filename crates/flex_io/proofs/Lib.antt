pub mod StreamSteps
