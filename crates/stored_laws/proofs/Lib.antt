mod SlicedBytes
mod TakenPlaces
mod StoredSteps
mod StoredLogs
mod WorkedStored
