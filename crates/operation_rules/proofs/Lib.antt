mod NameSets
mod DigitValues
