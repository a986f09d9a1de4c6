pub mod Words
pub mod BoardLines
pub mod FileLines
pub mod RefusedParts
pub mod Printed
pub mod Script
pub mod Legal
