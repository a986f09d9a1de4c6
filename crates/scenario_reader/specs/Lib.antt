pub mod Numbers
pub mod Resolved
pub mod Answers
pub mod Laws
