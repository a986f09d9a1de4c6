pub mod Pulls
pub mod PullAnswers
