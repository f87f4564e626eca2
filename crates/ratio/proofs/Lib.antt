pub mod AnswerLemmas
pub mod DeviceLemmas
pub mod FailureLemmas
pub mod OrderLemmas
pub mod RequestLemmas
