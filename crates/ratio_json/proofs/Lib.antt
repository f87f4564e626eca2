pub mod LawLemmas
pub mod WholeLemmas
