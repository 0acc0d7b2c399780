pub mod NameLemmas
pub mod LengthLemmas
pub mod VerdictLemmas
pub mod FieldLemmas
pub mod AnswerLemmas
pub mod MadeLemmas
pub mod TakenLemmas
pub mod RefusalLemmas
