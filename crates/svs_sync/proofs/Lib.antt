pub mod KeptLemmas
pub mod OctetLemmas
pub mod NameLemmas
pub mod LengthLemmas
pub mod VerdictLemmas
pub mod ReceivedWidth
pub mod RefusalLemmas
