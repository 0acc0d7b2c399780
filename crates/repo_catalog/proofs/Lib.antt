pub mod EntryLemmas
pub mod Same
pub mod LawLemmas
pub mod KeyLemmas
pub mod ManyLemmas
pub mod IndexLemmas
pub mod MergeLemmas
pub mod NamedLemmas
pub mod SoughtLemmas
mod AllNamedLemmas
pub mod PairLemmas
mod RowLemmas
mod SumLemmas
