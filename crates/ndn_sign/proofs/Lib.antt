pub mod RingLemmas
