pub mod Common
pub mod CountedLemmas
pub mod WholeReadLemmas
