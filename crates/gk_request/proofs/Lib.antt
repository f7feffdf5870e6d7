pub mod Common
pub mod ResultLemmas
pub mod InputsLemmas
pub mod AllFaultsLemmas
pub mod AllFaultsLaw
