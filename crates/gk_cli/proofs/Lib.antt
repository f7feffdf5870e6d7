pub mod Common
pub mod ArgumentsLemmas
pub mod ReportRunLemmas
pub mod SuiteLemmas
pub mod FeatureLoopLemmas
pub mod ModesLemmas
pub mod RowOrderLaw
pub mod SameResultLaw
