pub mod Common
pub mod ShownLemmas
pub mod DifferencesLemmas
pub mod DifferingLinesLemmas
pub mod ExplanationLemmas
pub mod NearestLinesLemmas
pub mod ExplainerLemmas
