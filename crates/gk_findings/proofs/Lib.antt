pub mod Common
pub mod LintedSourcesLemmas
pub mod LintedSuiteLemmas
pub mod LintedStepsLemmas
