-- The text of all findings in a request, and the notes below faults, in reading order. A definition whose comment names no source belongs to this project's profile, or is a term that the others use.
pub mod Notes
pub mod FindingLines
pub mod LintedSources
pub mod LintedSuite
pub mod LintedSteps
pub mod Hints
pub mod TagHints
pub mod FaultNotes
