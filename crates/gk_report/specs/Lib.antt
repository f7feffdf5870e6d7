-- Definitions of what a report says, in reading order. A definition whose comment names no source belongs to this project's profile, or is a term that the others use.
pub mod ReportTexts
pub mod Summary
pub mod RuleGroups
pub mod PlainReport
pub mod ProgressReport
pub mod JsonReport
pub mod Report
pub mod PartPieces
