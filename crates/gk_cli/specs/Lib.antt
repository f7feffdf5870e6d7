-- What a whole run can return and write, in reading order. A definition whose comment names no source belongs to this project's profile, or is a term that the others use.
pub mod OptionTable
pub mod Arguments
pub mod Writing
pub mod Suite
pub mod SameResult
pub mod RowOrder
pub mod FeatureLoop
pub mod ReportRun
pub mod ExplainRun
pub mod Modes
