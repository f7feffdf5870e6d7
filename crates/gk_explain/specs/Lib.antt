-- The text of an explanation, in reading order. A definition whose comment names no source is this project's profile, or a helper of the others.
pub mod Event
pub mod Shown
pub mod Differences
pub mod Tables
pub mod Nearest
pub mod NearestLines
pub mod Details
pub mod DifferingLines
pub mod EventLines
pub mod SectionEvents
pub mod RowLines
pub mod Headings
pub mod Explanation
pub mod Explainer
