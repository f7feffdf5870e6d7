-- The specification of feature files and hooks files, in reading order. A definition whose comment names no source is this project's profile, or a term that the others use.
pub mod Text
pub mod Lines
pub mod Keyword
pub mod Class
pub mod Tags
pub mod Rows
pub mod DocStrings
pub mod Language
pub mod StepTypes
pub mod Feature
pub mod Grammar
pub mod Hooks
pub mod HookHeadings
pub mod HooksGrammar
pub mod HookTable
pub mod HookIndex
pub mod ReadFault
-- Proof machinery: how lines are read one after another.
pub mod Results
pub mod OpenParts
pub mod Reading
pub mod FeatureReader
pub mod HooksSoFar
pub mod HooksReader
