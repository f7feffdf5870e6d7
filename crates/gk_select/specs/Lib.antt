-- The cases of a feature and the choice among them, in reading order. Definitions that only proofs and private functions need are marked as proof machinery.
pub mod Case
pub mod Filling
pub mod Names
pub mod Copies
pub mod Inherited
pub mod Outline
pub mod Expansion
pub mod RuleOrder
pub mod FileOrder
pub mod ExampleRows
pub mod Counting
pub mod OwnTags
pub mod TagWords
pub mod TagGrammar
pub mod TagValues
pub mod Alternatives
pub mod TagRules
pub mod TagStops
pub mod Choice
pub mod SelectFault
-- Proof machinery: what the words of an expression build, read from the last to the first, and how deep it is; the tags of a case, in the lists in which they are written; and a choice so far.
pub mod TagTrees
pub mod TagLists
pub mod TagMeasures
pub mod Selecting
