-- Definitions of patterns, step libraries and what they find, in reading order. A definition whose comment names no source belongs to this project's profile, or is a term that the others use.
pub mod Pattern
pub mod Decimal
pub mod Matching
pub mod LiteralEnds
pub mod Action
pub mod FilesTable
pub mod PatternReading
pub mod Finding
pub mod FilledCells
pub mod LibraryFile
pub mod LibraryLine
pub mod LibraryFault
pub mod DefaultFile
-- How a library is stored: the end of its entries for steps of one type.
pub mod Library
-- Proof machinery: definitions for the steps of reading, matching and finding, and for the index of a library's entries.
pub mod Spelling
pub mod CharBoundaries
pub mod Advances
pub mod TableRows
pub mod Leftmost
pub mod LiteralOrder
pub mod Captures
pub mod UsedFields
pub mod Digits
pub mod KeyedNumbers
pub mod EntryIndex
