-- The world that steps change, in reading order. A definition whose comment names no source belongs to this project's profile, or is a term that the others use. Cells, Slots, Table, Values, World and Stored describe how the world is stored.
pub mod State
pub mod Refusals
pub mod Journal
pub mod Reversible
pub mod Sandbox
pub mod Listing
pub mod Cells
pub mod Slots
pub mod Table
pub mod Values
pub mod World
pub mod Stored
