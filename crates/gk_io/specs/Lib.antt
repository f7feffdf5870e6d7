-- Readers and writers whose calls are counted, and reading and writing whole. A definition whose comment names no source belongs to this project's profile, or is a term that the others use.
pub mod Counted
pub mod WholeRead
