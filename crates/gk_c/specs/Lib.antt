-- A call from C and its `Answer`, in reading order. A definition whose comment names no source is this project's profile, or a term that the others use.
pub mod Room
pub mod Answer
pub mod CallerFiles
pub mod Words
pub mod Call
