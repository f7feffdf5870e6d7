-- What the program reports and returns, in reading order. A definition whose comment names no source is this project's profile, or a word that the others use.
pub mod Fault
pub mod Files
pub mod Asked
pub mod WorldFiles
pub mod Program
pub mod Ended
