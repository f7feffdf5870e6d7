-- The program on a machine, in reading order. A definition whose comment names no source is this project's profile, or a word that the others use.
pub mod Machine
