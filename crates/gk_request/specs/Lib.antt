-- A request, and the inputs that it spells, in reading order. A definition whose comment names no source belongs to this project's profile, or is a term that the others use.
pub mod Source
pub mod Request
pub mod Inputs
pub mod RunFault
pub mod AllFaults
pub mod FaultLine
