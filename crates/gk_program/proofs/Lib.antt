-- Lemmas.
pub mod Common
mod FilesLemmas
mod WorldFilesLemmas
pub mod ProgramLemmas
mod AskedLemmas
