-- Lemmas.
mod CallLemmas
mod IndexedFiles
