-- The results of running feature files, in reading order. A definition whose comment names no source is part of this project's profile, or a word that other definitions use.
--
-- An *outcome* is how an action ended. A *mark* is what became of a step, a *status* what a report shows. An *ending* is how several marks end together.
-- A *section* is the run, a feature, a rule or a scenario. Its *before list* is the steps of its before hooks. A *stage* is a section's level and part. A *site* is where an action is carried out.
-- A section is *begun* once its layer is entered, and *ready* if its before list passed whole. It is *open* for what comes next if it is ready and the run hasn't stopped. A case is *reached* if it is selected and its section is open for it.
pub mod Results
pub mod Acting
pub mod Ending
pub mod Events
pub mod Section
pub mod Walk
pub mod SectionHooks
pub mod OpenSection
pub mod Chosen
pub mod Running
pub mod Features
pub mod DryRun
pub mod Judged
pub mod OwnResult
pub mod OpenRun
-- Proof machinery: definitions that the contracts of private functions use.
pub mod PrivateContracts
