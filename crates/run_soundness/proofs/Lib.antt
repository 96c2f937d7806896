-- A stage is shown on nodes for any closed facts (Words.antt); Verdicts.antt takes it to bytecode, TrueReports.antt to lines.
-- Of safe sites lemmas take what is known of a site as a parameter: closed facts give truth, the least ones the report.
-- Two runs are walked level by level (RunStages.antt): where one ends with a line of its own, none says `safe`.
-- That a line says `safe` is decided by its second letter (`says_a`).
-- A sink takes a text: each line of an outcome is shown to be one (LineForms.antt), then lines in the text are those.
-- OwnSites.antt names nothing of the analysis in its claim: coverage tells where each object is made.
mod Heaps
mod Steps
pub mod Words
pub mod SafeLines
pub mod Verdicts
pub mod StageSites
pub mod TrueReports
pub mod BuiltIn
pub mod Reported
pub mod LineForms
pub mod OwnSites
pub mod Written
pub mod MoreStages
pub mod RunStages
