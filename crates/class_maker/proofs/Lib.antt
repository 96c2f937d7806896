-- Lemmas on class files whose numbers fit their fields, and whose lists their counts; on lists by the numbers below a number; and on the
-- classes of the sample, whose lists fit their counts.
pub mod Below
pub mod Counted
pub mod Fitting
