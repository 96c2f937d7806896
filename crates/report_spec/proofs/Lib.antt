-- The analysis's facts are not one list: a report is over any facts, and SameFacts.antt carries it over; SameEdges.antt does so for path edges.
-- FirstStages.antt ranges over any two relations on stages: no lemma there knows a stage.
-- The order of sites is compared by sixteen cases of `omega` (ReportOrder.antt).
pub mod FirstStages
pub mod ReportOrder
pub mod SameEdges
pub mod SameFacts
pub mod OneReport
pub mod Traced
