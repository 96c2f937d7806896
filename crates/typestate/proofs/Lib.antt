-- `Ended::of_run` repeats the clauses of `run`, by name; `search` proves each from the clause of that name.
-- A new reason is a line in AllReasons.antt, which says at which place of the list each reason stands.
mod AllReasons
