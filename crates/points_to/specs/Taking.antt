-- This crate's own proofs alone rest on this module.
-- What the solver's loop takes in: what the start leads to, and what follows from each turn; and how that ends.
use Rattle.std.specs.Prelude.{◌≡◌, ◌⊎◌, ℕ, List, []}
use Rattle.failure.specs.declared.Failure.{Failure}
use Rattle.failure.specs.declared.Failure.TheVariants.{Cause, OutOfMemory}
use Rattle.grouped_lists.specs.Groups.{values_at}
use Rattle.jvm_model.specs.declared.number.MethodNo.{MethodNo}
use Rattle.jvm_model.specs.Programs.{Program}
use Rattle.op_model.specs.Supplies.{GivenAs}
use Rattle.points_to_constraints.specs.ItemRules.{StartItem}
use Rattle.points_to_numbers.specs.declared.item.Item.{Item}
use Rattle.points_to_numbers.specs.Numbered.{Numbered, AreApart, Grows}
use Rattle.points_to_numbers.specs.Steps.{Adds}
use Rattle.points_to.specs.declared.working.Working.{Working}
use Rattle.points_to_rules.specs.declared.solve_fault.SolveFault.{SolveFault}
use Rattle.points_to_rules.specs.declared.solve_fault.SolveFault.TheVariants.{TooMany}
use Rattle.points_to.specs.Concluding.{AddsCallsBy, AddsMethodsBy, FollowsInTurn, LacksInTurn, RefusedBy}
use Rattle.points_to.specs.Indexed.{IsIndexed}
use Rattle.points_to.specs.Passing.{NotesCalls, NotesMethods}
use Rattle.points_to.specs.declared.queue.Turn.{Turn}
use Rattle.points_to.specs.Queues.{IsQueueEnd, State}
use Rattle.points_to.specs.Turns.{kind_of}
use Rattle.points_to.specs.Starting.{IsStartCall}

-- The steps are what the start leads to.
pub record IsStarted (p : Program) (entry : MethodNo) (n : Numbered) (steps : List Item) : Type 0 where
  pub call : IsStartCall n.calls
  pub apart : AreApart n
  pub adds : Adds n (StartItem p entry) [] steps

-- The steps are what follows from a turn, its constraint is put in the index, and what was found by it is noted.
pub record IsConcluded (p : Program) (gives : GivenAs) (turn : Turn) (old new : Working) : Type 0 where
  pub grows : Grows old.found.work.tables new.found.work.tables
  pub apart : AreApart new.found.work.tables
  pub indexed : IsIndexed old.constraints.groups.items new.constraints.groups.items (kind_of turn)
  pub adds : Adds new.found.work.tables (FollowsInTurn p gives old.found.work.tables old.queue.rows.rows.items (values_at new.constraints.groups.items) turn) [] new.found.work.steps.items
  pub calls : AddsCallsBy gives (kind_of turn) old.found.work.tables.calls new.found.work.tables.calls
  pub lacks : NotesCalls (LacksInTurn p old.found.work.tables old.queue.rows.rows.items (values_at new.constraints.groups.items) turn) old.found.refusals.call new.found.refusals.call
  pub refused : NotesMethods (RefusedBy gives (kind_of turn)) old.found.refusals.method new.found.refusals.method
  pub methods : AddsMethodsBy gives (kind_of turn) old.methods.items new.methods.items

-- Memory ran out, or something has no number.
abbrev pub IsOutOfRoom : Failure SolveFault → Type 0
IsOutOfRoom failure = (failure ≡ OutOfMemory) ⊎ (failure ≡ Cause TooMany)

-- Memory or numbers ran out before that; or the pairs reached the limit by the steps that were made.
abbrev pub IsTakingEnd : Type 0 → State → (steps : List Item) → State → (limit : ℕ) → Failure SolveFault → Type 0
IsTakingEnd Made old steps new limit failure = IsOutOfRoom failure ⊎ (Made × IsQueueEnd old steps new limit failure)
