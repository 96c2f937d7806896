-- This crate's own proofs alone rest on this module.
-- What the solver's loop begins with.
use Rattle.std.specs.Prelude.{◌≡◌, ℕ, [], None}
use Rattle.grouped_lists.specs.Groups.{values_at}
use Rattle.jvm_model.specs.Programs.{Program}
use Rattle.points_to_calls.specs.KeptAnswers.{AreRight}
use Rattle.points_to_numbers.specs.Numbered.{Numbered, none_numbered}
use Rattle.points_to.specs.declared.working.Working.{Working}
use Rattle.points_to.specs.Queues.{IsSound}

-- Nothing is taken in, numbered, kept or refused yet.
pub record IsFresh (w : Working) : Type 0 where
  pub rows : w.queue.rows.rows.items ≡ []
  pub others : w.queue.others.keys ≡ []
  pub done : w.queue.done ≡ 0
  pub pairs : w.queue.rows.pairs ≡ 0
  pub sound : IsSound w.queue
  pub tables : w.found.work.tables ≡ none_numbered
  pub answers : (p : Program) (n : Numbered) → AreRight p n w.found.answers
  pub call : w.found.refusals.call ≡ None
  pub method : w.found.refusals.method ≡ None
  pub constraints : (place : ℕ) → values_at w.constraints.groups.items place ≡ []
  pub methods : w.methods.items ≡ []
  pub steps : w.found.work.steps.items ≡ []
