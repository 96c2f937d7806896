use Rattle.std.proofs.Common.{refl, ◌∙◌, arith}
use Rattle.std.proofs.lemmas.Result.{err_from_is_err_and}
use Rattle.least_sets.proofs.Growing.{All-whole}
use Rattle.points_to_numbers.specs.declared.item.Item.{Item}
use Rattle.points_to_numbers.specs.declared.item.Item.TheVariants.{Holds}
use Rattle.points_to.specs.Queues.{IsHeld, state_of}
use Rattle.points_to.proofs.QueueSteps.{end_more, held_more, takes_more, takes_none}
use Rattle.points_to.proofs.queue.Queue.take_all.Goals as goal

abbrev past : Item
past = Holds (record { 0 = 0 }) (record { 0 = 0 })

pub loop-step-preserved : goal.loop-step-preserved
loop-step-preserved c =
    let first = state_of c.args.self.now in
    let old = state_of c.loop-step.self in
    let new = state_of c.take.new.self in
    let steps = c.args.steps.now in
    let k = c.loop-step.step-index in
    let one = c.in_ok-take.ensures.takes in
    record {
      takes = takes_more first old new steps k past c.loop-step-test.true c.loop-step.invariant.takes one;
      sound = c.in_ok-take.ensures.sound;
      held = held_more old new steps k past c.loop-step-test.true c.loop-step.invariant.held one c.in_ok-take.ensures.held;
      room = c.in_ok-take.ensures.room;
      turns = c.in_ok-take.ensures.turns ∙ c.loop-step.invariant.turns;
    }

pub returns-clause-held : goal.returns-clause-held
returns-clause-held c = All-whole (IsHeld (state_of c.loop-step.self)) c.args.steps.now c.loop-step.step-index c.loop-step-test.false c.loop-step.invariant.held

pub loop-step-init : goal.loop-step-init
loop-step-init c = record {
  takes = takes_none (state_of c.args.self.now) c.args.steps.now;
  sound = c.requires.sound;
  held = λ k d l. absurd (omega arith);
  room = c.requires.room;
  turns = refl;
}

pub returns-in_err-take-clause-end : goal.returns-in_err-take-clause-end
returns-in_err-take-clause-end c =
    let e = err_from_is_err_and c.from_residual.result c.from_residual.ensures.1 in
    rw (e.1, e.2) (end_more (state_of c.args.self.now) (state_of c.loop-step.self) (state_of c.take.new.self) c.args.steps.now c.loop-step.step-index past c.loop-step-test.true c.loop-step.invariant.takes c.args.limit
    c.in_err-take.field-0.0 c.in_err-take.ensures.end)
