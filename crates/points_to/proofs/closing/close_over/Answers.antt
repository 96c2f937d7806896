use Rattle.std.proofs.Common.{ℕ, Result, sym, subst, arith}
use Rattle.std.proofs.lemmas.Result.{err_from_is_err_and}
use Rattle.jvm_model.specs.declared.reason.Refusal.{Refusal}
use Rattle.op_model.specs.declared.lowered.LoweredMethod.{LoweredMethod}
use Rattle.grouped_lists.specs.Groups.{values_at}
use Rattle.points_to.specs.Queues.{State, state_of}
use Rattle.points_to.proofs.Closings.{same_itself, same_on, supply_same, concluded, known_turn, known_index, nothing_held, start_end, taken_end}
use Rattle.points_to.proofs.SoFar.{IsSoFar, so_far_start, derived_more, so_far_more, closed_when_done}
use Rattle.points_to.proofs.closing.close_over.Goals as goal

-- ---- the start

pub returns-in_err-take_start-clause-end : goal.returns-in_err-take_start-clause-end
returns-in_err-take_start-clause-end g c =
    let gives : ℕ → Result LoweredMethod Refusal → Type 0 = g.S.Supply.gives c.args.supply.now in
    let q = state_of c.args.working.now.queue in
    let e = err_from_is_err_and c.from_residual.result c.from_residual.ensures.1 in
    rw (e.1, e.2) (start_end c.args.program.now gives c.args.entry c.args.pair_limit c.take_start.new.work.tables q (state_of c.take_start.new.queue) c.take_start.new.work.steps.items c.in_err-take_start.field-0.0
    (nothing_held q c.requires.fresh.rows c.requires.fresh.others) c.in_err-take_start.ensures.end)

pub loop-turn-init : goal.loop-turn-init
loop-turn-init g c =
    let p = c.args.program.now in
    let gives : ℕ → Result LoweredMethod Refusal → Type 0 = g.S.Supply.gives c.args.supply.now in
    let n = c.take_start.new.work.tables in
    let q = state_of c.args.working.now.queue in
    let made = c.in_ok-take_start.ensures.started in
    record {
      sound = c.in_ok-take_start.ensures.sound;
      room = c.in_ok-take_start.ensures.room;
      so_far = rw (c.requires.fresh.call, c.requires.fresh.method, c.requires.fresh.methods) (so_far_start p gives c.args.entry n c.take_start.new.work.steps.items q (state_of c.take_start.new.queue)
          (nothing_held q c.requires.fresh.rows c.requires.fresh.others) made.call made.adds c.in_ok-take_start.ensures.takes (values_at c.args.working.now.constraints.groups.items) c.requires.fresh.constraints c.in_ok-take_start.ensures.held);
      same = same_itself gives;
      answers = c.requires.fresh.answers p n;
    }

-- ---- the loop

pub take_in-requires-clause-supply : goal.take_in-requires-clause-supply
take_in-requires-clause-supply g c =
    let now : ℕ → Result LoweredMethod Refusal → Type 0 = g.S.Supply.gives c.loop-turn.supply in
    supply_same c.args.program.now (g.S.Supply.gives c.args.supply.now) now c.loop-turn.invariant.same c.requires.supply

pub take_in-requires-clause-turn : goal.take_in-requires-clause-turn
take_in-requires-clause-turn g c = known_turn c.loop-turn.invariant.so_far c.in-Some.ensures.next c.requires.supply c.requires.entry

pub take_in-requires-clause-index : goal.take_in-requires-clause-index
take_in-requires-clause-index g c = known_index c.loop-turn.invariant.so_far c.in-Some.ensures.next c.requires.supply c.requires.entry

pub returns-in_err-take_in-clause-end : goal.returns-in_err-take_in-clause-end
returns-in_err-take_in-clause-end g c =
    let p = c.args.program.now in
    let gives : ℕ → Result LoweredMethod Refusal → Type 0 = g.S.Supply.gives c.args.supply.now in
    let now : ℕ → Result LoweredMethod Refusal → Type 0 = g.S.Supply.gives c.loop-turn.supply in
    let before = record c.loop-turn.working { queue = c.next.new.self } in
    let after = c.take_in.new.working in
    let turn = c.in-Some.turn in
    let e = err_from_is_err_and c.from_residual-in_err-take_in.result c.from_residual-in_err-take_in.ensures.1 in
    rw (e.1, e.2) (taken_end p gives now c.args.entry c.args.pair_limit turn before after c.in_err-take_in.field-0.0
    (λ made takes. derived_more c.requires.supply (g.met.S.Supply.one_answer c.args.supply.now) c.args.entry c.loop-turn.invariant.so_far c.in-Some.ensures.next
    (concluded p gives now c.loop-turn.invariant.same turn before after made) takes)
    c.in_err-take_in.ensures.end)

pub loop-turn-preserved : goal.loop-turn-preserved
loop-turn-preserved g c =
    let p = c.args.program.now in
    let gives : ℕ → Result LoweredMethod Refusal → Type 0 = g.S.Supply.gives c.args.supply.now in
    let now : ℕ → Result LoweredMethod Refusal → Type 0 = g.S.Supply.gives c.loop-turn.supply in
    let before = record c.loop-turn.working { queue = c.next.new.self } in
    let told = concluded p gives now c.loop-turn.invariant.same c.in-Some.turn before c.take_in.new.working c.in_ok-take_in.ensures.concluded in
    record {
      sound = c.in_ok-take_in.ensures.sound;
      room = c.in_ok-take_in.ensures.room;
      so_far = so_far_more c.requires.supply (g.met.S.Supply.one_answer c.args.supply.now) c.args.entry c.loop-turn.invariant.so_far c.in-Some.ensures.next told c.in_ok-take_in.ensures.takes c.in_ok-take_in.ensures.held;
      same = same_on gives now (g.S.Supply.gives c.take_in.new.supply) c.loop-turn.invariant.same c.in_ok-take_in.ensures.same;
      answers = c.in_ok-take_in.ensures.answers;
    }

-- the same, by what the turn has to drop
pub loop-turn-preserved-in_ok-take_in : goal.loop-turn-preserved-in_ok-take_in
loop-turn-preserved-in_ok-take_in g c =
    let p = c.args.program.now in
    let gives : ℕ → Result LoweredMethod Refusal → Type 0 = g.S.Supply.gives c.args.supply.now in
    let now : ℕ → Result LoweredMethod Refusal → Type 0 = g.S.Supply.gives c.loop-turn.supply in
    let before = record c.loop-turn.working { queue = c.next.new.self } in
    let told = concluded p gives now c.loop-turn.invariant.same c.in-Some.turn before c.take_in.new.working c.in_ok-take_in.ensures.concluded in
    record {
      sound = c.in_ok-take_in.ensures.sound;
      room = c.in_ok-take_in.ensures.room;
      so_far = so_far_more c.requires.supply (g.met.S.Supply.one_answer c.args.supply.now) c.args.entry c.loop-turn.invariant.so_far c.in-Some.ensures.next told c.in_ok-take_in.ensures.takes c.in_ok-take_in.ensures.held;
      same = same_on gives now (g.S.Supply.gives c.take_in.new.supply) c.loop-turn.invariant.same c.in_ok-take_in.ensures.same;
      answers = c.in_ok-take_in.ensures.answers;
    }

pub loop-turn-preserved-in_ok-take_in-2 : goal.loop-turn-preserved-in_ok-take_in-2
loop-turn-preserved-in_ok-take_in-2 g c =
    let p = c.args.program.now in
    let gives : ℕ → Result LoweredMethod Refusal → Type 0 = g.S.Supply.gives c.args.supply.now in
    let now : ℕ → Result LoweredMethod Refusal → Type 0 = g.S.Supply.gives c.loop-turn.supply in
    let before = record c.loop-turn.working { queue = c.next.new.self } in
    let told = concluded p gives now c.loop-turn.invariant.same c.in-Some.turn before c.take_in.new.working c.in_ok-take_in.ensures.concluded in
    record {
      sound = c.in_ok-take_in.ensures.sound;
      room = c.in_ok-take_in.ensures.room;
      so_far = so_far_more c.requires.supply (g.met.S.Supply.one_answer c.args.supply.now) c.args.entry c.loop-turn.invariant.so_far c.in-Some.ensures.next told c.in_ok-take_in.ensures.takes c.in_ok-take_in.ensures.held;
      same = same_on gives now (g.S.Supply.gives c.take_in.new.supply) c.loop-turn.invariant.same c.in_ok-take_in.ensures.same;
      answers = c.in_ok-take_in.ensures.answers;
    }

pub loop-turn-smaller : goal.loop-turn-smaller
loop-turn-smaller g c =
    let more = c.in-Some.ensures.next.more in
    let turns = c.in_ok-take_in.ensures.turns in
    let few = c.next.ensures.few in
    let pairs = c.next.ensures.pairs in
    let room = c.loop-turn.invariant.room in
    omega arith

pub returns-clause-closed : goal.returns-clause-closed
returns-clause-closed g c =
    let p = c.args.program.now in
    let gives : ℕ → Result LoweredMethod Refusal → Type 0 = g.S.Supply.gives c.args.supply.now in
    let w = c.loop-turn.working in
    let done = c.in_default.ensures.next in
    let so_far = subst (λ (q : State). IsSoFar p gives c.args.entry w.found.work.tables q (values_at w.constraints.groups.items) w.found.refusals.call w.found.refusals.method w.methods.items) (sym done.same) c.loop-turn.invariant.so_far in
    closed_when_done p gives c.args.entry c.args.pair_limit w.found.work.tables c.next.new.self (values_at w.constraints.groups.items)
    w.found.refusals.call w.found.refusals.method w.methods.items so_far done.all c.next.ensures.sound c.apart.ensures (let same = c.next.ensures.pairs in let room = c.loop-turn.invariant.room in omega arith)
