use Rattle.std.proofs.Common.{List, ℕ, sym, ap, ◌∙◌}
use Rattle.line_guesses.proofs.Repeated.{states_step, states_stop, states_zero}
use Rattle.line_guesses.proofs.line_guess.push_states.Goals as goal

pub loop-left-preserved : goal.loop-left-preserved
loop-left-preserved c = record {
  same = states_step c.loop-left.left c.loop-left.states.items c.push.new.self.items c.loop-left.rest.now c.skip.result.now c.small_at-state.result.1.now c.small_at-state.result.0
      c.loop-left-test.true (sym c.first_byte.ensures ∙ c.if-first_byte-ne32.false) c.skip.ensures c.small_at-state.ensures.number c.small_at-state.ensures.rest c.in_ok-push.ensures.items
      ∙ c.loop-left.invariant.same;
}

pub returns-then-first_byte-ne32-clause-states : goal.returns-then-first_byte-ne32-clause-states
returns-then-first_byte-ne32-clause-states c =
    let stop = states_stop c.loop-left.left c.loop-left.states.items c.loop-left.rest.now (λ e. c.if-first_byte-ne32.true (c.first_byte.ensures ∙ e)) in
    ap (λ (x : List ℕ × List ℕ). x.0) (sym stop ∙ c.loop-left.invariant.same)

pub returns-then-first_byte-ne32-clause-rest : goal.returns-then-first_byte-ne32-clause-rest
returns-then-first_byte-ne32-clause-rest c =
    let stop = states_stop c.loop-left.left c.loop-left.states.items c.loop-left.rest.now (λ e. c.if-first_byte-ne32.true (c.first_byte.ensures ∙ e)) in
    ap (λ (x : List ℕ × List ℕ). x.1) (sym stop ∙ c.loop-left.invariant.same)

pub returns-clause-states : goal.returns-clause-states
returns-clause-states c =
    ap (λ (x : List ℕ × List ℕ). x.0) (sym (states_zero c.loop-left.left c.loop-left.states.items c.loop-left.rest.now c.loop-left-test.false) ∙ c.loop-left.invariant.same)

pub returns-clause-rest : goal.returns-clause-rest
returns-clause-rest c =
    ap (λ (x : List ℕ × List ℕ). x.1) (sym (states_zero c.loop-left.left c.loop-left.states.items c.loop-left.rest.now c.loop-left-test.false) ∙ c.loop-left.invariant.same)
