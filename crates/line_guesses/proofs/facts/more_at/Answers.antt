use Rattle.std.proofs.Common.{List, ℕ, sym, ap, ◌∙◌}
use Rattle.access_paths.specs.Paths.{Path}
use Rattle.line_guesses.proofs.Repeated.{more_step, more_stop, more_zero}
use Rattle.line_guesses.proofs.facts.more_at.Goals as goal

pub loop-left-preserved : goal.loop-left-preserved
loop-left-preserved c = record {
  same = more_step c.loop-left.left c.loop-left.paths c.add-paths.result.set c.loop-left.rest.now c.skip.result.now c.path_at-path.result.1.now c.path_at-path.result.0
      c.loop-left-test.true (sym c.first_byte.ensures ∙ c.if-first_byte-ne44.false) c.skip.ensures c.path_at-path.ensures.path c.path_at-path.ensures.rest
      (ap (λ x. x.set) c.add-paths.ensures) ∙ c.loop-left.invariant.same;
}

pub returns-then-first_byte-ne44 : goal.returns-then-first_byte-ne44
returns-then-first_byte-ne44 c =
    let stop = more_stop c.loop-left.left c.loop-left.paths c.loop-left.rest.now (λ e. c.if-first_byte-ne44.true (c.first_byte.ensures ∙ e)) in
    let all = sym stop ∙ c.loop-left.invariant.same in
    record { paths = ap (λ (x : List Path × List ℕ). x.0) all; rest = ap (λ (x : List Path × List ℕ). x.1) all }

pub returns : goal.returns
returns c =
    let stop = more_zero c.loop-left.left c.loop-left.paths c.loop-left.rest.now c.loop-left-test.false in
    let all = sym stop ∙ c.loop-left.invariant.same in
    record { paths = ap (λ (x : List Path × List ℕ). x.0) all; rest = ap (λ (x : List Path × List ℕ). x.1) all }
