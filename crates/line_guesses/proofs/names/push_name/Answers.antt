use Rattle.std.proofs.Common.{List, ℕ, ◌<◌, ◌≤◌, sym, ap, ◌∙◌, arith}
use Rattle.line_guesses.specs.Guess.{first_byte}
use Rattle.line_guesses.proofs.Repeated.{name_step, name_stop, name_zero}
use Rattle.line_guesses.proofs.names.push_name.Goals as goal

pub loop-left-preserved : goal.loop-left-preserved
loop-left-preserved c =
    let rest = c.loop-left.rest.now in
    let seen : 32 < first_byte rest = omega (arith, c.if-first_byte-le32.false, c.first_byte.ensures) in
    record {
      same = name_step c.loop-left.left c.loop-left.name.items c.push.new.self.items rest c.byte_at-byte.result.1.now c.byte_at-byte.result.0 c.loop-left-test.true seen
          c.byte_at-byte.ensures.byte c.byte_at-byte.ensures.rest c.in_ok-push.ensures.items ∙ c.loop-left.invariant.same;
    }

pub returns-then-first_byte-le32-clause-name : goal.returns-then-first_byte-le32-clause-name
returns-then-first_byte-le32-clause-name c =
    let rest = c.loop-left.rest.now in
    let unseen : first_byte rest ≤ 32 = omega (arith, c.if-first_byte-le32.true, c.first_byte.ensures) in
    ap (λ (x : List ℕ × List ℕ). x.0) (sym (name_stop c.loop-left.left c.loop-left.name.items rest unseen) ∙ c.loop-left.invariant.same)

pub returns-then-first_byte-le32-clause-rest : goal.returns-then-first_byte-le32-clause-rest
returns-then-first_byte-le32-clause-rest c =
    let rest = c.loop-left.rest.now in
    let unseen : first_byte rest ≤ 32 = omega (arith, c.if-first_byte-le32.true, c.first_byte.ensures) in
    ap (λ (x : List ℕ × List ℕ). x.1) (sym (name_stop c.loop-left.left c.loop-left.name.items rest unseen) ∙ c.loop-left.invariant.same)

pub returns-clause-name : goal.returns-clause-name
returns-clause-name c =
    ap (λ (x : List ℕ × List ℕ). x.0) (sym (name_zero c.loop-left.left c.loop-left.name.items c.loop-left.rest.now c.loop-left-test.false) ∙ c.loop-left.invariant.same)

pub returns-clause-rest : goal.returns-clause-rest
returns-clause-rest c =
    ap (λ (x : List ℕ × List ℕ). x.1) (sym (name_zero c.loop-left.left c.loop-left.name.items c.loop-left.rest.now c.loop-left-test.false) ∙ c.loop-left.invariant.same)
