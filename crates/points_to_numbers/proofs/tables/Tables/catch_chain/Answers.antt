use Rattle.std.proofs.Common.{rules, refl, ◌≡◌, length, vec_len, arith, ◌∙◌}
use Rattle.std.proofs.lemmas.Result.{err_from_is_err_and}
use Rattle.points_to_numbers.specs.Kept.{kept}
use Rattle.points_to_numbers.proofs.FreshKeys.{catch_chains_are, no_number, no_memory, numbered_as}
use Rattle.points_to_numbers.proofs.NewNumbers.{calls_stay, catch_chain_numbered}
use Rattle.points_to_numbers.proofs.tables.Tables.catch_chain.Goals as goal

pub invariant_of-self-2 : goal.invariant_of-self-2
invariant_of-self-2 c =
    let long : vec_len c.self.inside.catch_chains ≡ length c.self.inside.catch_chains.items = omega arith in
    (catch_chain_numbered (kept c.self.inside) c.args.self.now c.self.view_is c.self.invariant c.push.new.self.items c.args.catch_chain c.in_ok-number.number c.in_ok-push.ensures.items (c.in_ok-number.ensures.number ∙ c.len.ensures ∙ long) c.requires).sound

pub returns-clause-grows : goal.returns-clause-grows
returns-clause-grows c =
    let long : vec_len c.self.inside.catch_chains ≡ length c.self.inside.catch_chains.items = omega arith in
    (catch_chain_numbered (kept c.self.inside) c.args.self.now c.self.view_is c.self.invariant c.push.new.self.items c.args.catch_chain c.in_ok-number.number c.in_ok-push.ensures.items (c.in_ok-number.ensures.number ∙ c.len.ensures ∙ long) c.requires).grows

pub returns-clause-stands : goal.returns-clause-stands
returns-clause-stands c =
    let long : vec_len c.self.inside.catch_chains ≡ length c.self.inside.catch_chains.items = omega arith in
    (catch_chain_numbered (kept c.self.inside) c.args.self.now c.self.view_is c.self.invariant c.push.new.self.items c.args.catch_chain c.in_ok-number.number c.in_ok-push.ensures.items (c.in_ok-number.ensures.number ∙ c.len.ensures ∙ long) c.requires).stands

pub returns-clause-calls : goal.returns-clause-calls
returns-clause-calls c = calls_stay (kept c.self.inside) c.args.self.now c.self.view_is c.self.invariant (record (kept c.self.inside) { catch_chains = c.push.new.self.items }) refl

pub returns-in_err-number-clause-too_many : goal.returns-in_err-number-clause-too_many
returns-in_err-number-clause-too_many c =
    let long : vec_len c.self.inside.catch_chains ≡ length c.self.inside.catch_chains.items = omega arith in
    let are = catch_chains_are (kept c.self.inside) c.args.self.now c.self.view_is c.self.invariant in
    let past = c.in_err-number.ensures.err.0 (search rules) in
    let e = err_from_is_err_and c.from_residual.result c.from_residual.ensures.1 in
    rw (e.1, e.2) (no_number c.in_err-number.field-0.0 c.in_err-number.ensures.too_many (omega (arith, long, are, past, c.len.ensures)))

pub returns-in_err-push-clause-too_many : goal.returns-in_err-push-clause-too_many
returns-in_err-push-clause-too_many c =
    let long : vec_len c.self.inside.catch_chains ≡ length c.self.inside.catch_chains.items = omega arith in
    let are = catch_chains_are (kept c.self.inside) c.args.self.now c.self.view_is c.self.invariant in
    let e = err_from_is_err_and c.from_residual-in_err-push.result c.from_residual-in_err-push.ensures.1 in
    rw e.1 (no_memory e.0 e.2 (λ many. omega (arith, long, are, many, c.len.ensures, c.in_ok-number.ensures.number, c.in_ok-number.ensures.room)))

pub returns-clause-too_many : goal.returns-clause-too_many
returns-clause-too_many c =
    let long : vec_len c.self.inside.catch_chains ≡ length c.self.inside.catch_chains.items = omega arith in
    let are = catch_chains_are (kept c.self.inside) c.args.self.now c.self.view_is c.self.invariant in
    numbered_as _ (λ many. omega (arith, long, are, many, c.len.ensures, c.in_ok-number.ensures.number, c.in_ok-number.ensures.room))
