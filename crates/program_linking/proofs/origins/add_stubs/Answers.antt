use Rattle.std.proofs.Common.{List, length, [], ◌∷◌, ◌++◌, map, sym, ◌∙◌, ap, append_assoc, rules}
use Rattle.std.proofs.lemmas.Iterator.Adapters.{YieldsList-from_vec}
use Rattle.std.proofs.lemmas.Iterator.Consumers.{YieldsList-turn}
use Rattle.std.proofs.lemmas.List.{append-nil, map-append}
use Rattle.std.proofs.lemmas.Result.{err_from_is_err_and}
use Rattle.jvm_model.specs.declared.program.Origin.{Origin}
use Rattle.jvm_model.specs.Linking.{stub_descriptions, stub_origin}
use Rattle.program_linking.specs.TooLarge.{AreTooManyDescriptions, HasLargeStub}
use Rattle.program_linking.proofs.LargeInputs.{error_more}
use Rattle.program_linking.proofs.origins.add_stubs.Goals as goal

pub loop-c-init : goal.loop-c-init
loop-c-init c = sym (append-nil c.args.all.now.items)

pub loop-c-preserved : goal.loop-c-preserved
loop-c-preserved c =
    let old = c.args.all.now.items in
    let g = stub_origin c.args.patches.now in
    let done = c.loop-c.yielded in
    let x = c.in-Some.c in
    c.in_ok-push.ensures.items
    ∙ (λ i. c.loop-c.invariant i ++ c.in_ok-origin.ensures.origin i ∷ [])
    ∙ append_assoc old (map g done) (g x ∷ [])
    ∙ ap (λ (os : List Origin). old ++ os) (sym (map-append g done (x ∷ [])))

pub returns-in_err-origin-clause-too_many : goal.returns-in_err-origin-clause-too_many
returns-in_err-origin-clause-too_many c =
    let q = err_from_is_err_and c.from_residual.result c.from_residual.ensures.1 in
    let all = c.args.stubs.items in
    let x = c.in-Some.c in
    let t = YieldsList-turn (YieldsList-from_vec {s = c.into_iter-c-iterator.result} all (search rules) (search rules))
    c.loop-c.yielded c.loop-c.c-iterator c.loop-c.yielded_by c.next.result c.next.new.self x c.in-Some.is c.next.ensures.steps in
    let here = AreTooManyDescriptions (stub_descriptions c.args.patches.now x) in
    rw (q.1, q.2)
    (error_more here (HasLargeStub c.args.patches.now all) c.in_err-origin.field-0.0 (λ many. record { class = x; among = (length c.loop-c.yielded, t.0, sym t.1); many = many }) c.in_err-origin.ensures.too_many)
