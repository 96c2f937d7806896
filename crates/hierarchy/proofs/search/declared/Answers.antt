use Rattle.std.proofs.Common.{◌∙◌, sym}
use Rattle.std.proofs.lemmas.Bool.{false≢true}
use Rattle.std.proofs.lemmas.Option.{slice_get_within}
use Rattle.jvm_model.specs.Lookups.{lent_signature}
use Rattle.program_model.specs.Numbers.{name_at}
use Rattle.hierarchy.proofs.Declaring.{declared_taken, such_declares}
use Rattle.hierarchy.proofs.search.declared.Goals as goal

pub returns-in_err-method : goal.returns-in_err-method
returns-in_err-method g c = rw c.from_residual.ensures (λ n d. c.in_err-method.ensures.none n (such_declares d))

pub accepts-requires-clause-method : goal.accepts-requires-clause-method
accepts-requires-clause-method g c =
    let found = c.in_ok-method.ensures.found in
    slice_get_within c.args.program.now.methods c.in_ok-method.method.0 found.method found.stands

pub returns-then-accepts : goal.returns-then-accepts
returns-then-accepts g c =
    let found = c.in_ok-method.ensures.found in
    record { method = found.method; stands = found.stands; of_class = found.of_class; is = (found.is, (c.accepts.ensures found.method found.stands).0 c.if-accepts.true) }

pub returns-else-accepts : goal.returns-else-accepts
returns-else-accepts g c = λ n d.
    let p = c.args.program.now in
    let found = c.in_ok-method.ensures.found in
    let taken = declared_taken p c.well_formed-2.ensures.program.members (lent_signature c.args.signature) (g.S.Sought.takes c.args.sought.now p) (name_at p c.args.class.0) c.in_ok-method.method.0 n found d in
    false≢true (sym c.if-accepts.false ∙ (c.accepts.ensures found.method found.stands).1 taken)
