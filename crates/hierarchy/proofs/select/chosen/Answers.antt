use Rattle.std.proofs.Common.{◌∙◌, sym, subst}
use Rattle.jvm_model.specs.Lookups.{Signature, lent_signature}
use Rattle.program_model.specs.Numbers.{name_at}
use Rattle.hierarchy.specs.Searches.{AreDefaults}
use Rattle.hierarchy.proofs.ClassPlaces.{method_there}
use Rattle.hierarchy.proofs.Selecting.{chosen_itself, chosen_upward, finds_none, chosen_default}
use Rattle.hierarchy.proofs.select.chosen.Goals as goal

pub returns-then-is_direct : goal.returns-then-is_direct
returns-then-is_direct c =
    let p = c.args.program.now in
    let m = method_there p c.args.resolved.0 c.requires.resolved in
    chosen_itself p c.args.interface (name_at p c.args.receiver.0) c.args.resolved.0 m.0 m.1 (sym (c.is_direct.ensures m.0 m.1) ∙ c.if-is_direct.true)

pub found_upward-requires-clause-fits : goal.found_upward-requires-clause-fits
found_upward-requires-clause-fits c =
    let m = method_there c.args.program.now c.args.resolved.0 c.requires.resolved in
    record { method = m.0; stands = m.1; same_call = c.signature_of-signature.ensures m.0 m.1 }

pub returns-in-Some : goal.returns-in-Some
returns-in-Some c =
    let p = c.args.program.now in
    let m = method_there p c.args.resolved.0 c.requires.resolved in
    chosen_upward p c.args.interface (name_at p c.args.receiver.0) c.args.resolved.0 c.in-Some.target.0 m.0 (lent_signature c.signature_of-signature.result) m.1
    (c.signature_of-signature.ensures m.0 m.1) (sym (c.is_direct.ensures m.0 m.1) ∙ c.if-is_direct.false) c.in-Some.ensures

pub returns : goal.returns
returns c =
    let p = c.args.program.now in
    let s = lent_signature c.signature_of-signature.result in
    let class = name_at p c.args.receiver.0 in
    let m = method_there p c.args.resolved.0 c.requires.resolved in
    let same = c.signature_of-signature.ensures m.0 m.1 in
    chosen_default p c.args.interface class c.args.resolved.0 m.0 c.find_defaults.result m.1 (sym (c.is_direct.ensures m.0 m.1) ∙ c.if-is_direct.false)
    (finds_none p c.args.interface class c.args.resolved.0 m.0 s m.1 same c.in_default.ensures)
    (subst (λ (x : Signature). AreDefaults p class x c.find_defaults.result) (sym same) c.find_defaults.ensures)
