use Rattle.std.proofs.Common.{map, ◌++◌}
use Rattle.std.specs.List.{flat_map}
use Rattle.std.proofs.lemmas.Result.{err_from_is_err_and}
use Rattle.jvm_model.specs.Linking.{there_claim, supers_of_stub, mention_claim, description_claims, stub_descriptions}
use Rattle.jvm_model.specs.Stubs.{field_names}
use Rattle.program_linking.specs.TooLarge.{AreTooManyDescriptions}
use Rattle.program_linking.proofs.ClaimSteps.{end_front, end_back, end_unnumbered, tells_back, met_append}
use Rattle.program_linking.proofs.mentions.check_stub.Goals as goal

pub returns-in_err-check_stub_supers : goal.returns-in_err-check_stub_supers
returns-in_err-check_stub_supers c =
    let p = err_from_is_err_and c.from_residual.result c.from_residual.ensures.1 in
    let known = c.args.known.now in
    let xs = map there_claim (supers_of_stub c.args.c.now) in
    let ys = map (mention_claim c.args.c.now.file) (flat_map field_names c.args.c.now.fields) in
    let zs = description_claims (stub_descriptions c.args.patches.now c.args.c.now) in
    let end = c.in_err-check_stub_supers.field-0.0 in
    let large = AreTooManyDescriptions (stub_descriptions c.args.patches.now c.args.c.now) in
    rw (p.1, p.2) (end_unnumbered large known (xs ++ ys ++ zs) end (end_front ⊥ known (xs ++ ys) zs end (end_front ⊥ known xs ys end c.in_err-check_stub_supers.ensures)))

pub returns-in_err-check_fields : goal.returns-in_err-check_fields
returns-in_err-check_fields c =
    let p = err_from_is_err_and c.from_residual-in_err-check_fields.result c.from_residual-in_err-check_fields.ensures.1 in
    let known = c.args.known.now in
    let xs = map there_claim (supers_of_stub c.args.c.now) in
    let ys = map (mention_claim c.args.c.now.file) (flat_map field_names c.args.c.now.fields) in
    let zs = description_claims (stub_descriptions c.args.patches.now c.args.c.now) in
    let end = c.in_err-check_fields.field-0.0 in
    let large = AreTooManyDescriptions (stub_descriptions c.args.patches.now c.args.c.now) in
    rw (p.1, p.2) (end_unnumbered large known (xs ++ ys ++ zs) end (end_front ⊥ known (xs ++ ys) zs end (end_back ⊥ known xs ys end c.in_ok-check_stub_supers.ensures c.in_err-check_fields.ensures)))

pub returns : goal.returns
returns c =
    let known = c.args.known.now in
    let xs = map there_claim (supers_of_stub c.args.c.now) in
    let ys = map (mention_claim c.args.c.now.file) (flat_map field_names c.args.c.now.fields) in
    let zs = description_claims (stub_descriptions c.args.patches.now c.args.c.now) in
    tells_back (AreTooManyDescriptions (stub_descriptions c.args.patches.now c.args.c.now)) known (xs ++ ys) zs c.check_stub_methods.result (met_append known xs ys c.in_ok-check_stub_supers.ensures c.in_ok-check_fields.ensures) c.check_stub_methods.ensures
