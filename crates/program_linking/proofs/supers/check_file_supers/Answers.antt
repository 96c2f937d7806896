use Rattle.std.proofs.Common.{List, map, sym, subst}
use Rattle.std.specs.Option.{option_to_list}
use Rattle.std.proofs.lemmas.List.{map-append}
use Rattle.std.proofs.lemmas.Result.{err_from_is_err_and}
use Rattle.jvm_model.specs.Linking.{Claim, superclass_place, interface_places}
use Rattle.jvm_model.specs.Lookups.{class_name_at}
use Rattle.jvm_model.specs.Soundness.{interfaces_offset}
use Rattle.program_linking.specs.Claims.{super_claim, TellsEnd, TellsClaims}
use Rattle.program_linking.proofs.ClaimSteps.{end_front, tells_back}
use Rattle.program_linking.proofs.supers.check_file_supers.Goals as goal

pub returns-in_err-check_superclass : goal.returns-in_err-check_superclass
returns-in_err-check_superclass c =
    let p = err_from_is_err_and c.from_residual.result c.from_residual.ensures.1 in
    let xs = map (superclass_place c.args.f.now) (option_to_list (class_name_at c.args.f.now.class.pool c.args.f.now.class.super_class)) in
    let ys = interface_places c.args.f.now.file c.args.f.now.class.pool (interfaces_offset c.args.f.now.class) c.args.f.now.class.interfaces in
    let g = super_claim c.args.rule in
    let end = c.in_err-check_superclass.field-0.0 in
    rw (p.1, p.2)
    (subst (λ (cs : List Claim). TellsEnd c.args.known.now cs end) (sym (map-append g xs ys)) (end_front ⊥ c.args.known.now (map g xs) (map g ys) end c.in_err-check_superclass.ensures))

pub returns : goal.returns
returns c =
    let xs = map (superclass_place c.args.f.now) (option_to_list (class_name_at c.args.f.now.class.pool c.args.f.now.class.super_class)) in
    let ys = interface_places c.args.f.now.file c.args.f.now.class.pool (interfaces_offset c.args.f.now.class) c.args.f.now.class.interfaces in
    let g = super_claim c.args.rule in
    subst (λ (cs : List Claim). TellsClaims c.args.known.now cs c.check_interfaces.result) (sym (map-append g xs ys))
    (tells_back ⊥ c.args.known.now (map g xs) (map g ys) c.check_interfaces.result c.in_ok-check_superclass.ensures c.check_interfaces.ensures)
