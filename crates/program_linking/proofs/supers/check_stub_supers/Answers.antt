use Rattle.std.proofs.Common.{List, map, sym, subst}
use Rattle.std.proofs.lemmas.List.{map-append}
use Rattle.std.proofs.lemmas.Result.{err_from_is_err_and}
use Rattle.jvm_model.specs.Linking.{Claim}
use Rattle.program_linking.specs.Claims.{super_claim, TellsEnd, TellsClaims}
use Rattle.program_linking.specs.Supers.{stub_superclass, stub_interfaces}
use Rattle.program_linking.proofs.ClaimSteps.{end_front, tells_back}
use Rattle.program_linking.proofs.supers.check_stub_supers.Goals as goal

pub returns-in_err-check_stub_superclass : goal.returns-in_err-check_stub_superclass
returns-in_err-check_stub_superclass c =
    let p = err_from_is_err_and c.from_residual.result c.from_residual.ensures.1 in
    let xs = stub_superclass c.args.c.now in
    let ys = stub_interfaces c.args.c.now.file c.args.c.now.interfaces in
    let g = super_claim c.args.rule in
    let end = c.in_err-check_stub_superclass.field-0.0 in
    rw (p.1, p.2)
    (subst (λ (cs : List Claim). TellsEnd c.args.known.now cs end) (sym (map-append g xs ys)) (end_front ⊥ c.args.known.now (map g xs) (map g ys) end c.in_err-check_stub_superclass.ensures))

pub returns : goal.returns
returns c =
    let xs = stub_superclass c.args.c.now in
    let ys = stub_interfaces c.args.c.now.file c.args.c.now.interfaces in
    let g = super_claim c.args.rule in
    subst (λ (cs : List Claim). TellsClaims c.args.known.now cs c.check_stub_interfaces.result) (sym (map-append g xs ys))
    (tells_back ⊥ c.args.known.now (map g xs) (map g ys) c.check_stub_interfaces.result c.in_ok-check_stub_superclass.ensures c.check_stub_interfaces.ensures)
