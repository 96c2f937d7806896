use Rattle.std.proofs.Common.{Bool, cond, List, [], sym, ap, subst}
use Rattle.jvm_model.specs.Linking.{Claim, stub_descriptions, stub_there_claims}
use Rattle.program_linking.specs.Claims.{TellsClaimsOrLarge}
use Rattle.program_linking.specs.Patching.{own_one}
use Rattle.program_linking.specs.TooLarge.{AreTooManyDescriptions, HasLargeStub}
use Rattle.program_linking.proofs.ClaimSteps.{tells_more}
use Rattle.program_linking.proofs.LargeInputs.{own_large}
use Rattle.program_linking.proofs.mentions.check_own_stub.Goals as goal

pub returns : goal.returns
returns c =
    let known = c.args.known.now in
    let stubs = c.args.patches.now in
    let s = c.args.c.now in
    let claims = stub_there_claims stubs s in
    let r = c.check_stub.result in
    let large = HasLargeStub stubs (own_one s) in
    let own = c.if-c.false in
    subst (λ (cs : List Claim). TellsClaimsOrLarge large known cs r) (sym (ap (λ (b : Bool). cond b [] claims) own))
    (tells_more (AreTooManyDescriptions (stub_descriptions stubs s)) large known claims r (own_large stubs s own) c.check_stub.ensures)
