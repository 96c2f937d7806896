use Rattle.std.proofs.Common.{ℕ, Bool, cond, List, [], ◌∷◌, sym, ◌∙◌, subst}
use Rattle.jvm_model.specs.Linking.{claim, differs, stub_claims}
use Rattle.program_index.specs.Limits.{AreTooMany}
use Rattle.program_linking.specs.Claims.{TellsClaimsOrLarge}
use Rattle.program_linking.proofs.class_names.check_stub_name.Goals as goal

pub returns-then-has_class-clause-told : goal.returns-then-has_class-clause-told
returns-then-has_class-clause-told c = λ p.
    let earlier = c.args.earlier.now in
    let s = c.args.c.now in
    let told = subst (λ (n : List ℕ). TellsClaimsOrLarge (AreTooMany earlier) p (claim s.file 0 (differs earlier n) ∷ []) c.add_name.result) c.as_slice.ensures (c.add_name.ensures.told p) in
    subst (λ (b : Bool). TellsClaimsOrLarge (AreTooMany earlier) p (stub_claims earlier (cond b (s ∷ []) [])) c.add_name.result) (sym c.if-has_class.true ∙ c.has_class.ensures) told
