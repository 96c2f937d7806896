use Rattle.std.proofs.Common.{true, false, ◌≡◌, refl, sym, ◌∙◌}
use Rattle.std.proofs.lemmas.List.Elements.{All-contains}
use Rattle.program_model.specs.Numbers.{name_at, IsClassNumber}
use Rattle.lowering_handlers.specs.Initialisers.{DeclaresInitialiser}
use Rattle.lowering_handlers.proofs.UpwardInitialisers.{declares_itself, declares_through, declared_through}
use Rattle.lowering_handlers.proofs.initialisers.declares_at.Goals as goal

pub returns-then-declares_initialiser : goal.returns-then-declares_initialiser
returns-then-declares_initialiser c = λ class stands. (
  λ t. declares_itself c.args.program.now c.args.class.0 c.requires class stands (c.declares_initialiser.ensures.0 c.if-declares_initialiser.true),
  λ d. refl,
)

pub returns : goal.returns
returns c = λ class stands.
    let p = c.args.program.now in
    let n = c.args.class.0 in
    let through = c.through_interfaces.result.now in
    let told = c.through_interfaces.ensures in
    let none : DeclaresInitialiser p (name_at p n) → ⊥ = λ d. let both : false ≡ true = sym c.if-declares_initialiser.false ∙ c.declares_initialiser.ensures.1 d in cc in (
      λ t. declares_through p n class stands through (told.exact class stands) (λ k there. All-contains (IsClassNumber p) through k told.below there) (c.any_declares.ensures.0 t),
      λ d. c.any_declares.ensures.1 (declared_through p n class stands through (told.exact class stands) none d),
    )
