use Rattle.std.proofs.Common.{◌<◌, ◌↔◌, List, length, IsTrue, sym, subst}
use Rattle.program_index.specs.declared.parents.Parents.{Parents}
use Rattle.program_index.specs.Supertypes.{IsAtOrAbove}
use Rattle.program_model.proofs.Accessing.{below_parents_in, subtype_in}
use Rattle.program_model.proofs.program.Program.is_at_or_above.Goals as goal

pub is_at_or_above-requires-clause-lower : goal.is_at_or_above-requires-clause-lower
is_at_or_above-requires-clause-lower c =
    subst (λ (ps : List Parents). c.args.lower.0 < length ps) (sym c.deref.ensures.value)
    (below_parents_in c.self.inside c.self.invariant c.args.self.now c.self.view_is c.args.lower.0 c.requires.lower)

pub returns : goal.returns
returns c =
    let exact = subtype_in c.self.inside c.self.invariant c.args.self.now c.self.view_is c.args.lower.0 c.args.upper.0 c.requires.lower c.requires.upper in
    let told = subst (λ (ps : List Parents). IsTrue c.is_at_or_above.result ↔ IsAtOrAbove ps c.args.lower.0 c.args.upper.0) c.deref.ensures.value c.is_at_or_above.ensures in
    (λ t. exact.0 (told.0 t), λ s. told.1 (exact.1 s))
