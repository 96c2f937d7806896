use Rattle.std.proofs.Common.{ℕ, List, sym, subst}
use Rattle.std.specs.Bool.{IsTrue}
use Rattle.jvm_model.specs.Subtypes.{IsProperSubtype}
use Rattle.program_model.specs.Numbers.{name_at}
use Rattle.hierarchy.proofs.ClassPlaces.{method_there}
use Rattle.hierarchy.proofs.defaults.InSubtypeSought.accepts.Goals as goal

pub is_proper_subtype-requires-clause-upper : goal.is_proper_subtype-requires-clause-upper
is_proper_subtype-requires-clause-upper c = let m = method_there c.args.program.now c.args.method.0 c.requires.method in c.requires.fits m.0 m.1

pub returns : goal.returns
returns c = λ m stands.
    let p = c.args.program.now in
    let Below : List ℕ → Type 0 = λ x. IsProperSubtype p x (name_at p c.args.self.now.upper.0) in
    let answer = c.is_proper_subtype.result in
    subst (λ (x : List ℕ). (IsTrue answer → Below x) × (Below x → IsTrue answer)) (sym (c.class_of.ensures.class m stands)) c.is_proper_subtype.ensures
