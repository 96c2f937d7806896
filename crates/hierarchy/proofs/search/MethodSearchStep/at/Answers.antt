use Rattle.std.proofs.Common.{ℕ, List, subst}
use Rattle.jvm_model.specs.Lookups.{lent_signature}
use Rattle.jvm_model.specs.Resolution.{Declares}
use Rattle.hierarchy.specs.Searches.{Finds, IsSuch}
use Rattle.hierarchy.proofs.ClassPlaces.{name_at-at}
use Rattle.hierarchy.proofs.search.MethodSearchStep.at.Goals as goal

pub returns : goal.returns
returns g c = λ class stands.
    let p = c.args.program.now in
    let Is = IsSuch (lent_signature c.args.self.now.signature) (g.S.Sought.takes c.args.self.now.sought.now p) in
    subst (λ (x : List ℕ). Finds (Declares p Is x) c.declared.result) (name_at-at p c.args.class.0 class stands) c.declared.ensures
