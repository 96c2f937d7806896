use Rattle.std.proofs.Common.{List, ℕ, subst}
use Rattle.std.specs.Prelude.{◌↔◌, IsTrue}
use Rattle.std.proofs.lemmas.Bool.{false≢true}
use Rattle.lowering_reasons.specs.Reasons.{HasFinalizer}
use Rattle.lowering_reasons.proofs.Finalizing.{none_nowhere}
use Rattle.lowering_reasons.proofs.finalizers.is_finalized.Goals as goal

pub returns-in-Some : goal.returns-in-Some
returns-in-Some c =
    subst (λ (x : List ℕ). IsTrue c.has_finalizer.result ↔ HasFinalizer c.args.program.now x) c.in-Some.ensures.found.1 c.has_finalizer.ensures

pub returns-in-None : goal.returns-in-None
returns-in-None c = (λ never. absurd (false≢true never), λ h. absurd (none_nowhere c.args.program.now c.args.name.now c.in-None.ensures.none h))
