use Rattle.std.proofs.Common.{◌∷◌, [], Some}
use Rattle.std.proofs.lemmas.Bool.Decides.{Decides-eqb}
use Rattle.std.proofs.lemmas.Slice.Eq.{strip_prefix_is}
use Rattle.lowering_reasons.proofs.ArrayElements.{one_taken}
use Rattle.lowering_reasons.proofs.absent.behind_brackets.Goals as goal

pub loop-inner-preserved : goal.loop-inner-preserved
loop-inner-preserved c =
    one_taken c.args.name.now c.loop-inner.rest.now c.in-Some.inner.now c.loop-inner.invariant
    (strip_prefix_is Decides-eqb c.loop-inner.rest.now (91 ∷ []) (Some c.in-Some.inner) c.in-Some.ensures.cases)
