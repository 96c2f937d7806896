use Rattle.std.proofs.Common.{◌∷◌, [], Some}
use Rattle.std.proofs.lemmas.Bool.Decides.{Decides-eqb}
use Rattle.std.proofs.lemmas.Slice.Eq.{strip_prefix_is, strip_suffix_is}
use Rattle.lowering_reasons.proofs.ArrayElements.{described}
use Rattle.lowering_reasons.proofs.absent.described_class.Goals as goal

pub returns : goal.returns
returns c =
    let rest = c.in-Some.rest.now in
    described c.args.text.now rest c.strip_suffix.result (strip_prefix_is Decides-eqb c.args.text.now (76 ∷ []) (Some c.in-Some.rest) c.in-Some.ensures.cases)
    (strip_suffix_is Decides-eqb rest (59 ∷ []) c.strip_suffix.result c.strip_suffix.ensures.cases)
