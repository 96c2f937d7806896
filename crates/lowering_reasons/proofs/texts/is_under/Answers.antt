use Rattle.std.proofs.Common.{length, drop}
use Rattle.std.proofs.lemmas.Bool.Decides.{Decides-eqb}
use Rattle.std.proofs.lemmas.Slice.Eq.{starts_is}
use Rattle.lowering_reasons.proofs.texts.is_under.Goals as goal

pub returns : goal.returns
returns c =
    let name = c.args.name.now in
    let prefix = c.args.prefix.now in
    let tells = starts_is Decides-eqb name prefix c.starts_with.result c.starts_with.ensures.value in
    (λ yes. record { rest = drop (length prefix) name; is = tells.0 yes }, λ under. tells.1 under.rest under.is)
