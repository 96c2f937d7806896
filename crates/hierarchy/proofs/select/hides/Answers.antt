use Rattle.std.proofs.Common.{◌∙◌, sym}
use Rattle.std.proofs.lemmas.Bool.{false≢true}
use Rattle.hierarchy.proofs.Hiding.{none_then}
use Rattle.hierarchy.proofs.select.hides.Goals as goal

pub returns-else-is_some : goal.returns-else-is_some
returns-else-is_some c = (
  λ t. absurd (false≢true (sym c.if-is_some.false ∙ t)),
  λ h. absurd (none_then c.declared_method.result _ (sym c.is_some.ensures ∙ c.if-is_some.false) c.declared_method.ensures.none h.number h.declares),
)
