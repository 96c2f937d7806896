use Rattle.std.proofs.Common.{ap, ◌∙◌}
use Rattle.certificate_lines.proofs.line_order.kind_of.Goals as goal

pub returns : goal.returns
returns c = c.kind.ensures ∙ ap (λ x. x.kind) c.key_of.ensures
