use Rattle.std.proofs.Common.{◌∙◌, refl, ap, sym}
use Rattle.jvm_model.specs.declared.site.SiteKind.TheVariants as kinds
use Rattle.op_model.specs.declared.node.Node.{Node}
use Rattle.points_to_rules.specs.Rules.{site_of}
use Rattle.points_to_methods.proofs.NamedSlots.{read_node}
use Rattle.points_to_methods.proofs.exceptions.raised_site.Goals as goal

pub returns-clause-stands : goal.returns-clause-stands
returns-clause-stands c = λ n at.
    let l = c.args.at.now.method.now in
    let read = c.index-as_slice-node.result in
    let same = read_node l.nodes c.as_slice.result.now c.args.node n read c.as_slice.ensures c.requires c.index-as_slice-node.is at in
    c.in_ok-number.ensures.stands (site_of kinds.Thrown l.method n c.args.class.now)
    (record { class = c.in_ok-class.ensures.stands; kind = refl; method = refl; offset = ap (λ (m : Node). m.offset) (sym same ∙ c.index-as_slice-node.is) })
