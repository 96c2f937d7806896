use Rattle.std.proofs.Common.{◌∙◌, sym, ap, Some}
use Rattle.call_graph.proofs.ReadSites.{read_site}
use Rattle.call_graph.proofs.sites.site_at.Goals as goal

pub name_of-requires : goal.name_of-requires
name_of-requires c = let (s, stands) = c.requires in (s.class, (c.site_of-key.ensures s stands).class)

pub returns : goal.returns
returns c =
    let (s, stands) = c.requires in
    let class = c.from_vec-class.ensures ∙ c.in_ok-from_slice.ensures.items in
    let named = c.name_of.ensures ∙ ap (λ (name : _). Some name) (sym class) in
    stands ∙ ap Some (read_site c.args.tables.now c.site_of-key.result s c.from_vec-class.result (c.site_of-key.ensures s stands) named)
