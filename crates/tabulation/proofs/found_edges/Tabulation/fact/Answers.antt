use Rattle.std.proofs.Common.{◌≡◌, ◌∙◌, Some, sym, ap, subst}
use Rattle.std.specs.List.{slice_get}
use Rattle.std.proofs.lemmas.Option.{same_Some, slice_get_within}
use Rattle.list_laws.proofs.Places.{at_map, contains_at}
use Rattle.stage_edges.specs.Rules.{Edge}
use Rattle.end_numbers.specs.Ends.{end_of}
use Rattle.tabulation_tables.specs.Lists.{edge_of_numbers, lists_of}
use Rattle.tabulation_tables.proofs.Edges.{edge_is}
use Rattle.tabulation.specs.Found.{Found}
use Rattle.tabulation.proofs.found_edges.Tabulation.fact.Goals as goal

pub end-requires : goal.end-requires
end-requires c =
    let t = c.self.inside.tables in
    let e = c.at-edge.result in
    let is = c.self.invariant.edges e.begin e.end (contains_at t.edges c.args.place e c.at-edge.ensures) in
    slice_get_within t.ends e.end is.end is.end_at

pub returns : goal.returns
returns c = λ e at.
    let t = lists_of c.self.inside.tables in
    let n = c.at-edge.result in
    let is = c.self.invariant.edges n.begin n.end (contains_at t.edges c.args.place n c.at-edge.ensures) in
    let here = subst (λ (f : Found). slice_get f.edges c.args.place ≡ Some e) (sym c.self.view_is) at in
    let there = at_map (edge_of_numbers t) t.edges c.args.place n c.at-edge.ensures ∙ ap Some (edge_is t n.begin n.end is.begin (end_of c.end.result) is.begin_at c.end.ensures) in
    ap (λ (d : Edge). d.fact) (same_Some _ e (sym there ∙ here))
