use Rattle.std.proofs.Common.{◌≡◌, ◌∙◌, Some, ap, subst}
use Rattle.std.specs.List.{slice_get}
use Rattle.std.proofs.lemmas.Option.{slice_get_within}
use Rattle.list_laws.proofs.Places.{at_map, contains_at}
use Rattle.end_numbers.specs.Ends.{end_of}
use Rattle.ground_views.specs.Questions.{edge_of}
use Rattle.tabulation_tables.specs.Lists.{edge_of_numbers, lists_of}
use Rattle.tabulation_tables.proofs.Edges.{edge_is}
use Rattle.tabulation.specs.Found.{Found}
use Rattle.tabulation.proofs.found_edges.Tabulation.at.Goals as goal

pub end-begin-requires : goal.end-begin-requires
end-begin-requires c =
    let t = c.self.inside.tables in
    let e = c.at-edge.result in
    let is = c.self.invariant.edges e.begin e.end (contains_at t.edges c.args.place e c.at-edge.ensures) in
    slice_get_within t.ends e.begin is.begin is.begin_at

pub end-end-requires : goal.end-end-requires
end-end-requires c =
    let t = c.self.inside.tables in
    let e = c.at-edge.result in
    let is = c.self.invariant.edges e.begin e.end (contains_at t.edges c.args.place e c.at-edge.ensures) in
    slice_get_within t.ends e.end is.end is.end_at

pub returns : goal.returns
returns c =
    let t = lists_of c.self.inside.tables in
    let e = c.at-edge.result in
    subst (λ (f : Found). slice_get f.edges c.args.place ≡ Some (edge_of (record { method = c.end-end.result.method; entry = c.end-begin.result.fact; spot = c.end-end.result.spot; fact = c.end-end.result.fact })))
    c.self.view_is
    (at_map (edge_of_numbers t) t.edges c.args.place e c.at-edge.ensures
    ∙ ap Some (edge_is t e.begin e.end (end_of c.end-begin.result) (end_of c.end-end.result) c.end-begin.ensures c.end-end.ensures))
