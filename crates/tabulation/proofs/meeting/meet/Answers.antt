use Rattle.std.proofs.Common.{◌∙◌, [], ◌∷◌, Some, true, refl, sym, ap, subst}
use Rattle.std.proofs.lemmas.Option.{slice_get_within, same_Some}
use Rattle.std.proofs.lemmas.Result.{on_ok_weaker}
use Rattle.list_laws.proofs.Places.{contains_at}
use Rattle.edge_numbers.proofs.Reasons.{stand_more}
use Rattle.end_numbers.specs.Ends.{End, end_of}
use Rattle.tabulation_tables.specs.Lists.{edge_to, edges_of, lists_of, numbered}
use Rattle.ground_views.specs.Views.{FollowAt}
use Rattle.tabulation.proofs.Found.{concludes, found_at, met, met_none, met_start, no_node_at, no_node_by}
use Rattle.tabulation_tables.proofs.Edges.{edge_stands}
use Rattle.tabulation.proofs.Led.{exit_edge, exit_stands}
use Rattle.tabulation.proofs.Steps.{on_ok_both, stay_none, step_none}
use Rattle.tabulation.proofs.meeting.meet.Goals as goal

pub returns-in_default : goal.returns-in_default
returns-in_default c =
    let q = c.args.work.question.now in
    let t = lists_of c.args.tables.now in
    let m = c.args.meeting in
    let to = c.requires.exit in
    let is = c.requires.kept.right.shape.edges m.begin to.end (contains_at t.edges m.exit.0 (numbered m.begin to.end) to.at) in
    record {
      step = step_none q t c.requires.kept;
      stay = stay_none t;
      met =
          met_none q t m.begin m.caller m.exit.0 to.end is.begin (end_of c.end-called_at.result) is.end to.at is.begin_at c.end-called_at.ensures is.end_at
          (no_node_by q (end_of c.end-called_at.result) c.in_default.not-Node);
      end = tt;
    }

pub end-begun-requires : goal.end-begun-requires
end-begun-requires c =
    let t = lists_of c.args.tables.now in
    let m = c.args.meeting in
    let to = c.requires.exit in
    let is = c.requires.kept.right.shape.edges m.begin to.end (contains_at t.edges m.exit.0 (numbered m.begin to.end) to.at) in
    slice_get_within t.ends m.begin is.begin is.begin_at

pub returns-in_default-method-clause-step : goal.returns-in_default-method-clause-step
returns-in_default-method-clause-step c = step_none c.args.work.question.now (lists_of c.args.tables.now) c.requires.kept

pub returns-in_default-method-clause-stay : goal.returns-in_default-method-clause-stay
returns-in_default-method-clause-stay c = stay_none (lists_of c.args.tables.now)

pub returns-in_default-method-clause-met : goal.returns-in_default-method-clause-met
returns-in_default-method-clause-met c =
    let q = c.args.work.question.now in
    let t = lists_of c.args.tables.now in
    let m = c.args.meeting in
    let to = c.requires.exit in
    let is = c.requires.kept.right.shape.edges m.begin to.end (contains_at t.edges m.exit.0 (numbered m.begin to.end) to.at) in
    met_start q t m.begin m.caller m.exit.0 to.end is.begin (end_of c.end-called_at.result) is.end to.at is.begin_at c.end-called_at.ensures is.end_at
    (sym is.same ∙ ap (λ (e : End). e.method) (same_Some is.begin (end_of c.end-begun.result) (sym is.begin_at ∙ c.end-begun.ensures)) ∙ c.in_default-method.is)

pub returns-in_default-node-clause-step : goal.returns-in_default-node-clause-step
returns-in_default-node-clause-step c = step_none c.args.work.question.now (lists_of c.args.tables.now) c.requires.kept

pub returns-in_default-node-clause-stay : goal.returns-in_default-node-clause-stay
returns-in_default-node-clause-stay c = stay_none (lists_of c.args.tables.now)

pub returns-in_default-node-clause-met : goal.returns-in_default-node-clause-met
returns-in_default-node-clause-met c =
    let q = c.args.work.question.now in
    let t = lists_of c.args.tables.now in
    let m = c.args.meeting in
    let to = c.requires.exit in
    let is = c.requires.kept.right.shape.edges m.begin to.end (contains_at t.edges m.exit.0 (numbered m.begin to.end) to.at) in
    met_none q t m.begin m.caller m.exit.0 to.end is.begin (end_of c.end-called_at.result) is.end to.at is.begin_at c.end-called_at.ensures is.end_at
    (no_node_at q (end_of c.end-called_at.result) c.in-Node.offset c.in-Node.is c.in_default-node.ensures.none)

pub at-edge-requires : goal.at-edge-requires
at-edge-requires c = let m = c.args.meeting in slice_get_within c.args.tables.now.edges m.exit.0 (numbered m.begin c.requires.exit.end) c.requires.exit.at

pub end-ended-requires : goal.end-ended-requires
end-ended-requires c =
    let t = lists_of c.args.tables.now in
    let e = c.at-edge.result in
    let is = c.requires.kept.right.shape.edges e.begin e.end (contains_at t.edges c.args.meeting.exit.0 e c.at-edge.ensures) in
    slice_get_within t.ends e.end is.end is.end_at

pub lead_to_all-requires-clause-conclude : goal.lead_to_all-requires-clause-conclude
lead_to_all-requires-clause-conclude c = λ d there.
    let q = c.args.work.question.now in
    let t = lists_of c.args.tables.now in
    let m = c.args.meeting in
    let e = c.at-edge.result in
    let at = exit_stands t m.begin m.exit.0 c.requires.exit e c.at-edge.ensures in
    let a = end_of c.end-called_at.result in
    let begun = end_of c.end-begun.result in
    let ended = end_of c.end-ended.result in
    let cs = c.after_exit.new.conclusions.items in
    let is = c.requires.kept.right.shape.edges m.begin e.end (contains_at t.edges m.exit.0 (numbered m.begin e.end) at) in
    let other = exit_edge t m.begin e.end is begun ended c.end-begun.ensures c.end-ended.ensures c.in-Some.method c.in-Some.is in
    concludes q t m.caller a c.end-called_at.ensures (edge_to ended begun.fact ∷ []) cs []
    (found_at q a c.in-Node.offset c.in-Node.is c.in-Some-node.seen c.in-Some-node.ensures.found (edge_to ended begun.fact ∷ []) cs []
    (subst (λ (f : _). FollowAt q c.in-Some-node.seen a.fact (f ∷ []) cs []) other c.in_ok-after_exit.ensures))
    (Some m.exit) true (stand_more (edges_of t) m.exit.0 (edge_to ended begun.fact) (edge_stands t m.exit.0 m.begin e.end at begun ended c.end-begun.ensures c.end-ended.ensures) [] [] refl)
    d (rw (← c.as_slice.ensures.value) there)

pub returns-clause-met : goal.returns-clause-met
returns-clause-met c =
    let q = c.args.work.question.now in
    let t = lists_of c.args.tables.now in
    let new = lists_of c.lead_to_all.new.tables in
    let m = c.args.meeting in
    let e = c.at-edge.result in
    let at = exit_stands t m.begin m.exit.0 c.requires.exit e c.at-edge.ensures in
    let a = end_of c.end-called_at.result in
    let begun = end_of c.end-begun.result in
    let ended = end_of c.end-ended.result in
    let cs = c.after_exit.new.conclusions.items in
    let is = c.requires.kept.right.shape.edges m.begin e.end (contains_at t.edges m.exit.0 (numbered m.begin e.end) at) in
    let other = exit_edge t m.begin e.end is begun ended c.end-begun.ensures c.end-ended.ensures c.in-Some.method c.in-Some.is in
    on_ok_weaker c.lead_to_all.result (λ both.
    met q new m.begin m.caller m.exit.0 e.end begun a ended (both.0.grows.edges m.exit.0 (numbered m.begin e.end) at) (both.0.grows.ends m.begin _ c.end-begun.ensures)
    (both.0.grows.ends m.caller a c.end-called_at.ensures) (both.0.grows.ends e.end _ c.end-ended.ensures) cs
    (found_at q a c.in-Node.offset c.in-Node.is c.in-Some-node.seen c.in-Some-node.ensures.found (edge_to ended begun.fact ∷ []) cs []
    (subst (λ (f : _). FollowAt q c.in-Some-node.seen a.fact (f ∷ []) cs []) other c.in_ok-after_exit.ensures))
    (rw (← c.as_slice.ensures.value) both.1))
    (on_ok_both c.lead_to_all.result _ _ c.lead_to_all.ensures.step c.lead_to_all.ensures.lead)
