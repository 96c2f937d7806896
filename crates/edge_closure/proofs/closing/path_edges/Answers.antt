use Rattle.std.proofs.Common.{◌≡◌, ◌∙◌, List, [], sym, subst}
use Rattle.std.specs.List.{All, Contains}
use Rattle.std.proofs.lemmas.List.Elements.{All-nil}
use Rattle.std.proofs.lemmas.Option.{none-some}
use Rattle.std.proofs.lemmas.Result.{err_from_is_err_and}
use Rattle.least_sets.specs.Rules.{IsDerivable, IsWithoutDoubles}
use Rattle.ground.specs.Findings.{gives_listed}
use Rattle.stage_transfer.specs.Stages.{transfer_of}
use Rattle.stage_edges.specs.Rules.{Edge}
use Rattle.ground_views.specs.declared.path_edge.PathEdge.{PathEdge}
use Rattle.ground_views.specs.Questions.{GroundInstance, edge_of, edges_in}
use Rattle.edge_closure.specs.Tried.{Adds}
use Rattle.ground_views.proofs.Ends.{start_derivable}
use Rattle.edge_closure.proofs.Ends.{full_end, views_end}
use Rattle.edge_closure.proofs.Lists.{sound_by}
use Rattle.ground_views.proofs.Shapes.{start_edge}
use Rattle.edge_closure.proofs.closing.path_edges.Goals as goal

-- what is taken in first is derivable
sound_start : (I : List Edge → Edge → Type 0) (old new : List PathEdge) (e : PathEdge) → old ≡ [] → edge_of e ≡ start_edge → IsDerivable I start_edge
    → Adds (λ (f : Edge). f ≡ edge_of e) (edges_in old) (edges_in new) → All (IsDerivable I) (edges_in new)
sound_start I old new e none is derivable adds =
    (sound_by I (λ (f : Edge). f ≡ edge_of e) (edges_in old) (edges_in new) adds (λ all f same. subst (IsDerivable I) (sym (same ∙ is)) derivable)).sound
    (subst (λ (edges : List PathEdge). All (IsDerivable I) (edges_in edges)) (sym none) (All-nil (IsDerivable I)))

nothing_apart : (edges : List PathEdge) → edges ≡ [] → IsWithoutDoubles (edges_in edges)
nothing_apart edges none = subst (λ (es : List PathEdge). IsWithoutDoubles (edges_in es)) (sym none) (λ e i j at also. absurd (none-some e at))

pub returns-in_err-views-clause-end : goal.returns-in_err-views-clause-end
returns-in_err-views-clause-end c =
    let e = err_from_is_err_and c.from_residual.result c.from_residual.ensures.1 in
    rw (e.1, e.2) (views_end c.args.question.now c.in_err-views.field-0.0 c.in_err-views.ensures.end)

pub returns-in_err-take-clause-end : goal.returns-in_err-take-clause-end
returns-in_err-take-clause-end c =
    let q = c.args.question.now in
    let g = q.ground.now in
    let e = err_from_is_err_and c.from_residual-in_err-take.result c.from_residual-in_err-take.ensures.1 in
    rw (e.1, e.2) (full_end q (edges_in c.take.new.edges.items) (λ x w asked.
    sound_start (GroundInstance q x w) c.new-edges.result.items c.take.new.edges.items c.start_edge.result c.new-edges.ensures.items c.start_edge.ensures
    (start_derivable x (gives_listed g.methods) (Contains g.facts) (transfer_of w)) c.take.ensures.adds)
    (c.take.ensures.grows.apart (nothing_apart c.new-edges.result.items c.new-edges.ensures.items)) c.in_err-take.field-0.0
    c.in_err-take.ensures.end)

pub returns-in_err-close-clause-end : goal.returns-in_err-close-clause-end
returns-in_err-close-clause-end c =
    let q = c.args.question.now in
    let g = q.ground.now in
    let e = err_from_is_err_and c.from_residual-in_err-close.result c.from_residual-in_err-close.ensures.1 in
    rw (e.1, e.2) (full_end q (edges_in c.close.new.edges.items) (λ x w asked.
    (c.close.ensures.sound.each x w asked).sound
    (sound_start (GroundInstance q x w) c.new-edges.result.items c.take.new.edges.items c.start_edge.result c.new-edges.ensures.items c.start_edge.ensures
    (start_derivable x (gives_listed g.methods) (Contains g.facts) (transfer_of w)) c.take.ensures.adds))
    (c.close.ensures.grows.apart (c.take.ensures.grows.apart (nothing_apart c.new-edges.result.items c.new-edges.ensures.items))) c.in_err-close.field-0.0 c.in_err-close.ensures.end)

pub returns-clause-edges : goal.returns-clause-edges
returns-clause-edges c = λ x w asked.
    let q = c.args.question.now in
    let g = q.ground.now in
    record {
      least = record {
        closed = (c.in_ok-close.ensures.closed.each x w asked).closed;
        derivable =
            (c.close.ensures.sound.each x w asked).sound
            (sound_start (GroundInstance q x w) c.new-edges.result.items c.take.new.edges.items c.start_edge.result c.new-edges.ensures.items c.start_edge.ensures
            (start_derivable x (gives_listed g.methods) (Contains g.facts) (transfer_of w)) c.take.ensures.adds);
      };
      apart = c.in_ok-close.ensures.roomy.apart;
    }
