use Rattle.std.proofs.Common.{◌≡◌, List, sym, subst, arith}
use Rattle.std.specs.List.{Contains}
use Rattle.std.proofs.lemmas.Bool.{false≢true}
use Rattle.stage_edges.specs.Rules.{Edge}
use Rattle.ground_views.specs.declared.path_edge.PathEdge.{PathEdge}
use Rattle.ground_views.specs.Questions.{edge_of, edges_in}
use Rattle.edge_closure.proofs.Lists.{adds_none, adds_one, count_edges, grows_by, grows_none}
use Rattle.edge_closure.proofs.taking.take.Goals as goal

pub returns-in_err-push-clause-adds : goal.returns-in_err-push-clause-adds
returns-in_err-push-clause-adds c = rw c.in_err-push.ensures.items (adds_none (λ (e : Edge). e ≡ edge_of c.args.edge) (edges_in c.args.edges.now.items))

pub returns-then-len-limit-clause-adds : goal.returns-then-len-limit-clause-adds
returns-then-len-limit-clause-adds c =
    rw c.in_ok-push.ensures.items (adds_one c.args.edges.now.items c.args.edge (λ there.
    false≢true (c.if-is_among.ensures.1 (subst (λ (edges : List PathEdge). Contains (edges_in edges) (edge_of c.args.edge)) (sym c.deref.ensures.value) there))))

pub returns-clause-adds : goal.returns-clause-adds
returns-clause-adds c =
    rw c.in_ok-push.ensures.items (adds_one c.args.edges.now.items c.args.edge (λ there.
    false≢true (c.if-is_among.ensures.1 (subst (λ (edges : List PathEdge). Contains (edges_in edges) (edge_of c.args.edge)) (sym c.deref.ensures.value) there))))

pub returns-clause-roomy : goal.returns-clause-roomy
returns-clause-roomy c =
    let new = adds_one c.args.edges.now.items c.args.edge (λ there.
    false≢true (c.if-is_among.ensures.1 (subst (λ (edges : List PathEdge). Contains (edges_in edges) (edge_of c.args.edge)) (sym c.deref.ensures.value) there))) in
    let counted = count_edges c.push.new.self.items in
    let short = c.if-len-limit.false in
    let count = c.len.ensures in
    record { apart = rw c.in_ok-push.ensures.items (new.apart c.requires.apart); room = omega (arith, counted, short, count) }

pub returns-in_err-push-clause-grows : goal.returns-in_err-push-clause-grows
returns-in_err-push-clause-grows c = rw c.in_err-push.ensures.items (grows_none (edges_in c.args.edges.now.items))

pub returns-then-len-limit-clause-grows : goal.returns-then-len-limit-clause-grows
returns-then-len-limit-clause-grows c =
    grows_by (λ (e : Edge). e ≡ edge_of c.args.edge) (edges_in c.args.edges.now.items) (edges_in c.push.new.self.items) (returns-then-len-limit-clause-adds c)

pub returns-clause-grows : goal.returns-clause-grows
returns-clause-grows c = grows_by (λ (e : Edge). e ≡ edge_of c.args.edge) (edges_in c.args.edges.now.items) (edges_in c.push.new.self.items) (returns-clause-adds c)
