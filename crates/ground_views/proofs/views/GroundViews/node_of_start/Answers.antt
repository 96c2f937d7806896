use Rattle.std.proofs.Common.{◌≡◌, ◌<◌, ◌∙◌, List, Some, length, sym, ap, subst, arith}
use Rattle.std.specs.List.{slice_get}
use Rattle.std.proofs.lemmas.Option.{same_Some}
use Rattle.list_laws.proofs.Places.{contains_at, place_of}
use Rattle.op_model.specs.declared.node.Node.{Node}
use Rattle.ground_views.specs.Views.{AreStartWays}
use Rattle.ground_views.proofs.OneForOne.{stands_read, there_is}
use Rattle.ground_views.proofs.Seen.{none_at_start, seen_at_start, start_few, start_in_order}
use Rattle.ground_views.proofs.views.GroundViews.node_of_start.Goals as goal

pub place_of-requires : goal.place_of-requires
place_of-requires c = start_in_order c.args.question.now.ground.now c.args.question.now.entry c.args.self.now.start c.requires.views.start

pub returns-in_err-place-clause-none : goal.returns-in_err-place-clause-none
returns-in_err-place-clause-none c = rw c.from_residual.ensures (λ x w asked.
    let nodes = c.args.self.now.start.nodes in
    none_at_start c.args.question.now x w asked c.args.self.now.start c.requires.views.start c.args.node c.requires.start (λ n there offset.
    let place = place_of nodes n there in
    c.in_err-place.ensures.place place.0 (record { node = n; stands = place.1; is = offset })))

pub returns-clause-found : goal.returns-clause-found
returns-clause-found c =
    let q = c.args.question.now in
    let g = q.ground.now in
    let start = c.args.self.now.start in
    let place = c.in_ok-place.place in
    let n = c.index-as_slice-place.result in
    let ways = c.index.result.now in
    let long = ap length c.as_slice.ensures in
    let within = c.in_ok-place.ensures.within in
    let short : place < length c.as_slice.result.now = omega (arith, long, within) in
    let at : slice_get start.nodes place ≡ Some n =
    subst (λ (ns : List Node). slice_get ns place ≡ Some n) c.as_slice.ensures (stands_read c.as_slice.result.now place n short c.index-as_slice-place.is) in
    let stands = c.in_ok-place.ensures.place in
    let same : stands.node ≡ n = same_Some stands.node n (sym stands.stands ∙ at) in
    let beside = there_is (AreStartWays g) start.nodes c.args.self.now.start_ways.items place n c.requires.views.start_ways at in
    let are = c.requires.views.start_ways.each place n ways at (stands_read c.args.self.now.start_ways.items place ways beside c.index.ensures) in
    let there = contains_at start.nodes place n at in
    record {
      method = sym c.requires.start;
      offset = ap (λ (o : Node). o.offset) (sym same) ∙ stands.is;
      few = start_few g q.entry start c.requires.views.start n there;
      looked_at = λ x w asked. seen_at_start q x w asked start c.requires.views.start n there ways are;
    }
