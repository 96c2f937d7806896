-- The sets of a work list, of which the rows have the pairs.
use Rattle.std.proofs.Common.{inl, inr, List, ◌++◌}
use Rattle.std.specs.List.{Contains}
use Rattle.std.proofs.lemmas.List.Elements.{Contains-append_cases, Contains-append_right}
use Rattle.jvm_model.specs.declared.number.SiteNo.{SiteNo}
use Rattle.jvm_model.specs.declared.number.MethodNo.{MethodNo}
use Rattle.op_model.specs.declared.node.NodeRef.{NodeRef}
use Rattle.grouped_lists.specs.declared.groups.Groups.{Groups}
use Rattle.points_to_numbers.specs.declared.item.Item.{Item}
use Rattle.points_to_numbers.specs.declared.item.Item.TheVariants.{Holds, Runs, Calls}
use Rattle.points_to_numbers.specs.Numbered.{Numbered}
use Rattle.points_to.specs.declared.queue.Queue.{Queue}
use Rattle.points_to.specs.Queues.{IsHeld, IsOther, items_of, pair_item, state_of}
use Rattle.points_to.proofs.QueueItems.{held_listed, no_other, pair_held}
use Rattle.site_rows.specs.Listed.{listed}
use Rattle.call_graph.specs.Rows.{AddsRows}
use Rattle.call_graph.specs.Sets.{AreSetsOf, IsCalled}
use Rattle.call_graph.specs.declared.sets.Sets.{Sets}

module _ (n : Numbered) (q : Queue) where
  abbrev pairs : List Item
  pairs = listed pair_item q.rows.rows.items

  pub behind : (i : Item) → Contains q.others.keys i → Contains (items_of q) i
  behind i there = Contains-append_right pairs q.others.keys i there

  -- what is no pair is among the others
  among : (i : Item) → IsOther i → Contains (items_of q) i → Contains q.others.keys i
  among i other there = elim (Contains-append_cases pairs q.others.keys i there) [
    | inl pair ↦ absurd (no_other q.rows.rows.items i pair other)
    | inr behind ↦ behind
  ]

  to_called : (key : NodeRef) (target : MethodNo) → IsCalled n q.others.keys key target → IsCalled n (items_of q) key target
  to_called key target (call, site, there, stands, is) = (call, site, behind (Calls call target) there, stands, is)

  from_called : (key : NodeRef) (target : MethodNo) → IsCalled n (items_of q) key target → IsCalled n q.others.keys key target
  from_called key target (call, site, there, stands, is) = (call, site, among (Calls call target) tt there, stands, is)

  pub queue_sets : (old : Sets) (sites : Groups SiteNo) → AreSetsOf n q.others.keys old → AddsRows q.rows.rows.items old.sites.groups.items sites.groups.items
      → AreSetsOf n (items_of q) (record { sites = sites; running = old.running; calls = old.calls; targets = old.targets })
  queue_sets old sites sets adds = record {
    holds = λ place site. (
      (λ there. elim ((adds.each place site).0 there) [
        | inl was ↦ behind (Holds (record { 0 = place }) site) ((sets.holds place site).0 was)
        | inr is ↦ held_listed q (Holds (record { 0 = place }) site) (record { there = is })
      ]),
      (λ there. (adds.each place site).1 (elim (Contains-append_cases pairs q.others.keys (Holds (record { 0 = place }) site) there) [
        | inl pair ↦ inr (let held : IsHeld (state_of q) (Holds (record { 0 = place }) site) = pair_held (state_of q) (Holds (record { 0 = place }) site) pair in held.there)
        | inr other ↦ inl ((sets.holds place site).1 other)
      ])),
    );
    runs = λ m. ((λ there. behind (Runs m) ((sets.runs m).0 there)), (λ there. (sets.runs m).1 (among (Runs m) tt there)));
    targets = λ key target. ((λ t. to_called key target ((sets.targets key target).0 t)), (λ c. (sets.targets key target).1 (from_called key target c)));
    listed = sets.listed;
    called = sets.called;
  }
