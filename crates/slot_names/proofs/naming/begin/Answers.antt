use Rattle.std.proofs.Common.{◌≡◌, None, replicate, rules}
use Rattle.slot_names.proofs.EnteredNodes.{IsNaming-start}
use Rattle.slot_names.proofs.ReachedNodes.{HasRoots-more, HasRoots-none}
use Rattle.slot_names.proofs.naming.begin.Goals as goal

pub loop-place-init : goal.loop-place-init
loop-place-init c =
    let made : c.in_ok-entries.entries.items ≡ replicate c.len-count.result None = c.in_ok-entries.ensures.items_if_clones_equal (λ y h. search rules) in
    record {
      naming = IsNaming-start c.args.method.now (record { entries = c.in_ok-entries.entries; order = c.new.result; rows = c.new-2.result }) c.len-count.result made c.len-count.ensures c.new.ensures.items;
      roots = HasRoots-none c.args.method.now c.args.arrivals.now (record { entries = c.in_ok-entries.entries; order = c.new.result; rows = c.new-2.result });
    }

pub loop-place-preserved : goal.loop-place-preserved
loop-place-preserved c = record {
  naming = c.in_ok-begin_at.ensures.naming;
  roots = HasRoots-more c.args.method.now c.args.arrivals.now c.loop-place.place c.loop-place.naming c.begin_at.new.naming c.in_ok-begin_at.ensures.grows c.loop-place.invariant.roots
      c.in_ok-begin_at.ensures.root;
}
