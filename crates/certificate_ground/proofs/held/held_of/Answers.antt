use Rattle.std.proofs.Common.{arith, length, refl}
use Rattle.std.proofs.lemmas.Option.{slice_get_read}
use Rattle.list_laws.proofs.Places.{contains_at}
use Rattle.certificate_ground.specs.Held.{IsHeldBy, IsHeldIn}
use Rattle.certificate_ground.proofs.PairTables.{pairs_all, pairs_alone, pairs_more, pairs_start}
use Rattle.certificate_ground.proofs.held.held_of.Goals as goal

pub loop-line-init : goal.loop-line-init
loop-line-init c = record { pairs = pairs_start (IsHeldBy c.args.sites.now) c.args.lines.now _ _; few = omega (arith, c.new.ensures.len) }

pub add_line-requires-clause-named : goal.add_line-requires-clause-named
add_line-requires-clause-named c =
    let lines = c.args.lines.now in
    let k = c.loop-line.line-index in
    let at = slice_get_read lines (length lines) k c.line-item.result refl c.loop-line-test.true c.line-item.is in
    c.requires.each c.line-item.result (contains_at lines k c.line-item.result at)

pub loop-line-preserved : goal.loop-line-preserved
loop-line-preserved c =
    let lines = c.args.lines.now in
    let k = c.loop-line.line-index in
    let at = slice_get_read lines (length lines) k c.line-item.result refl c.loop-line-test.true c.line-item.is in
    record {
      pairs = pairs_more (IsHeldBy c.args.sites.now) lines k c.line-item.result at _ _ c.loop-line.held.places.keys c.loop-line.held.sites.groups.items c.add_line.new.held.places.keys
          c.add_line.new.held.sites.groups.items c.loop-line.invariant.pairs c.in_ok-add_line.ensures.pairs;
      few = c.in_ok-add_line.ensures.few;
    }

pub returns-clause-pairs : goal.returns-clause-pairs
returns-clause-pairs c =
    let lines = c.args.lines.now in
    let held = c.loop-line.held in
    pairs_alone (IsHeldIn c.args.sites.now lines) held.places.keys held.sites.groups.items c.new.result.keys c.new.ensures.empty c.new-2.result.groups.items c.new-2.ensures
    (pairs_all (IsHeldBy c.args.sites.now) lines c.loop-line.line-index c.loop-line-test.false c.new.result.keys c.new-2.result.groups.items held.places.keys held.sites.groups.items c.loop-line.invariant.pairs)
