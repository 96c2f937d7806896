use Rattle.std.proofs.Common.{◌⊎◌}
use Rattle.points_to_constraints.specs.Items.{Item}
use Rattle.points_to_constraints.specs.NodeItems.{CallNodeItem}
use Rattle.points_to_numbers.proofs.Adding.{adds_both, adds_same}
use Rattle.points_to_numbers.proofs.Growing.{grows_on}
use Rattle.points_to_methods.specs.Known.{names_at}
use Rattle.slot_names.proofs.ListPlaces.{stands_below}
use Rattle.points_to_methods.specs.CallParts.{ChosenItem, SelectingItem}
use Rattle.points_to_methods.proofs.NumberedSites.{adds_call}
use Rattle.points_to_methods.proofs.SelectedSites.{call_parts}
use Rattle.points_to_methods.proofs.calls.call_items.Goals as goal

pub select_items-requires-clause-numbered : goal.select_items-requires-clause-numbered
select_items-requires-clause-numbered c =
    let (n, at) = stands_below c.args.at.now.method.now.nodes c.args.node c.requires.there in
    let (site, is_site, stands) = c.in_ok-number.ensures.stands n at in
    (site, stands)

pub returns : goal.returns
returns c = λ n at op.
    let l = c.args.at.now.method.now in
    let call = c.args.call.now in
    let one = c.args.work.now.tables in
    let two = c.call_site.new.tables in
    let three = c.select_items.new.work.tables in
    let before = c.args.work.now.steps.items in
    let between = c.chosen_items.new.steps.items in
    let after = c.select_items.new.work.steps.items in
    let facts = c.in_ok-number.ensures in
    let (site, is_site, stands) = facts.stands n at in
    let chosen = c.in_ok-chosen_items.ensures two site stands in
    let selecting = c.in_ok-select_items.ensures n site at stands is_site in
    record {
      grows = grows_on one two three facts.grows selecting.grows;
      calls = adds_call l n call op one.calls two.calls three.calls c.in_ok-number.number.0 site is_site facts.added facts.one stands selecting.grows.calls selecting.calls;
      adds = adds_same three (λ (x : Item). ChosenItem site.at call.chosen x ⊎ SelectingItem call.kind site x) (CallNodeItem l.method l n call) before after
          (call_parts c.args.at.now.program.now l (names_at c.args.at.now) c.requires.known c.args.node n at call site is_site)
          (adds_both two three (ChosenItem site.at call.chosen) (SelectingItem call.kind site) before between after chosen selecting.grows selecting.adds);
    }
