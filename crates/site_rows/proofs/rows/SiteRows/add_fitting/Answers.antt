use Rattle.std.proofs.Common.{◌<◌, ℕ, length, refl, arith}
use Rattle.std.proofs.lemmas.Option.{slice_get_read}
use Rattle.bit_rows.specs.Sets.{IsInBoth}
use Rattle.site_rows.proofs.Gaining.{empty_or_not, fresh_gained, gained, pairs_gained, waiting_gained, within_gained}
use Rattle.site_rows.proofs.rows.SiteRows.add_fitting.Goals as goal

pub returns-then-gain-limit-clause-gains : goal.returns-then-gain-limit-clause-gains
returns-then-gain-limit-clause-gains c =
    let rows = c.reach.new.rows.items in
    let row = c.index_mut-row.result.now in
    let within : c.args.place < length rows = c.in_ok-reach.ensures.room in
    let stands = slice_get_read rows (length rows) c.args.place row refl within c.index_mut-row.ensures.value in
    gained c.args.self.now.rows.items rows c.in_ok-reach.ensures.same c.args.place row c.add_fitting.new.self within stands (IsInBoth c.args.sites.now c.args.mask.now) c.in_ok-gain.ensures.held c.in_ok-gain.ensures.fresh

pub returns-clause-gains : goal.returns-clause-gains
returns-clause-gains c =
    let rows = c.reach.new.rows.items in
    let row = c.index_mut-row.result.now in
    let within : c.args.place < length rows = c.in_ok-reach.ensures.room in
    let stands = slice_get_read rows (length rows) c.args.place row refl within c.index_mut-row.ensures.value in
    gained c.args.self.now.rows.items rows c.in_ok-reach.ensures.same c.args.place row c.add_fitting.new.self within stands (IsInBoth c.args.sites.now c.args.mask.now) c.in_ok-gain.ensures.held c.in_ok-gain.ensures.fresh

pub returns-clause-sound : goal.returns-clause-sound
returns-clause-sound c = λ _.
    let old = c.args.self.now.rows.items in
    let rows = c.reach.new.rows.items in
    let row = c.index_mut-row.result.now in
    let new = c.add_fitting.new.self in
    let same = c.in_ok-reach.ensures.same in
    let place = c.args.place in
    let P : ℕ → Type 0 = IsInBoth c.args.sites.now c.args.mask.now in
    let within : place < length rows = c.in_ok-reach.ensures.room in
    let stands = slice_get_read rows (length rows) place row refl within c.index_mut-row.ensures.value in
    let held = c.in_ok-gain.ensures.held in
    let fresh = c.in_ok-gain.ensures.fresh in
    let count = c.in_ok-gain.gain.count in
    let pairs = pairs_gained old rows same place row new within stands P held fresh count c.in_ok-gain.ensures.held_count in
    let more = fresh_gained old rows same place row new within stands P held fresh count c.in_ok-gain.ensures.fresh_count in
    record {
      counted = (let was = c.requires.sound.counted in omega arith);
      passed = (let was = c.requires.sound.passed in omega arith);
      within = within_gained old _ _ (gained old rows same place row new within stands P held fresh) c.requires.sound.within;
      waiting = waiting_gained old rows same place row new within stands P held fresh c.args.self.now.waiting.items c.wait_if.new.waiting.items c.requires.sound.waiting c.in_ok-wait_if.ensures.kept
          (λ idle some. c.in_ok-wait_if.ensures.there (c.in_ok-gain.ensures.wakes idle some)) (empty_or_not row.fresh);
    }
