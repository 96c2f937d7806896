use Rattle.std.proofs.Common.{◌<◌, [], List, length, get_or, ◌∙◌, ap, arith}
use Rattle.access_paths.specs.Paths.{Path}
use Rattle.stage_flow.specs.Stores.{given_path}
use Rattle.stage_flow.proofs.Gathered.{all_gathered, more_gathered}
use Rattle.stage_flow.proofs.store.FieldStore.gathered.Goals as goal

pub loop-path-preserved : goal.loop-path-preserved
loop-path-preserved g c w l n is knows =
    let set = c.args.set.now in
    let i = c.loop-path.path-index in
    let x = c.path-item.result in
    let inside : i < length set = omega (arith, ap length c.as_slice-path-items.ensures.paths) in
    more_gathered (given_path w l n c.args.self.now) set i x c.new-all.result c.loop-path.all c.give.new.all inside
    (c.path-item.is ∙ ap (λ (ps : List Path). get_or ps i x) c.as_slice-path-items.ensures.paths)
    (c.loop-path.invariant w l n is knows) (c.give.ensures w l n is knows)

pub returns : goal.returns
returns g c w l n is knows =
    all_gathered (given_path w l n c.args.self.now) c.args.set.now c.loop-path.path-index c.new-all.result c.loop-path.all
    (omega (arith, ap length c.as_slice-path-items.ensures.paths)) (c.loop-path.invariant w l n is knows) [] c.new-all.ensures
