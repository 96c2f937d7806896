use Rattle.std.proofs.Common.{[], length, sym, ◌∙◌, ap, subst, arith}
use Rattle.access_paths.specs.Paths.{Path}
use Rattle.stage_views.specs.Views.{Gathers}
use Rattle.stage_flow.specs.Shapes.{goes_of, kept_path}
use Rattle.stage_flow.proofs.Gathered.{all_gathered, none_left_out}
use Rattle.stage_flow.proofs.change.PathChange.kept.Goals as goal

pub returns-then-not-takes_some : goal.returns-then-not-takes_some
returns-then-not-takes_some c =
    let code = c.args.self.now in
    let none = none_left_out (λ (x : Path). goes_of code.written code.leaving x.root) c.args.set.now (sym c.takes_some.ensures ∙ c.if-not-takes_some.true) in
    subst (Gathers c.whole.result) (sym none) c.whole.ensures.gathered

pub returns : goal.returns
returns c =
    all_gathered (kept_path c.args.self.now) c.args.set.now c.loop-path.path-index c.new-all.result c.loop-path.all
    (omega (arith, ap length c.as_slice-path-items.ensures.paths)) c.loop-path.invariant [] c.new-all.ensures
