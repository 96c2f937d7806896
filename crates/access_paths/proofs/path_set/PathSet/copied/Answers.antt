use Rattle.std.proofs.Common.{◌≡◌, ◌≤◌, length, sym, ◌∙◌, ap, subst, arith}
use Rattle.std.proofs.lemmas.List.{take_all}
use Rattle.access_paths.specs.Sets.{IsPathSet}
use Rattle.access_paths.proofs.path_set.PathSet.copied.Goals as goal

pub invariant_of-result : goal.invariant_of-result
invariant_of-result c =
    let set = c.args.self.now in
    let all : length set ≤ c.loop-path.path-index = omega (arith, ap length c.as_slice-path-items.ensures.paths) in
    let same : c.loop-path.paths.items ≡ set = c.loop-path.invariant ∙ take_all c.loop-path.path-index set all in
    subst IsPathSet (sym same) (record { ordered = c.well_formed-2.ensures.ordered; few = c.well_formed-2.ensures.few })
