use Rattle.std.proofs.Common.{◌≡◌, ◌+◌, ◌<◌, ◌++◌, [], ◌∷◌, List, Option, length, get_or, take, sym, ◌∙◌, ap, append-nil, arith}
use Rattle.std.specs.List.{filter_map}
use Rattle.std.proofs.lemmas.List.{take_more}
use Rattle.access_paths.specs.declared.cut.Cut.{Cut}
use Rattle.access_paths.specs.Gains.{gained, with_gain}
use Rattle.access_paths.specs.Operations.{cut_of}
use Rattle.access_paths.specs.Paths.{Path, path_set}
use Rattle.access_paths.proofs.Gaining.{gain-push}
use Rattle.access_paths.proofs.SetMembers.{path_set_same}
use Rattle.access_paths.proofs.path_set.PathSet.gaining.Goals as goal

pub loop-path-init : goal.loop-path-init
loop-path-init c =
    let set = c.args.self.now in
    c.whole-cut.ensures ∙ ap cut_of (sym (path_set_same set c.well_formed-2.ensures.ordered) ∙ ap path_set (sym (append-nil set)))

pub loop-path-preserved : goal.loop-path-preserved
loop-path-preserved c =
    let set = c.args.self.now in
    let gain = gained c.args.gain in
    let i = c.loop-path.path-index in
    let x = c.path-item.result in
    let inside : i < length set = omega (arith, ap length c.as_slice-path-items.ensures.paths) in
    let front : take (i + 1) set ≡ take i set ++ x ∷ [] =
    take_more set i x inside ∙ ap (λ (y : Path). take i set ++ y ∷ []) (sym (c.path-item.is ∙ ap (λ (s : List Path). get_or s i x) c.as_slice-path-items.ensures.paths)) in
    let step : c.gain.new.self ≡ with_gain (cut_of (path_set (set ++ filter_map gain (take i set)))) (gain x) =
    c.gain.ensures ∙ ap (λ (d : Cut). with_gain d c.of.result) c.loop-path.invariant
    ∙ ap (λ (o : Option Path). with_gain (cut_of (path_set (set ++ filter_map gain (take i set)))) o) c.of.ensures in
    step ∙ gain-push gain set (take i set) x ∙ ap (λ (s : List Path). cut_of (path_set (set ++ filter_map gain s))) (sym front)
