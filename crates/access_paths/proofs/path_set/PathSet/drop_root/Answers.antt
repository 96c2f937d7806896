use Rattle.std.proofs.Common.{not, ◌∙◌, ap, rules}
use Rattle.std.specs.List.{filter}
use Rattle.arrayvec.proofs.ArrayVecLemmas.{filter-from_retain}
use Rattle.access_paths.specs.Operations.{begins_at}
use Rattle.access_paths.specs.Paths.{Path}
use Rattle.access_paths.proofs.SetMembers.{filter_set}
use Rattle.access_paths.proofs.path_set.PathSet.drop_root.Goals as goal

pub invariant_of-result : goal.invariant_of-result
invariant_of-result c =
    let test = λ (x : Path). not (begins_at c.args.root x) in
    let kept = filter-from_retain _ test _ (λ x b f' y called. search rules) _ _ c.retain.ensures.filtered in
    filter_set test c.paths.inside.paths.items c.retain.new.self.items kept c.paths.invariant

pub returns : goal.returns
returns c =
    let test = λ (x : Path). not (begins_at c.args.root x) in
    filter-from_retain _ test _ (λ x b f' y called. search rules) _ _ c.retain.ensures.filtered ∙ ap (filter test) (c.paths.view_is ∙ c.copied.ensures)
