use Rattle.std.proofs.Common.{◌<◌, ◌↔◌, Bool, List, [], ◌∷◌, get_or, length, take, ◌∙◌, ap, subst, arith}
use Rattle.std.specs.Prelude.{IsTrue}
use Rattle.std.proofs.lemmas.Option.{slice_get-get_or}
use Rattle.prune_stage.specs.StageOne.{IsSafe, picked}
use Rattle.prune_stage.proofs.Marking.{none_alone}
use Rattle.prune_stage.proofs.PrunedSites.{one_pruned}
use Rattle.prune_stage.proofs.pruning.prune_site.Goals as goal

pub returns : goal.returns
returns c = λ s at.
    let g = c.args.ground.now in
    let a = c.args.automaton.now in
    let sets = c.mark_methods.new.sets in
    let set = get_or sets 0 c.index-sets-0.result in
    let one : 0 < length sets = omega arith in
    let set_at = slice_get-get_or sets 0 c.index-sets-0.result one in
    let first = c.first.ensures ∙ ap (λ n. take n set.occurs) c.len.ensures in
    one_pruned g a c.args.site s at c.well_formed-2.ensures.sites c.well_formed-2.ensures.held (c.none.result ∷ []) sets
    (none_alone c.none.result c.none.ensures) c.mark_methods.ensures set set_at c.is_safe.result
    (subst (λ (occurs : List Bool). IsTrue c.is_safe.result ↔ IsSafe a (picked occurs a.events)) first c.is_safe.ensures)
