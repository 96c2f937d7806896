use Rattle.std.proofs.Common.{◌≡◌, ◌||◌, ◌++◌, Bool, List, sym, ◌∙◌, ap}
use Rattle.access_paths.specs.Operations.{cut_of}
use Rattle.access_paths.specs.Paths.{Path, path_set}
use Rattle.access_paths.proofs.Gaining.{gained_stores, long_stores}
use Rattle.access_paths.proofs.path_set.PathSet.extend.Goals as goal
use Rattle.access_paths.proofs.path_set.PathSet.extend.Goals.{then-has_long_store, else-has_long_store}

pub returns : goal.returns
returns c =
    let set = c.args.self.now in
    let kept = c.gaining-cut.ensures ∙ ap (λ (s : List Path). cut_of (path_set (set ++ s))) (gained_stores c.args.source c.args.object c.args.field c.args.depth set) in
    let long = c.has_long_store.ensures ∙ long_stores c.args.source c.args.object c.args.field c.args.depth set in
    let either : c.if-has_long_store.result ≡ (c.has_long_store.result || c.gaining-cut.result.dropped) =
    let or : Bool → Bool = λ b. b || c.gaining-cut.result.dropped in
    elim c.if-has_long_store.branch [
      | then-has_long_store w ↦ w.result-is ∙ w.if-has_long_store.true ∙ sym (ap or w.if-has_long_store.true)
      | else-has_long_store w ↦ w.result-is ∙ sym (ap or w.if-has_long_store.false)
    ] in
    let dropped = either ∙ (λ i. long i || (kept i).dropped) in
    λ i. record { set = (kept i).set; dropped = dropped i }
