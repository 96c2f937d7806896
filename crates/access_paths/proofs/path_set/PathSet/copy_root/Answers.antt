use Rattle.std.proofs.Common.{◌++◌, List, ◌∙◌, ap}
use Rattle.access_paths.specs.Operations.{cut_of}
use Rattle.access_paths.specs.Paths.{Path, path_set}
use Rattle.access_paths.proofs.Gaining.{gained_copies}
use Rattle.access_paths.proofs.path_set.PathSet.copy_root.Goals as goal

pub returns : goal.returns
returns c =
    let set = c.args.self.now in
    c.gaining.ensures ∙ ap (λ (s : List Path). cut_of (path_set (set ++ s))) (gained_copies c.args.source c.args.target set)
