use Rattle.std.proofs.Common.{codes, ◌≡◌, ◌++◌, take}
use Rattle.std.specs.List.{flat_map}
use Rattle.edge_lines.specs.EdgeLines.{path_text}
use Rattle.edge_lines.proofs.path_texts.push_rest.Given as goal

abbrev pub invariant-loop-path : goal.invariant-loop-path
invariant-loop-path l = l.text.items ≡ l.initial.text.items ++ flat_map (λ x. codes "," ++ path_text x) (take l.path-index l.rest)
