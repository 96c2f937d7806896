use Rattle.std.proofs.Common.{codes, ◌≡◌, ◌≤◌, ◌++◌, ◌*◌, length, take}
use Rattle.std.specs.List.{flat_map}
use Rattle.edge_lines.specs.EdgeLines.{path_text}
use Rattle.certificate_lines.proofs.fact_lengths.rest_length.Given as goal

-- the paths so far are counted
abbrev pub invariant-loop-path : goal.invariant-loop-path
invariant-loop-path l = record {
  long : l.long ≡ length (flat_map (λ x. codes "," ++ path_text x) (take l.path-index l.rest));
  few : l.long ≤ 45 * l.path-index;
}
