use Rattle.std.proofs.Common.{◌≡◌, ◌++◌, length}
use Rattle.std.specs.List.{flat_map}
use Rattle.access_paths.specs.Followed.{listed}
use Rattle.edge_lines.specs.EdgeLines.{field_text}
use Rattle.edge_lines.proofs.path_texts.push_fields.Given as goal

abbrev pub invariant-loop-field : goal.invariant-loop-field
invariant-loop-field l = l.text.items ++ flat_map field_text (listed l.left) ≡ l.fn.text.items ++ flat_map field_text (listed l.fn.fields)

abbrev pub decreases-loop-field : goal.decreases-loop-field
decreases-loop-field l = length (listed l.left)
