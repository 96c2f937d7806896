use Rattle.std.proofs.Common.{◌≡◌, drop, map, string_bytes}
use Rattle.typestate.specs.Folders.{first_value}
use Rattle.typestate.proofs.folder.first_value.Given as goal

abbrev pub invariant-loop-word : goal.invariant-loop-word
invariant-loop-word l = first_value (map (λ word. string_bytes word) (drop l.word-index l.words)) ≡ first_value (map (λ word. string_bytes word) l.words)
