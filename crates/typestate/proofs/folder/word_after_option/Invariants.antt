use Rattle.std.proofs.Common.{◌≡◌, drop, map, string_bytes}
use Rattle.typestate.specs.Folders.{word_after_option}
use Rattle.typestate.proofs.folder.word_after_option.Given as goal

abbrev pub invariant-loop-place : goal.invariant-loop-place
invariant-loop-place l = word_after_option (map (λ word. string_bytes word) (drop l.place l.words)) ≡ word_after_option (map (λ word. string_bytes word) l.words)
