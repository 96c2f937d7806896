use Rattle.std.proofs.Common.{All, take}
use Rattle.jvm_model.specs.declared.program.NamedClass.{NamedClass}
use Rattle.entry_points.specs.Entries.{NamesMember}
use Rattle.entry_points.proofs.named.has_method_named.Given as goal

-- none of the files so far names it
abbrev pub invariant-loop-file : goal.invariant-loop-file
invariant-loop-file l = All (λ (f : NamedClass). NamesMember l.class l.method f → ⊥) (take l.file-index l.classes)
