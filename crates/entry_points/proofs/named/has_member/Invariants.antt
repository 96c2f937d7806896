use Rattle.std.proofs.Common.{All, take}
use Rattle.jvm_model.specs.declared.class_file.Member.{Member}
use Rattle.entry_points.specs.Entries.{HasName}
use Rattle.entry_points.proofs.named.has_member.Given as goal

abbrev pub invariant-loop-member : goal.invariant-loop-member
invariant-loop-member l = record { none : All (λ (m : Member). HasName l.pool l.name m → ⊥) (take l.member-index l.members) }
