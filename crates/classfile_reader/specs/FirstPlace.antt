-- Public contracts rest on this module.
-- Which place of a class file is told: the first one of which the use does not hold.
use Rattle.std.specs.Prelude.{◌≡◌, ◌⊎◌, ℕ, List, [], ◌∷◌, Option, Some, None}
use Rattle.jvm_model.specs.declared.pool.PoolEntry.{PoolEntry}
use Rattle.jvm_model.specs.declared.reason.Reason.{Reason}
use Rattle.jvm_model.specs.declared.class_file.Member.{Member}
use Rattle.jvm_model.specs.Soundness.{Use, UseHolds, reason_of, PlacedUse, field_places, method_places}
use Rattle.classfile_reader.specs.declared.soundness.member.MemberKind.{MemberKind}
use Rattle.classfile_reader.specs.declared.soundness.member.MemberKind.TheVariants.{Field, Method}

-- The reason of the first use that does not hold, or none.
abbrev pub FirstUse : List PoolEntry → List Use → Option Reason → Type 0
FirstUse pool [] answer = answer ≡ None
FirstUse pool (u ∷ uses) answer = (UseHolds pool u × FirstUse pool uses answer) ⊎ ((UseHolds pool u → ⊥) × (answer ≡ Some (reason_of u)))

pub record IsFirstUse (pool : List PoolEntry) (uses : List Use) (answer : Option Reason) : Type 0 where
  pub is : FirstUse pool uses answer

-- The offset and the reason of the first place of which the use does not hold, or none.
abbrev pub FirstBreach : List PoolEntry → List PlacedUse → Option (ℕ × Reason) → Type 0
FirstBreach pool [] answer = answer ≡ None
FirstBreach pool (p ∷ places) answer =
    (UseHolds pool p.use_ × FirstBreach pool places answer) ⊎ ((UseHolds pool p.use_ → ⊥) × (answer ≡ Some (p.offset, reason_of p.use_)))

pub record IsFirstBreach (pool : List PoolEntry) (places : List PlacedUse) (answer : Option (ℕ × Reason)) : Type 0 where
  pub is : FirstBreach pool places answer

-- The places of a field or of a method.
abbrev pub member_places : MemberKind → ℕ → List Member → Member → List PlacedUse
member_places Field offset earlier m = field_places offset earlier m
member_places Method offset earlier m = method_places offset earlier m
