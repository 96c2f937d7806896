-- Public contracts rest on this module.
-- How the code of a method is divided into instructions (JVMS 4.7.3, 4.9.1), and what is wrong with one of them.
use Rattle.std.specs.Prelude.{◌≡◌, ℕ, ◌+◌, ◌<◌, Bool, false, ◌&&◌, ◌||◌, not, nat_eq, nat_le, nat_lt, List, [], ◌∷◌, length, Option, Some, None, Result, Ok, Err, if◌then◌else◌}
use Rattle.std.specs.List.{list_all, list_any}
use Rattle.jvm_model.specs.declared.code.Handler.{Handler}
use Rattle.jvm_model.specs.declared.pool.EntryKind.TheVariants as kinds
use Rattle.jvm_model.specs.declared.pool.PoolEntry.{PoolEntry}
use Rattle.jvm_model.specs.declared.reason.Reason.{Reason}
use Rattle.jvm_model.specs.declared.reason.Reason.TheVariants.{BadOpcode, BadTarget, BadLocal, Subroutine, BadIndex}
use Rattle.jvm_model.specs.Instructions.{DecodedInstruction, instruction_at}
use Rattle.jvm_model.specs.InstructionUses.{locals_fit, is_subroutine, leads_right, within_dimensions}
use Rattle.jvm_model.specs.Soundness.{leads_to}

-- ---- division

-- An instruction, and its offset in the code.
pub record Spot : Type 0 where
  pub offset : ℕ
  pub instruction : DecodedInstruction

abbrev pub within : List PoolEntry → Result DecodedInstruction Reason → Result DecodedInstruction Reason
within pool (Ok i) = if within_dimensions pool i then Ok i else Err BadOpcode
within pool (Err reason) = Err reason

-- The instruction at an offset, with no more dimensions than its array; or why none is there.
abbrev pub instruction_in : List PoolEntry → List ℕ → ℕ → Result DecodedInstruction Reason
instruction_in pool code offset = within pool (instruction_at code offset)

-- The instructions from an offset on, one after the other, and where they end: where the code does; or at the first
-- offset at which no instruction stands, and why.
pub data Divides (pool : List PoolEntry) (code : List ℕ) (stop : Option (ℕ × Reason)) : ℕ → List Spot → Type 0 where
  at_end : (offset : ℕ) (spots : List Spot) → offset ≡ length code → stop ≡ None → spots ≡ [] → Divides pool code stop offset spots
  stops : (offset : ℕ) (spots : List Spot) (reason : Reason) → offset < length code → instruction_in pool code offset ≡ Err reason
      → stop ≡ Some (offset, reason) → spots ≡ [] → Divides pool code stop offset spots
  goes_on : (offset : ℕ) (spots : List Spot) (i : DecodedInstruction) (others : List Spot) → offset < length code → instruction_in pool code offset ≡ Ok i
      → spots ≡ record { offset = offset; instruction = i } ∷ others → Divides pool code stop (offset + i.size) others → Divides pool code stop offset spots

-- ---- what is wrong with an instruction

-- An instruction begins at the offset.
abbrev pub starts : List Spot → ℕ → Bool
starts spots offset = list_any (λ (s : Spot). nat_eq s.offset offset) spots

-- The offset is not before the one at which the division ended early.
abbrev pub is_behind : Option (ℕ × Reason) → ℕ → Bool
is_behind None offset = false
is_behind (Some stop) offset = nat_le stop.0 offset

-- A branch leads to an instruction; where the division ended early, what is behind that is not judged. No branch leads
-- before the code.
abbrev pub is_target : List Spot → Option (ℕ × Reason) → Option ℕ → Bool
is_target spots stop None = false
is_target spots stop (Some offset) = starts spots offset || is_behind stop offset

-- The local variables of a method: their limit, and how many its parameters take, the receiver among them.
pub record Locals : Type 0 where
  pub limit : ℕ
  pub parameters : ℕ

-- The local variables that an instruction uses are there; and at the first one those of the parameters too.
abbrev pub has_locals : Locals → Spot → Bool
has_locals locals s = locals_fit locals.limit s.instruction && (not (nat_eq s.offset 0) || nat_le locals.parameters locals.limit)

-- What is wrong with an instruction: of several reasons the first in their order, a bad index after all others.
abbrev pub fault_of : List PoolEntry → Locals → List Spot → Option (ℕ × Reason) → Spot → Option Reason
fault_of pool locals spots stop s =
    if not (list_all (is_target spots stop) s.instruction.targets) then Some BadTarget
    else if not (has_locals locals s) then Some BadLocal
    else if is_subroutine s.instruction.row.flow then Some Subroutine
    else if not (leads_right pool s.instruction) then Some BadIndex
    else None

abbrev pub first_or : ℕ → Option Reason → Option (ℕ × Reason) → Option (ℕ × Reason)
first_or offset (Some reason) others = Some (offset, reason)
first_or offset None others = others

-- The first of these instructions with which something is wrong, and what; and else why the division ended early.
abbrev pub first_fault : (Spot → Option Reason) → Option (ℕ × Reason) → List Spot → Option (ℕ × Reason)
first_fault test stop [] = stop
first_fault test stop (s ∷ spots) = first_or s.offset (test s) (first_fault test stop spots)

-- ---- handlers

-- A handler covers some code, from one instruction to before another one or to the end of the code, begins at an
-- instruction, and takes each class or a class of the constant pool (JVMS 4.7.3).
abbrev pub is_handler : List PoolEntry → ℕ → List Spot → Handler → Bool
is_handler pool long spots h =
    nat_lt h.start h.finish && starts spots h.start && (starts spots h.finish || nat_eq h.finish long) && starts spots h.target
    && (nat_eq h.catch_type 0 || leads_to pool (kinds.Class ∷ []) h.catch_type)
