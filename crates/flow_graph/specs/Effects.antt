-- Public contracts rest on this module.
-- How many units of the operand stack an instruction pops and pushes (JVMS 2.6.2, 6.5).
use Rattle.std.specs.Prelude.{◌≡◌, ℕ, List, [], length, Option, Some, None, option_and_then}
use Rattle.std.specs.List.{AllZip}
use Rattle.jvm_model.specs.declared.code.Instruction.{Instruction as Given}
use Rattle.jvm_model.specs.declared.code.PlacedInstruction.{PlacedInstruction}
use Rattle.jvm_model.specs.declared.pool.PoolEntry.{PoolEntry}
use Rattle.jvm_model.specs.declared.pool.PoolEntry.TheVariants.{InvokeDynamic}
use Rattle.jvm_model.specs.Instructions.{DecodedInstruction, instruction, IsRowAt, HasDescriptorUnits}
use Rattle.jvm_model.specs.Lookups.{Signature, entry_at, signature_at}
use Rattle.jvm_model.specs.Table.{Row, row_of, UnitKind, Action, refused}
use Rattle.flow_graph.specs.declared.effect.Effect.{Effect}

-- The instruction with the row of its opcode.
abbrev pub with_row : Given → Row → DecodedInstruction
with_row i r = instruction i.opcode r i.operand i.dimensions [] 0

-- The name and the descriptor that an InvokeDynamic entry has (JVMS 4.4.10).
abbrev pub site_in : List PoolEntry → PoolEntry → Option Signature
site_in pool (InvokeDynamic bootstrap signature) = signature_at pool signature
site_in pool _ = None

abbrev pub site_at : List PoolEntry → ℕ → Option Signature
site_at pool index = option_and_then (site_in pool) (entry_at pool index)

-- invokedynamic pops its arguments and pushes its result, as its descriptor says (JVMS 6.5.invokedynamic).
pub record IsSiteEffect (pool : List PoolEntry) (i : Given) (e : Effect) : Type 0 where
  pub signature : Signature
  pub named : site_at pool i.operand ≡ Some signature
  pub parameters : List UnitKind
  pub results : List UnitKind
  pub units : HasDescriptorUnits signature.descriptor parameters results
  pub effect_is : e ≡ record { pops = length parameters; pushes = length results }

-- Any other instruction pops and pushes the units of its row, with what the constant pool says of them.
pub record IsRowEffect (pool : List PoolEntry) (i : Given) (r : Row) (e : Effect) : Type 0 where
  pub resolved : Row
  pub is_row : IsRowAt pool (with_row i r) resolved
  pub effect_is : e ≡ record { pops = length resolved.pops; pushes = length resolved.pushes }

-- Of the actions that the table refuses, only invokedynamic leads anywhere.
abbrev pub IsEffectBy : Action → List PoolEntry → Given → Row → Effect → Type 0
IsEffectBy refused pool i r e = IsSiteEffect pool i e
IsEffectBy _ pool i r e = IsRowEffect pool i r e

-- The instruction pops and pushes so many units.
pub record HasEffect (pool : List PoolEntry) (i : Given) (e : Effect) : Type 0 where
  pub row : Row
  pub of_opcode : row_of i.opcode ≡ Some row
  pub is_effect : IsEffectBy row.action pool i row e

-- So many units, for each of the instructions.
abbrev pub HaveEffects : List PoolEntry → List PlacedInstruction → List Effect → Type 0
HaveEffects pool instructions effects = AllZip (λ (p : PlacedInstruction) (e : Effect). HasEffect pool p.instruction e) instructions effects
