-- Public contracts rest on this module.
-- The slots that an operation reads.
use Rattle.std.specs.Prelude.{ℕ, List, [], ◌∷◌}
use Rattle.std.specs.List.{flat_map}
use Rattle.std.specs.Option.{option_to_list}
use Rattle.op_model.specs.declared.op.Move.{Move}
use Rattle.op_model.specs.declared.op.Op.{Op}
use Rattle.op_model.specs.declared.op.Op.TheVariants.{Assign, Load, Store, LoadElement, StoreElement, LoadStatic, StoreStatic, New, NewArray, Constant, Call, Return, Throw, Cast, Probe}
use Rattle.op_model.specs.declared.op.Source.{Source}
use Rattle.op_model.specs.declared.op.Source.TheVariants.{Slot, Null, Primitive}
use Rattle.machine_nodes.specs.Slots.{argument_slots}

abbrev pub source_slots : Source → List ℕ
source_slots (Slot z) = z ∷ []
source_slots Null = []
source_slots Primitive = []

-- The source of each move, or the operands.
abbrev pub read_slots : Op → List ℕ
read_slots (Assign changes) = flat_map (λ (m : Move). source_slots m.source) changes
read_slots (Load object field target) = object ∷ []
read_slots (Store object field value) = object ∷ value ∷ []
read_slots (LoadElement array target) = array ∷ []
read_slots (StoreElement array value) = array ∷ value ∷ []
read_slots (LoadStatic field target) = []
read_slots (StoreStatic field value) = value ∷ []
read_slots (New site target) = []
read_slots (NewArray sites target) = []
read_slots (Constant site target) = []
read_slots (Call call) = argument_slots call.arguments
read_slots (Return value) = option_to_list value
read_slots (Throw value) = value ∷ []
read_slots (Cast class slot) = slot ∷ []
read_slots (Probe slot) = slot ∷ []
