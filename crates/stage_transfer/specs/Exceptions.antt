-- Public contracts rest on this module.
-- What happens to facts where an object is thrown at a node (JVMS 2.10): at a handler the local variables stay, and the first unit of the operand
-- stack is the object; without one all slots go.
use Rattle.std.specs.Prelude.{ℕ, nat_le, ◌||◌, List, [], ◌∷◌, ◌++◌, Option, Some, None, if◌then◌else◌}
use Rattle.op_model.specs.declared.lowered.LoweredMethod.{LoweredMethod}
use Rattle.op_model.specs.declared.node.Node.{Node}
use Rattle.op_model.specs.declared.op.Op.{Op}
use Rattle.op_model.specs.declared.op.Op.TheVariants.{Assign, Load, Store, LoadElement, StoreElement, LoadStatic, StoreStatic, New, NewArray, Constant, Call, Return, Throw, Cast, Probe}
use Rattle.access_paths.specs.declared.root.Root.{Root}
use Rattle.access_paths.specs.declared.root.Root.TheVariants.{Slot, Thrown}
use Rattle.access_paths.specs.Paths.{same_root}
use Rattle.stage_facts.specs.Facts.{SiteFact}
use Rattle.stage_transfer.specs.Settings.{Setting}
use Rattle.stage_transfer.specs.Changes.{Change, changed, copied, moved_to, slots_go, unwritten}
use Rattle.stage_transfer.specs.Operations.{every_slot, on_tuples}

-- What a throw throws stands in a slot. What another node throws has no slot.
abbrev pub thrown_slot : Op → Option ℕ
thrown_slot (Assign moves) = None
thrown_slot (Load object field target) = None
thrown_slot (Store object field value) = None
thrown_slot (LoadElement array target) = None
thrown_slot (StoreElement array value) = None
thrown_slot (LoadStatic field target) = None
thrown_slot (StoreStatic field value) = None
thrown_slot (New site target) = None
thrown_slot (NewArray sites target) = None
thrown_slot (Constant site target) = None
thrown_slot (Call call) = None
thrown_slot (Return value) = None
thrown_slot (Throw value) = Some value
thrown_slot (Cast class z) = None
thrown_slot (Probe z) = None

-- The root from which the handler gets the object: the slot of a throw; or what was thrown into the frame.
abbrev pub thrown_root : Option ℕ → Root
thrown_root None = Thrown
thrown_root (Some value) = Slot value

-- The slot that the handler gets holds what a throw's slot held; at another node, what was thrown into the frame.
abbrev pub caught_from : Setting → LoweredMethod → Node → Option ℕ → Root → List Root
caught_from w l n None r = if same_root Thrown r then Slot l.slots ∷ [] else []
caught_from w l n (Some value) r = moved_to w l n value (Slot l.slots) r

-- Into a handler: the operand stack goes, and its first unit gets the object. What was thrown into the frame goes, too.
abbrev pub catching : Setting → LoweredMethod → Node → Option ℕ → Change
catching w l n value = record {
  adds = copied (record { from = thrown_root value; to = Slot l.slots } ∷ []);
  goes = λ r. slots_go (nat_le l.slots) r || same_root Thrown r;
  doubles = λ r. unwritten w l n (nat_le l.slots) r ++ caught_from w l n value r;
}

-- Out of the method: all slots go. What was thrown into the frame stays thrown; at a throw the object takes its place.
abbrev pub unwinding : Option ℕ → Change
unwinding None = record { adds = λ set. []; goes = slots_go every_slot; doubles = λ r. [] }
unwinding (Some value) = record {
  adds = copied (record { from = Slot value; to = Thrown } ∷ []);
  goes = λ r. slots_go every_slot r || same_root Thrown r;
  doubles = λ r. [];
}

abbrev pub after_raise : Setting → LoweredMethod → Node → (handler : Option ℕ) → SiteFact → List SiteFact
after_raise w l n None fact = on_tuples (changed (unwinding (thrown_slot n.op))) fact
after_raise w l n (Some handler) fact = on_tuples (changed (catching w l n (thrown_slot n.op))) fact
