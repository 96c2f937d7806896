-- Public contracts rest on this module.
-- Operations that lead to what the slots of their method hold or make.
use Rattle.op_model.specs.declared.op.Op.{Op}
use Rattle.op_model.specs.declared.op.Op.TheVariants.{Assign, Load, Store, LoadElement, StoreElement, LoadStatic, StoreStatic, New, NewArray, Constant, Call, Return, Throw, Cast, Probe}

-- It is no call and no load of a static field.
abbrev pub IsSimple : Op → Type 0
IsSimple (Assign changes) = Unit {0}
IsSimple (Load object field target) = Unit {0}
IsSimple (Store object field value) = Unit {0}
IsSimple (LoadElement array target) = Unit {0}
IsSimple (StoreElement array value) = Unit {0}
IsSimple (LoadStatic field target) = ⊥
IsSimple (StoreStatic field value) = Unit {0}
IsSimple (New site target) = Unit {0}
IsSimple (NewArray sites target) = Unit {0}
IsSimple (Constant site target) = Unit {0}
IsSimple (Call call) = ⊥
IsSimple (Return value) = Unit {0}
IsSimple (Throw value) = Unit {0}
IsSimple (Cast class slot) = Unit {0}
IsSimple (Probe slot) = Unit {0}
