-- What a transfer does to a fact that is of no object: it stays as it is.
use Rattle.std.proofs.Common.{◌≡◌, ℕ, [], ◌∷◌, Option, None, Some, refl}
use Rattle.op_model.specs.declared.lowered.LoweredMethod.{LoweredMethod}
use Rattle.op_model.specs.declared.node.Node.{Node}
use Rattle.op_model.specs.declared.op.Op.{Op}
use Rattle.op_model.specs.declared.op.Op.TheVariants.{Assign, Load, Store, LoadElement, StoreElement, LoadStatic, StoreStatic, New, NewArray, Constant, Call, Return, Throw, Cast, Probe}
use Rattle.std.specs.Prelude.{map}
use Rattle.stage_facts.specs.Facts.{SiteFact, none_yet, some_yet, of_object}
use Rattle.stage_transfer.specs.Operations.{after_operation}
use Rattle.stage_transfer.specs.Settings.{Setting}
use Rattle.stage_transfer.specs.Stages.{finished, transfer_of}
use Rattle.edge_steps.specs.Parts.{GoesOn, IsOfNone, Stays}

pub raise_stays : (w : Setting) (l : LoweredMethod) (n : Node) (handler : Option ℕ) (f : SiteFact) → IsOfNone f → (transfer_of w).raise l n handler f ≡ f ∷ []
raise_stays w l n None none_yet is = refl
raise_stays w l n None some_yet is = refl
raise_stays w l n None (of_object t) is = absurd is
raise_stays w l n (Some offset) none_yet is = refl
raise_stays w l n (Some offset) some_yet is = refl
raise_stays w l n (Some offset) (of_object t) is = absurd is

none_stays : (w : Setting) (l : LoweredMethod) (n : Node) (op : Op) → GoesOn op → map (finished w) (after_operation w l n op none_yet) ≡ none_yet ∷ []
none_stays w l n (Assign moves) is = refl
none_stays w l n (Load object field target) is = refl
none_stays w l n (Store object field value) is = refl
none_stays w l n (LoadElement array target) is = refl
none_stays w l n (StoreElement array value) is = refl
none_stays w l n (LoadStatic field target) is = refl
none_stays w l n (StoreStatic field value) is = refl
none_stays w l n (New site target) is = absurd is
none_stays w l n (NewArray sites target) is = refl
none_stays w l n (Constant site target) is = refl
none_stays w l n (Call call) is = refl
none_stays w l n (Return value) is = refl
none_stays w l n (Throw value) is = absurd is
none_stays w l n (Cast class z) is = refl
none_stays w l n (Probe z) is = refl

some_stays : (w : Setting) (l : LoweredMethod) (n : Node) (op : Op) → GoesOn op → map (finished w) (after_operation w l n op some_yet) ≡ some_yet ∷ []
some_stays w l n (Assign moves) is = refl
some_stays w l n (Load object field target) is = refl
some_stays w l n (Store object field value) is = refl
some_stays w l n (LoadElement array target) is = refl
some_stays w l n (StoreElement array value) is = refl
some_stays w l n (LoadStatic field target) is = refl
some_stays w l n (StoreStatic field value) is = refl
some_stays w l n (New site target) is = absurd is
some_stays w l n (NewArray sites target) is = refl
some_stays w l n (Constant site target) is = refl
some_stays w l n (Call call) is = refl
some_stays w l n (Return value) is = refl
some_stays w l n (Throw value) is = absurd is
some_stays w l n (Cast class z) is = refl
some_stays w l n (Probe z) is = refl

of_none_stays : (w : Setting) (l : LoweredMethod) (n : Node) (f : SiteFact) → GoesOn n.op → IsOfNone f → (transfer_of w).next l n f ≡ f ∷ []
of_none_stays w l n none_yet goes is = none_stays w l n n.op goes
of_none_stays w l n some_yet goes is = some_stays w l n n.op goes
of_none_stays w l n (of_object t) goes is = absurd is

pub next_stays : (w : Setting) (l : LoweredMethod) (n : Node) (f : SiteFact) → Stays n.op f → (transfer_of w).next l n f ≡ f ∷ []
next_stays w l n f is = of_none_stays w l n f is.goes_on is.of_none
