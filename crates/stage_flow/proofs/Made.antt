-- The changes of the code are those of the definitions.
use Rattle.std.proofs.Common.{◌≡◌, ℕ, nat_eq, nat_le, Bool, true, false, cond, not, ◌||◌, List, [], ◌∷◌, ◌++◌, map, Option, Some, None, refl, sym, ◌∙◌, ap, subst, append-nil, if◌then◌else◌, arith}
use Rattle.std.specs.List.{Contains, filter, flat_map}
use Rattle.std.specs.Option.{option_to_list}
use Rattle.std.proofs.lemmas.Bool.{eq-eqb, false≢true, le-leb, or_from, or_left, or_right}
use Rattle.list_laws.proofs.Members.{contained_in_map, contains_map, contains_none, contains_only}
use Rattle.jvm_model.specs.declared.number.FieldNo.{FieldNo}
use Rattle.machine_nodes.specs.Slots.{argument_slots}
use Rattle.op_model.specs.declared.lowered.LoweredMethod.{LoweredMethod}
use Rattle.op_model.specs.declared.node.Node.{Node}
use Rattle.op_model.specs.declared.op.Call.{Call as NodeCall}
use Rattle.op_model.specs.declared.op.Move.{Move}
use Rattle.access_paths.specs.declared.root.Root.{Root}
use Rattle.access_paths.specs.declared.root.Root.TheVariants.{Slot, Static, Returned, Thrown}
use Rattle.access_paths.specs.Paths.{Path, same_root}
use Rattle.stage_transfer.specs.Settings.{Setting, alike, among}
use Rattle.stage_transfer.specs.Changes.{Change, copied, copying, moved_to, slots_go, unwritten}
use Rattle.stage_transfer.specs.Calls.{giving, written_by}
use Rattle.stage_transfer.specs.Exceptions.{catching, caught_from, thrown_root, unwinding}
use Rattle.stage_transfer.specs.Operations.{assigning, every_slot, receiving, returning, storing_static, target_of}
use Rattle.stage_transfer_laws.proofs.Members.{among_those}
use Rattle.stage_flow.specs.declared.change.PathChange.{PathChange}
use Rattle.stage_flow.specs.declared.gain.Gain.{Gain}
use Rattle.stage_flow.specs.declared.gain.Gain.TheVariants.{Nothing, Copy, Hand, Load}
use Rattle.stage_flow.specs.declared.written.Written.{Written}
use Rattle.stage_flow.specs.declared.written.Written.TheVariants as slots
use Rattle.stage_flow.specs.Shapes.{adds_of, change_of, copy_of, goes_of, hand_of, handed_to, loading, more_doubles, root_copy, targets_of, written_of, IsProper, Makes}

slot_is : (a b : ℕ) → Slot a ≡ Slot b → a ≡ b
slot_is a b e = cc

-- A change is given by what it does to each set and each root.
pub made_by : (w : Setting) (l : LoweredMethod) (n : Node) (code : PathChange) (c : Change) → IsProper code
    → ((set : List Path) → adds_of code.gain set ≡ c.adds set)
    → ((r : Root) → goes_of code.written code.leaving r ≡ c.goes r)
    → ((r : Root) → unwritten w l n (written_of code.written) r ++ more_doubles w l n code.gain r ≡ c.doubles r)
    → Makes w l n code c
made_by w l n code c proper adds goes doubles = record {
  proper = proper;
  same = λ i. record { adds = λ set. adds set i; goes = λ r. goes r i; doubles = λ r. doubles r i };
}

-- ---- slots are written

no_target : (written : Written) → IsProper (record { written = written; leaving = None; gain = Nothing })
no_target written = record { writes = λ z there. absurd (contains_none (Slot z) there); stays = λ z free. free }

pub made_writing : (w : Setting) (l : LoweredMethod) (n : Node) (written : Written)
    → Makes w l n (record { written = written; leaving = None; gain = Nothing })
    (record { adds = λ set. []; goes = slots_go (written_of written); doubles = unwritten w l n (written_of written) })
made_writing w l n written =
    made_by w l n (record { written = written; leaving = None; gain = Nothing })
    (record { adds = λ set. []; goes = slots_go (written_of written); doubles = unwritten w l n (written_of written) })
    (no_target written) (λ set. refl) (λ r. refl) (λ r. append-nil (unwritten w l n (written_of written) r))

-- the only target is written
target_written : (target z : ℕ) → Contains (Slot target ∷ []) (Slot z) → z ≡ target
target_written target z there = sym (slot_is target z (contains_only (Slot target) (Slot z) there))

pub made_assigning : (w : Setting) (l : LoweredMethod) (n : Node) (code : PathChange) (moves : List Move)
    → ((z : ℕ) → Contains (targets_of code.gain) (Slot z) → Contains (map (λ (m : Move). Slot m.target) moves) (Slot z))
    → change_of w l n code ≡ assigning w l n moves → code.leaving ≡ None → ((z : ℕ) → written_of code.written z ≡ among (map target_of moves) z)
    → Makes w l n code (assigning w l n moves)
made_assigning w l n code moves targets same none written = record {
  proper = record {
    writes = λ z there.
        let found = contained_in_map (λ (m : Move). Slot m.target) moves (Slot z) (targets z there) in
        written z ∙ among_those (map target_of moves) z
        (subst (λ (y : ℕ). Contains (map target_of moves) y) (slot_is found.0.target z found.2) (contains_map target_of moves found.0 found.1));
    stays = λ z free. ap (λ (q : Option Root). goes_of code.written q (Slot z)) none ∙ free;
  };
  same = same;
}

pub made_loading : (w : Setting) (l : LoweredMethod) (n : Node) (object : ℕ) (field : FieldNo) (target : ℕ)
    → Makes w l n (record { written = slots.Two object target; leaving = None; gain = Load object field target }) (loading w l n object field target)
made_loading w l n object field target =
    made_by w l n (record { written = slots.Two object target; leaving = None; gain = Load object field target }) (loading w l n object field target)
    (record {
      writes = λ z there.
          or_right (nat_eq z object) (nat_eq z target || false)
          (or_left (nat_eq z target) false (eq-eqb z target (target_written target z there)));
      stays = λ z free. free;
    })
    (λ set. refl) (λ r. refl) (λ r. append-nil (unwritten w l n (among (object ∷ target ∷ [])) r))

pub made_static_load : (w : Setting) (l : LoweredMethod) (n : Node) (field : FieldNo) (target : ℕ)
    → Makes w l n (record { written = slots.One target; leaving = None; gain = Copy (Static field) (Slot target) })
    (copying w l n (target ∷ []) (root_copy (Static field) (Slot target)))
made_static_load w l n field target =
    made_by w l n (record { written = slots.One target; leaving = None; gain = Copy (Static field) (Slot target) })
    (copying w l n (target ∷ []) (root_copy (Static field) (Slot target)))
    (record {
      writes = λ z there. or_left (nat_eq z target) false (eq-eqb z target (target_written target z there));
      stays = λ z free. free;
    })
    (λ set. refl) (λ r. refl) (λ r. append-nil (unwritten w l n (among (target ∷ [])) r))

static_is_no_slot : (field : FieldNo) (z : ℕ) → Static field ≡ Slot z → ⊥
static_is_no_slot field z e = cc

pub made_static_store : (w : Setting) (l : LoweredMethod) (n : Node) (field : FieldNo) (value : ℕ)
    → Makes w l n (record { written = slots.One value; leaving = Some (Static field); gain = Copy (Slot value) (Static field) })
    (storing_static w l n field value)
made_static_store w l n field value =
    made_by w l n (record { written = slots.One value; leaving = Some (Static field); gain = Copy (Slot value) (Static field) })
    (storing_static w l n field value)
    (record {
      writes = λ z there. absurd (static_is_no_slot field z (contains_only (Static field) (Slot z) there));
      stays = λ z free. or_from (among (value ∷ []) z) false free refl;
    })
    (λ set. refl) (λ r. refl) (λ r. append-nil (unwritten w l n (among (value ∷ [])) r))

-- ---- all slots are written

filter_none : (xs : List ℕ) → filter (λ (y : ℕ). not (every_slot y)) xs ≡ []
filter_none [] = refl
filter_none (x ∷ xs) = filter_none xs

none_unwritten : (w : Setting) (l : LoweredMethod) (n : Node) (r : Root) → unwritten w l n every_slot r ≡ []
none_unwritten w l n (Slot z) = ap (map Slot) (filter_none (alike w l n z))
none_unwritten w l n (Static f) = refl
none_unwritten w l n Returned = refl
none_unwritten w l n Thrown = refl

copies_on : (w : Setting) (l : LoweredMethod) (n : Node) (value : Option ℕ) (to r : Root) → more_doubles w l n (copy_of value to) r ≡ []
copies_on w l n None to r = refl
copies_on w l n (Some value) to r = refl

all_written : (leaving : Option Root) (gain : Gain) → IsProper (record { written = slots.All; leaving = leaving; gain = gain })
all_written leaving gain = record { writes = λ z there. refl; stays = λ z free. absurd (false≢true (sym free)) }

value_copied : (value : Option ℕ) (to : Root) (set : List Path)
    → adds_of (copy_of value to) set ≡ copied (map (λ (z : ℕ). root_copy (Slot z) to) (option_to_list value)) set
value_copied None to set = refl
value_copied (Some value) to set = refl

pub made_returning : (w : Setting) (l : LoweredMethod) (n : Node) (value : Option ℕ)
    → Makes w l n (record { written = slots.All; leaving = Some Returned; gain = copy_of value Returned }) (returning value)
made_returning w l n value =
    made_by w l n (record { written = slots.All; leaving = Some Returned; gain = copy_of value Returned }) (returning value)
    (all_written (Some Returned) (copy_of value Returned)) (value_copied value Returned) (λ r. refl)
    (λ r i. none_unwritten w l n r i ++ copies_on w l n value Returned r i)

pub made_unwinding_none : (w : Setting) (l : LoweredMethod) (n : Node)
    → Makes w l n (record { written = slots.All; leaving = None; gain = Nothing }) (unwinding None)
made_unwinding_none w l n =
    made_by w l n (record { written = slots.All; leaving = None; gain = Nothing }) (unwinding None)
    (all_written None Nothing) (λ set. refl) (λ r. refl) (λ r i. none_unwritten w l n r i ++ [])

pub made_unwinding : (w : Setting) (l : LoweredMethod) (n : Node) (value : ℕ)
    → Makes w l n (record { written = slots.All; leaving = Some Thrown; gain = Copy (Slot value) Thrown }) (unwinding (Some value))
made_unwinding w l n value =
    made_by w l n (record { written = slots.All; leaving = Some Thrown; gain = Copy (Slot value) Thrown }) (unwinding (Some value))
    (all_written (Some Thrown) (Copy (Slot value) Thrown)) (λ set. refl) (λ r. refl) (λ r i. none_unwritten w l n r i ++ [])

-- ---- a slot gets what a root held

hand_copied : (from : Root) (target : Option ℕ) (set : List Path)
    → adds_of (hand_of from target) set ≡ copied (map (λ (z : ℕ). root_copy from (Slot z)) (option_to_list target)) set
hand_copied from None set = refl
hand_copied from (Some target) set = refl

hand_written : (from : Root) (target : Option ℕ) (others : List ℕ) (z : ℕ) → Contains (targets_of (hand_of from target)) (Slot z)
    → among (option_to_list target ++ others) z ≡ true
hand_written from None others z there = absurd (contains_none (Slot z) there)
hand_written from (Some target) others z there = or_left (nat_eq z target) (among others z) (eq-eqb z target (target_written target z there))

if_nothing : (b : Bool) → cond {A = List Root} b [] [] ≡ []
if_nothing true = refl
if_nothing false = refl

received_on : (w : Setting) (l : LoweredMethod) (n : Node) (result : Option ℕ) (r : Root)
    → more_doubles w l n (hand_of Returned result) r ≡ (if same_root Returned r then map Slot (option_to_list result) else [])
received_on w l n None r = sym (if_nothing (same_root Returned r))
received_on w l n (Some z) r = refl

given_on : (w : Setting) (l : LoweredMethod) (n : Node) (argument : ℕ) (result : Option ℕ) (r : Root)
    → more_doubles w l n (hand_of (Slot argument) result) r ≡ flat_map (λ (y : ℕ). moved_to w l n argument (Slot y) r) (option_to_list result)
given_on w l n argument None r = refl
given_on w l n argument (Some z) r = sym (append-nil (moved_to w l n argument (Slot z) r))

pub made_receiving : (w : Setting) (l : LoweredMethod) (n : Node) (written : Written) (call : NodeCall) (gain : Gain)
    → written_of written ≡ among (written_by call) → gain ≡ hand_of Returned call.result
    → Makes w l n (record { written = written; leaving = Some Returned; gain = gain }) (receiving w l n (argument_slots call.arguments) call.result)
made_receiving w l n written call gain slots_are is =
    subst (λ (g : Gain). Makes w l n (record { written = written; leaving = Some Returned; gain = g }) (receiving w l n (argument_slots call.arguments) call.result))
    (sym is)
    (made_by w l n (record { written = written; leaving = Some Returned; gain = hand_of Returned call.result })
    (receiving w l n (argument_slots call.arguments) call.result)
    (record {
      writes = λ z there. ap (λ (f : ℕ → Bool). f z) slots_are ∙ hand_written Returned call.result (argument_slots call.arguments) z there;
      stays = λ z free. or_from (written_of written z) false free refl;
    })
    (hand_copied Returned call.result) (λ r i. slots_go (slots_are i) r || same_root Returned r)
    (λ r i. unwritten w l n (slots_are i) r ++ received_on w l n call.result r i))

pub made_giving : (w : Setting) (l : LoweredMethod) (n : Node) (written : Written) (call : NodeCall) (argument : ℕ) (gain : Gain)
    → written_of written ≡ among (written_by call) → gain ≡ hand_of (Slot argument) call.result
    → Makes w l n (record { written = written; leaving = None; gain = gain }) (giving w l n call argument)
made_giving w l n written call argument gain slots_are is =
    subst (λ (g : Gain). Makes w l n (record { written = written; leaving = None; gain = g }) (giving w l n call argument)) (sym is)
    (made_by w l n (record { written = written; leaving = None; gain = hand_of (Slot argument) call.result }) (giving w l n call argument)
    (record {
      writes = λ z there. ap (λ (f : ℕ → Bool). f z) slots_are ∙ hand_written (Slot argument) call.result (argument_slots call.arguments) z there;
      stays = λ z free. free;
    })
    (hand_copied (Slot argument) call.result) (λ r i. slots_go (slots_are i) r)
    (λ r i. unwritten w l n (slots_are i) r ++ given_on w l n argument call.result r i))

caught_on : (w : Setting) (l : LoweredMethod) (n : Node) (value : Option ℕ) (r : Root)
    → handed_to w l n (thrown_root value) (Slot l.slots) r ≡ caught_from w l n value r
caught_on w l n None r = refl
caught_on w l n (Some value) r = refl

pub made_catching : (w : Setting) (l : LoweredMethod) (n : Node) (locals : ℕ) (value : Option ℕ) → locals ≡ l.slots
    → Makes w l n (record { written = slots.From locals; leaving = Some Thrown; gain = Hand (thrown_root value) locals }) (catching w l n value)
made_catching w l n locals value is =
    subst (λ (k : ℕ). Makes w l n (record { written = slots.From k; leaving = Some Thrown; gain = Hand (thrown_root value) k }) (catching w l n value)) (sym is)
    (made_by w l n (record { written = slots.From l.slots; leaving = Some Thrown; gain = Hand (thrown_root value) l.slots }) (catching w l n value)
    (record {
      writes = λ z there. let same = target_written l.slots z there in le-leb l.slots z (omega arith);
      stays = λ z free. or_from (nat_le l.slots z) false free refl;
    })
    (λ set. refl) (λ r. refl) (λ r i. unwritten w l n (nat_le l.slots) r ++ caught_on w l n value r i))
