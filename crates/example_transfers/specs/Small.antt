-- Public contracts rest on this module.
-- A small setting in which transfers are computed: a method with two local variables and four units of the operand stack, and a property with the
-- states opened, closed and error.
use Rattle.std.specs.Prelude.{codes, ℕ, nat_eq, Bool, true, false, List, [], ◌∷◌, Option, Some, None, if◌then◌else◌}
use Rattle.jvm_model.specs.declared.automaton.Automaton.{Automaton}
use Rattle.jvm_model.specs.declared.number.FieldNo.{FieldNo}
use Rattle.jvm_model.specs.declared.number.MethodNo.{MethodNo}
use Rattle.jvm_model.specs.declared.site.Site.{Site}
use Rattle.jvm_model.specs.declared.site.SiteKind.TheVariants as kinds
use Rattle.op_model.specs.declared.lowered.LoweredMethod.{LoweredMethod}
use Rattle.op_model.specs.declared.node.Node.{Node}
use Rattle.op_model.specs.declared.op.Call.{Call as NodeCall}
use Rattle.op_model.specs.declared.op.CallKind.TheVariants.{Virtual}
use Rattle.op_model.specs.declared.op.Move.{Move}
use Rattle.op_model.specs.declared.op.Op.{Op}
use Rattle.op_model.specs.declared.op.Source.{Source}
use Rattle.slot_names.specs.declared.variable.Variable.TheVariants.{At}
use Rattle.access_paths.specs.declared.root.Root.TheVariants.{Slot, Static, Returned, Thrown}
use Rattle.access_paths.specs.Paths.{Path}
use Rattle.stage_facts.specs.Facts.{SiteFact, of_object}
use Rattle.stage_transfer.specs.Settings.{among, Setting}
use Rattle.stage_transfer.specs.Stages.{Transfer, transfer_of}

-- ---- the program

abbrev pub the_method : MethodNo
the_method = record { 0 = 0 }

abbrev pub lowered : LoweredMethod
lowered = record { method = the_method; slots = 2; stack = 4; params = 0; nodes = [] }

abbrev pub node : Op → Node
node op = record { offset = 8; op = op; successors = []; handlers = []; trigger = None; throws = [] }

-- Fields f, g and h. The target of each call may write f alone.
abbrev pub f : FieldNo
f = record { 0 = 0 }

abbrev pub g : FieldNo
g = record { 0 = 1 }

abbrev pub h : FieldNo
h = record { 0 = 2 }

abbrev pub the_site : Site
the_site = record { kind = kinds.New; method = Some the_method; offset = 0; class = codes "F" }

abbrev pub other_site : Site
other_site = record { kind = kinds.New; method = Some the_method; offset = 4; class = codes "F" }

abbrev pub property : Automaton
property = record {
  class_name = codes "F";
  states = codes "opened" ∷ codes "closed" ∷ codes "error" ∷ [];
  initial = 0;
  error = 2;
  events = record { name = codes "read"; descriptor = codes "()V"; next = 0 ∷ 2 ∷ 2 ∷ [] }
      ∷ record { name = codes "close"; descriptor = codes "()V"; next = 1 ∷ 1 ∷ 2 ∷ [] } ∷ [];
}

-- A call of `close` on an object in a slot, with one more argument.
abbrev pub closing : (receiver : ℕ) → (argument : Option ℕ) → (result : Option ℕ) → NodeCall
closing receiver argument result = record {
  kind = Virtual;
  resolved = the_method;
  chosen = None;
  name = codes "close";
  descriptor = codes "()V";
  arguments = Some receiver ∷ argument ∷ [];
  result = result;
}

abbrev pub moving : Source → ℕ → Move
moving source target = record { source = source; target = target }

-- ---- the analysis

-- The first slot of the group that has this one; a slot of no group stands for itself.
abbrev pub leader_in : List ℕ → ℕ → ℕ
leader_in [] z = z
leader_in (y ∷ ys) z = if among (y ∷ ys) z then y else z

abbrev pub leader : List (List ℕ) → ℕ → ℕ
leader [] z = z
leader (group ∷ groups) z = if among group z then leader_in group z else leader groups z

-- Slots of one group share a variable. Each receiver may refer to objects of the site, and of no other if that is said.
abbrev pub setting : (stage : ℕ) → (groups : List (List ℕ)) → (alone : Bool) → Setting
setting stage groups alone = record {
  property = property;
  site = the_site;
  stage = stage;
  depth = 3;
  answers = record {
    variable_at = λ l n z. At the_method 0 (leader groups z);
    may_hold_site = λ holder site. true;
    holds_no_other = λ holder site. alone;
    may_write_field = λ target field. nat_eq field.0 0;
  };
}

-- The transfer of the last stage.
abbrev pub last : (groups : List (List ℕ)) → Transfer
last groups = transfer_of (setting 4 groups false)

-- ---- facts

abbrev pub path : ℕ → List FieldNo → Path
path z fields = record { root = Slot z; fields = fields }

-- The only object of the site, opened still.
abbrev pub one : (must : List Path) → (may : Bool) → (must_not : List Path) → SiteFact
one must may must_not = of_object (record { unique = true; state = 0; must = must; may = may; must_not = must_not })

-- One of several objects, in a state.
abbrev pub some_one : (state : ℕ) → (must : List Path) → (may : Bool) → (must_not : List Path) → SiteFact
some_one state must may must_not = of_object (record { unique = false; state = state; must = must; may = may; must_not = must_not })

abbrev pub only_one : (state : ℕ) → (must : List Path) → (may : Bool) → (must_not : List Path) → SiteFact
only_one state must may must_not = of_object (record { unique = true; state = state; must = must; may = may; must_not = must_not })

abbrev pub static_path : FieldNo → List FieldNo → Path
static_path field fields = record { root = Static field; fields = fields }

abbrev pub returned_path : List FieldNo → Path
returned_path fields = record { root = Returned; fields = fields }

abbrev pub thrown_path : List FieldNo → Path
thrown_path fields = record { root = Thrown; fields = fields }
