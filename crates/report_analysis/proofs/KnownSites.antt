-- A site at which a method makes objects that is supplied, or that its call gives, is of a method of the program.
use Rattle.std.proofs.Common.{◌≡◌, ℕ, ◌+◌, Bool, true, false, List, Option, Some, if◌then◌else◌, Contains, Ok, refl, sym, ap, ◌∙◌, subst}
use Rattle.std.specs.Bool.{MatchBool}
use Rattle.std.proofs.lemmas.Option.{slice_get_within, same_Some}
use Rattle.jvm_model.specs.declared.class_file.ClassFile.{ClassFile}
use Rattle.jvm_model.specs.declared.code.Code.{Code}
use Rattle.jvm_model.specs.declared.number.FieldNo.{FieldNo}
use Rattle.jvm_model.specs.declared.number.MethodNo.{MethodNo}
use Rattle.jvm_model.specs.declared.site.Site.{Site}
use Rattle.jvm_model.specs.Programs.{Method, Program}
use Rattle.jvm_model.specs.Table.{Action, plain, load_constant, load_element, store_element, probe_element, probe_array, probe_object, get_static, put_static, get_field, put_field, invoke_virtual, invoke_special, invoke_static, invoke_interface, make_object, make_array, throw_object, cast, leave_method, refused}
use Rattle.program_model.specs.Numbers.{IsMethodNumber}
use Rattle.machine_bytecode.specs.States.{is_reference_type}
use Rattle.flow_graph.specs.declared.steps.Graph.{Graph}
use Rattle.lowering_supply.specs.Supplied.{IsSupplied, IsSupplyOutcome, bad_code, bad_flow, not_lowered, lowered}
use Rattle.lowering.specs.Refusals.{IsAccepted}
use Rattle.lowering_spec.specs.LoweredMethods.{IsNodeOf}
use Rattle.lowering_spec.specs.Operations.{Placed, IsAssign, IsFieldOp, IsOp, IsStaticOp, field_no, new_site}
use Rattle.op_model.specs.declared.lowered.LoweredMethod.{LoweredMethod}
use Rattle.op_model.specs.declared.node.Node.{Node}
use Rattle.op_model.specs.declared.op.Op.{Op}
use Rattle.op_model.specs.declared.op.Op.TheVariants.{Assign, Load, Store, LoadElement, StoreElement, LoadStatic, StoreStatic, New, NewArray, Constant, Call, Return, Throw, Cast, Probe}
use Rattle.points_to_rules.specs.Facts.{Fact}
use Rattle.simulation.proofs.Pairs.{first_of}
use Rattle.report_spec.specs.Tracked.{Allocates, makes, is_given}

-- ---- the operation

abbrev is_new : Op → Bool
is_new (Assign moves) = false
is_new (Load object field target) = false
is_new (Store object field value) = false
is_new (LoadElement array target) = false
is_new (StoreElement array value) = false
is_new (LoadStatic field target) = false
is_new (StoreStatic field value) = false
is_new (New site target) = true
is_new (NewArray sites target) = false
is_new (Constant site target) = false
is_new (Call call) = false
is_new (Return value) = false
is_new (Throw value) = false
is_new (Cast class slot) = false
is_new (Probe slot) = false

-- Where the operation makes objects, it does so at a site of the method of this number.
abbrev MakesAt : ℕ → Op → Type 0
MakesAt number op = (s : Site) (target : ℕ) → op ≡ New s target → s.method ≡ Some (record { 0 = number })

makes_none : (number : ℕ) (op other : Op) → op ≡ other → is_new other ≡ false → MakesAt number op
makes_none number op other is none s target e = absurd (let made = sym none ∙ ap is_new (sym is ∙ e) in cc)

static_makes_none : (i : Placed) (of_reference : FieldNo → Op) (op : Op)
    → ((field : FieldNo) → is_new (of_reference field) ≡ false) → IsStaticOp i of_reference op → MakesAt i.method op
static_makes_none i of_reference op none f = by (is_reference_type f.names.field.signature.descriptor) f.is
  where
    by : (reference : Bool) → MatchBool reference (op ≡ of_reference (field_no f.names.number)) (IsAssign i op) → MakesAt i.method op
    by true is = makes_none i.method op (of_reference (field_no f.names.number)) is (none (field_no f.names.number))
    by false assigned = makes_none i.method op (Assign assigned.moves) assigned.is refl

field_makes_none : (i : Placed) (of_reference : FieldNo → Op) (op : Op)
    → ((field : FieldNo) → is_new (of_reference field) ≡ false) → IsFieldOp i of_reference op → MakesAt i.method op
field_makes_none i of_reference op none f = by (is_reference_type f.names.field.signature.descriptor) f.is
  where
    by : (reference : Bool) → op ≡ (if reference then of_reference (field_no f.names.number) else Probe i.base) → MakesAt i.method op
    by true is = makes_none i.method op (of_reference (field_no f.names.number)) is (none (field_no f.names.number))
    by false is = makes_none i.method op (Probe i.base) is refl

made_new : (i : Placed) (op : Op) (class : List ℕ) → op ≡ New (new_site i class) i.base → MakesAt i.method op
made_new i op class is s target e =
    let both = sym is ∙ e in
    let same : new_site i class ≡ s = cc in
    ap (λ (x : Site). x.method) (sym same)

makes_here : (action : Action) (i : Placed) (op : Op) → IsOp action i op → MakesAt i.method op
makes_here plain i op is = makes_none i.method op _ is.is refl
makes_here load_constant i op is = makes_none i.method op _ is.2 refl
makes_here load_element i op is = makes_none i.method op _ is refl
makes_here store_element i op is = makes_none i.method op _ is refl
makes_here probe_element i op is = makes_none i.method op _ is refl
makes_here probe_array i op is = makes_none i.method op _ is refl
makes_here probe_object i op is = makes_none i.method op _ is refl
makes_here get_static i op is = static_makes_none i (λ field. LoadStatic field i.base) op (λ field. refl) is
makes_here put_static i op is = static_makes_none i (λ field. StoreStatic field i.base) op (λ field. refl) is
makes_here get_field i op is = field_makes_none i (λ field. Load i.base field i.base) op (λ field. refl) is
makes_here put_field i op is = field_makes_none i (λ field. Store i.base field (i.base + 1)) op (λ field. refl) is
makes_here invoke_virtual i op is = makes_none i.method op _ is.is refl
makes_here invoke_special i op is = makes_none i.method op _ is.is refl
makes_here invoke_static i op is = makes_none i.method op _ is.is refl
makes_here invoke_interface i op is = makes_none i.method op _ is.is refl
makes_here make_object i op is = made_new i op is.0.class is.1
makes_here make_array i op is = makes_none i.method op _ is.2 refl
makes_here throw_object i op is = makes_none i.method op _ is refl
makes_here cast i op is = makes_none i.method op _ is.1 refl
makes_here leave_method i op is = makes_none i.method op _ is refl
makes_here refused i op is = absurd is

-- ---- the method

abbrev AllMakeAt : ℕ → LoweredMethod → Type 0
AllMakeAt number l = (n : Node) → Contains l.nodes n → MakesAt number n.op

accepted_make : (p : Program) (number : ℕ) (code : Code) (graph : Graph) (l : LoweredMethod) → IsAccepted p number code graph l → AllMakeAt number l
accepted_make p number code graph l a n there =
    let (step, stands, is) = first_of (IsNodeOf p number a.lowered.method a.own.file.pool code) graph.steps l.nodes n a.lowered.nodes there in
    let own : is.instruction.method ≡ number = ap (λ (i : Placed). i.method) is.placed.is in
    subst (λ (k : ℕ). MakesAt k n.op) own (makes_here is.instruction.row.action is.instruction n.op is.op)

supplied_make : (p : Program) (number : ℕ) (m : Method) (file : ClassFile) (place : ℕ) (l : LoweredMethod)
    → IsSupplyOutcome p number m file place (Ok l) → AllMakeAt number l
supplied_make p number m file place l (bad_code fault read r refusal e) = absurd cc
supplied_make p number m file place l (bad_flow code read offset reason fault r refusal e) = absurd cc
supplied_make p number m file place l (not_lowered code read graph graphed r reasoned e) = absurd cc
supplied_make p number m file place l (lowered code read graph graphed k accepted ordered e) =
    let same : k ≡ l = cc in
    subst (λ (x : LoweredMethod). AllMakeAt number x) same (accepted_make p number code graph k accepted)

-- ---- the site

coded_in : (p : Program) (number : ℕ) (l : LoweredMethod) → IsSupplied p number (Ok l) → IsMethodNumber p number
coded_in p number l given = slice_get_within p.methods number given.coded.method given.coded.stands

method_as : (p : Program) (own : MethodNo) (site : Option MethodNo) (m : MethodNo) → site ≡ Some own
    → IsMethodNumber p own.0 → site ≡ Some m → IsMethodNumber p m.0
method_as p own site m is within e = subst (λ (k : MethodNo). IsMethodNumber p k.0) (same_Some own m (sym is ∙ e)) within

pub site_in_program : (p : Program) (S : Fact → Type 0) (s : Site) → Allocates p (IsSupplied p) S s
    → (m : MethodNo) → s.method ≡ Some m → IsMethodNumber p m.0
site_in_program p S s (makes own l n target runs node is) m e =
    let given = node.given in
    let made = supplied_make p own.0 given.coded.method given.coded.file given.coded.place l given.outcome n node.stands s target is in
    method_as p own s.method m made (coded_in p own.0 l given) e
site_in_program p S s (is_given own l n c target stub class runs node is goes described listed same) m e =
    method_as p own s.method m (ap (λ (x : Site). x.method) same) (coded_in p own.0 l node.given) e
