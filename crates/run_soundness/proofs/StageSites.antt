-- A tracked site is one of the program's own: an instruction that makes an object, or a described method that gives a new one, is at it; and its class is
-- the property's or one below it.
use Rattle.std.proofs.Common.{◌≡◌, ◌⊎◌, inl, inr, ◌∙◌, ℕ, ◌+◌, Bool, true, false, [], Option, Some, Contains, refl, sym, ap, subst, arith}
use Rattle.std.specs.Prelude.{Ok, slice_get, MatchBool, if◌then◌else◌}
use Rattle.std.specs.Option.{option_map, unwrap_or}
use Rattle.std.proofs.lemmas.List.Elements.{All-contains}
use Rattle.std.proofs.lemmas.Option.{slice_get-map, slice_get_cases}
use Rattle.jvm_model.specs.declared.code.Code.{Code}
use Rattle.jvm_model.specs.declared.number.FieldNo.{FieldNo}
use Rattle.jvm_model.specs.declared.site.Site.{Site}
use Rattle.jvm_model.specs.declared.site.SiteKind.{SiteKind}
use Rattle.jvm_model.specs.declared.site.SiteKind.TheVariants as kinds
use Rattle.jvm_model.specs.LinkedPrograms.{IsProgram, class_names}
use Rattle.jvm_model.specs.Names.{IsClassName}
use Rattle.jvm_model.specs.Programs.{Class, Program}
use Rattle.program_model.specs.Numbers.{name_at, IsClassNumber}
use Rattle.least_sets.proofs.Places.{contains_at}
use Rattle.machine_bytecode.specs.Objects.{Subject}
use Rattle.machine_bytecode.specs.States.{is_reference_type}
use Rattle.flow_graph.specs.declared.steps.Graph.{Graph}
use Rattle.flow_graph.specs.declared.steps.GraphStep.{GraphStep}
use Rattle.op_model.specs.declared.lowered.LoweredMethod.{LoweredMethod}
use Rattle.op_model.specs.declared.node.Node.{Node}
use Rattle.op_model.specs.declared.op.CallKind.{CallKind}
use Rattle.op_model.specs.declared.op.Op.{Op}
use Rattle.op_model.specs.declared.op.Op.TheVariants.{New, Probe, LoadStatic, StoreStatic, Load, Store}
use Rattle.op_model.specs.Supplies.{IsCodedMethod}
use Rattle.jvm_model.specs.Table.{Action}
use Rattle.jvm_model.specs.Table as actions
use Rattle.lowering_spec.specs.Operations.{IsAssign, IsCallOp, IsFieldOp, IsOp, IsStaticOp, Placed, field_no}
use Rattle.lowering_spec.specs.LoweredMethods.{IsNodeOf}
use Rattle.lowering.specs.Refusals.{IsAccepted}
use Rattle.lowering_supply.specs.Supplied.{IsSupplied, IsSupplyOutcome, bad_code, bad_flow, not_lowered, lowered}
use Rattle.points_to_rules.specs.Facts.{Fact}
use Rattle.simulation.proofs.Pairs.{first_of}
use Rattle.site_report.specs.declared.tracked_site.TrackedSite.{TrackedSite}
use Rattle.site_report.specs.Sites.{site_in}
use Rattle.report_spec.specs.Tracked.{Allocates, IsTracked, makes, is_given}
use Rattle.stage_soundness.specs.Describing.{IsOwnSite}

abbrev pub kind_of : Site → SiteKind
kind_of s = s.kind

-- ---- what makes objects

-- the kind of the site of an operation that makes an object
abbrev made_kind : Op → SiteKind
made_kind (New site target) = site.kind
made_kind _ = kinds.New

module _ (i : Placed) (op : Op) where
  of_move : IsAssign i op → made_kind op ≡ kinds.New
  of_move a = ap made_kind a.is

  of_static : (of : FieldNo → Op) → ((f : FieldNo) → made_kind (of f) ≡ kinds.New) → IsStaticOp i of op → made_kind op ≡ kinds.New
  of_static of is_new s = by (is_reference_type s.names.field.signature.descriptor) s.is
    where
      by : (b : Bool) → MatchBool b (op ≡ of (field_no s.names.number)) (IsAssign i op) → made_kind op ≡ kinds.New
      by true is = ap made_kind is ∙ is_new (field_no s.names.number)
      by false a = of_move a

  of_field : (of : FieldNo → Op) → ((f : FieldNo) → made_kind (of f) ≡ kinds.New) → IsFieldOp i of op → made_kind op ≡ kinds.New
  of_field of is_new f = by (is_reference_type f.names.field.signature.descriptor) f.is
    where
      by : (b : Bool) → op ≡ (if b then of (field_no f.names.number) else Probe i.base) → made_kind op ≡ kinds.New
      by true is = ap made_kind is ∙ is_new (field_no f.names.number)
      by false is = ap made_kind is

  of_call : (kind : CallKind) → IsCallOp i kind op → made_kind op ≡ kinds.New
  of_call kind c = ap made_kind c.is

  of_action : (a : Action) → IsOp a i op → made_kind op ≡ kinds.New
  of_action actions.plain is = of_move is
  of_action actions.load_constant is = ap made_kind is.2
  of_action actions.load_element is = ap made_kind is
  of_action actions.store_element is = ap made_kind is
  of_action actions.probe_element is = ap made_kind is
  of_action actions.probe_array is = ap made_kind is
  of_action actions.probe_object is = ap made_kind is
  of_action actions.get_static is = of_static (λ field. LoadStatic field i.base) (λ f. refl) is
  of_action actions.put_static is = of_static (λ field. StoreStatic field i.base) (λ f. refl) is
  of_action actions.get_field is = of_field (λ field. Load i.base field i.base) (λ f. refl) is
  of_action actions.put_field is = of_field (λ field. Store i.base field (i.base + 1)) (λ f. refl) is
  of_action actions.invoke_virtual is = of_call _ is
  of_action actions.invoke_special is = of_call _ is
  of_action actions.invoke_static is = of_call _ is
  of_action actions.invoke_interface is = of_call _ is
  of_action actions.make_object is = ap made_kind is.1
  of_action actions.make_array is = ap made_kind is.2
  of_action actions.throw_object is = ap made_kind is
  of_action actions.cast is = ap made_kind is.1
  of_action actions.leave_method is = ap made_kind is
  of_action actions.refused is = absurd is

-- ---- methods that are supplied

module _ (p : Program) (number : ℕ) (code : Code) (graph : Graph) (l : LoweredMethod) (a : IsAccepted p number code graph l) where
  node_new : (step : GraphStep) (n : Node) → IsNodeOf p number a.lowered.method a.own.file.pool code step n → made_kind n.op ≡ kinds.New
  node_new step n is = of_action is.instruction n.op is.instruction.row.action is.op

  accepted_new : (n : Node) → Contains l.nodes n → made_kind n.op ≡ kinds.New
  accepted_new n there =
      let s = first_of (IsNodeOf p number a.lowered.method a.own.file.pool code) graph.steps l.nodes n a.lowered.nodes there in
      node_new s.0 n s.2

abbrev MakesNew : LoweredMethod → Type 0
MakesNew l = (n : Node) → Contains l.nodes n → made_kind n.op ≡ kinds.New

new_by : (p : Program) (number : ℕ) (coded : IsCodedMethod p number) (l : LoweredMethod) → IsSupplyOutcome p number coded.method coded.file coded.place (Ok l) → MakesNew l
new_by p number coded l (bad_code fault read r refusal e) = absurd cc
new_by p number coded l (bad_flow code read offset reason fault r refusal e) = absurd cc
new_by p number coded l (not_lowered code read graph graphed r refusal e) = absurd cc
new_by p number coded l (lowered code read graph graphed k accepted ordered e) =
    let same : k ≡ l = cc in
    subst MakesNew same (accepted_new p number code graph k accepted)

-- ---- tracked sites

-- a class of the program has a name of a class
pub class_named : (p : Program) → IsProgram p → (number : ℕ) → IsClassNumber p number → IsClassName (name_at p number)
class_named p program number within = elim (slice_get_cases p.classes number).1 [
  | inl (c, less, at, same) ↦ (
      let stands : slice_get (class_names p) number ≡ Some c.name = slice_get-map (λ (d : Class). d.name) p.classes number ∙ ap (λ (o : Option Class). option_map (λ (d : Class). d.name) o) at in
      let is : name_at p number ≡ c.name = ap (λ (o : Option Class). unwrap_or (option_map (λ (d : Class). d.name) o) []) at in
      subst IsClassName (sym is) (All-contains IsClassName (class_names p) c.name program.named (contains_at (class_names p) number c.name stands)))
  | inr (past, none) ↦ absurd (omega (arith, past, within))
]

allocated_kind : (p : Program) (S : Fact → Type 0) (s : Site) → Allocates p (IsSupplied p) S s → (s.kind ≡ kinds.New) ⊎ (s.kind ≡ kinds.Result)
allocated_kind p S s (makes m l n target runs node is) =
    let given = node.given in
    inl (sym (ap made_kind is) ∙ new_by p m.0 given.coded l given.outcome n node.stands)
allocated_kind p S s (is_given m l n c target stub class runs node is goes described listed same) = inr (ap kind_of same)

pub tracked_is_own : (x : Subject) → IsProgram x.program → (S : Fact → Type 0) (t : TrackedSite) → IsTracked x.program (IsSupplied x.program) S x.property.class_name t
    → IsOwnSite x (site_in x.program t)
tracked_is_own x program S t is = record {
  made = allocated_kind x.program S (site_in x.program t) is.allocated;
  named = class_named x.program program t.class.0 is.known;
  observed = is.below;
}
