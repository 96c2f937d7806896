-- The nodes of the start of the program.
use Rattle.std.proofs.Common.{◌≡◌, ℕ, List, [], ◌∷◌, Option, Some, None, refl, sym, ap, ◌∙◌, subst}
use Rattle.std.specs.List.{slice_get}
use Rattle.jvm_model.specs.Lookups.{Signature}
use Rattle.jvm_model.specs.declared.number.MethodNo.{MethodNo}
use Rattle.jvm_model.specs.Programs.{Method, Program}
use Rattle.program_model.specs.declared.member_view.MemberView.{MemberView}
use Rattle.program_model.specs.Numbers.{IsMethodNumber}
use Rattle.program_model.specs.Whole.{IsMethodView}
use Rattle.hierarchy.proofs.ClassPlaces.{class_there, method_there, name_at-at}
use Rattle.op_model.specs.declared.node.Node.{Node}
use Rattle.op_model.specs.declared.op.CallKind.TheVariants.{Static}
use Rattle.op_model.specs.declared.op.Op.{Op}
use Rattle.op_model.specs.declared.op.Op.TheVariants.{Call}
use Rattle.machine_bytecode.specs.Objects.{Subject}
use Rattle.machine_nodes.specs.Nodes.{AreThrownAt, IsClassNumber as HasClassName, IsStartCall}
use Rattle.lowering_handlers.specs.Exceptions.{IsTriggerOf, a_class}

abbrev pub entry_call : MethodNo → Signature → Op
entry_call entry s =
    Call (record { kind = Static; resolved = entry; chosen = Some entry; name = s.name; descriptor = s.descriptor; arguments = []; result = None })

module _ (p : Program) (entry : MethodNo) (within : IsMethodNumber p entry.0) (view : MemberView) (shown : (m : Method) → slice_get p.methods entry.0 ≡ Some m → IsMethodView p m view) where
  pub start_call : (n : Node) → n.offset ≡ 0 → n.op ≡ entry_call entry (record { name = view.signature.name.now; descriptor = view.signature.descriptor.now }) → n.successors ≡ 1 ∷ [] → n.handlers ≡ []
      → n.trigger ≡ Some view.class → ((name : Option (List ℕ)) → IsTriggerOf p (Some view.class) name → AreThrownAt p [] name n.throws)
      → (x : Subject) → x.program ≡ p → x.entry ≡ entry.0 → IsStartCall x n
  start_call n offset op successors handlers trigger throws x same is =
      let (m, stands) = method_there p entry.0 within in
      let v = shown m stands in
      let (k, at) = class_there p view.class.0 v.below in
      let is_class : HasClassName p view.class m.class = record { class = k; stands = at; named = sym (name_at-at p view.class.0 k at) ∙ sym v.class } in
      let begun : Subject = record { program = p; property = x.property; entry = entry.0 } in
      let to : begun ≡ x = (λ i. record { program = sym same i; property = x.property; entry = sym is i }) in
      let call : IsStartCall begun n = record {
        entry = m;
        stands = stands;
        offset = offset;
        op = op ∙ ap (entry_call entry) (sym v.signature);
        successors = successors;
        handlers = handlers;
        class = view.class;
        trigger = trigger;
        is_class = is_class;
        throws = throws (Some m.class) (a_class view.class m.class is_class refl refl);
      } in
      subst (λ (s : Subject). IsStartCall s n) to call
