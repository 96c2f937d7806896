-- A node that was recorded for a frame, and the one at which a step finds the frame: they are one, or both are nodes of the program's start.
use Rattle.std.proofs.Common.{◌≡◌, inl, inr, ℕ, List, [], Option, Some, None, Ok, Contains, refl, sym, ap, ◌∙◌, subst}
use Rattle.std.specs.Option.{option_map}
use Rattle.std.proofs.lemmas.Option.{same_Some, none-some}
use Rattle.list_laws.proofs.Members.{contains_none}
use Rattle.jvm_model.specs.declared.number.ClassNo.{ClassNo}
use Rattle.jvm_model.specs.declared.number.MethodNo.{MethodNo}
use Rattle.jvm_model.specs.declared.site.Site.{Site}
use Rattle.jvm_model.specs.Programs.{Program, Method}
use Rattle.op_model.specs.declared.lowered.LoweredMethod.{LoweredMethod}
use Rattle.op_model.specs.declared.node.Node.{Node}
use Rattle.op_model.specs.declared.op.CallKind.TheVariants.{Static}
use Rattle.op_model.specs.declared.op.Op.{Op}
use Rattle.op_model.specs.declared.op.Op.TheVariants.{Call}
use Rattle.op_model.specs.Supplies.{Given, GivenAs}
use Rattle.machine_bytecode.specs.Objects.{Subject}
use Rattle.machine_bytecode.specs.States.{Frame}
use Rattle.machine_nodes.specs.Nodes.{AreStartNodes, HasNodes, of_start, of_method, IsClassNumber, IsStartCall, IsStartReturn, IsThrownAt, StandsAt}
use Rattle.slot_names.proofs.PlacesOfSlots.{same_node}
use Rattle.points_to_rules.specs.Facts.{Fact}
use Rattle.coverage.proofs.Places.{IsStartNode}
use Rattle.stage_transfer.specs.Stages.{Transfer}
use Rattle.stage_edges.specs.Rules.{Edge, IsMethod, IsNode}
use Rattle.stage_soundness.specs.Describing.{method_of}
use Rattle.stage_soundness.proofs.Known.{given_of, method_as, Premises, start_node}
use Rattle.stage_soundness.proofs.Placed.{IsPlaced, number_as, placed_of}

-- The second node does what the first does, and throws no class that the first does not list.
pub record IsAlikeNode (p : Program) (n m : Node) : Type 0 where
  pub op : m.op ≡ n.op
  pub successors : m.successors ≡ n.successors
  pub handlers : m.handlers ≡ n.handlers
  pub throws : (c : ClassNo) (class : List ℕ) → Contains m.throws c → IsClassNumber p c class → Contains n.throws c

alike_self : (p : Program) (n : Node) → IsAlikeNode p n n
alike_self p n = record { op = refl; successors = refl; handlers = refl; throws = λ c class listed is. listed }

-- the call of the program's entry
abbrev entry_call : Subject → Method → Op
entry_call x entry =
    Call (record {
      kind = Static;
      resolved = record { 0 = x.entry };
      chosen = Some (record { 0 = x.entry });
      name = entry.signature.name;
      descriptor = entry.signature.descriptor;
      arguments = [];
      result = None;
    })

alike_calls : (x : Subject) (n m : Node) → IsStartCall x n → IsStartCall x m → IsAlikeNode x.program n m
alike_calls x n m first second =
    let entries : second.entry ≡ first.entry = same_Some second.entry first.entry (sym second.stands ∙ first.stands) in
    record {
      op = second.op ∙ ap (entry_call x) entries ∙ sym first.op;
      successors = second.successors ∙ sym first.successors;
      handlers = second.handlers ∙ sym first.handlers;
      throws = λ c class listed is.
          let only = second.throws.only c listed in
          first.throws.all c only.0 only.1 (subst (λ (e : Method). IsThrownAt x.program [] (Some e.class) only.0) entries only.2);
    }

alike_returns : (p : Program) (n m : Node) → IsStartReturn n → IsStartReturn m → IsAlikeNode p n m
alike_returns p n m first second = record {
  op = second.op ∙ sym first.op;
  successors = second.successors ∙ sym first.successors;
  handlers = second.handlers ∙ sym first.handlers;
  throws = λ c class listed is. absurd (contains_none c (subst (λ (cs : List ClassNo). Contains cs c) second.throws listed));
}

alike_start : (x : Subject) (n m : Node) → IsStartNode x n → IsStartNode x m → n.offset ≡ m.offset → IsAlikeNode x.program n m
alike_start x n m (inl first) (inl second) e = alike_calls x n m first second
alike_start x n m (inr first) (inr second) e = alike_returns x.program n m first second
alike_start x n m (inl first) (inr second) e = absurd (let bad : 0 ≡ 1 = sym first.offset ∙ e ∙ second.offset in cc bad)
alike_start x n m (inr first) (inl second) e = absurd (let bad : 1 ≡ 0 = sym first.offset ∙ e ∙ second.offset in cc bad)

module _ (x : Subject) (given : Given) (gives : GivenAs) (S : Fact → Type 0) (s : Site) (t : Transfer) (E : Edge → Type 0)
    (k : Premises x given gives S s t E) where
  -- the nodes of the start, as a method
  record IsStart (l : LoweredMethod) : Type 0 where
    pub are : AreStartNodes x l.nodes
    pub slots : l.slots ≡ 0

  start_of : (l : LoweredMethod) (o : Option MethodNo) → o ≡ None → IsMethod x gives l o → IsStart l
  start_of l _ e (IsMethod.of_file m is_given) = absurd (none-some m (sym e))
  start_of l _ e (IsMethod.of_start are slots stack params) = record { are = are; slots = slots }

  pub alike_node : (f : Frame) (now : StandsAt x given f) (l : LoweredMethod) (n : Node) → IsNode x gives (method_of f) l n → n.offset ≡ f.offset
      → IsAlikeNode x.program n now.node × (now.locals ≡ l.slots)
  alike_node f now l n is at = by now.of_method
    where
      placed : IsPlaced x given gives k.map k.whole f now
      placed = placed_of x given gives k.map k.whole f now

      offsets : n.offset ≡ now.node.offset
      offsets = at ∙ sym placed.at

      by : HasNodes x given f now.locals now.nodes → IsAlikeNode x.program n now.node × (now.locals ≡ l.slots)
      by (of_start no_method are count) =
          let none : method_of f ≡ None = ap (option_map number_as) no_method in
          let first = start_of l (method_of f) none is.method in
          let second = start_of placed.lowered (method_of f) none placed.is_node.method in (
            alike_start x n now.node (start_node x gives l.nodes n first.are is.stands) (start_node x gives placed.lowered.nodes now.node second.are
                placed.is_node.stands) offsets,
            count ∙ sym first.slots,
          )
      by (of_method number m in_method is_given nodes count) =
          let some = method_as f number in_method in
          let first = given_of x gives l (method_of f) (number_as number) some is.method in
          let second = given_of x gives placed.lowered (method_of f) (number_as number) some placed.is_node.method in
          let one : placed.lowered ≡ l = same_given number placed.lowered l second first in
          let stands : Contains l.nodes now.node = subst (λ (j : LoweredMethod). Contains j.nodes now.node) one placed.is_node.stands in
          let same : n ≡ now.node = same_node l (k.whole number l first).reached n now.node is.stands stands offsets in
          (subst (λ (j : Node). IsAlikeNode x.program n j) same (alike_self x.program n), placed.locals ∙ ap (λ (j : LoweredMethod). j.slots) one)
        where
          same_given : (number : ℕ) (a b : LoweredMethod) → gives number (Ok a) → gives number (Ok b) → a ≡ b
          same_given number a b first second =
              let both : Some (Ok a) ≡ Some (Ok b) = sym ((k.map.entries number (Ok a)).1 first) ∙ (k.map.entries number (Ok b)).1 second in cc both
