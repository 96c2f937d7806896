-- Which initialisers a node starts: those of the class of its trigger, if it has one. And what it leads to that it starts them.
use Rattle.std.proofs.Common.{◌≡◌, ◌↔◌, ℕ, ◌<◌, List, length, get_or, Option, Some, None, refl, sym, ◌∙◌, ap, subst, arith, inl, inr}
use Rattle.std.specs.List.{slice_get, Contains}
use Rattle.std.proofs.lemmas.List.Elements.{All-contains}
use Rattle.std.proofs.lemmas.Option.{get_or_from_slice_get, same_Some, none-some}
use Rattle.jvm_model.specs.declared.number.ClassNo.{ClassNo}
use Rattle.jvm_model.specs.declared.number.MethodNo.{MethodNo}
use Rattle.jvm_model.specs.Programs.{Program}
use Rattle.hierarchy.proofs.ClassPlaces.{name_at-at}
use Rattle.program_model.specs.Numbers.{name_at}
use Rattle.machine_nodes.specs.Nodes.{IsCodedInitialiser}
use Rattle.op_model.specs.declared.lowered.LoweredMethod.{LoweredMethod}
use Rattle.op_model.specs.declared.node.Node.{Node}
use Rattle.points_to_constraints.specs.Items.{Item, CatchChain, rethrow_to, constrained}
use Rattle.points_to_rules.specs.WholeMethods.{IsWholeMethod, NamesNumbers}
use Rattle.points_to_constraints.specs.NodeItems.{IsCatchChain, TriggerItem, keeps_thrown, runs, throws}
use Rattle.points_to_rules.specs.Facts.{thrown_by}
use Rattle.points_to_rules.specs.Rules.{StartsAt}
use Rattle.points_to_numbers.proofs.Adding.{OfOne}
use Rattle.slot_names.specs.Tables.{NameTable}
use Rattle.slot_names.proofs.ListPlaces.{contains_at}
use Rattle.points_to_methods.specs.Known.{IsNamedMethod}
use Rattle.points_to_constraints.proofs.OneSite.{one_catch_chain}
use Rattle.points_to_methods.proofs.NamedSlots.{reached}
use Rattle.points_to_methods.proofs.RaisedObjects.{class_numbered}
use Rattle.points_to_methods.specs.Started.{IsStarted}

-- the trigger of a node, as it is read at the node's place
pub trigger_read : (nodes list : List Node) (place : ℕ) (n d : Node) (trigger : Option ClassNo) → list ≡ nodes → slice_get nodes place ≡ Some n → (get_or list place d).trigger ≡ trigger → n.trigger ≡ trigger
trigger_read nodes list place n d trigger same at is =
    ap (λ (m : Node). m.trigger) (sym (get_or_from_slice_get list place n d (ap (λ (ns : List Node). slice_get ns place) same ∙ at))) ∙ is

-- the class that a node of the method may initialise
pub trigger_numbered : (p : Program) (l : LoweredMethod) → IsWholeMethod p l.method.0 l → (node : ℕ) (n : Node) → slice_get l.nodes node ≡ Some n → (trigger : ClassNo) → n.trigger ≡ Some trigger
    → trigger.0 < length p.classes
trigger_numbered p l is_method node n at trigger is =
    let numbers = All-contains (NamesNumbers p) l.nodes n is_method.numbers (contains_at l.nodes node n at) in
    numbers.trigger trigger is

-- a node that starts no initialiser
pub none_started : (p : Program) (l : LoweredMethod) (n : Node) → ((i : MethodNo) → StartsAt p n i → ⊥) → (x : Item) → TriggerItem p l.method l n x → ⊥
none_started p l n none x (runs i starts is) = none i starts
none_started p l n none x (keeps_thrown i starts is) = none i starts
none_started p l n none x (throws i catch_chain starts is_catch_chain is) = none i starts

-- a node without a trigger is one
pub untriggered : (p : Program) (n : Node) → n.trigger ≡ None → (i : MethodNo) → StartsAt p n i → ⊥
untriggered p n none i starts = none-some starts.trigger (sym none ∙ starts.is_trigger)

module _ (p : Program) (n : Node) (trigger : ClassNo) (is_trigger : n.trigger ≡ Some trigger) (within : trigger.0 < length p.classes) where
  started : (i : MethodNo) → StartsAt p n i ↔ IsCodedInitialiser p (name_at p trigger.0) i.0
  started i = (
    (λ starts.
        let same : starts.trigger ≡ trigger = same_Some starts.trigger trigger (sym starts.is_trigger ∙ is_trigger) in
        let class : starts.class ≡ name_at p trigger.0 =
        sym starts.is_class.named ∙ sym (name_at-at p starts.trigger.0 starts.is_class.class starts.is_class.stands) ∙ ap (λ (c : ClassNo). name_at p c.0) same in
        subst (λ (name : List ℕ). IsCodedInitialiser p name i.0) class starts.initialiser),
    (λ coded. record { trigger = trigger; is_trigger = is_trigger; class = name_at p trigger.0; is_class = class_numbered p trigger (name_at p trigger.0) within refl; initialiser = coded }),
  )

  module _ (found : List MethodNo) (are : (i : MethodNo) → Contains found i ↔ IsCodedInitialiser p (name_at p trigger.0) i.0) where
    -- no initialiser was found
    pub none_found : length found ≡ 0 → (i : MethodNo) → StartsAt p n i → ⊥
    none_found empty i starts = let (k, below, at) = (are i).1 ((started i).0 starts) in absurd (omega (arith, below, empty))

    module _ (l : LoweredMethod) (names : NameTable) (known : IsNamedMethod p l names) (catch_chain : CatchChain) (is_catch_chain : IsCatchChain l.method l n catch_chain) where
      started_as : (x : Item) → TriggerItem p l.method l n x → OfOne (λ (i : MethodNo). IsStarted i catch_chain) found x
      started_as x (runs i starts is) = (i, (are i).1 ((started i).0 starts), inl (inl is))
      started_as x (keeps_thrown i starts is) = (i, (are i).1 ((started i).0 starts), inl (inr is))
      started_as x (throws i there starts is_there is) =
          (i, (are i).1 ((started i).0 starts), inr (is ∙ ap (λ (t : CatchChain). constrained (thrown_by i) (rethrow_to t)) (one_catch_chain l (reached p l names known) l.method n there catch_chain is_there is_catch_chain)))

      leads_to : (i : MethodNo) → StartsAt p n i → (x : Item) → IsStarted i catch_chain x → TriggerItem p l.method l n x
      leads_to i starts x (inl (inl is)) = runs i starts is
      leads_to i starts x (inl (inr is)) = keeps_thrown i starts is
      leads_to i starts x (inr is) = throws i catch_chain starts is_catch_chain is

      -- what it leads to, by what was found
      pub all_started : (x : Item) → OfOne (λ (i : MethodNo). IsStarted i catch_chain) found x ↔ TriggerItem p l.method l n x
      all_started x = ((λ (i, there, leads). leads_to i ((started i).1 ((are i).0 there)) x leads), started_as x)
