-- What the call of a node leads to: its chosen target, and the targets that it selects by the objects of its first argument.
use Rattle.std.proofs.Common.{◌≡◌, ◌↔◌, ◌⊎◌, inl, inr, ℕ, true, List, [], ◌∷◌, Option, Some, None, refl, sym, ◌∙◌, ap, subst}
use Rattle.std.specs.List.{slice_get, AllZip}
use Rattle.std.specs.Option.{option_flatten}
use Rattle.std.proofs.lemmas.Option.{none-some, same_Some}
use Rattle.jvm_model.specs.declared.number.MethodNo.{MethodNo}
use Rattle.jvm_model.specs.Programs.{Program}
use Rattle.machine_nodes.specs.NodeSteps.{is_selecting_kind}
use Rattle.op_model.specs.declared.lowered.LoweredMethod.{LoweredMethod}
use Rattle.op_model.specs.declared.node.Node.{Node}
use Rattle.op_model.specs.declared.node.NodeRef.{NodeRef}
use Rattle.op_model.specs.declared.op.Call.{Call as NodeCall}
use Rattle.slot_names.specs.Tables.{NameTable}
use Rattle.slot_names.proofs.ListPlaces.{contains_at}
use Rattle.points_to_rules.specs.Facts.{Holder, may_call}
use Rattle.points_to_rules.specs.Rules.{IsSlot}
use Rattle.points_to_constraints.specs.Items.{CallSite, Item, known, dispatch, constrained}
use Rattle.points_to_constraints.specs.NodeItems.{CallNodeItem, IsCallSite, IsUnitHolder}
use Rattle.points_to_constraints.specs.NodeItems as node_items
use Rattle.points_to_methods.specs.Known.{IsNamedMethod}
use Rattle.points_to_methods.specs.Slots.{slot_holder}
use Rattle.points_to_constraints.proofs.OneSite.{one_site}
use Rattle.points_to_methods.proofs.NamedSlots.{reached, slot_is}
use Rattle.points_to_methods.specs.CallParts.{ChosenItem, SelectingItem}

-- ---- the first argument

-- the slot of the first argument, by its holder
first_slot : (l : LoweredMethod) (n : Node) (units : List (Option ℕ)) (holders : List (Option Holder)) → AllZip (IsUnitHolder l n) units holders → (from : Holder) → slice_get holders 0 ≡ Some (Some from)
    → (z : ℕ) × (option_flatten (slice_get units 0) ≡ Some z)
first_slot l n [] [] all from e = absurd (none-some (Some from) e)
first_slot l n [] (h ∷ holders) all from e = absurd all
first_slot l n (unit ∷ units) [] all from e = absurd all
first_slot l n (None ∷ units) (h ∷ holders) all from e = absurd (subst (IsUnitHolder l n None) (same_Some h (Some from) e) all.0)
first_slot l n (Some z ∷ units) (h ∷ holders) all from e = (z, refl)

-- its holder, by its slot
first_holder : (l : LoweredMethod) (n : Node) (units : List (Option ℕ)) (holders : List (Option Holder)) → AllZip (IsUnitHolder l n) units holders → (z : ℕ) → option_flatten (slice_get units 0) ≡ Some z
    → (from : Holder) × (slice_get holders 0 ≡ Some (Some from)) × IsSlot l n z from
first_holder l n [] holders all z e = absurd (none-some z e)
first_holder l n (unit ∷ units) [] all z e = absurd all
first_holder l n (None ∷ units) (h ∷ holders) all z e = absurd (none-some z e)
first_holder l n (Some y ∷ units) (None ∷ holders) all z e = absurd all.0
first_holder l n (Some y ∷ units) (Some from ∷ holders) all z e = (from, refl, subst (λ (w : ℕ). IsSlot l n w from) (same_Some y z e) all.0)

-- ---- a call that selects

-- none selects of another kind
pub not_selecting : (c : NodeCall) (site : CallSite) → (is_selecting_kind c.kind ≡ true → ⊥) → (x : Item) → SelectingItem c.kind site x → ⊥
not_selecting c site other x (from, kind, first, e) = other kind

-- nor one without a first argument
pub without_first : (m : MethodNo) (l : LoweredMethod) (n : Node) (c : NodeCall) (site : CallSite) → IsCallSite m l n c site → option_flatten (slice_get c.arguments 0) ≡ None → (x : Item)
    → SelectingItem c.kind site x → ⊥
without_first m l n c site is_site none x (from, kind, first, e) =
    let (z, is) = first_slot l n c.arguments site.arguments is_site.arguments from first in
    none-some z (sym none ∙ is)

module _ (p : Program) (l : LoweredMethod) (names : NameTable) (known_method : IsNamedMethod p l names) (node : ℕ) (n : Node) (at : slice_get l.nodes node ≡ Some n) where
  pub selects : (c : NodeCall) (site : CallSite) → IsCallSite l.method l n c site → is_selecting_kind c.kind ≡ true → (z : ℕ) → option_flatten (slice_get c.arguments 0) ≡ Some z
      → (h : Holder) → h ≡ slot_holder names node z → (x : Item) → (x ≡ constrained h (dispatch site)) ↔ SelectingItem c.kind site x
  selects c site is_site kind z is h here x =
      let (from, first, slot) = first_holder l n c.arguments site.arguments is_site.arguments z is in
      let same : from ≡ h = slot_is p l names known_method node n at z from slot ∙ sym here in (
        (λ e. (h, kind, first ∙ ap (λ (g : Holder). Some (Some g)) same, e)),
        (λ (other, selecting, there, e).
            let others : Some other ≡ Some from = same_Some (Some other) (Some from) (sym there ∙ first) in
            e ∙ ap (λ (g : Holder). constrained g (dispatch site)) (same_Some other from others ∙ same)),
      )

  -- ---- the two parts of what a call leads to

  pub call_parts : (c : NodeCall) (site : CallSite) → IsCallSite l.method l n c site → (x : Item) → (ChosenItem site.at c.chosen x ⊎ SelectingItem c.kind site x) ↔ CallNodeItem l.method l n c x
  call_parts c site is_site x = (
    (λ part. elim part [
      | inl (target, is, e) ↦ node_items.chosen target is (e ∙ ap (λ (r : NodeRef). known (may_call r target)) is_site.at)
      | inr (from, kind, first, e) ↦ node_items.selecting site from kind is_site first e
    ]),
    (λ item. elim item [
      | node_items.chosen target is e ↦ inl (target, is, e ∙ ap (λ (r : NodeRef). known (may_call r target)) (sym is_site.at))
      | node_items.selecting other from kind is_other first e ↦
          let same : other ≡ site = one_site l (reached p l names known_method) n (contains_at l.nodes node n at) l.method c other site is_other is_site in
          inr (
            from,
            kind,
            subst (λ (s : CallSite). slice_get s.arguments 0 ≡ Some (Some from)) same first,
            e ∙ ap (λ (s : CallSite). constrained from (dispatch s)) same,
          )
    ]),
  )
