-- The places of methods and of nodes.
use Rattle.std.proofs.Common.{◌≡◌, ◌↔◌, ℕ, List, map, Option, Some, None, refl, sym, ◌∙◌, ap, subst, inl, inr, arith}
use Rattle.std.specs.List.{slice_get}
use Rattle.std.proofs.lemmas.Bool.{cases_lt}
use Rattle.std.proofs.lemmas.Option.{none-some, same_Some}
use Rattle.list_laws.proofs.Places.{at_map, contains_at, map_at}
use Rattle.jvm_model.specs.declared.number.MethodNo.{MethodNo}
use Rattle.jvm_model.specs.Programs.{Program}
use Rattle.op_model.specs.declared.lowered.LoweredMethod.{LoweredMethod}
use Rattle.op_model.specs.declared.node.Node.{Node}
use Rattle.op_model.specs.declared.node.NodeRef.{NodeRef}
use Rattle.points_to_rules.specs.declared.running_method.RunningMethod.{RunningMethod}
use Rattle.slot_names.specs.NodePlaces.{AreInOrder, StandsAt}
use Rattle.ground.specs.declared.lists.Lists.{Lists}
use Rattle.ground.specs.declared.node_place.NodePlace.{NodePlace}
use Rattle.ground.specs.Findings.{Findings, IsPlaceInMethod, IsPlaceOfMethod, IsPlaceOfNode}
use Rattle.ground.specs.Lists.{number_of}
use Rattle.ground.specs.Sound.{AreSound}
use Rattle.ground.specs.Told.{findings_of}
use Rattle.ground.proofs.Views.{method_at, running_at}

-- no two nodes of a method have one offset
one_node : (l : LoweredMethod) → AreInOrder l → (i j : ℕ) (n k : Node) → slice_get l.nodes i ≡ Some n → slice_get l.nodes j ≡ Some k → n.offset ≡ k.offset → i ≡ j
one_node l order i j n k at_n at_k same = elim (cases_lt i j) [
  | inl less ↦ (let below = order.ascend i j n k less at_n at_k in absurd (omega (arith, below, same)))
  | inr not_less ↦ elim (cases_lt j i) [
    | inl more ↦ (let below = order.ascend j i k n more at_k at_n in absurd (omega (arith, below, same)))
    | inr not_more ↦ omega (arith, not_less, not_more)
  ]
]

module _ (p : Program) (l : Lists) (g : Findings) (is : findings_of p l ≡ g) (sound : AreSound p l) where
  -- ---- methods by their numbers

  pub method_found : (number : MethodNo) (place : ℕ) → slice_get l.numbers.keys place ≡ Some number → IsPlaceOfMethod g number place
  method_found number place at =
      let listed : slice_get (map number_of l.methods.items) place ≡ Some number = ap (λ (ks : List MethodNo). slice_get ks place) (sym sound.numbered) ∙ at in
      let (r, there, same) = map_at number_of l.methods.items place number listed in
      record { lowered = r.method; stands = method_at p l g is place r there; is = same }

  pub number_found : (number : MethodNo) (place : ℕ) → IsPlaceOfMethod g number place → slice_get l.numbers.keys place ≡ Some number
  number_found number place there =
      let (r, at, same) = running_at p l g is place there.lowered there.stands in
      ap (λ (ks : List MethodNo). slice_get ks place) sound.numbered
      ∙ at_map number_of l.methods.items place r at
      ∙ ap (λ (m : LoweredMethod). Some m.method) same
      ∙ ap (λ (m : MethodNo). Some m) there.is

  -- ---- nodes of the method at a place

  module _ (method offset : ℕ) (r : RunningMethod) (at : slice_get l.methods.items method ≡ Some r) where
    pub nodes_in_order : AreInOrder r.method
    nodes_in_order = record { ascend = (sound.methods r (contains_at l.methods.items method r at)).reached.ascend }

    -- the node of another reading stands in this method
    node_here : (pl : NodePlace) (there : IsPlaceInMethod g method offset pl) → slice_get r.method.nodes pl.node ≡ Some there.node
    node_here pl there =
        let listed : slice_get g.methods method ≡ Some there.stands.lowered = subst (λ (k : ℕ). slice_get g.methods k ≡ Some there.stands.lowered) there.in_method there.stands.method_stands in
        let same = same_Some r.method there.stands.lowered (sym (method_at p l g is method r at) ∙ listed) in
        ap (λ (m : LoweredMethod). slice_get m.nodes pl.node) same ∙ there.stands.node_stands

    pub place_found : (node : ℕ) → StandsAt r.method offset node → (pl : NodePlace)
        → (Some (record { method = method; node = node }) ≡ Some pl) ↔ IsPlaceInMethod g method offset pl
    place_found node s pl =
        let here : NodePlace = record { method = method; node = node } in
        let stands : IsPlaceInMethod g method offset here = record {
          in_method = refl;
          node = s.node;
          stands = record { lowered = r.method; method_stands = method_at p l g is method r at; node_stands = s.stands };
          is = s.is;
        } in (
          λ e. subst (λ (x : NodePlace). IsPlaceInMethod g method offset x) (same_Some here pl e) stands,
          λ there.
              let nodes : node ≡ pl.node = one_node r.method nodes_in_order node pl.node s.node there.node s.stands (node_here pl there) (s.is ∙ sym there.is) in
              let methods : method ≡ pl.method = sym there.in_method in
              (λ i. Some (record { method = methods i; node = nodes i })),
        )

    pub no_place : ((node : ℕ) → StandsAt r.method offset node → ⊥) → (pl : NodePlace) → (◌≡◌ {A = Option NodePlace} None (Some pl)) ↔ IsPlaceInMethod g method offset pl
    no_place none pl = (
      λ e. absurd (none-some pl e),
      λ there. absurd (none pl.node (record { node = there.node; stands = node_here pl there; is = there.is })),
    )

-- ---- a node by its reference

module _ (g : Findings) (meant : NodeRef) where
  -- the method of the node stands at the place of the node's
  pub method_of : (number : MethodNo) → meant.method ≡ Some number → (pl : NodePlace) → IsPlaceOfNode g meant pl → IsPlaceOfMethod g number pl.method
  method_of number of pl there = record {
    lowered = there.stands.lowered;
    stands = there.stands.method_stands;
    is = same_Some there.stands.lowered.method number (sym there.of_method ∙ of);
  }

  pub no_node : meant.method ≡ None → (pl : NodePlace) → (◌≡◌ {A = Option NodePlace} None (Some pl)) ↔ IsPlaceOfNode g meant pl
  no_node none pl = (λ e. absurd (none-some pl e), λ there. absurd (none-some there.stands.lowered.method (sym none ∙ there.of_method)))

  pub no_method : (number : MethodNo) → meant.method ≡ Some number → ((place : ℕ) → IsPlaceOfMethod g number place → ⊥) → (pl : NodePlace)
      → (◌≡◌ {A = Option NodePlace} None (Some pl)) ↔ IsPlaceOfNode g meant pl
  no_method number of none pl = (λ e. absurd (none-some pl e), λ there. absurd (none pl.method (method_of number of pl there)))

  pub in_method : (number : MethodNo) → meant.method ≡ Some number → (method : ℕ) → IsPlaceOfMethod g number method
      → ((place : ℕ) → IsPlaceOfMethod g number place → place ≡ method) → (pl : NodePlace) → IsPlaceInMethod g method meant.offset pl ↔ IsPlaceOfNode g meant pl
  in_method number of method stands only pl = (
    λ there.
        let listed : slice_get g.methods method ≡ Some there.stands.lowered = subst (λ (k : ℕ). slice_get g.methods k ≡ Some there.stands.lowered) there.in_method there.stands.method_stands in
        let same = same_Some stands.lowered there.stands.lowered (sym stands.stands ∙ listed) in
        record {
          node = there.node;
          stands = there.stands;
          of_method = of ∙ ap Some (sym stands.is ∙ ap (λ (m : LoweredMethod). m.method) same);
          is = there.is;
        },
    λ there. record {
      in_method = only pl.method (method_of number of pl there);
      node = there.node;
      stands = there.stands;
      is = there.is;
    },
  )
