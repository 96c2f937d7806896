-- The variable of a slot at a node, and its place.
use Rattle.std.proofs.Common.{◌≡◌, ℕ, ◌<◌, [], length, Option, Some, None, refl, sym, ◌∙◌, ap, subst}
use Rattle.std.specs.List.{slice_get, Contains}
use Rattle.std.specs.Option.{IfSome, IfNone}
use Rattle.std.proofs.lemmas.Option.{same_Some}
use Rattle.list_laws.proofs.Places.{at_map, contains_at, map_at, place_of, stands_below}
use Rattle.jvm_model.specs.Programs.{Program}
use Rattle.op_model.specs.declared.lowered.LoweredMethod.{LoweredMethod}
use Rattle.op_model.specs.declared.node.Node.{Node}
use Rattle.points_to_rules.specs.declared.place.PlaceNo.{PlaceNo}
use Rattle.points_to_rules.specs.declared.place.Place.TheVariants as places
use Rattle.points_to_rules.specs.declared.running_method.RunningMethod.{RunningMethod}
use Rattle.points_to_rules.specs.Facts.{Holder, variable}
use Rattle.points_to_rules.specs.Places.{IsHolderIn, holder_from}
use Rattle.points_to_rules.specs.WholeMethods.{IsWholeMethod}
use Rattle.points_to_rules.proofs.ExactPlaces.{same_places, exact_places, place_itself}
use Rattle.points_to_rules.proofs.PlaceHolders.{place_stands, places_differ}
use Rattle.slot_names.specs.declared.variable.Variable.{Variable}
use Rattle.slot_names.specs.KeptNames.{name_table}
use Rattle.slot_names.specs.NodePlaces.{AreInOrder}
use Rattle.slot_names.specs.Variables.{IsVariable}
use Rattle.slot_names.proofs.OneVariable.{one_variable}
use Rattle.ground.specs.declared.lists.Lists.{Lists}
use Rattle.ground.specs.declared.node_place.NodePlace.{NodePlace}
use Rattle.ground.specs.Findings.{Findings, AreSitesOf, HasNode, IsSlotOf}
use Rattle.ground.specs.Sound.{AreSound}
use Rattle.ground.specs.Told.{findings_of}
use Rattle.ground.proofs.KeySets.{Tells}
use Rattle.ground.proofs.Views.{running_at, holder_at, holder_in}

-- `==` tells places apart.
pub tells_places : Tells same_places
tells_places = record { itself = place_itself; exact = exact_places }

module _ (p : Program) (l : Lists) (g : Findings) (is : findings_of p l ≡ g) (sound : AreSound p l) where
  module _ (pl : NodePlace) (r : RunningMethod) (at : slice_get l.methods.items pl.method ≡ Some r) where
    pub in_order : AreInOrder r.method
    in_order = record { ascend = (sound.methods r (contains_at l.methods.items pl.method r at)).reached.ascend }

    method_is : (m : LoweredMethod) → slice_get g.methods pl.method ≡ Some m → r.method ≡ m
    method_is m stands = let (other, there, same) = running_at p l g is pl.method m stands in ap (λ (x : RunningMethod). x.method) (same_Some r other (sym at ∙ there)) ∙ same

    pub node_within : HasNode g pl → pl.node < length r.method.nodes
    node_within has = subst (λ (m : LoweredMethod). pl.node < length m.nodes) (sym (method_is has.lowered has.stands)) has.within

    pub named_within : HasNode g pl → pl.node < (name_table r.names).count
    named_within has =
        subst (λ (n : ℕ). pl.node < n) (sym (sound.names r (contains_at l.methods.items pl.method r at)).count) (node_within has)

    -- what is kept of a slot is its variable
    pub is_variable : (slot : ℕ) (m : LoweredMethod) (n : Node) → slice_get g.methods pl.method ≡ Some m → slice_get m.nodes pl.node ≡ Some n → IsVariable m n slot ((name_table r.names).variable pl.node slot)
    is_variable slot m n stands node_at =
        let same = method_is m stands in
        let v = (name_table r.names).variable pl.node slot in
        subst (λ (k : LoweredMethod). IsVariable k n slot v) same
        ((sound.names r (contains_at l.methods.items pl.method r at)).each pl.node slot n (ap (λ (k : LoweredMethod). slice_get k.nodes pl.node) same ∙ node_at))

  -- ---- the number of a variable's place

  pub variable_at : (number : ℕ) (v : Variable) → slice_get l.places.keys number ≡ Some (places.Variable v) → slice_get g.holders number ≡ Some (variable v)
  variable_at number v there = holder_at p l g is number (variable v) (at_map (holder_from l.sites.items) l.places.keys number (places.Variable v) there)

  pub place_there : (v : Variable) → Contains g.holders (variable v) → (number : ℕ) × (slice_get l.places.keys number ≡ Some (places.Variable v))
  place_there v there =
      let (number, stands) = place_of g.holders (variable v) there in
      let (place, at, same) = map_at (holder_from l.sites.items) l.places.keys number (variable v) (holder_in p l g is number (variable v) stands) in
      let (h, holds) = sound.places number place at in
      let holder : h ≡ variable v = sym (place_stands l.sites.items place h holds) ∙ same in
      let is_place = places_differ l.sites.items sound.apart place (places.Variable v) (variable v) (subst (λ (x : Holder). IsHolderIn l.sites.items place x) holder holds) refl in
      (number, at ∙ ap Some is_place)

module _ (g : Findings) (whole : (m : LoweredMethod) → Contains g.methods m → IsWholeMethod g.program m.method.0 m) (pl : NodePlace) (slot : ℕ) (v : Variable)
    (is : (m : LoweredMethod) (n : Node) → slice_get g.methods pl.method ≡ Some m → slice_get m.nodes pl.node ≡ Some n → IsVariable m n slot v) where
  -- the holder of the slot is its variable
  slot_is : (h : Holder) → IsSlotOf g pl slot h → h ≡ variable v
  slot_is h of =
      let m = of.stands.lowered in
      let reached = (whole m (contains_at g.methods pl.method m of.stands.method_stands)).reached in
      let there = contains_at m.nodes pl.node of.node of.stands.node_stands in
      of.is_slot.is ∙ ap variable (one_variable m of.node slot of.is_slot.name v reached there of.is_slot.named (is m of.node of.stands.method_stands of.stands.node_stands))

  -- the place of the variable is that of the slot
  pub slot_found : (o : Option PlaceNo) → IfSome o (λ place. slice_get g.holders place.0 ≡ Some (variable v)) → IfSome o (λ place. (h : Holder) → IsSlotOf g pl slot h → slice_get g.holders place.0 ≡ Some h)
  slot_found None at = tt
  slot_found (Some place) at = λ h of. at ∙ ap Some (sym (slot_is h of))

  pub slot_unknown : (o : Option PlaceNo) → IfNone o (AreSitesOf g (variable v) []) → IfNone o ((h : Holder) → IsSlotOf g pl slot h → AreSitesOf g h [])
  slot_unknown None none = λ h of. subst (λ (x : Holder). AreSitesOf g x []) (sym (slot_is h of)) none
  slot_unknown (Some place) none = tt

  -- the slot has a holder
  pub slot_has : HasNode g pl → (h : Holder) × IsSlotOf g pl slot h
  slot_has has =
      let (n, node_at) = stands_below has.lowered.nodes pl.node has.within in (
        variable v,
        record {
          node = n;
          stands = record { lowered = has.lowered; method_stands = has.stands; node_stands = node_at };
          is_slot = record { name = v; named = is has.lowered n has.stands node_at; is = refl };
        },
      )
