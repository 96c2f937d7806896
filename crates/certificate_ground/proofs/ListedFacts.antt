-- Lists of what lines list are those of a program, and tell what is listed and the targets that follow.
use Rattle.std.proofs.Common.{◌≡◌, ◌⊎◌, ◌↔◌, ℕ, List, [], ◌∷◌, map, Some, Ok, refl, sym, ◌∙◌, ap, subst, inl, inr}
use Rattle.std.specs.List.{slice_get, Contains}
use Rattle.std.proofs.lemmas.List.Elements.{All-contains}
use Rattle.std.proofs.lemmas.Option.{same_Some}
use Rattle.list_laws.proofs.Members.{contained_in_map, contains_map}
use Rattle.list_laws.proofs.Places.{at_map, map_at, place_of}
use Rattle.jvm_model.specs.declared.number.MethodNo.{MethodNo}
use Rattle.jvm_model.specs.declared.number.SiteNo.{SiteNo}
use Rattle.jvm_model.specs.declared.site.Site.{Site}
use Rattle.jvm_model.specs.Programs.{Program}
use Rattle.program_model.specs.Numbers.{IsMethodNumber}
use Rattle.op_model.specs.declared.lowered.LoweredMethod.{LoweredMethod}
use Rattle.op_model.specs.declared.node.Node.{Node}
use Rattle.op_model.specs.declared.node.NodeRef.{NodeRef}
use Rattle.op_model.specs.declared.op.Call.{Call as NodeCall}
use Rattle.op_model.specs.Supplies.{GivenAs}
use Rattle.least_sets.specs.Rules.{Hold}
use Rattle.points_to_rules.specs.declared.place.Place.TheVariants as places
use Rattle.points_to_rules.specs.declared.running_method.RunningMethod.{RunningMethod}
use Rattle.points_to_rules.specs.Facts.{Holder, Fact, may_hold, may_run, may_call, may_write, variable}
use Rattle.points_to_rules.specs.Places.{holder_from}
use Rattle.points_to_rules.specs.Rules.{Instance, IsNodeOf, IsSlot, node_of, start_call, entry_runs, entry_called, entry_argument, entry_strings, keep, move, enter, handle, load, load_element, load_static, make, make_array, get_constant, cast, store, store_element, store_static, nest, begin_static, call_chosen, call_selected, target_runs, pass, return, receive, keep_argument, give_argument, give_new, give_kept, throw, raise, target_throws, described_throws, initialiser_throws, initialiser_runs, keep_thrown}
use Rattle.points_to_rules.specs.Solutions.{IsSupplyOf}
use Rattle.points_to_rules.specs.WholeMethods.{IsWholeMethod, NamesNumbers}
use Rattle.points_to_rules.proofs.PlaceHolders.{place_stands}
use Rattle.ground.specs.declared.lists.Lists.{Lists}
use Rattle.ground.specs.Findings.{Findings}
use Rattle.ground.specs.Lists.{HasFacts, IsHeldIn as IsHeldInLists, nodes_of, number_of}
use Rattle.ground.specs.Sound.{AreSound}
use Rattle.call_selection.proofs.SelectedTargets.{selected_within}
use Rattle.certificate_lines.specs.LineTexts.{holder_of}
use Rattle.certificate_lines.specs.declared.line.Holder.{Holder as LineHolder}
use Rattle.certificate_lines.specs.declared.line.Line.{Line}
use Rattle.certificate_lines.specs.declared.line.Line.TheVariants as lines
use Rattle.certificate_ground.specs.declared.held.Held.{Held}
use Rattle.certificate_ground.specs.Listed.{IsListed, runs, holds, writes}
use Rattle.certificate_ground.specs.ListedGround.{AreReached, IsListedGround, IsTargetBy, IsTargetFact}
use Rattle.certificate_ground.specs.Lists.{AreListsOf, IsTarget, held_in}
use Rattle.certificate_ground.specs.Targets.{GoesTo, IsReceiver, chosen, selected}
use Rattle.certificate_ground.proofs.HeldPairs.{holder_named, place_there, site_named}

-- ---- what is listed, by its kind

-- The line that says the fact.
abbrev LineOf : List Line → Fact → Type 0
LineOf all (may_hold h s) = (from : LineHolder) × Contains all (lines.PointsTo from s) × (holder_of from ≡ h)
LineOf all (may_run m) = Contains all (lines.Reached m)
LineOf all (may_call call target) = ⊥
LineOf all (may_write m f) = Contains all (lines.Modifies m f)

pub line_of : (all : List Line) (f : Fact) → IsListed all f → LineOf all f
line_of all f (runs m there) = there
line_of all f (holds from s there) = (from, there, refl)
line_of all f (writes m field there) = there

listed_as : (all : List Line) (h : Holder) (s : Site) → LineOf all (may_hold h s) → IsListed all (may_hold h s)
listed_as all h s (from, there, is) = subst (λ (x : Holder). IsListed all (may_hold x s)) is (holds from s there)

module _ (p : Program) (gives : GivenAs) (entry : MethodNo) (all : List Line) (l : Lists) (are : AreListsOf p gives entry all l) (supply : IsSupplyOf p gives) (within : IsMethodNumber p entry.0) where
  abbrev held : Held
  held = held_in l

  abbrev sites : List Site
  sites = l.sites.items

  -- ---- methods

  pub reached_line : (m : MethodNo) → Contains l.running.keys m → Contains all (lines.Reached m)
  reached_line m there = let (x, listed, is) = (are.running m).0 there in subst (λ (y : Line). Contains all y) is listed

  pub line_reached : (m : MethodNo) → Contains all (lines.Reached m) → Contains l.running.keys m
  line_reached m there = (are.running m).1 (lines.Reached m, there, refl)

  whole : (r : RunningMethod) → Contains l.methods.items r → IsWholeMethod p (number_of r).0 r.method
  whole r there = supply.methods (number_of r).0 r.method (are.given.only r there).1

  -- ---- targets are methods of the program

  target_in : (r : RunningMethod) → Contains l.methods.items r → (n : Node) → Contains r.method.nodes n → (target : MethodNo) → GoesTo p sites held r.method n target → IsMethodNumber p target.0
  target_in r there n stands target (chosen c is is_chosen) = (All-contains (NamesNumbers p) r.method.nodes n (whole r there).numbers stands).chosen c target is is_chosen
  target_in r there n stands target (selected c site is receiver of) = selected_within c.kind p c.resolved of.receiver target.0 of.selects

  target_number : (call : NodeRef) (target : MethodNo) → IsTarget p sites held entry l.methods.items call target → IsMethodNumber p target.0
  target_number call target (inl (same, is)) = subst (λ (m : MethodNo). IsMethodNumber p m.0) (sym is) within
  target_number call target (inr (r, there, (n, stands, (same, goes)))) = target_in r there n stands target goes

  -- ---- the lists are sound

  pub are_sound : AreSound p l
  are_sound = record {
    methods = whole;
    names = are.given.named;
    numbered = are.numbered;
    apart = are.sets.apart;
    places = λ number place at.
        let (site, there) = are.sets.pairs.valued number place at in
        let (x, listed, by) = (are.sets.pairs.each place site).0 (number, at, there) in
        (holder_of by.holder, by.stands);
    places_apart = are.sets.places_apart;
    held = λ number site there.
        let (place, at) = are.sets.pairs.keyed number site there in
        let (x, listed, by) = (are.sets.pairs.each place site).0 (number, at, there) in
        (by.site, by.numbered);
    called = are.targets.valued;
    targets = λ number target there.
        let (call, at) = are.targets.keyed number target there in
        target_number call target ((are.targets.each call target).0 (number, at, there));
    few = are.sets.few;
  }

  -- ---- pairs

  held_line : (h : Holder) (s : Site) → IsHeldInLists l h s → LineOf all (may_hold h s)
  held_line h s (number, site, at_holder, at_site, among) =
      let (place, at, is) = map_at (holder_from sites) l.places.keys number h at_holder in
      let (x, listed, by) = (are.sets.pairs.each place site).0 (number, at, among) in
      let holder : holder_of by.holder ≡ h = sym (place_stands sites place (holder_of by.holder) by.stands) ∙ is in
      let same : by.site ≡ s = same_Some by.site s (sym by.numbered ∙ at_site) in
      (by.holder, subst (λ (t : Site). Contains all (lines.PointsTo by.holder t)) same (subst (λ (y : Line). Contains all y) by.is listed), holder)

  line_held : (h : Holder) (s : Site) → LineOf all (may_hold h s) → IsHeldInLists l h s
  line_held h s (from, there, is) =
      let named = are.sets.named.each (lines.PointsTo from s) there in
      let (place, stands) = place_there sites from (holder_named from s sites named) in
      let (k, at) = place_of sites s (site_named from s sites named) in
      let number : SiteNo = record { 0 = k } in
      let pair = (are.sets.pairs.each place number).1 (lines.PointsTo from s, there, record { holder = from; site = s; is = refl; stands = stands; numbered = at }) in
      (pair.0, number, at_map (holder_from sites) l.places.keys pair.0 place pair.1 ∙ ap Some (place_stands sites place (holder_of from) stands ∙ is), at, pair.2)

  -- ---- targets, by rules

  to_rule : (call : NodeRef) (target : MethodNo) → IsTarget p sites held entry l.methods.items call target → IsTargetBy p gives entry all call target
  to_rule call target (inl (same, is)) =
      subst (λ (c : NodeRef). IsTargetBy p gives entry all c target) (sym same)
      (subst (λ (t : MethodNo). IsTargetBy p gives entry all start_call t) (sym is) (record { premises = []; listed = tt; instance = entry_called }))
  to_rule call target (inr (r, there, (n, stands, (same, goes)))) = subst (λ (c : NodeRef). IsTargetBy p gives entry all c target) (sym same) (by goes)
    where
      by : GoesTo p sites held r.method n target → IsTargetBy p gives entry all (node_of r.method.method n) target
      by (chosen c is is_chosen) =
          let (listed, given) = are.given.only r there in
          record {
            premises = may_run (number_of r) ∷ [];
            listed = (runs (number_of r) (reached_line (number_of r) listed), tt);
            instance = call_chosen (number_of r) r.method n c target (record { given = given; stands = stands }) is is_chosen;
          }
      by (selected c site is receiver of) =
          let (listed, given) = are.given.only r there in
          let (x, is_listed, pair) = (are.sets.pairs.each (places.Variable receiver.name) site).0 receiver.holds in
          let sites_are : pair.site ≡ of.receiver = same_Some pair.site of.receiver (sym pair.numbered ∙ of.numbered) in
          let line = subst (λ (t : Site). Contains all (lines.PointsTo pair.holder t)) sites_are (subst (λ (y : Line). Contains all y) pair.is is_listed) in
          let holds_it = listed_as all (variable receiver.name) of.receiver (pair.holder, line, pair.stands) in
          record {
            premises = may_run (number_of r) ∷ may_hold (variable receiver.name) of.receiver ∷ [];
            listed = (runs (number_of r) (reached_line (number_of r) listed), (holds_it, tt));
            instance = call_selected (number_of r) r.method n c receiver.slot (variable receiver.name) of.receiver target (record { given = given; stands = stands }) is receiver.passed
                (record { name = receiver.name; named = receiver.named; is = refl }) of.selects;
          }

  -- The call goes to the target, if the fact says that one does.
  abbrev CallCase : Fact → Type 0
  CallCase (may_hold h s) = Unit {0}
  CallCase (may_run m) = Unit {0}
  CallCase (may_call call target) = IsTarget p sites held entry l.methods.items call target
  CallCase (may_write m f) = Unit {0}

  -- a node of a method that is reached and given
  at_node : (m : MethodNo) (lowered : LoweredMethod) (n : Node) (target : MethodNo) → IsNodeOf gives m lowered n → IsListed all (may_run m) → GoesTo p sites held lowered n target
      → IsTarget p sites held entry l.methods.items (node_of m n) target
  at_node m lowered n target is listed goes =
      let (r, there, same) = are.given.all m lowered (line_reached m (line_of all (may_run m) listed)) is.given in
      let number : r.method.method ≡ m = ap (λ (k : LoweredMethod). k.method) same ∙ (supply.methods m.0 lowered is.given).number_is in
      inr (
        r,
        there,
        (
          n,
          subst (λ (k : LoweredMethod). Contains k.nodes n) (sym same) is.stands,
          (ap (λ (k : MethodNo). node_of k n) (sym number), subst (λ (k : LoweredMethod). GoesTo p sites held k n target) (sym same) goes),
        ),
      )

  receiver_there : (lowered : LoweredMethod) (n : Node) (c : NodeCall) (z : ℕ) (from : Holder) (s : Site) → slice_get c.arguments 0 ≡ Some (Some z) → (slot : IsSlot lowered n z from)
      → IsListed all (may_hold from s) → (site : SiteNo) × IsReceiver held lowered n c site × (slice_get sites site.0 ≡ Some s)
  receiver_there lowered n c z from s passed slot listed =
      let (h, there, is) = line_of all (may_hold from s) listed in
      let named = are.sets.named.each (lines.PointsTo h s) there in
      let (k, at) = place_of sites s (site_named h s sites named) in
      let site : SiteNo = record { 0 = k } in
      let pair = (are.sets.pairs.each (places.Variable slot.name) site).1 (lines.PointsTo h s, there, record { holder = h; site = s; is = refl; stands = is ∙ slot.is; numbered = at }) in
      (site, record { slot = z; passed = passed; name = slot.name; named = slot.named; holds = pair }, at)

  each_call : (premises : List Fact) (f : Fact) → Instance p gives entry premises f → Hold (IsListed all) premises → CallCase f
  each_call premises f entry_runs hold = tt
  each_call premises f entry_called hold = inl (refl, refl)
  each_call premises f (entry_argument has) hold = tt
  each_call premises f (entry_strings has) hold = tt
  each_call premises f (keep m lowered n z from to s is inside effect slot after) hold = tt
  each_call premises f (move m lowered n y z from to s is inside effect slot after) hold = tt
  each_call premises f (enter m lowered n z to s is is_first inside slot) hold = tt
  each_call premises f (handle m lowered n handler z from to s is covers is_local slot there) hold = tt
  each_call premises f (load m lowered n object target field from to base s is is_op slot after) hold = tt
  each_call premises f (load_element m lowered n array target from to base s is is_op slot after) hold = tt
  each_call premises f (load_static m lowered n target field to s is is_op after) hold = tt
  each_call premises f (make m lowered n target to s is is_op after) hold = tt
  each_call premises f (make_array m lowered n ss target to s is is_op e after) hold = tt
  each_call premises f (get_constant m lowered n target to s is is_op after) hold = tt
  each_call premises f (cast m lowered n class slot from to s is is_op before after fits) hold = tt
  each_call premises f (store m lowered n object value field into from base s is is_op slot stored) hold = tt
  each_call premises f (store_element m lowered n array value into from base s is is_op slot stored) hold = tt
  each_call premises f (store_static m lowered n value field from s is is_op slot) hold = tt
  each_call premises f (nest m lowered n ss target i outer inner is is_op e also) hold = tt
  each_call premises f (begin_static m lowered n target field class is is_op begins) hold = tt
  each_call premises f (call_chosen m lowered n c target is is_op e) hold = at_node m lowered n target is hold.0 (chosen c is_op e)
  each_call premises f (call_selected m lowered n c z from s target is is_op e slot selects) hold =
      let (site, receiver, at) = receiver_there lowered n c z from s e slot hold.1.0 in
      at_node m lowered n target is hold.0 (selected c site is_op receiver (record { receiver = s; numbered = at; selects = selects }))
  each_call premises f (target_runs call target) hold = tt
  each_call premises f (pass m lowered n c target unit z from s is is_op e slot may) hold = tt
  each_call premises f (return m lowered n value from s is is_op slot) hold = tt
  each_call premises f (receive m lowered n c target z to s is is_op e of_file after) hold = tt
  each_call premises f (keep_argument m lowered n c target stub argument from s is is_op described listed of) hold = tt
  each_call premises f (give_argument m lowered n c target stub argument from s z to is is_op described listed of e after) hold = tt
  each_call premises f (give_new m lowered n c target stub class z to is is_op described listed e after) hold = tt
  each_call premises f (give_kept m lowered n c target stub class s z to is is_op described listed of fits e after) hold = tt
  each_call premises f (throw m lowered n value from to s is is_op slot fits lands) hold = tt
  each_call premises f (raise m lowered n number class to is listed is_class lands) hold = tt
  each_call premises f (target_throws m lowered n c target to s is is_op of_file lands) hold = tt
  each_call premises f (described_throws m lowered n c target stub class to is is_op described listed lands) hold = tt
  each_call premises f (initialiser_throws m lowered n i to s is starts lands) hold = tt
  each_call premises f (initialiser_runs started i starts) hold = tt
  each_call premises f (keep_thrown started i s starts) hold = tt

  from_rule : (call : NodeRef) (target : MethodNo) → IsTargetBy p gives entry all call target → IsTarget p sites held entry l.methods.items call target
  from_rule call target by = each_call by.premises (may_call call target) by.instance by.listed

  -- ---- the facts

  module _ (facts : List Fact) (has : HasFacts l facts) where
    abbrev Told : Fact → Type 0
    Told f = IsListed all f ⊎ IsTargetFact p gives entry all f

    -- only calls follow by rules
    not_listed : (f : Fact) (call : NodeRef) (target : MethodNo) → f ≡ may_call call target → IsListed all f → ⊥
    not_listed f call target is listed = subst (λ (g : Fact). LineOf all g) is (line_of all f listed)

    pub facts_are : (f : Fact) → Contains facts f ↔ Told f
    facts_are (may_hold h s) = (
      (λ there. inl (listed_as all h s (held_line h s ((has.holds h s).0 there)))),
      (λ either. elim either [
        | inl listed ↦ (has.holds h s).1 (line_held h s (line_of all (may_hold h s) listed))
        | inr (call, target, is, by) ↦ absurd (let e : may_hold h s ≡ may_call call target = is in cc)
      ]),
    )
    facts_are (may_run m) = (
      (λ there. inl (runs m (reached_line m ((has.runs m).0 there)))),
      (λ either. elim either [
        | inl listed ↦ (has.runs m).1 (line_reached m (line_of all (may_run m) listed))
        | inr (call, target, is, by) ↦ absurd (let e : may_run m ≡ may_call call target = is in cc)
      ]),
    )
    facts_are (may_call call target) = (
      (λ there. inr (call, target, refl, to_rule call target ((are.targets.each call target).0 ((has.calls call target).0 there)))),
      (λ either. elim either [
        | inl listed ↦ absurd (not_listed (may_call call target) call target refl listed)
        | inr (c, t, is, by) ↦
            let e : may_call call target ≡ may_call c t = is in
            let calls : c ≡ call = cc in
            let targets : t ≡ target = cc in
            let found = from_rule call target (subst (λ (k : MethodNo). IsTargetBy p gives entry all call k) targets (subst (λ (k : NodeRef). IsTargetBy p gives entry all k t) calls by)) in
            (has.calls call target).1 ((are.targets.each call target).1 found)
      ]),
    )
    facts_are (may_write m f) = (
      (λ there.
          let (x, listed, is) = (are.sets.written (record { method = m; field = f })).0 ((has.writes m f).0 there) in
          inl (writes m f (subst (λ (y : Line). Contains all y) is listed))),
      (λ either. elim either [
        | inl listed ↦ (has.writes m f).1 ((are.sets.written (record { method = m; field = f })).1 (lines.Modifies m f, line_of all (may_write m f) listed, refl))
        | inr (call, target, is, by) ↦ absurd (let e : may_write m f ≡ may_call call target = is in cc)
      ]),
    )

  -- ---- the methods

  pub methods_are : AreReached gives all (map nodes_of l.methods.items)
  methods_are = record {
    only = λ lowered there.
        let (r, listed, same) = contained_in_map nodes_of l.methods.items lowered there in
        let (reached, given) = are.given.only r listed in (
          subst (λ (k : LoweredMethod). Contains all (lines.Reached k.method)) same (reached_line (number_of r) reached),
          subst (λ (k : LoweredMethod). gives k.method.0 (Ok k)) same given,
        );
    all = λ number lowered listed given.
        let (r, there, same) = are.given.all number lowered (line_reached number listed) given in
        subst (λ (k : LoweredMethod). Contains (map nodes_of l.methods.items) k) same (contains_map nodes_of l.methods.items r there);
    apart = λ i j a b at_i at_j same.
        let (r, r_at, r_is) = map_at nodes_of l.methods.items i a at_i in
        let (q, q_at, q_is) = map_at nodes_of l.methods.items j b at_j in
        are.given.apart i j r q r_at q_at (ap (λ (k : LoweredMethod). k.method) r_is ∙ same ∙ ap (λ (k : LoweredMethod). k.method) (sym q_is));
  }

  -- ---- the ground

  pub is_listed_ground : (g : Findings) → g.program ≡ p → g.methods ≡ map nodes_of l.methods.items → g.sites ≡ sites → HasFacts l g.facts → IsListedGround p gives entry all g
  is_listed_ground g program methods sites_same has = record {
    program = program;
    facts = facts_are g.facts has;
    methods = subst (λ (ms : List LoweredMethod). AreReached gives all ms) (sym methods) methods_are;
    named = λ x s there named.
        let (k, at) = place_of sites s ((are.sets.named.each x there).each s named) in
        (k, ap (λ (ss : List Site). slice_get ss k) sites_same ∙ at);
  }
