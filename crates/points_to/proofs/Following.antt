-- What follows from an item by its number is what the rules lead to from what it stands for, with what else is done.
use Rattle.std.proofs.Common.{◌≡◌, ℕ, inl, inr, List, [], ◌∷◌, Some, refl, sym, ◌∙◌, ap, subst, ◌⊎◌}
use Rattle.std.specs.List.{slice_get, Contains}
use Rattle.std.proofs.lemmas.Option.{none-some}
use Rattle.jvm_model.specs.declared.number.MethodNo.{MethodNo}
use Rattle.jvm_model.specs.declared.number.SiteNo.{SiteNo}
use Rattle.jvm_model.specs.declared.site.Site.{Site}
use Rattle.jvm_model.specs.Programs.{Program}
use Rattle.op_model.specs.declared.lowered.LoweredMethod.{LoweredMethod}
use Rattle.op_model.specs.declared.node.Node.{Node}
use Rattle.op_model.specs.declared.node.NodeRef.{NodeRef}
use Rattle.op_model.specs.declared.op.Call.{Call as NodeCall}
use Rattle.op_model.specs.declared.op.Op.TheVariants.{Call}
use Rattle.op_model.specs.Supplies.{GivenAs}
use Rattle.least_sets.specs.Rules.{Hold}
use Rattle.points_to_rules.specs.Facts.{Holder, may_hold, may_run, may_call}
use Rattle.points_to_rules.specs.Rules.{IsNodeOf}
use Rattle.points_to_constraints.specs.CallItems.{CallItem}
use Rattle.points_to_constraints.specs.Items.{CallSite, Constraint as ItemConstraint, Item as RuleItem, known, constrained}
use Rattle.points_to_constraints.specs.ItemRules.{Passed, ItemInstance, of_start, of_node, of_call, of_constraint}
use Rattle.points_to_rules.specs.WholeMethods.{AreWholeMethods}
use Rattle.points_to_constraints.specs.NodeItems.{NodeItem, IsCallSite}
use Rattle.points_to_numbers.specs.declared.item.Item.{Item}
use Rattle.points_to_numbers.specs.declared.item.Item.TheVariants.{Holds, Runs, Calls, Constrains}
use Rattle.points_to_rules.specs.declared.place.PlaceNo.{PlaceNo}
use Rattle.points_to_numbers.specs.declared.keys.ConstraintNo.{ConstraintNo}
use Rattle.points_to_numbers.specs.Numbered.{Numbered, AreApart}
use Rattle.points_to_numbers.specs.Steps.{IsItemAt}
use Rattle.points_to.specs.Concluding.{ConstraintsBy, IsIndex, FollowsFrom, IsCallItem}
use Rattle.points_to.specs.Queues.{HasPassed, IsDone, State}
use Rattle.points_to.proofs.GivenMethods.{GivesOne}
use Rattle.points_to.proofs.ItemPlaces.{IsCalling, holding, using, running, calling}
use Rattle.points_to.proofs.Meanings.{LeadsTo, Meant}
use Rattle.points_to.proofs.NumberedCalls.{IsNumberedCall, of_start as of_start_call, of_method}
use Rattle.points_to.proofs.OneSite.{IsGivenCall, one_given_call}

-- ---- what is done

-- What is known of the items that are done by a turn, where what was done before stands for `Old`.
pub record IsTurnAt (p : Program) (gives : GivenAs) (n : Numbered) (constraints : ConstraintsBy) (q : State) (Old : RuleItem → Type 0) : Type 0 where
  pub methods : AreWholeMethods p gives
  pub one : GivesOne gives
  pub apart : AreApart n
  pub index : IsIndex constraints q
  pub calls : (number : ℕ) (site : CallSite) → slice_get n.calls number ≡ Some site → IsNumberedCall gives Old site

module _ {p : Program} {gives : GivenAs} {n : Numbered} {constraints : ConstraintsBy} {q : State} {Old : RuleItem → Type 0} (h : IsTurnAt p gives n constraints q Old) (entry : MethodNo) where
  abbrev Now : RuleItem → Type 0
  Now = Meant n (IsDone q)

  abbrev Conclusion : RuleItem → Type 0
  Conclusion x = LeadsTo (ItemInstance p gives entry) Now x

  -- ---- the sites and the constraints of a place

  -- a constraint of a place is there, as the constraint of its holder
  pub constraint_there : (place : PlaceNo) (constraint : ConstraintNo) (from : Holder) (u : ItemConstraint) → Contains (constraints place.0) constraint → slice_get n.holders place.0 ≡ Some from → slice_get n.constraints constraint.0 ≡ Some u
      → Now (constrained from u)
  constraint_there place constraint from u c holder stands = (Constrains place constraint, (h.index.constraints_are place constraint).0 c, (from, u, holder, stands, refl))

  pub site_there : (place : PlaceNo) (site : SiteNo) (from : Holder) (s : Site) → HasPassed q.rows place.0 site.0 → slice_get n.holders place.0 ≡ Some from → slice_get n.sites site.0 ≡ Some s
      → Now (known (may_hold from s))
  site_there place site from s c holder stands = (Holds place site, record { there = c }, (from, s, holder, stands, refl))

  -- a constraint of a holder that is there is one of the holder's place
  pub constraint_of_place : (place : PlaceNo) (from : Holder) (u : ItemConstraint) → slice_get n.holders place.0 ≡ Some from → Now (constrained from u)
      → (constraint : ConstraintNo) × Contains (constraints place.0) constraint × (slice_get n.constraints constraint.0 ≡ Some u)
  constraint_of_place place from u holder (i, there, at) =
      let is = using n i from u at in
      let numbers : is.place.0 ≡ place.0 = h.apart.holders from is.place.0 place.0 is.holder holder in
      let constrains = subst (IsDone q) is.is there in
      (is.constraint, subst (λ (k : ℕ). Contains (constraints k) is.constraint) numbers ((h.index.constraints_are is.place is.constraint).1 constrains), is.of_constraint)

  pub site_of_place : (place : PlaceNo) (from : Holder) (s : Site) → slice_get n.holders place.0 ≡ Some from → Now (known (may_hold from s))
      → (site : SiteNo) × HasPassed q.rows place.0 site.0 × (slice_get n.sites site.0 ≡ Some s)
  site_of_place place from s holder (i, there, at) =
      let is = holding n i from s at in
      let numbers : is.place.0 ≡ place.0 = h.apart.holders from is.place.0 place.0 is.holder holder in
      let pair : IsDone q (Holds is.place is.site) = subst (IsDone q) is.is there in
      (is.site, subst (λ (k : ℕ). HasPassed q.rows k is.site.0) numbers pair.there, is.of_site)

  -- ---- each step is right

  by_constraint : (from : Holder) (u : ItemConstraint) (s : Site) (x : RuleItem) → Now (constrained from u) → Now (known (may_hold from s)) → Passed p u s x → Conclusion x
  by_constraint from u s x constrains holds passed = record { premises = constrained from u ∷ known (may_hold from s) ∷ []; instance = of_constraint from u s refl passed; hold = (constrains, (holds, tt)) }

  right_calls : (number : _) (target : MethodNo) → IsDone q (Calls number target) → (x : RuleItem) → IsCallItem p n number.0 target x → Conclusion x
  right_calls number target done x led = by (h.calls number.0 led.call led.stands)
    where
      by : IsNumberedCall gives Old led.call → Conclusion x
      by (of_start_call e) = absurd (none-some led.caller.0 (ap (λ (at : NodeRef). at.method) (sym e) ∙ led.caller.1))
      by (of_method m given runs) = record {
        premises = known (may_call led.call.at target) ∷ [];
        instance = of_call m given.l given.n given.call led.call target refl given.stands given.is_call given.is_site led.item;
        hold = ((Calls number target, done, (led.call, led.stands, refl)), tt);
      }

  -- where the item stands for something
  pub step_right : (i : Item) (y : RuleItem) → IsItemAt n i y → IsDone q i → (x : RuleItem) → FollowsFrom p gives n q.rows constraints i x → Conclusion x
  step_right (Holds place site) y (from, s, holder, there, e) done x (constraint, c, passed) =
      by_constraint from passed.u passed.s x (constraint_there place constraint from passed.u c holder passed.stands) (Holds place site, done, (from, passed.s, holder, passed.is_site, refl)) passed.passed
  step_right (Runs m) y at done x given =
      let (node, stands, made) = given.item in
      let made_here : NodeItem p m given.method node x = subst (λ (k : MethodNo). NodeItem p k given.method node x) (h.methods m.0 given.method given.given).number_is made in
      record {
        premises = known (may_run m) ∷ [];
        instance = of_node m given.method node refl (record { given = given.given; stands = stands }) made_here;
        hold = ((Runs m, done, refl), tt);
      }
  step_right (Calls number target) y at done x led = right_calls number target done x led
  step_right (Constrains place constraint) y (from, u, holder, there, e) done x (site, c, passed) =
      by_constraint from passed.u passed.s x (Constrains place constraint, done, (from, passed.u, holder, passed.stands, refl)) (site_there place site from passed.s c holder passed.is_site) passed.passed

  -- ---- no step is missing

  -- what follows from another way to write the item follows from it
  back_from : (i j : Item) → i ≡ j → (x : RuleItem) → FollowsFrom p gives n q.rows constraints j x → FollowsFrom p gives n q.rows constraints i x
  back_from i j is x f = subst (λ (k : Item). FollowsFrom p gives n q.rows constraints k x) (sym is) f

  from_node : (i : Item) (m : MethodNo) (l : LoweredMethod) (node : Node) (x : RuleItem) → IsItemAt n i (known (may_run m)) → IsNodeOf gives m l node → NodeItem p m l node x → FollowsFrom p gives n q.rows constraints i x
  from_node i m l node x at stands made =
      let made_here = subst (λ (k : MethodNo). NodeItem p k l node x) (sym (h.methods m.0 l stands.given).number_is) made in
      back_from i (Runs m) (running n i m at) x (record { method = l; given = stands.given; item = (node, stands.stands, made_here) })

  from_call : (i : Item) (m : MethodNo) (l : LoweredMethod) (node : Node) (c : NodeCall) (site : CallSite) (target : MethodNo) (x : RuleItem) → IsItemAt n i (known (may_call site.at target))
      → IsNodeOf gives m l node → node.op ≡ Call c → IsCallSite m l node c site → CallItem p site target x → FollowsFrom p gives n q.rows constraints i x
  from_call i m l node c site target x at stands is_call is_site made =
      let is = calling n i site.at target at in
      by is (h.calls is.number.0 is.call is.stands)
    where
      by : (is : IsCalling n i site.at target) → IsNumberedCall gives Old is.call → FollowsFrom p gives n q.rows constraints i x
      by is (of_start_call e) = absurd (none-some m (ap (λ (r : NodeRef). r.method) (sym e ∙ is.of_node ∙ is_site.at)))
      by is (of_method k given runs) =
          let own : IsGivenCall gives m site = record { l = l; n = node; stands = stands; call = c; is_call = is_call; is_site = is_site } in
          let same : site ≡ is.call = sym (one_given_call gives h.methods h.one k m is.call site given own is.of_node) in
          back_from i (Calls is.number target) is.is x (record {
            call = is.call;
            stands = is.stands;
            caller = (k, ap (λ (r : NodeRef). r.method) given.is_site.at);
            item = subst (λ (s : CallSite). CallItem p s target x) same made;
          })

  from_constrained : (i : Item) (from : Holder) (u : ItemConstraint) (s : Site) (x : RuleItem) → IsItemAt n i (constrained from u) → Passed p u s x → Now (known (may_hold from s)) → FollowsFrom p gives n q.rows constraints i x
  from_constrained i from u s x at passed holds =
      let is = using n i from u at in
      let (site, c, of_site) = site_of_place is.place from s is.holder holds in
      back_from i (Constrains is.place is.constraint) is.is x (site, c, record { u = u; stands = is.of_constraint; s = s; is_site = of_site; passed = passed })

  from_pair : (i : Item) (from : Holder) (u : ItemConstraint) (s : Site) (x : RuleItem) → IsItemAt n i (known (may_hold from s)) → Passed p u s x → Now (constrained from u) → FollowsFrom p gives n q.rows constraints i x
  from_pair i from u s x at passed constrains =
      let is = holding n i from s at in
      let (constraint, c, there) = constraint_of_place is.place from u is.holder constrains in
      back_from i (Holds is.place is.site) is.is x (constraint, c, record { u = u; stands = there; s = s; is_site = is.of_site; passed = passed })

-- Where each item that is done was done before or is one of the turn, what is concluded from them was so before, or follows from one of the turn.
module _ {p : Program} {gives : GivenAs} {n : Numbered} {constraints : ConstraintsBy} {q : State} (Before Turn : Item → Type 0) (h : IsTurnAt p gives n constraints q (Meant n Before)) (entry : MethodNo)
    (split : (i : Item) → IsDone q i → Before i ⊎ Turn i) where
  abbrev Was : RuleItem → Type 0
  Was = Meant n Before

  abbrev Made : RuleItem → Type 0
  Made x = (i : Item) × Turn i × FollowsFrom p gives n q.rows constraints i x

  pub step_complete : (premises : List RuleItem) → Hold (Meant n (IsDone q)) premises → (x : RuleItem) → ItemInstance p gives entry premises x → Hold Was premises ⊎ Made x
  step_complete premises hold x (of_start none i) = inl (subst (Hold Was) (sym none) tt)
  step_complete premises hold x (of_node m l node are stands made) =
      let ((i, done, at), rest) = subst (Hold (Meant n (IsDone q))) are hold in
      elim (split i done) [
        | inl before ↦ inl (subst (Hold Was) (sym are) ((i, before, at), tt))
        | inr turn ↦ inr (i, turn, from_node h entry i m l node x at stands made)
      ]
  step_complete premises hold x (of_call m l node call site target are stands is_call is_site made) =
      let ((i, done, at), rest) = subst (Hold (Meant n (IsDone q))) are hold in
      elim (split i done) [
        | inl before ↦ inl (subst (Hold Was) (sym are) ((i, before, at), tt))
        | inr turn ↦ inr (i, turn, from_call h entry i m l node call site target x at stands is_call is_site made)
      ]
  step_complete premises hold x (of_constraint from u s are passed) =
      let ((i, done_i, at_i), ((j, done_j, at_j), rest)) = subst (Hold (Meant n (IsDone q))) are hold in
      elim (split i done_i) [
        | inr turn ↦ inr (i, turn, from_constrained h entry i from u s x at_i passed (j, done_j, at_j))
        | inl before_i ↦ elim (split j done_j) [
          | inr turn ↦ inr (j, turn, from_pair h entry j from u s x at_j passed (i, done_i, at_i))
          | inl before_j ↦ inl (subst (Hold Was) (sym are) ((i, before_i, at_i), ((j, before_j, at_j), tt)))
        ]
      ]
