-- What the ground says of a slot is what the setting answers.
use Rattle.std.proofs.Common.{◌≡◌, ◌↔◌, ℕ, ◌<◌, Bool, true, false, List, [], ◌∷◌, length, Some, refl, sym, ◌∙◌, subst, arith}
use Rattle.std.specs.List.{slice_get, Contains}
use Rattle.std.specs.Bool.{IsTrue}
use Rattle.std.proofs.lemmas.Bool.{false≢true}
use Rattle.list_laws.proofs.Members.{contains_first, contains_none}
use Rattle.list_laws.proofs.Places.{contains_at, stands_below}
use Rattle.jvm_model.specs.declared.number.SiteNo.{SiteNo}
use Rattle.jvm_model.specs.declared.site.Site.{Site}
use Rattle.op_model.specs.declared.lowered.LoweredMethod.{LoweredMethod}
use Rattle.op_model.specs.declared.node.Node.{Node}
use Rattle.slot_names.specs.declared.variable.Variable.{Variable}
use Rattle.slot_names.specs.Variables.{AreReachedNodes, IsVariable}
use Rattle.slot_names.proofs.OneVariable.{one_variable}
use Rattle.points_to_rules.specs.Facts.{Holder, may_hold, variable}
use Rattle.ground.specs.Findings.{AreSitesOf, Findings, HoldsAlone, IsSlotOf}
use Rattle.stage_transfer.specs.Settings.{Setting}
use Rattle.stage_slots.specs.Known.{HasReachedNode, IsKnownIn, KnownNode}

-- two tests of one thing are the same
pub same_truth : (a b : Bool) → (IsTrue a → IsTrue b) → (IsTrue b → IsTrue a) → a ≡ b
same_truth true b forth back = sym (forth refl)
same_truth false true forth back = back refl
same_truth false false forth back = refl

-- what holds none may hold no object
no_site_of : (g : Findings) (h : Holder) → AreSitesOf g h [] → (s : Site) → Contains g.facts (may_hold h s) → ⊥
no_site_of g h none s holds = let (number, within, at) = (none.each s).0 holds in contains_none number within

-- a value of `SlotsAt` knows `k`, which its model calls `view`
module _ {k view : KnownNode} (view_is : k ≡ view) (has : HasReachedNode k.ground k.at k.method) (w : Setting) (l : LoweredMethod) (n : Node) (seen : IsKnownIn view w l n)
    (slot : ℕ) where
  is : IsKnownIn k w l n
  is = subst (λ (known : KnownNode). IsKnownIn known w l n) (sym view_is) seen

  there : Contains k.method.nodes n
  there = contains_at k.method.nodes k.at.node n is.node

  named : IsVariable k.method n slot (w.answers.variable_at l n slot)
  named =
      let reached : AreReachedNodes l = subst AreReachedNodes (sym is.method) has.reached in
      let there_l : Contains l.nodes n = subst (λ (m : LoweredMethod). Contains m.nodes n) (sym is.method) there in
      subst (λ (m : LoweredMethod). IsVariable m n slot (w.answers.variable_at l n slot)) is.method (is.answers.variables l n slot reached there_l)

  -- the variable of the slot is the one that is answered
  pub answered : (v : Variable) → ((m : LoweredMethod) (x : Node) → slice_get k.ground.methods k.at.method ≡ Some m → slice_get m.nodes k.at.node ≡ Some x → IsVariable m x slot v)
      → v ≡ w.answers.variable_at l n slot
  answered v of = one_variable k.method n slot v (w.answers.variable_at l n slot) has.reached there (of k.method n has.stands is.node) named

  abbrev holder : Holder
  holder = variable (w.answers.variable_at l n slot)

  slot_of : IsSlotOf k.ground k.at slot holder
  slot_of = record {
    node = n;
    stands = record { lowered = k.method; method_stands = has.stands; node_stands = is.node };
    is_slot = record { name = w.answers.variable_at l n slot; named = named; is = refl };
  }

  -- ---- whether it may hold an object of the site

  held_as : (b : Bool) → (IsTrue b ↔ Contains k.ground.facts (may_hold holder w.site)) → b ≡ w.answers.may_hold_site holder w.site
  held_as b test =
      let answer = is.answers.holds holder w.site in
      same_truth b (w.answers.may_hold_site holder w.site) (λ h. answer.1 (test.0 h)) (λ h. test.1 (answer.0 h))

  pub held : (b : Bool) → ((h : Holder) (s : Site) → IsSlotOf k.ground k.at slot h → slice_get k.ground.sites k.site.0 ≡ Some s → IsTrue b ↔ Contains k.ground.facts (may_hold h s))
      → b ≡ w.answers.may_hold_site holder w.site
  held b test = held_as b (test holder w.site slot_of is.site)

  pub none_held : ((h : Holder) → IsSlotOf k.ground k.at slot h → AreSitesOf k.ground h []) → false ≡ w.answers.may_hold_site holder w.site
  none_held none = held_as false (λ never. absurd (false≢true never), λ holds. absurd (no_site_of k.ground holder (none holder slot_of) w.site holds))

  -- ---- whether it may hold no object of another site

  lone : (b : Bool) → (IsTrue b → (s : Site) → Contains k.ground.facts (may_hold holder s) → s ≡ w.site)
      → (((s : Site) → Contains k.ground.facts (may_hold holder s) → s ≡ w.site) → IsTrue b) → b ≡ w.answers.holds_no_other holder w.site
  lone b forth back =
      let answer = is.answers.alone holder w.site in
      same_truth b (w.answers.holds_no_other holder w.site) (λ h. answer.1 (forth h)) (λ h. back (answer.0 h))

  pub none_lone : ((h : Holder) → IsSlotOf k.ground k.at slot h → AreSitesOf k.ground h []) → true ≡ w.answers.holds_no_other holder w.site
  none_lone none = lone true (λ any s holds. absurd (no_site_of k.ground holder (none holder slot_of) s holds)) (λ only. refl)

  -- no site at all
  pub empty_lone : (numbers : List SiteNo) (b : Bool) → ((h : Holder) → IsSlotOf k.ground k.at slot h → AreSitesOf k.ground h numbers) → length numbers ≡ 0 → b ≡ true → b ≡ w.answers.holds_no_other holder w.site
  empty_lone [] b sites none is_true = is_true ∙ none_lone sites
  empty_lone (number ∷ numbers) b sites none is_true = absurd (omega arith)

  -- some site, and no other
  pub some_lone : (numbers : List SiteNo) (b : Bool) → ((h : Holder) → IsSlotOf k.ground k.at slot h → AreSitesOf k.ground h numbers)
      → ((number : SiteNo) → Contains numbers number → number.0 < length k.ground.sites) → 0 < length numbers
      → ((h : Holder) (s : Site) → IsSlotOf k.ground k.at slot h → slice_get k.ground.sites k.site.0 ≡ Some s → IsTrue b ↔ HoldsAlone k.ground h s) → b ≡ w.answers.holds_no_other holder w.site
  some_lone [] b sites within some test = absurd (omega arith)
  some_lone (number ∷ numbers) b sites within some test =
      let (s, at) = stands_below k.ground.sites number.0 (within number (contains_first number numbers)) in
      let holds = ((sites holder slot_of).each s).1 (number, contains_first number numbers, at) in
      let alone = test holder w.site slot_of is.site in
      lone b (λ h other stands. (alone.0 h).only other stands)
      (λ only. alone.1 (record { holds = subst (λ (r : Site). Contains k.ground.facts (may_hold holder r)) (only s holds) holds; only = only }))
