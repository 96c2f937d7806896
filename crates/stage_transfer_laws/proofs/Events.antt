-- Events of calls: of the object, of another one, or none.
use Rattle.std.proofs.Common.{◌≡◌, ◌⊎◌, inl, inr, ℕ, nat_eq, Bool, true, false, cond, not, ◌&&◌, ◌||◌, List, [], ◌∷◌, ◌++◌, map, Option, Some, None, refl, sym, ◌∙◌, ap, subst}
use Rattle.std.specs.Prelude.{slice_get, slice_index}
use Rattle.std.specs.List.{Contains}
use Rattle.std.specs.Option.{option_flatten}
use Rattle.std.proofs.lemmas.Bool.{and_parts, false≢true, not-true, or_cases}
use Rattle.std.proofs.lemmas.List.Elements.{Contains-append_cases, Contains-append_left}
use Rattle.list_laws.proofs.Members.{contained_in_map, contains_first, contains_later}
use Rattle.jvm_model.specs.declared.automaton.Event.{Event}
use Rattle.jvm_model.specs.declared.site.Site.{Site}
use Rattle.op_model.specs.declared.lowered.LoweredMethod.{LoweredMethod}
use Rattle.op_model.specs.declared.node.Node.{Node}
use Rattle.op_model.specs.declared.op.Call.{Call as NodeCall}
use Rattle.slot_names.specs.Variables.{AreReachedNodes}
use Rattle.slot_names.proofs.OneVariable.{one_variable}
use Rattle.points_to_rules.specs.Facts.{Fact, Holder, may_hold, variable}
use Rattle.points_to_rules.specs.Rules.{IsSlot}
use Rattle.access_paths.specs.declared.root.Root.TheVariants.{Slot}
use Rattle.access_paths.specs.Paths.{bare, has_path, Path}
use Rattle.stage_facts.specs.Facts.{Tuple, SiteFact, none_yet, some_yet, of_object}
use Rattle.stage_transfer.specs.Settings.{alike, AreAnswersOf, Setting}
use Rattle.stage_transfer.specs.Calls.{after_event, call_facts, event_at, event_of_call, is_of_others, joined, moved_by_event, not_referring, referring}
use Rattle.stage_transfer.specs.Stages.{finished}
use Rattle.stage_relations.specs.Laws.{HoldsNoOther, IsIdle, MayHold, Meets}
use Rattle.stage_relations.specs.Roots.{HasVariables, of_method}
use Rattle.stage_relations.specs.Relations.{IsReceiver, Notes}
use Rattle.stage_transfer_laws.proofs.Alike.{are_alike}
use Rattle.stage_transfer_laws.proofs.CutRelations.{notes_cut}
use Rattle.stage_transfer_laws.proofs.Finished.{finished_cut}
use Rattle.stage_transfer_laws.proofs.Paths.{has_it, in_set, it_has, of_set}
use Rattle.stage_transfer_laws.proofs.Results.{idle_same, meets_some}

-- ---- no event

notes_same : (l : LoweredMethod) (n : Node) (z : ℕ) (is_its : Bool) (after : ℕ) (t u : Tuple) → u.unique ≡ t.unique → u.state ≡ after → u.must ≡ t.must
    → u.may ≡ t.may
    → u.must_not ≡ t.must_not → Notes l n z is_its after t u
notes_same l n z is_its after t u unique state must may must_not = record {
  unique = λ e. sym unique ∙ e;
  state = state;
  must = λ y there. inl (subst (λ (ps : List Path). Contains ps y) must there);
  must_not = λ y there. inl (subst (λ (ps : List Path). Contains ps y) must_not there);
  may = λ e. sym may ∙ e;
  all = λ e y there. subst (λ (ps : List Path). Contains ps y) (sym must) there;
}

pub event_idle : (w : Setting) (l : LoweredMethod) (n : Node) (c : NodeCall) (f : SiteFact) → IsIdle f → Contains (map (finished w) (call_facts w l n c f)) f
event_idle w l n c none_yet idle = idle_same w none_yet idle
event_idle w l n c some_yet idle = idle_same w some_yet idle
event_idle w l n c (of_object t) idle = absurd idle

pub event_none : (w : Setting) (l : LoweredMethod) (n : Node) (c : NodeCall) (u : Tuple) → event_of_call w.property c ≡ None
    → Meets (λ v. (z : ℕ) → Notes l n z false u.state u v) (map (finished w) (call_facts w l n c (of_object u)))
event_none w l n c u none =
    subst (λ (e : Option Event). Meets (λ v. (z : ℕ) → Notes l n z false u.state u v)
    (map (finished w) (map of_object (event_at w l n e (option_flatten (slice_get c.arguments 0)) u)))) (sym none)
    (meets_some w (λ v. (z : ℕ) → Notes l n z false u.state u v) (u ∷ []) u (contains_first u [])
    (λ z. notes_cut (finished_cut w.stage u) (notes_same l n z false u.state u u refl refl refl refl refl)))

-- ---- results

-- A list of tuples has one that is so related.
record HasOne (IsRelated : Tuple → Type 0) (us : List Tuple) : Type 0 where
  tuple : Tuple
  listed : Contains us tuple
  related : IsRelated tuple

meets_one : (w : Setting) (l : LoweredMethod) (n : Node) (z : ℕ) (is_its : Bool) (after : ℕ) (u : Tuple) (us : List Tuple)
    → HasOne (Notes l n z is_its after u) us → Meets (Notes l n z is_its after u) (map (finished w) (map of_object us))
meets_one w l n z is_its after u us one =
    meets_some w (Notes l n z is_its after u) us one.tuple one.listed (notes_cut (finished_cut w.stage one.tuple) one.related)

-- The paths of some slots.
abbrev paths_of : List ℕ → List Path
paths_of slots = map (λ (k : ℕ). bare (Slot k)) slots

in_joined : (slots : List ℕ) (set : List Path) (y : Path) → Contains set y → Contains (joined slots set) y
in_joined slots set y there = in_set (set ++ paths_of slots) y (Contains-append_left set (paths_of slots) y there)

module _ (S : Fact → Type 0) (w : Setting) (answers : AreAnswersOf S w.answers) (l : LoweredMethod) (n : Node) (reached : AreReachedNodes l)
    (stands : Contains l.nodes n) (e : Event) (z : ℕ) (u : Tuple) where
  abbrev has : HasVariables l n
  has = of_method reached stands

  abbrev receiver : Holder
  receiver = variable (w.answers.variable_at l n z)

  abbrev slots : List ℕ
  slots = alike w l n z

  abbrev moved : Tuple
  moved = moved_by_event e u

  -- What the law asks for where the event is on the object, and where it is on another one.
  abbrev Its : Tuple → Type 0
  Its v = Notes l n z true (slice_index e.next u.state) u v

  abbrev Others : Tuple → Type 0
  Others v = Notes l n z false u.state u v

  -- What is given, by the tests of the definition.
  abbrev given : (known others only last : Bool) → List Tuple
  given known others only last =
      cond known (moved ∷ [])
      (cond others (u ∷ []) (cond only (referring slots moved ∷ []) (cond last (referring slots moved ∷ not_referring slots u ∷ []) (u ∷ moved ∷ []))))

  -- The event of a call on the slot.
  meets_event : (c : NodeCall) (is_its : Bool) (after : ℕ) → event_of_call w.property c ≡ Some e → slice_get c.arguments 0 ≡ Some (Some z)
      → HasOne (Notes l n z is_its after u) (after_event w e receiver z slots u)
      → Meets (Notes l n z is_its after u) (map (finished w) (call_facts w l n c (of_object u)))
  meets_event c is_its after is at one =
      let at_slot : option_flatten (slice_get c.arguments 0) ≡ Some z = ap option_flatten at in
      subst (λ (o : Option Event). Meets (Notes l n z is_its after u)
      (map (finished w) (map of_object (event_at w l n o (option_flatten (slice_get c.arguments 0)) u)))) (sym is)
      (subst (λ (r : Option ℕ). Meets (Notes l n z is_its after u) (map (finished w) (map of_object (event_at w l n (Some e) r u)))) (sym at_slot)
      (meets_one w l n z is_its after u (after_event w e receiver z slots u) one))

  -- ---- slots that are noted

  of_joined : (set : List Path) (y : Path) → Contains (joined slots set) y → Contains set y ⊎ IsReceiver l n z y
  of_joined set y there = elim (Contains-append_cases set (paths_of slots) y (of_set (set ++ paths_of slots) y there)) [
    | inl old ↦ inl old
    | inr new ↦
        let found = contained_in_map (λ (k : ℕ). bare (Slot k)) slots y new in
        inr (record { slot = found.0; alike = are_alike w answers.variables l n z found.0 has found.1; path_is = sym found.2 })
  ]

  refers : Its (referring slots moved)
  refers = record {
    unique = λ e. e;
    state = refl;
    must = λ y there. elim (of_joined u.must y there) [ inl old ↦ inl old | inr new ↦ inr (refl, new) ];
    must_not = λ y there. inl there;
    may = λ e. e;
    all = λ e y there. in_joined slots u.must y there;
  }

  refers_not : Others (not_referring slots u)
  refers_not = record {
    unique = λ e. e;
    state = refl;
    must = λ y there. inl there;
    must_not = λ y there. elim (of_joined u.must_not y there) [ inl old ↦ inl old | inr new ↦ inr (refl, new) ];
    may = λ e. e;
    all = λ e y there. there;
  }

  -- ---- the event is of the object

  -- The test that the receiver is another object fails.
  may_be_it : S (may_hold receiver w.site) → (Contains u.must_not (bare (Slot z)) → ⊥) → (u.may ≡ false → Contains u.must (bare (Slot z)))
      → has_path u.must (bare (Slot z)) ≡ false → is_of_others w receiver z u ≡ true → ⊥
  may_be_it holds apart clear unknown others =
      let held : Bool = w.answers.may_hold_site receiver w.site in
      let listed_not : Bool = has_path u.must_not (bare (Slot z)) in
      elim (or_cases (not held) (listed_not || not u.may) others) [
        | inl not_held ↦ false≢true (sym (not-true held not_held) ∙ (answers.holds receiver w.site).1 holds)
        | inr rest ↦ elim (or_cases listed_not (not u.may) rest) [
          | inl listed ↦ apart (has_it u.must_not (bare (Slot z)) listed)
          | inr certain ↦ false≢true (sym unknown ∙ it_has u.must (bare (Slot z)) (clear (not-true u.may certain)))
        ]
      ]

  its_one : S (may_hold receiver w.site) → (Contains u.must_not (bare (Slot z)) → ⊥) → (u.may ≡ false → Contains u.must (bare (Slot z)))
      → HasOne Its (after_event w e receiver z slots u)
  its_one holds apart clear =
      by (has_path u.must (bare (Slot z))) refl (is_of_others w receiver z u) refl (u.unique && w.answers.holds_no_other receiver w.site) (nat_eq w.stage 4)
    where
      moves : Its moved
      moves = notes_same l n z true (slice_index e.next u.state) u moved refl refl refl refl refl

      by : (known : Bool) → has_path u.must (bare (Slot z)) ≡ known → (others : Bool) → is_of_others w receiver z u ≡ others → (only last : Bool)
          → HasOne Its (given known others only last)
      by true is others other only last = record { tuple = moved; listed = contains_first moved []; related = moves }
      by false is true other only last = absurd (may_be_it holds apart clear is other)
      by false is false other true last = record { tuple = referring slots moved; listed = contains_first (referring slots moved) []; related = refers }
      by false is false other false true = record {
        tuple = referring slots moved;
        listed = contains_first (referring slots moved) (not_referring slots u ∷ []);
        related = refers;
      }
      by false is false other false false = record {
        tuple = moved;
        listed = contains_later u moved (moved ∷ []) (contains_first moved []);
        related = moves;
      }

  pub event_its : (c : NodeCall) → event_of_call w.property c ≡ Some e → slice_get c.arguments 0 ≡ Some (Some z) → MayHold S l n z w.site
      → (Contains u.must_not (bare (Slot z)) → ⊥) → (u.may ≡ false → Contains u.must (bare (Slot z)))
      → Meets (Notes l n z true (slice_index e.next u.state) u) (map (finished w) (call_facts w l n c (of_object u)))
  event_its c is at holds apart clear =
      let slot : IsSlot l n z receiver = record { name = w.answers.variable_at l n z; named = answers.variables l n z reached stands; is = refl } in
      meets_event c true (slice_index e.next u.state) is at (its_one (holds receiver slot) apart clear)

  -- ---- the event is of another object

  others_one : (Contains u.must (bare (Slot z)) → ⊥) → (u.unique ≡ true → ((other : Site) → S (may_hold receiver other) → other ≡ w.site) → ⊥)
      → HasOne Others (after_event w e receiver z slots u)
  others_one apart several =
      by (has_path u.must (bare (Slot z))) refl (is_of_others w receiver z u) (u.unique && w.answers.holds_no_other receiver w.site) refl (nat_eq w.stage 4)
    where
      same : Others u
      same = notes_same l n z false u.state u u refl refl refl refl refl

      by : (known : Bool) → has_path u.must (bare (Slot z)) ≡ known → (others only : Bool) → (u.unique && w.answers.holds_no_other receiver w.site) ≡ only
          → (last : Bool) → HasOne Others (given known others only last)
      by true is others only alone last = absurd (apart (has_it u.must (bare (Slot z)) is))
      by false is true only alone last = record { tuple = u; listed = contains_first u []; related = same }
      by false is false true alone last =
          let parts = and_parts u.unique (w.answers.holds_no_other receiver w.site) alone in
          absurd (several parts.0 ((answers.alone receiver w.site).0 parts.1))
      by false is false false alone true = record {
        tuple = not_referring slots u;
        listed = contains_later (referring slots moved) (not_referring slots u) (not_referring slots u ∷ []) (contains_first (not_referring slots u) []);
        related = refers_not;
      }
      by false is false false alone false = record { tuple = u; listed = contains_first u (moved ∷ []); related = same }

  -- A slot has one variable.
  one_receiver : (h : Holder) → IsSlot l n z h → h ≡ receiver
  one_receiver h slot =
      let name = one_variable l n z slot.name (w.answers.variable_at l n z) reached stands slot.named (answers.variables l n z reached stands) in
      slot.is ∙ ap variable name

  pub event_other : (c : NodeCall) → event_of_call w.property c ≡ Some e → slice_get c.arguments 0 ≡ Some (Some z) → (Contains u.must (bare (Slot z)) → ⊥)
      → (u.unique ≡ true → HoldsNoOther S l n z w.site → ⊥) → Meets (Notes l n z false u.state u) (map (finished w) (call_facts w l n c (of_object u)))
  event_other c is at apart several =
      meets_event c false u.state is at
      (others_one apart
      (λ unique alone. several unique (λ h slot other held. alone other (subst (λ (k : Holder). S (may_hold k other)) (one_receiver h slot) held))))
