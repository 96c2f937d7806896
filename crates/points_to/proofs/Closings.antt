-- What the loop rests on: the supply gives what it gave, items name what is there, and how the loop ends.
use Rattle.std.proofs.Common.{◌≡◌, ◌↔◌, ℕ, inl, inr, List, [], Ok, Err, Option, Some, refl, sym, ◌∙◌, subst}
use Rattle.std.specs.List.{slice_get, Contains}
use Rattle.std.proofs.lemmas.Option.{same_Some}
use Rattle.failure.specs.declared.Failure.{Failure}
use Rattle.failure.specs.declared.Failure.TheVariants.{Cause, OutOfMemory}
use Rattle.jvm_model.specs.declared.number.MethodNo.{MethodNo}
use Rattle.jvm_model.specs.Programs.{Program}
use Rattle.program_model.specs.Numbers.{IsMethodNumber}
use Rattle.op_model.specs.Supplies.{GivenAs, IsSameSupply}
use Rattle.least_sets.specs.Rules.{IsDerivable}
use Rattle.least_sets.proofs.Derivations.{derivable_in_closed}
use Rattle.least_sets.proofs.Places.{nothing_in}
use Rattle.bit_rows.specs.Sets.{IsIn}
use Rattle.bit_rows.proofs.Numbers.{none_in_empty}
use Rattle.site_rows.specs.declared.row.SiteRow.{SiteRow}
use Rattle.site_rows.specs.Rows.{held_at}
use Rattle.points_to.specs.declared.queue.Queue.{Queue}
use Rattle.points_to.specs.declared.queue.Turn.{Turn}
use Rattle.points_to.specs.declared.queue.Turn.TheVariants.{Sites, One}
use Rattle.points_to_rules.specs.Facts.{Holder}
use Rattle.points_to_constraints.specs.Items.{Constraint as ItemConstraint, dispatch, Item as RuleItem, constrained}
use Rattle.points_to_constraints.specs.ItemRules.{ItemInstance}
use Rattle.points_to_numbers.specs.declared.item.Item.{Item}
use Rattle.points_to_numbers.specs.declared.item.Item.TheVariants.{Holds, Runs, Calls, Constrains}
use Rattle.points_to_numbers.specs.declared.keys.ConstraintNo.{ConstraintNo}
use Rattle.points_to_numbers.specs.Numbered.{Numbered, AreApart}
use Rattle.points_to_numbers.specs.Steps.{IsItemAt, Adds}
use Rattle.points_to_numbers.proofs.Adding.{adds_same}
use Rattle.points_to.specs.declared.refusals.RefusedMethod.{RefusedMethod}
use Rattle.points_to_rules.specs.declared.running_method.RunningMethod.{RunningMethod}
use Rattle.points_to_rules.specs.declared.solve_fault.SolveFault.{SolveFault}
use Rattle.points_to_rules.specs.declared.solve_fault.SolveFault.TheVariants.{PairLimit, Refused, TooMany}
use Rattle.points_to.specs.declared.working.Working.{Working}
use Rattle.points_to.specs.Closing.{IsClosingEnd}
use Rattle.points_to.specs.Concluding.{ConstraintsBy, IsKnownIndex, IsKnownItem, IsKnownTurn, ResolvesIn, FollowsFrom, FollowsInTurn, RefusedBy, AddsCallsBy, AddsMethodsBy}
use Rattle.grouped_lists.specs.Groups.{values_at}
use Rattle.points_to.specs.Passing.{IsKnownConstraint, NotesMethods}
use Rattle.points_to.specs.Queues.{IsDone, IsHeld, IsQueueEnd, State, Takes, pair_item, state_of}
use Rattle.points_to.specs.Turns.{IsInTurn, IsNext, kind_of}
use Rattle.points_to_rules.specs.Solutions.{IsSupplyOf}
use Rattle.points_to.specs.Taking.{IsConcluded, IsOutOfRoom, IsStarted, IsTakingEnd}
use Rattle.points_to.proofs.Meanings.{Meant}
use Rattle.points_to.proofs.Noting.{those_same}
use Rattle.points_to.proofs.NumberedCalls.{resolved_in}
use Rattle.points_to.proofs.NumberRanges.{IsInRange, IsConstraintInRange, in_range_is_closed}
use Rattle.points_to.proofs.QueueItems.{done_held}
use Rattle.points_to.proofs.Reached.{limit_reached}
use Rattle.points_to.proofs.SoFar.{AreDerived, IsSoFar, IsToldOf, derived_start}

-- ---- the supply

pub same_itself : (gives : GivenAs) → IsSameSupply gives gives
same_itself gives = record { entries = λ m a. ((λ g. g), (λ g. g)) }

pub same_on : (one other third : GivenAs) → IsSameSupply one other → IsSameSupply other third → IsSameSupply one third
same_on one other third first second = record { entries = λ m a. ((λ g. (first.entries m a).0 ((second.entries m a).0 g)), (λ g. (second.entries m a).1 ((first.entries m a).1 g))) }

pub supply_same : (p : Program) (old new : GivenAs) → IsSameSupply old new → IsSupplyOf p old → IsSupplyOf p new
supply_same p old new same h = record {
  serves = λ number coded. (let served = h.serves number coded in (served.0, (same.entries number served.0).1 served.1));
  coded = λ number answer g. h.coded number answer ((same.entries number answer).0 g);
  methods = λ number l g. h.methods number l ((same.entries number (Ok l)).0 g);
}

module _ (p : Program) (old new : GivenAs) (same : IsSameSupply old new) (n : Numbered) (rows : List SiteRow) (constraints : ConstraintsBy) where
  follows_same : (item : Item) (x : RuleItem) → FollowsFrom p new n rows constraints item x ↔ FollowsFrom p old n rows constraints item x
  follows_same (Holds place site) x = ((λ f. f), (λ f. f))
  follows_same (Runs m) x = (
    (λ f. record { method = f.method; given = (same.entries m.0 (Ok f.method)).0 f.given; item = f.item }),
    (λ f. record { method = f.method; given = (same.entries m.0 (Ok f.method)).1 f.given; item = f.item }),
  )
  follows_same (Calls call target) x = ((λ f. f), (λ f. f))
  follows_same (Constrains place constraint) x = ((λ f. f), (λ f. f))

  adds_as_before : (turn : Turn) (m : Numbered) (a b : List Item) → Adds m (FollowsInTurn p new n rows constraints turn) a b → Adds m (FollowsInTurn p old n rows constraints turn) a b
  adds_as_before turn m a b h = adds_same m (FollowsInTurn p new n rows constraints turn) (FollowsInTurn p old n rows constraints turn) a b (λ x. (
    (λ (i, turned, f). (i, turned, (follows_same i x).0 f)),
    (λ (i, turned, f). (i, turned, (follows_same i x).1 f)),
  )) h

module _ (old new : GivenAs) (same : IsSameSupply old new) where
  refused_same : (item : Item) (r : RefusedMethod) → RefusedBy new item r ↔ RefusedBy old item r
  refused_same (Holds place site) r = ((λ f. f), (λ f. f))
  refused_same (Runs m) r = (
    (λ f. record { is = f.is; refused = (same.entries m.0 (Err r.refusal)).0 f.refused }),
    (λ f. record { is = f.is; refused = (same.entries m.0 (Err r.refusal)).1 f.refused }),
  )
  refused_same (Calls call target) r = ((λ f. f), (λ f. f))
  refused_same (Constrains place constraint) r = ((λ f. f), (λ f. f))

  refused_as_before : (item : Item) (a b : Option RefusedMethod) → NotesMethods (RefusedBy new item) a b → NotesMethods (RefusedBy old item) a b
  refused_as_before item a b h = record { noted = h.noted; those = those_same (RefusedBy new item) (RefusedBy old item) h.noted (refused_same item) h.those; first = h.first }

  calls_as_before : (item : Item) (a b : List _) → AddsCallsBy new item a b → AddsCallsBy old item a b
  calls_as_before (Holds place site) a b h = h
  calls_as_before (Runs m) a b h = elim h [
    | inl given ↦ inl (record { method = given.method; given = (same.entries m.0 (Ok given.method)).0 given.given; adds = given.adds })
    | inr stay ↦ inr stay
  ]
  calls_as_before (Calls call target) a b h = h
  calls_as_before (Constrains place constraint) a b h = h

  methods_as_before : (item : Item) (a b : List RunningMethod) → AddsMethodsBy new item a b → AddsMethodsBy old item a b
  methods_as_before (Holds place site) a b h = h
  methods_as_before (Runs k) a b h = elim h [
    | inl (m, is, e) ↦ inl (m, record { given = (same.entries k.0 (Ok m.method)).0 is.given; named = is.named }, e)
    | inr (none, e) ↦ inr ((λ l given. none l ((same.entries k.0 (Ok l)).1 given)), e)
  ]
  methods_as_before (Calls call target) a b h = h
  methods_as_before (Constrains place constraint) a b h = h

-- what is told of a turn, by what the supply gave at first
pub concluded : (p : Program) (old now : GivenAs) → IsSameSupply old now → (turn : Turn) (v w : Working) → IsConcluded p now turn v w
    → IsToldOf p old v.found.work.tables w.found.work.tables (state_of v.queue) v.constraints.groups.items w.constraints.groups.items v.found.refusals.call w.found.refusals.call
    v.found.refusals.method w.found.refusals.method v.methods.items w.methods.items turn w.found.work.steps.items
concluded p old now same turn v w made = record {
  grows = made.grows;
  apart = made.apart;
  indexed = made.indexed;
  adds = adds_as_before p old now same v.found.work.tables v.queue.rows.rows.items (values_at w.constraints.groups.items) turn w.found.work.tables [] w.found.work.steps.items made.adds;
  calls = calls_as_before old now same (kind_of turn) v.found.work.tables.calls w.found.work.tables.calls made.calls;
  lacks = made.lacks;
  refused = refused_as_before old now same (kind_of turn) v.found.refusals.method w.found.refusals.method made.refused;
  methods = methods_as_before old now same (kind_of turn) v.methods.items w.methods.items made.methods;
}

-- ---- what items name

constraint_known : (p : Program) (n : Numbered) (constraint : ConstraintNo) (h : Holder) (u : ItemConstraint) (x : RuleItem) → slice_get n.constraints constraint.0 ≡ Some u → x ≡ constrained h u → IsInRange p x → IsKnownConstraint p n constraint
constraint_known p n constraint h u x there e range = record {
  numbered = (u, there);
  resolved = λ call selects. subst (IsConstraintInRange p) (same_Some u (dispatch call) (sym there ∙ selects)) (subst (IsInRange p) e range);
}

known_by : (p : Program) (n : Numbered) → ((number : ℕ) → ResolvesIn p n number) → (item : Item) (x : RuleItem) → IsItemAt n item x → IsInRange p x → IsKnownItem p n item
known_by p n resolved (Holds place site) x (h, s, holder, there, e) range = (s, there)
known_by p n resolved (Runs m) x e range = subst (IsInRange p) e range
known_by p n resolved (Calls call target) x (c, at, e) range = record { numbered = (c, at); target_is = subst (IsInRange p) e range; resolved = resolved call.0 }
known_by p n resolved (Constrains place constraint) x (h, u, holder, there, e) range = constraint_known p n constraint h u x there e range

module _ {p : Program} {gives : GivenAs} {entry : MethodNo} {n : Numbered} {a b : Queue} {constraints : ConstraintsBy} {call : _} {method : _} {listed : List RunningMethod} {turn : Turn}
    (h : IsSoFar p gives entry n (state_of a) constraints call method listed) (next : IsNext a b turn) (supply : IsSupplyOf p gives) (within : IsMethodNumber p entry.0) where
  in_range : (x : RuleItem) → IsDerivable (ItemInstance p gives entry) x → IsInRange p x
  in_range x derived = derivable_in_closed (ItemInstance p gives entry) (IsInRange p) x derived (in_range_is_closed p gives entry supply within)

  known_held : (i : Item) → IsHeld (state_of b) i → IsKnownItem p n i
  known_held i held =
      let (x, at, derived) = h.known i ((next.held i).0 held) in
      known_by p n (resolved_in p gives (Meant n (IsDone (state_of a))) n supply h.calls.each) i x at (in_range x derived)

  known_by_turn : (t : Turn) → turn ≡ t → IsKnownTurn p n t
  known_by_turn (Sites fresh) is = λ site there. known_held (pair_item fresh.place site) (done_held (state_of b) _ (next.now (pair_item fresh.place site) (subst (λ (t : Turn). IsInTurn t (pair_item fresh.place site)) (sym is) (refl, there))))
  known_by_turn (One item) is = known_held item (done_held (state_of b) item (next.now item (subst (λ (t : Turn). IsInTurn t item) (sym is) refl)))

  pub known_turn : IsKnownTurn p n turn
  known_turn = known_by_turn turn refl

  pub known_index : IsKnownIndex p n (state_of b).rows constraints
  known_index = record {
    sites_known = λ place site there. known_held (pair_item place site) (record { there = there });
    constraints_known = λ place constraint there. (
        let item : Item = Constrains (record { 0 = place }) constraint in
        known_held item (done_held (state_of b) item (next.still item ((h.index.constraints_are (record { 0 = place }) constraint).0 there))));
  }

-- ---- the end

pub closing_end : (p : Program) (gives : GivenAs) (entry : MethodNo) (limit : ℕ) (n : Numbered) (old new : State) (steps : List Item) (failure : Failure SolveFault) → AreApart n
    → (Takes old steps new → AreDerived p gives entry n new) → IsQueueEnd old steps new limit failure → IsClosingEnd p gives entry limit failure
closing_end p gives entry limit n old new steps (Cause (PairLimit k)) apart derived end = (end.0, limit_reached p gives entry n new limit apart (derived end.2) end.1)
closing_end p gives entry limit n old new steps (Cause (Refused r)) apart derived end = absurd end
closing_end p gives entry limit n old new steps (Cause TooMany) apart derived end = tt
closing_end p gives entry limit n old new steps OutOfMemory apart derived end = tt

pub room_end : (p : Program) (gives : GivenAs) (entry : MethodNo) (limit : ℕ) (failure : Failure SolveFault) → IsOutOfRoom failure → IsClosingEnd p gives entry limit failure
room_end p gives entry limit failure (inl e) = subst (λ (f : Failure SolveFault). IsClosingEnd p gives entry limit f) (sym e) tt
room_end p gives entry limit failure (inr e) = subst (λ (f : Failure SolveFault). IsClosingEnd p gives entry limit f) (sym e) tt

-- where the start was taken in up to the limit
pub start_end : (p : Program) (gives : GivenAs) (entry : MethodNo) (limit : ℕ) (n : Numbered) (old new : State) (steps : List Item) (failure : Failure SolveFault) → ((i : Item) → IsHeld old i → ⊥)
    → IsTakingEnd (IsStarted p entry n steps) old steps new limit failure → IsClosingEnd p gives entry limit failure
start_end p gives entry limit n old new steps failure none (inl room) = room_end p gives entry limit failure room
start_end p gives entry limit n old new steps failure none (inr (made, end)) =
    closing_end p gives entry limit n old new steps failure made.apart (λ takes. derived_start p gives entry n steps old new none made.call made.adds takes) end

-- where what follows from a turn was taken in up to the limit
pub taken_end : (p : Program) (gives now : GivenAs) (entry : MethodNo) (limit : ℕ) (turn : Turn) (v w : Working) (failure : Failure SolveFault)
    → (IsConcluded p now turn v w → Takes (state_of v.queue) w.found.work.steps.items (state_of w.queue) → AreDerived p gives entry w.found.work.tables (state_of w.queue))
    → IsTakingEnd (IsConcluded p now turn v w) (state_of v.queue) w.found.work.steps.items (state_of w.queue) limit failure → IsClosingEnd p gives entry limit failure
taken_end p gives now entry limit turn v w failure derived (inl room) = room_end p gives entry limit failure room
taken_end p gives now entry limit turn v w failure derived (inr (made, end)) =
    closing_end p gives entry limit w.found.work.tables (state_of v.queue) (state_of w.queue) w.found.work.steps.items failure made.apart (derived made) end

-- nothing is there at first
pub nothing_held : (q : State) → q.rows ≡ [] → q.others ≡ [] → (i : Item) → IsHeld q i → ⊥
nothing_held q no_row no_other (Holds place site) h = none_in_empty site.0 (subst (λ (rows : List SiteRow). IsIn (held_at rows place.0) site.0) no_row h.there)
nothing_held q no_row no_other (Runs m) h = nothing_in (Runs m) (subst (λ (xs : List Item). Contains xs (Runs m)) no_other h.there)
nothing_held q no_row no_other (Calls number target) h = nothing_in (Calls number target) (subst (λ (xs : List Item). Contains xs (Calls number target)) no_other h.there)
nothing_held q no_row no_other (Constrains place constraint) h = nothing_in (Constrains place constraint) (subst (λ (xs : List Item). Contains xs (Constrains place constraint)) no_other h.there)
