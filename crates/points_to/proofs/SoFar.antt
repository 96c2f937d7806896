-- What is so of the work list after some turns; and that it is so after one more.
use Rattle.std.proofs.Common.{◌≡◌, ℕ, ◌<◌, ◌⊎◌, inl, inr, List, [], ◌∷◌, Option, None, refl, sym, subst, arith}
use Rattle.std.specs.List.{All, AllZip, Contains}
use Rattle.std.proofs.lemmas.Option.{slice_get_within}
use Rattle.std.proofs.lemmas.List.Elements.{All-contains}
use Rattle.jvm_model.specs.declared.number.MethodNo.{MethodNo}
use Rattle.jvm_model.specs.Programs.{Program}
use Rattle.op_model.specs.Supplies.{GivenAs}
use Rattle.least_sets.specs.Rules.{Hold, IsDerivable}
use Rattle.least_sets.proofs.Derivations.{Hold-larger}
use Rattle.least_sets.proofs.Joined.{derivable_is_closed}
use Rattle.least_sets.proofs.Places.{All-from_contains, place_of, contains_at}
use Rattle.points_to_rules.specs.Facts.{Fact, may_run}
use Rattle.points_to_constraints.specs.Items.{Item as RuleItem, known}
use Rattle.points_to_constraints.specs.ItemRules.{StartItem, ItemInstance, of_start, of_node, of_call, of_constraint}
use Rattle.points_to_constraints.proofs.Holders.{zip_made}
use Rattle.points_to_numbers.specs.declared.item.Item.{Item}
use Rattle.points_to_numbers.specs.declared.item.Item.TheVariants.{Runs}
use Rattle.points_to_numbers.specs.Numbered.{Numbered, Grows, AreApart}
use Rattle.points_to_numbers.specs.Steps.{IsItemAt, Adds}
use Rattle.points_to_numbers.proofs.Growing.{grown_item}
use Rattle.points_to.specs.declared.queue.Queue.{Queue}
use Rattle.points_to.specs.declared.queue.Turn.{Turn}
use Rattle.points_to.specs.declared.queue.Turn.TheVariants.{Sites, One}
use Rattle.points_to.specs.declared.refusals.RefusedCall.{RefusedCall}
use Rattle.points_to.specs.declared.refusals.RefusedMethod.{RefusedMethod}
use Rattle.points_to_rules.specs.declared.running_method.RunningMethod.{RunningMethod}
use Rattle.points_to.specs.Closing.{IsLackIn, IsRefusedAmong, HasFirstCall, HasFirstMethod, KnownIn, IsClosed}
use Rattle.points_to.specs.Concluding.{ConstraintsBy, IsIndex, FollowsInTurn, LacksInTurn, RefusedBy, AddsCallsBy, AddsMethodsBy}
use Rattle.grouped_lists.specs.Groups.{values_at}
use Rattle.points_to.specs.Indexed.{ConstraintGroups, IsIndexed}
use Rattle.points_to.specs.Passing.{NotesCalls, NotesMethods}
use Rattle.points_to.specs.Queues.{IsDone, IsHeld, IsSound, State, Takes, items_of, state_of}
use Rattle.points_to.specs.Turns.{IsInTurn, IsNext, kind_of}
use Rattle.points_to_rules.specs.Solutions.{AreRunning, IsSupplyOf}
use Rattle.points_to.specs.Starting.{IsStartCall}
use Rattle.points_to.proofs.Following.{IsTurnAt, step_right, step_complete}
use Rattle.points_to.proofs.GivenMethods.{GivesOne}
use Rattle.points_to.proofs.IndexedItems.{index_none, index_more}
use Rattle.points_to.proofs.ItemPlaces.{running, one_meaning, rule_is, zip_back, zip_weaker}
use Rattle.points_to.proofs.Meanings.{Meant, meant_earlier, meant_later}
use Rattle.points_to.proofs.Noting.{those_none}
use Rattle.points_to.proofs.NumberedCalls.{AreNumberedCalls, of_start as of_start_call, calls_by}
use Rattle.points_to.proofs.PairedFacts.{AreCallsApart, facts_apart}
use Rattle.points_to.proofs.QueueItems.{done_held, held_listed, listed_apart, listed_held, room_listed}
use Rattle.points_to.proofs.RefusedItems.{first_call_as, first_method_as, lacks_more, refused_more}
use Rattle.points_to.proofs.RunningMethods.{running_none, running_by, running_same}

-- What items stand for among facts.
abbrev pub FactsOf : (RuleItem → Type 0) → Fact → Type 0
FactsOf T fact = T (known fact)

-- Each item stands for something that is derivable.
pub record AreDerived (p : Program) (gives : GivenAs) (entry : MethodNo) (n : Numbered) (q : State) : Type 0 where
  pub each : (i : Item) → IsHeld q i → (x : RuleItem) × IsItemAt n i x × IsDerivable (ItemInstance p gives entry) x
  pub calls : AreCallsApart n.calls

-- Items stand for what is derivable, and have what follows from those that are done; the constraints of places, the numbered calls, the first
-- refusals and the listed methods are those of the items that are done.
pub record IsSoFar (p : Program) (gives : GivenAs) (entry : MethodNo) (n : Numbered) (q : State) (constraints : ConstraintsBy) (call : Option RefusedCall) (method : Option RefusedMethod) (listed : List RunningMethod) : Type 0 where
  pub known : (i : Item) → IsHeld q i → (x : RuleItem) × IsItemAt n i x × IsDerivable (ItemInstance p gives entry) x
  pub closed : (premises : List RuleItem) (x : RuleItem) → ItemInstance p gives entry premises x → Hold (Meant n (IsDone q)) premises → Meant n (IsHeld q) x
  pub index : IsIndex constraints q
  pub calls : AreNumberedCalls gives (Meant n (IsDone q)) n.calls
  pub lacks : HasFirstCall (IsLackIn p (Meant n (IsDone q))) call
  pub refused : HasFirstMethod (IsRefusedAmong gives (Meant n (IsDone q))) method
  pub running : AreRunning gives (FactsOf (Meant n (IsDone q))) listed

-- tables that were part of others that are apart are apart
apart_before : (n m : Numbered) → Grows n m → AreApart m → AreApart n
apart_before n m grows apart = record {
  classes = λ fact i j p q. apart.classes fact i j (grows.classes i fact p) (grows.classes j fact q);
  sites = λ fact i j p q. apart.sites fact i j (grows.sites i fact p) (grows.sites j fact q);
  holders = λ fact i j p q. apart.holders fact i j (grows.holders i fact p) (grows.holders j fact q);
}

-- what was added to nothing is all of the steps
all_added : (n : Numbered) (P : RuleItem → Type 0) (steps : List Item) (adds : Adds n P [] steps) → (i : Item) → Contains adds.more i → Contains steps i
all_added n P steps adds i there = subst (λ (xs : List Item). Contains xs i) (sym adds.is) there

pub step_means : (n : Numbered) (P : RuleItem → Type 0) (steps : List Item) → Adds n P [] steps → (i : Item) → Contains steps i → (x : RuleItem) × IsItemAt n i x × P x
step_means n P steps adds i there =
    All-contains (λ (j : Item). (x : RuleItem) × IsItemAt n j x × P x) adds.more i adds.sound (subst (λ (xs : List Item). Contains xs i) adds.is there)

step_of : (n : Numbered) (P : RuleItem → Type 0) (steps : List Item) → Adds n P [] steps → (S : Item → Type 0) → All S steps → (x : RuleItem) → P x → Meant n S x
step_of n P steps adds S all x is =
    let (i, there, at) = adds.complete x is in
    (i, All-contains S steps i all (all_added n P steps adds i there), at)

-- ---- the start

module _ (p : Program) (gives : GivenAs) (entry : MethodNo) (n : Numbered) (steps : List Item) (old new : State) (none : (i : Item) → IsHeld old i → ⊥) (calls : IsStartCall n.calls) (adds : Adds n (StartItem p entry) [] steps)
    (takes : Takes old steps new) where
  start_known : (i : Item) → IsHeld new i → (x : RuleItem) × IsItemAt n i x × IsDerivable (ItemInstance p gives entry) x
  start_known i there = elim (takes.only i there) [
    | inl before ↦ absurd (none i before)
    | inr step ↦
        let (x, at, is) = step_means n (StartItem p entry) steps adds i step in
        (x, at, derivable_is_closed (ItemInstance p gives entry) [] x (of_start refl is) tt)
  ]

  start_calls_apart : AreCallsApart n.calls
  start_calls_apart i j a b at_i at_j same =
      let one = calls.one in
      let first = slice_get_within n.calls i a at_i in
      let second = slice_get_within n.calls j b at_j in
      omega arith

  pub derived_start : AreDerived p gives entry n new
  derived_start = record { each = start_known; calls = start_calls_apart }

  nothing_done : (i : Item) → IsDone new i → ⊥
  nothing_done i done = none i (done_held old i ((takes.done i).0 done))

  nothing_meant : (x : RuleItem) → Meant n (IsDone new) x → ⊥
  nothing_meant x (i, done, at) = nothing_done i done

  pub so_far_start : (constraints : ConstraintsBy) → ((place : ℕ) → constraints place ≡ []) → All (IsHeld new) steps → IsSoFar p gives entry n new constraints None None []
  so_far_start constraints no_constraint held = record {
    known = start_known;
    closed = kept;
    index = index_none constraints new no_constraint nothing_done;
    calls = record { each = λ number site e. of_start_call (calls.at number site e); apart = start_calls_apart };
    lacks = record { noted = []; those = those_none (IsLackIn p (Meant n (IsDone new))) (λ c l. nothing_meant _ l.constrains); is_first = refl };
    refused = record { noted = []; those = those_none (IsRefusedAmong gives (Meant n (IsDone new))) (λ r l. nothing_meant _ l.runs); is_first = refl };
    running = running_none gives (FactsOf (Meant n (IsDone new))) (λ m c. nothing_meant _ c);
  }
    where
      kept : (premises : List RuleItem) (x : RuleItem) → ItemInstance p gives entry premises x → Hold (Meant n (IsDone new)) premises → Meant n (IsHeld new) x
      kept [] x (of_start is i) hold = step_of n (StartItem p entry) steps adds (IsHeld new) held x i
      kept [] x (of_node m l node are stands i) hold = absurd cc
      kept [] x (of_call m l node c site target are stands op is_site i) hold = absurd cc
      kept [] x (of_constraint from constraint s are i) hold = absurd cc
      kept (y ∷ ys) x rule hold = absurd (nothing_meant y hold.0)

-- ---- one more

-- What is told of a turn, and of what was made of it.
pub record IsToldOf (p : Program) (gives : GivenAs) (n m : Numbered) (q : State) (old new : ConstraintGroups) (old_call new_call : Option RefusedCall)
    (old_method new_method : Option RefusedMethod) (old_listed new_listed : List RunningMethod) (turn : Turn) (steps : List Item) : Type 0 where
  pub grows : Grows n m
  pub apart : AreApart m
  pub indexed : IsIndexed old new (kind_of turn)
  pub adds : Adds m (FollowsInTurn p gives n q.rows (values_at new) turn) [] steps
  pub calls : AddsCallsBy gives (kind_of turn) n.calls m.calls
  pub lacks : NotesCalls (LacksInTurn p n q.rows (values_at new) turn) old_call new_call
  pub refused : NotesMethods (RefusedBy gives (kind_of turn)) old_method new_method
  pub methods : AddsMethodsBy gives (kind_of turn) old_listed new_listed

-- a method is one of the turn where the turn is of its kind
runs_in_turn : (turn : Turn) (m : MethodNo) → kind_of turn ≡ Runs m → IsInTurn turn (Runs m)
runs_in_turn (Sites fresh) m is = absurd cc
runs_in_turn (One item) m is = sym is

kind_in_turn : (turn : Turn) (m : MethodNo) → IsInTurn turn (Runs m) → kind_of turn ≡ Runs m
kind_in_turn (Sites fresh) m none = absurd none
kind_in_turn (One item) m is = sym is

module _ {p : Program} {gives : GivenAs} (supply : IsSupplyOf p gives) (one : GivesOne gives) (entry : MethodNo) {n m : Numbered} {a b : Queue} {c : State} {old_constraints new_constraints : ConstraintGroups}
    {old_call new_call : Option RefusedCall} {old_method new_method : Option RefusedMethod} {old_listed new_listed : List RunningMethod} {turn : Turn} {steps : List Item}
    (before : IsSoFar p gives entry n (state_of a) (values_at old_constraints) old_call old_method old_listed) (next : IsNext a b turn)
    (told : IsToldOf p gives n m (state_of b) old_constraints new_constraints old_call new_call old_method new_method old_listed new_listed turn steps) (takes : Takes (state_of b) steps c) where
  abbrev Rule : List RuleItem → RuleItem → Type 0
  Rule = ItemInstance p gives entry

  abbrev Turned : Item → Type 0
  Turned = IsInTurn turn

  abbrev Was : RuleItem → Type 0
  Was = Meant n (IsDone (state_of a))

  abbrev Now : RuleItem → Type 0
  Now = Meant n (IsDone (state_of b))

  abbrev Then : RuleItem → Type 0
  Then = Meant m (IsDone c)

  abbrev Made : RuleItem → Type 0
  Made = FollowsInTurn p gives n (state_of b).rows (values_at new_constraints) turn

  turn_at : IsTurnAt p gives n (values_at new_constraints) (state_of b) Was
  turn_at = record {
    methods = supply.methods;
    one = one;
    apart = apart_before n m told.grows told.apart;
    index = index_more old_constraints new_constraints (state_of a) (state_of b) turn before.index next.still next.split next.now told.indexed;
    calls = before.calls.each;
  }

  known_now : (i : Item) → IsDone (state_of b) i → (x : RuleItem) × IsItemAt n i x × IsDerivable Rule x
  known_now i done = before.known i ((next.held i).0 (done_held (state_of b) i done))

  stands_now : (i : Item) → IsDone (state_of b) i → (x : RuleItem) × IsItemAt n i x
  stands_now i done = let (x, at, derived) = known_now i done in (x, at)

  derived_now : (x : RuleItem) → Now x → IsDerivable Rule x
  derived_now x (i, done, at) = let (y, there, derived) = known_now i done in subst (IsDerivable Rule) (one_meaning n i y x there at) derived

  made_derived : (x : RuleItem) → Made x → IsDerivable Rule x
  made_derived x (i, turned, follows) =
      let done = next.now i turned in
      let (y, at) = stands_now i done in
      let leads = step_right turn_at entry i y at done x follows in
      derivable_is_closed Rule leads.premises x leads.instance (Hold-larger Now (IsDerivable Rule) derived_now leads.premises leads.hold)

  known_then : (i : Item) → IsHeld c i → (x : RuleItem) × IsItemAt m i x × IsDerivable Rule x
  known_then i there = elim (takes.only i there) [
    | inl old ↦ (let (x, at, derived) = before.known i ((next.held i).0 old) in (x, grown_item n m told.grows i x at, derived))
    | inr step ↦ (let (x, at, made) = step_means m Made steps told.adds i step in (x, at, made_derived x made))
  ]

  -- ---- what is done

  now_to_then : (x : RuleItem) → Now x → Then x
  now_to_then = meant_later n m told.grows (IsDone (state_of b)) (IsDone c) (λ i. (takes.done i).1)

  then_to_now : (x : RuleItem) → Then x → Now x
  then_to_now = meant_earlier n m told.grows (IsDone (state_of b)) (IsDone c) (λ i. (takes.done i).0) stands_now

  was_to_then : (x : RuleItem) → Was x → Then x
  was_to_then x (i, done, at) = now_to_then x (i, next.still i done, at)

  fresh : (k : MethodNo) → kind_of turn ≡ Runs k → (Was (known (may_run k)) → ⊥) × Then (known (may_run k))
  fresh k is =
      let turned = runs_in_turn turn k is in (
        (λ (i, done, at). next.fresh (Runs k) turned (subst (IsDone (state_of a)) (running n i k at) done)),
        now_to_then (known (may_run k)) (Runs k, next.now (Runs k) turned, refl),
      )

  numbered : AreNumberedCalls gives Then m.calls
  numbered = calls_by gives supply.methods one Was Then was_to_then (kind_of turn) n.calls m.calls told.grows.calls fresh told.calls before.calls

  -- what may run by now did before, or by the turn
  run_split : (k : MethodNo) → Then (known (may_run k)) → Was (known (may_run k)) ⊎ (kind_of turn ≡ Runs k)
  run_split k there =
      let (i, done, at) = then_to_now (known (may_run k)) there in
      elim (next.split i done) [
        | inl first ↦ inl (i, first, at)
        | inr turned ↦ inr (kind_in_turn turn k (subst Turned (running n i k at) turned))
      ]

  pub derived_more : AreDerived p gives entry m c
  derived_more = record { each = known_then; calls = numbered.apart }

  pub so_far_more : All (IsHeld c) steps → IsSoFar p gives entry m c (values_at new_constraints) new_call new_method new_listed
  so_far_more held = record {
    known = known_then;
    closed = λ premises x rule hold. elim (step_complete (IsDone (state_of a)) Turned turn_at entry next.split premises (Hold-larger Then Now then_to_now premises hold) x rule) [
      | inl old ↦ (let (i, there, at) = before.closed premises x rule old in (i, takes.kept i ((next.held i).1 there), grown_item n m told.grows i x at))
      | inr made ↦ step_of m Made steps told.adds (IsHeld c) held x made
    ];
    index = record {
      constraints_are = λ place constraint. (
        (λ there. (takes.done _).1 ((turn_at.index.constraints_are place constraint).0 there)),
        (λ done. (turn_at.index.constraints_are place constraint).1 ((takes.done _).0 done)),
      );
    };
    calls = numbered;
    lacks = first_call_as p Now Then now_to_then then_to_now new_call (lacks_more (IsDone (state_of a)) Turned turn_at entry next.still next.split next.now stands_now old_call new_call before.lacks told.lacks);
    refused = first_method_as gives Now Then now_to_then then_to_now new_method
        (refused_more (IsDone (state_of a)) Turned turn_at entry next.still next.split next.now stands_now (kind_of turn) (λ k is. next.now (Runs k) (runs_in_turn turn k is)) (kind_in_turn turn) old_method new_method before.refused told.refused);
    running = running_by gives supply.methods one (FactsOf Was) (FactsOf Then) (λ fact there. was_to_then (known fact) there) (kind_of turn) old_listed new_listed run_split fresh told.methods before.running;
  }

-- ---- all is done

module _ (p : Program) (gives : GivenAs) (entry : MethodNo) (limit : ℕ) (n : Numbered) (q : Queue) (constraints : ConstraintsBy) (call : Option RefusedCall) (method : Option RefusedMethod) (listed : List RunningMethod)
    (h : IsSoFar p gives entry n (state_of q) constraints call method listed) (done : (i : Item) → IsHeld (state_of q) i → IsDone (state_of q) i) (sound : IsSound q) (apart : AreApart n) (room : q.rows.pairs < limit) where
  abbrev Done : RuleItem → Type 0
  Done = Meant n (IsDone (state_of q))

  all_made : (xs : List RuleItem) × AllZip (λ (i : Item) (x : RuleItem). IsItemAt n i x × IsDerivable (ItemInstance p gives entry) x) (items_of q) xs
  all_made = zip_made (λ (i : Item) (x : RuleItem). IsItemAt n i x × IsDerivable (ItemInstance p gives entry) x) (items_of q) (λ i there. (let (x, at, derived) = h.known i (listed_held q sound i there) in (x, (at, derived))))

  abbrev xs : List RuleItem
  xs = all_made.0

  stand : AllZip (IsItemAt n) (items_of q) xs
  stand = zip_weaker (λ (i : Item) (x : RuleItem). IsItemAt n i x × IsDerivable (ItemInstance p gives entry) x) (IsItemAt n) (λ i x both. both.0) (items_of q) xs all_made.1

  done_there : (x : RuleItem) → Done x → Contains xs x
  done_there x (i, is, at) = rule_is n (items_of q) xs stand i x (held_listed q i (done_held (state_of q) i is)) at

  there_done : (x : RuleItem) → Contains xs x → Done x
  there_done x there =
      let at = place_of xs x there in
      let (i, e, means) = zip_back (IsItemAt n) (items_of q) xs stand at.0 x at.1 in
      (i, done i (listed_held q sound i (contains_at (items_of q) at.0 i e)), means)

  pub closed_when_done : IsClosed p gives entry limit n (items_of q) call method listed
  closed_when_done = record {
    xs = xs;
    stand = stand;
    least = record {
      closed = λ premises x rule hold. (let (i, held, at) = h.closed premises x rule (Hold-larger (Contains xs) Done there_done premises hold) in rule_is n (items_of q) xs stand i x (held_listed q i held) at);
      derivable = All-from_contains (IsDerivable (ItemInstance p gives entry)) xs (λ x there.
          let at = place_of xs x there in
          (zip_back (λ (i : Item) (y : RuleItem). IsItemAt n i y × IsDerivable (ItemInstance p gives entry) y) (items_of q) xs all_made.1 at.0 x at.1).2.1);
    };
    apart = facts_apart n apart h.calls.apart (items_of q) xs stand (listed_apart q sound);
    room = room_listed q sound limit room;
    calls = first_call_as p Done (Contains xs) done_there there_done call h.lacks;
    methods = first_method_as gives Done (Contains xs) done_there there_done method h.refused;
    running = running_same gives (FactsOf Done) (KnownIn xs) listed (λ fact. (done_there (known fact), there_done (known fact))) h.running;
  }
