-- Where all edges were processed, the list is closed.
use Rattle.std.proofs.Common.{◌≡◌, ◌∙◌, ◌<◌, ◌⊎◌, inl, inr, ℕ, List, [], ◌∷◌, length, Some, refl, sym, ap, subst}
use Rattle.std.specs.List.{Contains, slice_get}
use Rattle.std.proofs.lemmas.Option.{none-some, same_Some, slice_get_within}
use Rattle.list_laws.proofs.Members.{contained_in_map}
use Rattle.list_laws.proofs.Places.{contains_at, place_of}
use Rattle.op_model.specs.declared.node.Spot.TheVariants as spots
use Rattle.op_model.specs.Supplies.{GivenAs}
use Rattle.machine_bytecode.specs.Objects.{Subject}
use Rattle.least_sets.specs.Rules.{Hold, IsClosed, IsWithoutDoubles}
use Rattle.points_to_rules.specs.Facts.{Fact}
use Rattle.stage_facts.specs.Facts.{SiteFact, Tuple, none_yet, some_yet, of_object}
use Rattle.stage_transfer.specs.Calls.{by_call, by_trigger}
use Rattle.stage_transfer.specs.Stages.{Transfer}
use Rattle.stage_edges.specs.Rules.{Edge, Instance, IsExit, before, edge, triggered, start, goes_on, returns, raises, answers, described_raises, enters, call_returns, resumes, unwinds}
use Rattle.edge_numbers.specs.declared.numbered.NumberedEdge.{NumberedEdge}
use Rattle.end_numbers.specs.Ends.{End}
use Rattle.ground_views.proofs.Shapes.{IsShape, first_leads, from_nothing, shape, start_edge, nothing, one, two}
use Rattle.tabulation_tables.specs.Lists.{Calls, Exits, HasEdge, IsBegun, IsEdgeAt, IsFollowed, IsLedTo, IsProcessed, IsShaped, IsSound, IsVisited, Leads, Lists, edge_of_numbers, edge_to, edges_of, numbered}
use Rattle.tabulation.specs.Kept.{HasStart}
use Rattle.tabulation_tables.proofs.Edges.{edge_is, edge_there}

-- ---- two premises

-- The second premise is an edge to an exit, of a method that begins with its entry; and that it begins so follows from the first one, whatever its entry is.
pub record IsSecond (x : Subject) (gives : GivenAs) (S : Fact → Type 0) (t : Transfer) (p q : Edge) : Type 0 where
  pub exit : IsExit q.spot
  pub begins : (entry : SiteFact) → Instance x gives S t (edge p.method entry p.spot p.fact ∷ []) (edge q.method q.entry (spots.Node 0) q.entry)

not_nothing : {p : Edge} {rest : List Edge} → p ∷ rest ≡ [] → ⊥
not_nothing {p} is = none-some p (ap (λ (es : List Edge). slice_get es 0) (sym is))

first_of : (p q : Edge) (ps qs : List Edge) → p ∷ ps ≡ q ∷ qs → p ≡ q
first_of p q ps qs is = same_Some p q (ap (λ (es : List Edge). slice_get es 0) is)

second_of : (p q r s : Edge) → p ∷ q ∷ [] ≡ r ∷ s ∷ [] → q ≡ s
second_of p q r s is = same_Some q s (ap (λ (es : List Edge). slice_get es 1) is)

not_one : (p q r : Edge) → p ∷ [] ≡ q ∷ r ∷ [] → ⊥
not_one p q r is = none-some r (ap (λ (es : List Edge). slice_get es 1) is)

module _ (x : Subject) (gives : GivenAs) (S : Fact → Type 0) (t : Transfer) where
  both_are : (a b p q : Edge) → a ∷ b ∷ [] ≡ p ∷ q ∷ [] → IsSecond x gives S t a b → IsSecond x gives S t p q
  both_are a b p q is second =
      subst (λ (e : Edge). IsSecond x gives S t e q) (first_of a p (b ∷ []) (q ∷ []) is) (subst (λ (e : Edge). IsSecond x gives S t a e) (second_of a b p q is) second)

  second : (premises : List Edge) (to : Edge) → Instance x gives S t premises to → (p q : Edge) → premises ≡ p ∷ q ∷ [] → IsSecond x gives S t p q
  second premises to start p q is = absurd (not_nothing (sym is))
  second premises to (goes_on m l n e f g offset node no_call there gives_g) p q is = absurd (not_one (edge m e (before n) f) p q is)
  second premises to (returns m l n e f g value node is_return gives_g) p q is = absurd (not_one (edge m e (before n) f) p q is)
  second premises to (raises m l n e f g class handler spot node throws goes gives_g) p q is = absurd (not_one (edge m e (before n) f) p q is)
  second premises to (answers m l n e f sent g c target stub parameters result offset node is_call goes described listed_ there sends gives_g) p q is =
      absurd (not_one (edge m e (before n) f) p q is)
  second premises to (described_raises m l n e f sent g c target stub parameters class handler spot node is_call goes described throws lands sends gives_g) p q is =
      absurd (not_one (edge m e (before n) f) p q is)
  second premises to (enters m l n e f sent target by node sends) p q is = absurd (not_one (edge m e (before n) f) p q is)
  second premises to (call_returns m l n e f sent out g target c offset node sends there gives_g) p q is =
      both_are (edge m e (before n) f) (edge (Some target) (t.enter (by_call c) sent) spots.Returned out) p q is
      (record { exit = tt; begins = λ entry. enters m l n entry f sent target (by_call c) node sends })
  second premises to (resumes m l n e f out target exit node starts is_exit) p q is =
      both_are (edge m e (before n) f) (edge (Some target) (t.enter by_trigger f) exit out) p q is
      (record { exit = is_exit; begins = λ entry. enters m l n entry f f target by_trigger node (triggered starts) })
  second premises to (unwinds m l n e f sent out g target by class handler spot node sends throws lands gives_g) p q is =
      both_are (edge m e (before n) f) (edge (Some target) (t.enter by sent) spots.Thrown out) p q is
      (record { exit = tt; begins = λ entry. enters m l n entry f sent target by node sends })

  pub is_second : (p q to : Edge) → Instance x gives S t (p ∷ q ∷ []) to → IsSecond x gives S t p q
  is_second p q to i = second (p ∷ q ∷ []) to i p q refl

-- ---- another entry

none_some_fact : none_yet ≡ some_yet → ⊥
none_some_fact is = cc

another_fact : (f : SiteFact) → (e : SiteFact) × (f ≡ e → ⊥)
another_fact none_yet = (some_yet, λ is. none_some_fact is)
another_fact some_yet = (none_yet, λ is. none_some_fact (sym is))
another_fact (of_object o) = (none_yet, λ is. object_none o is)
  where
    object_none : (o : Tuple) → of_object o ≡ none_yet → ⊥
    object_none o is = cc

-- ---- the list is closed

module _ (x : Subject) (gives : GivenAs) (S : Fact → Type 0) (t : Transfer) (l : Lists) (shaped : IsShaped l) (ends : IsWithoutDoubles l.ends) (sound : IsSound (Instance x gives S t) l)
    (begun : HasStart l) (processed : (k : ℕ) → k < length l.edges → IsProcessed l k) where
  -- what is known of an edge of the list
  pub record IsListed (p : Edge) : Type 0 where
    pub b : ℕ
    pub n : ℕ
    pub begin : End
    pub end : End
    pub begin_at : slice_get l.ends b ≡ Some begin
    pub end_at : slice_get l.ends n ≡ Some end
    pub first : begin.spot ≡ spots.Node 0
    pub same : begin.method ≡ end.method
    pub there : HasEdge l b n
    pub number : ℕ
    pub at : IsEdgeAt l number b n
    pub is : p ≡ edge_to end begin.fact
    pub visited : (offset : ℕ) → end.spot ≡ spots.Node offset → IsFollowed (Instance x gives S t) l n
    pub left : IsExit end.spot → Exits l b number
    pub led : (y : ℕ) → Leads l n y → HasEdge l b y

  listed_at : (e : NumberedEdge) (k : ℕ) → slice_get l.edges k ≡ Some e → IsListed (edge_of_numbers l e)
  listed_at e k at =
      let done = processed k (slice_get_within l.edges k e at) in
      let between = shaped.edges e.begin e.end (contains_at l.edges k e at) in
      let own : done.edge ≡ e = same_Some done.edge e (sym done.at ∙ at) in
      let end : done.end ≡ between.end = same_Some done.end between.end (sym done.end_at ∙ ap (λ (a : NumberedEdge). slice_get l.ends a.end) own ∙ between.end_at) in
      record {
        b = e.begin;
        n = e.end;
        begin = between.begin;
        end = between.end;
        begin_at = between.begin_at;
        end_at = between.end_at;
        first = between.first;
        same = between.same;
        there = contains_at l.edges k e at;
        number = k;
        at = at;
        is = edge_is l e.begin e.end between.begin between.end between.begin_at between.end_at;
        visited = λ offset spot.
            sound.followed e.end (subst (λ (a : NumberedEdge). IsVisited l a.end) own (done.visited offset (ap (λ (a : End). a.spot) end ∙ spot)));
        left = λ exit.
            subst (λ (a : NumberedEdge). Exits l a.begin k) own (done.left (subst (λ (a : End). IsExit a.spot) (sym end) exit));
        led = λ y leads.
            subst (λ (a : NumberedEdge). HasEdge l a.begin y) own (done.led y (subst (λ (a : NumberedEdge). Leads l a.end y) (sym own) leads));
      }

  listed : (p : Edge) → Contains (edges_of l) p → IsListed p
  listed p there =
      let one = contained_in_map (edge_of_numbers l) l.edges p there in
      let place = place_of l.edges one.0 one.1 in
      subst IsListed one.2 (listed_at one.0 place.0 place.1)

  in_list : (b n : ℕ) (begin end : End) → slice_get l.ends b ≡ Some begin → slice_get l.ends n ≡ Some end → HasEdge l b n → Contains (edges_of l) (edge_to end begin.fact)
  in_list b n begin end begin_at end_at there = edge_there l b n there begin end begin_at end_at

  -- an end that the edge's end leads to
  by_lead : (p : Edge) (is : IsListed p) (to : Edge) → IsLedTo l is.n is.begin.fact to → Contains (edges_of l) to
  by_lead p is to led =
      subst (Contains (edges_of l)) (sym led.is) (in_list is.b led.number is.begin led.end is.begin_at led.end_at (is.led led.number led.leads))

  by_begin : (n : ℕ) (to : Edge) → IsBegun l n to → Contains (edges_of l) to
  by_begin n to is = subst (Contains (edges_of l)) (sym is.is) (in_list is.number is.number is.begin is.begin is.begin_at is.begin_at is.there)

  at_node : (p : Edge) (is : IsListed p) (rest : List Edge) (to : Edge) → Instance x gives S t (p ∷ rest) to → IsFollowed (Instance x gives S t) l is.n
  at_node p is rest to i =
      let there = first_leads x gives S t p rest to i in
      is.visited there.node.offset (sym (ap (λ (e : Edge). e.spot) is.is) ∙ there.spot)

  -- the end that was followed is that of the edge
  followed_end : (p : Edge) (is : IsListed p) (f : IsFollowed (Instance x gives S t) l is.n) → f.end ≡ is.end
  followed_end p is f = same_Some f.end is.end (sym f.end_at ∙ is.end_at)

  from_one : (p : Edge) → IsListed p → (to : Edge) → Instance x gives S t (p ∷ []) to → Contains (edges_of l) to
  from_one p is to i =
      let f = at_node p is [] to i in
      let premise : p ≡ edge_to f.end is.begin.fact = is.is ∙ ap (λ (a : End). edge_to a is.begin.fact) (sym (followed_end p is f)) in
      by (f.all is.begin.fact to (subst (λ (e : Edge). Instance x gives S t (e ∷ []) to) premise i))
    where
      by : IsLedTo l is.n is.begin.fact to ⊎ IsBegun l is.n to → Contains (edges_of l) to
      by (inl led) = by_lead p is to led
      by (inr begins) = by_begin is.n to begins

  -- the first edge's end is a caller of the second edge's method
  is_caller : (p q : Edge) (a : IsListed p) (c : IsListed q) (to : Edge) → Instance x gives S t (p ∷ q ∷ []) to → Calls l c.b a.n
  is_caller p q a c to i =
      let f = at_node p a (q ∷ []) to i in
      let second = is_second x gives S t p q to i in
      let other = another_fact q.entry in
      let e = other.0 in
      let begin : Edge = edge q.method q.entry (spots.Node 0) q.entry in
      let premise : edge p.method e p.spot p.fact ≡ edge_to f.end e = ap (λ (d : Edge). edge d.method e d.spot d.fact) a.is ∙ ap (λ (d : End). edge_to d e) (sym (followed_end p a f)) in
      by e other.1 begin refl (f.all e begin (subst (λ (d : Edge). Instance x gives S t (d ∷ []) begin) premise (second.begins e)))
    where
      by : (e : SiteFact) → (q.entry ≡ e → ⊥) → (begin : Edge) → begin ≡ edge q.method q.entry (spots.Node 0) q.entry → IsLedTo l a.n e begin ⊎ IsBegun l a.n begin → Calls l c.b a.n
      by e differs begin is (inl led) = absurd (differs (ap (λ (d : Edge). d.entry) (sym is ∙ led.is)))
      by e differs begin is (inr begins) =
          let value : edge q.method q.entry (spots.Node 0) q.entry ≡ edge_to begins.begin begins.begin.fact = sym is ∙ begins.is in
          let method : begins.begin.method ≡ c.begin.method = sym (ap (λ (d : Edge). d.method) value) ∙ ap (λ (d : Edge). d.method) c.is ∙ sym c.same in
          let spot : begins.begin.spot ≡ c.begin.spot = sym (ap (λ (d : Edge). d.spot) value) ∙ sym c.first in
          let fact : begins.begin.fact ≡ c.begin.fact = sym (ap (λ (d : Edge). d.entry) value) ∙ ap (λ (d : Edge). d.entry) c.is in
          let same : begins.begin ≡ c.begin = λ i. record { method = method i; spot = spot i; fact = fact i } in
          subst (λ (n : ℕ). Calls l n a.n) (ends c.begin begins.number c.b (begins.begin_at ∙ ap Some same) c.begin_at) begins.called

  from_two : (p q : Edge) → IsListed p → IsListed q → (to : Edge) → Instance x gives S t (p ∷ q ∷ []) to → Contains (edges_of l) to
  from_two p q a c to i =
      let second = is_second x gives S t p q to i in
      let left = c.left (subst (λ (d : Edge). IsExit d.spot) c.is second.exit) in
      let met = sound.met c.b a.n c.number (is_caller p q a c to i) left in
      let caller : met.caller ≡ a.end = same_Some met.caller a.end (sym met.caller_at ∙ a.end_at) in
      let last : met.last ≡ c.n = ap (λ (e : NumberedEdge). e.end) (same_Some (numbered c.b met.last) (numbered c.b c.n) (sym met.edge_at ∙ c.at)) in
      let exit : met.exit ≡ c.end = same_Some met.exit c.end (sym met.exit_at ∙ ap (λ (n : ℕ). slice_get l.ends n) last ∙ c.end_at) in
      let begin : met.begin ≡ c.begin = same_Some met.begin c.begin (sym met.begin_at ∙ c.begin_at) in
      let first : p ≡ edge_to met.caller a.begin.fact = a.is ∙ ap (λ (d : End). edge_to d a.begin.fact) (sym caller) in
      let second_is : q ≡ edge_to met.exit met.begin.fact =
      c.is ∙ ap (λ (d : End). edge_to d c.begin.fact) (sym exit) ∙ ap (λ (d : End). edge_to met.exit d.fact) (sym begin) in
      by_lead p a to
      (met.all a.begin.fact to (subst (λ (d : Edge). Instance x gives S t (d ∷ edge_to met.exit met.begin.fact ∷ []) to) first (subst (λ (d : Edge). Instance x gives S t (p ∷ d ∷ []) to) second_is i)))

  pub closed : IsClosed (Instance x gives S t) (edges_of l)
  closed premises to i hold = by premises i (shape x gives S t premises to i) hold
    where
      starts : Contains (edges_of l) start_edge
      starts = in_list begun.number begun.number _ _ begun.at begun.at begun.there

      by : (premises : List Edge) → Instance x gives S t premises to → IsShape x gives premises → Hold (Contains (edges_of l)) premises → Contains (edges_of l) to
      by premises i nothing hold = subst (Contains (edges_of l)) (sym (from_nothing x gives S t [] to i refl)) starts
      by premises i (one p there) hold = from_one p (listed p hold.0) to i
      by premises i (two p q there m method) hold = from_two p q (listed p hold.0) (listed q hold.1.0) to i
