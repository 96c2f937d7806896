-- What is noted of how nodes are reached: that it is so, that it only rises, and what it says at the end.
use Rattle.std.proofs.Common.{◌≡◌, ◌≢◌, ℕ, zero, suc, ◌+◌, ◌<◌, ◌≤◌, Bool, true, false, cond, eqb, List, [], ◌∷◌, length, set, get_or, take, replicate, Some, refl, sym, ◌∙◌, ap, subst, arith, inl, inr, ◌⊎◌}
use Rattle.std.specs.List.{slice_get, All, Contains}
use Rattle.std.proofs.lemmas.Bool.{cases_Bool, cases_eq, cases_lt, eqb-true, eqb-false}
use Rattle.std.proofs.lemmas.List.{take_all}
use Rattle.std.proofs.lemmas.List.Elements.{All-contains, All-more, All-weaker}
use Rattle.std.proofs.lemmas.Option.{slice_get_read, slice_get_within, same_Some, none-some}
use Rattle.list_laws.proofs.Places.{contains_at, place_of, set_at, set_cases, set_other, stands_below}
use Rattle.op_model.specs.declared.lowered.LoweredMethod.{LoweredMethod}
use Rattle.op_model.specs.declared.node.Node.{Node}
use Rattle.op_model.specs.declared.node.NodeHandler.{NodeHandler}
use Rattle.slot_names.specs.declared.arrivals.Arrival.{Arrival}
use Rattle.slot_names.specs.declared.arrivals.Arrival.TheVariants.{Nothing, OneNode, Several}
use Rattle.slot_names.specs.Arriving.{AreArrivals, AreNoted, AreSound, HandsTo, IsHandled, IsNoted, IsRisen, IsSoundAt, LeadsTo, Notes, Rises, joined}
use Rattle.slot_names.specs.NodePlaces.{AreInOrder, StandsAt}
use Rattle.slot_names.specs.Variables.{IsFirstNode, IsMerge, IsPredecessor, of_first, of_handler, of_several}
use Rattle.slot_names.proofs.FoundPlaces.{one_place}

-- ---- what is noted only rises

IsRisen-itself : (a : Arrival) → IsRisen a a
IsRisen-itself Nothing = tt
IsRisen-itself (OneNode from) = refl
IsRisen-itself Several = refl

Notes-risen : (from : ℕ) (a b : Arrival) → Notes from a → IsRisen a b → Notes from b
Notes-risen from Nothing b h r = absurd h
Notes-risen from (OneNode earlier) b h r = subst (λ (n : ℕ). Notes n b) h r
Notes-risen from Several b h r = subst (Notes from) (sym r) tt

IsRisen-both : (a b c : Arrival) → IsRisen a b → IsRisen b c → IsRisen a c
IsRisen-both Nothing b c g h = tt
IsRisen-both (OneNode from) b c g h = Notes-risen from b c g h
IsRisen-both Several b c g h = subst (λ (x : Arrival). IsRisen x c) g h

Rises-itself : (arrivals : List Arrival) → Rises arrivals arrivals
Rises-itself arrivals = record { each = λ place a e. (a, e, IsRisen-itself a) }

pub Rises-both : (old mid new : List Arrival) → Rises old mid → Rises mid new → Rises old new
Rises-both old mid new g h = record {
  each = λ place a e.
      let first = g.each place a e in
      let second = h.each place first.0 first.1 in
      (second.0, second.1, IsRisen-both a first.0 second.0 first.2 second.2);
}

Rises-set : (arrivals : List Arrival) (place : ℕ) (a b : Arrival) → slice_get arrivals place ≡ Some a → IsRisen a b → Rises arrivals (set arrivals place b)
Rises-set arrivals place a b here risen = record {
  each = λ k x e. elim (cases_eq k place) [
    | inl same ↦ (
        let at : slice_get arrivals place ≡ Some x = ap (slice_get arrivals) (sym same) ∙ e in
        let is : a ≡ x = same_Some _ _ (sym here ∙ at) in
        (b, ap (slice_get (set arrivals place b)) same ∙ set_at arrivals place b (slice_get_within arrivals place a here), subst (λ (y : Arrival). IsRisen y b) is risen))
    | inr apart ↦ (x, set_other arrivals place k b apart ∙ e, IsRisen-itself x)
  ];
}

IsNoted-rises : (l : LoweredMethod) (old new : List Arrival) (from offset : ℕ) → Rises old new → IsNoted l old from offset → IsNoted l new from offset
IsNoted-rises l old new from offset rises noted = record {
  each = λ place at.
      let was = noted.each place at in
      let now = rises.each place was.0 was.1 in
      (now.0, now.1, Notes-risen from was.0 now.0 was.2 now.2);
}

IsHandled-rises : (l : LoweredMethod) (old new : List Arrival) (offset : ℕ) → Rises old new → IsHandled l old offset → IsHandled l new offset
IsHandled-rises l old new offset rises handled = record {
  each = λ place at.
      let now = rises.each place Several (handled.each place at) in
      now.1 ∙ ap Some now.2;
}

-- ---- one more is noted

-- what is written at the place of a node
AreSound-set : (l : LoweredMethod) (arrivals : List Arrival) (place : ℕ) (n : Node) (b : Arrival) → AreSound l arrivals → slice_get l.nodes place ≡ Some n
    → IsSoundAt l place n b → AreSound l (set arrivals place b)
AreSound-set l arrivals place n b sound stands is = record {
  count = length-set arrivals place b ∙ sound.count;
  each = λ k m a there e. elim (set_cases arrivals place k b a e) [
    | inl here ↦ (
        let same : n ≡ m = same_Some _ _ (sym stands ∙ ap (slice_get l.nodes) (sym here.0) ∙ there) in
        subst (λ (x : ℕ). IsSoundAt l x m a) (sym here.0) (subst (λ (x : Node). IsSoundAt l place x a) same (subst (IsSoundAt l place n) (sym here.1) is)))
    | inr old ↦ sound.each k m a there old
  ];
}
  where
    length-set : (xs : List Arrival) (i : ℕ) (y : Arrival) → length (set xs i y) ≡ length xs
    length-set [] i y = refl
    length-set (x ∷ xs) zero y = refl
    length-set (x ∷ xs) (suc i) y = ap suc (length-set xs i y)

-- nodes at two places are two
nodes_differ : (l : LoweredMethod) (i j : ℕ) (p q : Node) → AreInOrder l → slice_get l.nodes i ≡ Some p → slice_get l.nodes j ≡ Some q → (i ≡ j → ⊥) → p ≢ q
nodes_differ l i j p q order at_i at_j apart same =
    apart (one_place l q.offset i j order (record { node = p; stands = at_i; is = ap (λ (x : Node). x.offset) same }) (record { node = q; stands = at_j; is = refl }))

predecessor : (l : LoweredMethod) (from : ℕ) (n : Node) → (leads : LeadsTo l from n.offset) → IsPredecessor l leads.node n
predecessor l from n leads = record { stands = contains_at l.nodes from leads.node leads.stands; goes = leads.goes }

-- what is noted of a node with one more that leads to it
joined_sound : (l : LoweredMethod) (place from : ℕ) (n : Node) (a : Arrival) → AreInOrder l → slice_get l.nodes place ≡ Some n → LeadsTo l from n.offset
    → IsSoundAt l place n a → IsSoundAt l place n (joined a from place)
joined_sound l place from n Nothing order stands leads is = by (cases_Bool (eqb place 0))
  where
    by : (eqb place 0 ≡ true) ⊎ (eqb place 0 ≡ false) → IsSoundAt l place n (cond (eqb place 0) Several (OneNode from))
    by (inl t) =
        let first : IsFirstNode l n = ap (slice_get l.nodes) (sym (eqb-true place 0 t)) ∙ stands in
        rw t (of_first first leads.node (predecessor l from n leads))
    by (inr f) =
        let some : 0 < place = (let apart = eqb-false place 0 f in omega (arith, apart)) in
        rw f (leads, some)
joined_sound l place from n (OneNode earlier) order stands leads is = by (cases_Bool (eqb earlier from))
  where
    by : (eqb earlier from ≡ true) ⊎ (eqb earlier from ≡ false) → IsSoundAt l place n (cond (eqb earlier from) (OneNode earlier) Several)
    by (inl t) = rw t is
    by (inr f) =
        rw f (of_several is.0.node leads.node (predecessor l earlier n is.0) (predecessor l from n leads)
        (nodes_differ l earlier from is.0.node leads.node order is.0.stands leads.stands (eqb-false earlier from f)))
joined_sound l place from n Several order stands leads is = is

IsRisen-joined : (a : Arrival) (from place : ℕ) → IsRisen a (joined a from place)
IsRisen-joined Nothing from place = tt
IsRisen-joined (OneNode earlier) from place = by (eqb earlier from)
  where
    by : (b : Bool) → Notes earlier (cond b (OneNode earlier) Several)
    by true = refl
    by false = tt
IsRisen-joined Several from place = refl

Notes-joined : (a : Arrival) (from place : ℕ) → Notes from (joined a from place)
Notes-joined Nothing from place = by (eqb place 0)
  where
    by : (b : Bool) → Notes from (cond b Several (OneNode from))
    by true = tt
    by false = refl
Notes-joined (OneNode earlier) from place = by (cases_Bool (eqb earlier from))
  where
    by : (eqb earlier from ≡ true) ⊎ (eqb earlier from ≡ false) → Notes from (cond (eqb earlier from) (OneNode earlier) Several)
    by (inl t) = rw t (eqb-true earlier from t)
    by (inr f) = rw f tt
Notes-joined Several from place = tt

-- what the function says that notes one more
pub record NotesOne (l : LoweredMethod) (old new : List Arrival) (from offset : ℕ) : Type 0 where
  pub sound : AreSound l new
  pub rises : Rises old new
  pub noted : IsNoted l new from offset

pub note_one : (l : LoweredMethod) (arrivals : List Arrival) (from offset place : ℕ) (a : Arrival) → AreInOrder l → LeadsTo l from offset → AreSound l arrivals
    → StandsAt l offset place → slice_get arrivals place ≡ Some a → NotesOne l arrivals (set arrivals place (joined a from place)) from offset
note_one l arrivals from offset place a order leads sound at here =
    let n = at.node in
    let to_node : LeadsTo l from n.offset = subst (LeadsTo l from) (sym at.is) leads in
    let was = sound.each place n a at.stands here in
    let within = slice_get_within arrivals place a here in
    record {
      sound = AreSound-set l arrivals place n (joined a from place) sound at.stands (joined_sound l place from n a order at.stands to_node was);
      rises = Rises-set arrivals place a (joined a from place) here (IsRisen-joined a from place);
      noted = record {
        each = λ k stands.
            let same : place ≡ k = one_place l offset place k order at stands in
            (joined a from place, ap (slice_get (set arrivals place (joined a from place))) (sym same) ∙ set_at arrivals place (joined a from place) within, Notes-joined a from place);
      };
    }

pub note_none : (l : LoweredMethod) (arrivals : List Arrival) (from offset : ℕ) → AreSound l arrivals → ((place : ℕ) → StandsAt l offset place → ⊥)
    → NotesOne l arrivals arrivals from offset
note_none l arrivals from offset sound none = record {
  sound = sound;
  rises = Rises-itself arrivals;
  noted = record { each = λ place at. absurd (none place at) };
}

-- what the function says that notes a handler
pub record HandlesOne (l : LoweredMethod) (old new : List Arrival) (offset : ℕ) : Type 0 where
  pub sound : AreSound l new
  pub rises : Rises old new
  pub handled : IsHandled l new offset

IsRisen-several : (a : Arrival) → IsRisen a Several
IsRisen-several Nothing = tt
IsRisen-several (OneNode from) = tt
IsRisen-several Several = refl

pub handle_one : (l : LoweredMethod) (arrivals : List Arrival) (from offset place : ℕ) → AreInOrder l → HandsTo l from offset → AreSound l arrivals
    → StandsAt l offset place → HandlesOne l arrivals (set arrivals place Several) offset
handle_one l arrivals from offset place order hands sound at =
    let n = at.node in
    let nodes_within = slice_get_within l.nodes place n at.stands in
    let within : place < length arrivals = (let count = sound.count in omega arith) in
    let there = stands_below arrivals place within in
    let merge : IsMerge l n = of_handler (record {
      covered = hands.node;
      stands = contains_at l.nodes from hands.node hands.stands;
      handler = hands.handler;
      covers = hands.covers;
      begins = hands.begins ∙ sym at.is;
    }) in
    record {
      sound = AreSound-set l arrivals place n Several sound at.stands merge;
      rises = Rises-set arrivals place there.0 Several there.1 (IsRisen-several there.0);
      handled = record {
        each = λ k stands.
            let same : place ≡ k = one_place l offset place k order at stands in
            ap (slice_get (set arrivals place Several)) (sym same) ∙ set_at arrivals place Several within;
      };
    }

pub handle_none : (l : LoweredMethod) (arrivals : List Arrival) (offset : ℕ) → AreSound l arrivals → ((place : ℕ) → StandsAt l offset place → ⊥)
    → HandlesOne l arrivals arrivals offset
handle_none l arrivals offset sound none = record {
  sound = sound;
  rises = Rises-itself arrivals;
  handled = record { each = λ place at. absurd (none place at) };
}

-- ---- the successors and the handlers of a node

-- the node that is read at a place
pub stands_read : (l : LoweredMethod) (nodes : List Node) (place : ℕ) (n : Node) → nodes ≡ l.nodes → place < length l.nodes → n ≡ get_or nodes place n
    → slice_get l.nodes place ≡ Some n
stands_read l nodes place n same within is =
    ap (λ (ns : List Node). slice_get ns place) (sym same)
    ∙ slice_get_read nodes (length l.nodes) place n (ap (length {A = Node}) (sym same)) within is

pub stands_get_or : (l : LoweredMethod) (nodes : List Node) (place : ℕ) (n : Node) → nodes ≡ l.nodes → place < length l.nodes → n ≡ get_or nodes place n
    → slice_get l.nodes place ≡ Some (get_or nodes place n)
stands_get_or l nodes place n same within is = stands_read l nodes place n same within is ∙ ap Some is

pub noted_more : (l : LoweredMethod) (old new : List Arrival) (from i : ℕ) (items : List ℕ) → i < length items → Rises old new
    → All (IsNoted l old from) (take i items) → IsNoted l new from (get_or items i 0) → All (IsNoted l new from) (take (i + 1) items)
noted_more l old new from i items lt rises all one =
    All-more (IsNoted l new from) items i 0 lt (All-weaker (IsNoted l old from) (IsNoted l new from) (λ offset. IsNoted-rises l old new from offset rises) (take i items) all) one

-- what holds of all successors holds where the node leads
pub each_successor : (l : LoweredMethod) (P : ℕ → Type 0) (from i : ℕ) (items : List ℕ) (n : Node) → slice_get l.nodes from ≡ Some n → items ≡ n.successors
    → length items ≤ i → All P (take i items) → (offset : ℕ) → LeadsTo l from offset → P offset
each_successor l P from i items n stands is le all offset leads =
    let node : leads.node ≡ n = same_Some _ _ (sym leads.stands ∙ stands) in
    let among : Contains items offset =
    subst (λ (xs : List ℕ). Contains xs offset) (ap (λ (m : Node). m.successors) node ∙ sym is) leads.goes in
    All-contains P items offset (subst (All P) (take_all i items le) all) among

abbrev HandledAt : LoweredMethod → List Arrival → NodeHandler → Type 0
HandledAt l arrivals h = IsHandled l arrivals h.target

pub handled_more : (l : LoweredMethod) (old new : List Arrival) (i : ℕ) (items : List NodeHandler) (past : NodeHandler) → i < length items → Rises old new
    → All (λ (x : NodeHandler). IsHandled l old x.target) (take i items) → IsHandled l new (get_or items i past).target
    → All (λ (x : NodeHandler). IsHandled l new x.target) (take (i + 1) items)
handled_more l old new i items past lt rises all one =
    All-more (HandledAt l new) items i past lt
    (All-weaker (HandledAt l old) (HandledAt l new) (λ x. IsHandled-rises l old new x.target rises) (take i items) all) one

pub all_handled : (l : LoweredMethod) (arrivals : List Arrival) (from i : ℕ) (items : List NodeHandler) (n : Node) → slice_get l.nodes from ≡ Some n
    → items ≡ n.handlers → length items ≤ i → All (λ (x : NodeHandler). IsHandled l arrivals x.target) (take i items)
    → (offset : ℕ) → HandsTo l from offset → IsHandled l arrivals offset
all_handled l arrivals from i items n stands is le all offset hands =
    let node : hands.node ≡ n = same_Some _ _ (sym hands.stands ∙ stands) in
    let among : Contains items hands.handler =
    subst (λ (xs : List NodeHandler). Contains xs hands.handler) (ap (λ (m : Node). m.handlers) node ∙ sym is) hands.covers in
    subst (IsHandled l arrivals) hands.begins
    (All-contains (HandledAt l arrivals) items hands.handler (subst (All (HandledAt l arrivals)) (take_all i items le) all) among)

-- ---- node after node

pub AreNoted-none : (l : LoweredMethod) (arrivals : List Arrival) → AreNoted l arrivals 0
AreNoted-none l arrivals = record { successors = λ from offset lt leads. absurd (omega arith); handlers = λ from offset lt hands. absurd (omega arith) }

pub AreNoted-more : (l : LoweredMethod) (old mid new : List Arrival) (done : ℕ) → AreNoted l old done → Rises old mid → Rises mid new
    → ((offset : ℕ) → LeadsTo l done offset → IsNoted l mid done offset) → ((offset : ℕ) → HandsTo l done offset → IsHandled l new offset) → AreNoted l new (done + 1)
AreNoted-more l old mid new done noted first second successors handlers =
    let both = Rises-both old mid new first second in
    record {
      successors = λ from offset lt leads. elim (cases_lt from done) [
        | inl before ↦ IsNoted-rises l old new from offset both (noted.successors from offset before leads)
        | inr last ↦ (
            let same : done ≡ from = omega arith in
            subst (λ (k : ℕ). IsNoted l new k offset) same
            (IsNoted-rises l mid new done offset second (successors offset (subst (λ (k : ℕ). LeadsTo l k offset) (sym same) leads))))
      ];
      handlers = λ from offset lt hands. elim (cases_lt from done) [
        | inl before ↦ IsHandled-rises l old new offset both (noted.handlers from offset before hands)
        | inr last ↦ (
            let same : done ≡ from = omega arith in
            handlers offset (subst (λ (k : ℕ). HandsTo l k offset) (sym same) hands))
      ];
    }

pub AreNoted-less : (l : LoweredMethod) (arrivals : List Arrival) (done less : ℕ) → AreNoted l arrivals done → less ≤ done → AreNoted l arrivals less
AreNoted-less l arrivals done less noted le = record {
  successors = λ from offset lt leads. noted.successors from offset (omega arith) leads;
  handlers = λ from offset lt hands. noted.handlers from offset (omega arith) hands;
}

-- ---- the start

pub AreSound-start : (l : LoweredMethod) (arrivals : List Arrival) (n : ℕ) → arrivals ≡ replicate n Nothing → n ≡ length l.nodes → AreSound l arrivals
AreSound-start l arrivals n is count = record {
  count = ap (length {A = Arrival}) is ∙ length-replicate n ∙ count;
  each = λ place m a stands e. subst (IsSoundAt l place m) (sym (only n place a (ap (λ (xs : List Arrival). slice_get xs place) (sym is) ∙ e))) tt;
}
  where
    length-replicate : (k : ℕ) → length (replicate k Nothing) ≡ k
    length-replicate zero = refl
    length-replicate (suc k) = ap suc (length-replicate k)

    only : (k place : ℕ) (a : Arrival) → slice_get (replicate k Nothing) place ≡ Some a → a ≡ Nothing
    only zero place a e = absurd (none-some a e)
    only (suc k) zero a e = sym (same_Some _ _ e)
    only (suc k) (suc place) a e = only k place a e

-- ---- what it says at the end

pub noted_at : (l : LoweredMethod) (arrivals : List Arrival) (place : ℕ) (n : Node) (a : Arrival) (from : ℕ) (p : Node) → AreArrivals l arrivals
    → slice_get l.nodes place ≡ Some n → slice_get arrivals place ≡ Some a → slice_get l.nodes from ≡ Some p → Contains p.successors n.offset → Notes from a
noted_at l arrivals place n a from p are stands here at goes =
    let within = slice_get_within l.nodes from p at in
    let leads : LeadsTo l from n.offset = record { node = p; stands = at; goes = goes } in
    let noted = (are.noted.successors from n.offset within leads).each place (record { node = n; stands = stands; is = refl }) in
    subst (Notes from) (same_Some _ _ (sym noted.1 ∙ here)) noted.2

-- several arrivals are noted of a node where a handler begins
pub handled_at : (l : LoweredMethod) (arrivals : List Arrival) (place : ℕ) (n : Node) (from : ℕ) → AreArrivals l arrivals → slice_get l.nodes place ≡ Some n
    → HandsTo l from n.offset → slice_get arrivals place ≡ Some Several
handled_at l arrivals place n from are stands hands =
    let within = slice_get_within l.nodes from hands.node hands.stands in
    (are.noted.handlers from n.offset within hands).each place (record { node = n; stands = stands; is = refl })

one_noted : (a : Arrival) (i j : ℕ) → (a ≡ Several → ⊥) → Notes i a → Notes j a → i ≡ j
one_noted Nothing i j apart x y = absurd x
one_noted (OneNode from) i j apart x y = sym x ∙ y
one_noted Several i j apart x y = absurd (apart refl)

-- no node that one leads to alone is the first
not_first : (l : LoweredMethod) (place from : ℕ) (n : Node) (a : Arrival) → IsSoundAt l place n a → place ≡ 0 → Notes from a → (a ≡ Several → ⊥) → ⊥
not_first l place from n Nothing is zeroth noted apart = noted
not_first l place from n (OneNode earlier) is zeroth noted apart = omega (arith, is.1, zeroth)
not_first l place from n Several is zeroth noted apart = apart refl

-- a node of which it is not noted that it is a merge point is none
pub no_merge : (l : LoweredMethod) (arrivals : List Arrival) (place : ℕ) (n : Node) (a : Arrival) → AreInOrder l → AreArrivals l arrivals
    → slice_get l.nodes place ≡ Some n → slice_get arrivals place ≡ Some a → (a ≡ Several → ⊥) → IsMerge l n → ⊥
no_merge l arrivals place n a order are stands here apart (of_handler begins) =
    let from = place_of l.nodes begins.covered begins.stands in
    let hands : HandsTo l from.0 n.offset = record { node = begins.covered; stands = from.1; handler = begins.handler; covers = begins.covers; begins = begins.begins } in
    apart (same_Some _ _ (sym here ∙ handled_at l arrivals place n from.0 are stands hands))
no_merge l arrivals place n a order are stands here apart (of_several p q first second differ) =
    let i = place_of l.nodes p first.stands in
    let j = place_of l.nodes q second.stands in
    let same : i.0 ≡ j.0 = one_noted a i.0 j.0 apart (noted_at l arrivals place n a i.0 p are stands here i.1 first.goes)
    (noted_at l arrivals place n a j.0 q are stands here j.1 second.goes) in
    differ (same_Some _ _ (sym i.1 ∙ ap (slice_get l.nodes) same ∙ j.1))
no_merge l arrivals place n a order are stands here apart (of_first first p goes) =
    let from = place_of l.nodes p goes.stands in
    let zeroth : place ≡ 0 = one_place l n.offset place 0 order (record { node = n; stands = stands; is = refl }) (record { node = n; stands = first; is = refl }) in
    not_first l place from.0 n a (are.sound.each place n a stands here) zeroth (noted_at l arrivals place n a from.0 p are stands here from.1 goes.goes) apart
