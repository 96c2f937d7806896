-- Each node is entered, since each is reached.
use Rattle.std.proofs.Common.{◌≡◌, ℕ, ◌+◌, ◌<◌, ◌≤◌, Bool, cond, List, length, get_or, take, Option, Some, None, refl, sym, ◌∙◌, ap, subst, arith, inl, inr}
use Rattle.std.specs.List.{slice_get, All, Contains}
use Rattle.std.proofs.lemmas.Bool.{cases_lt, eq-eqb}
use Rattle.std.proofs.lemmas.List.Elements.{All-contains, All-more, All-weaker}
use Rattle.std.proofs.lemmas.Option.{slice_get_within, same_Some, none-some}
use Rattle.list_laws.proofs.Places.{contains_at, place_of, stands_below}
use Rattle.op_model.specs.declared.lowered.LoweredMethod.{LoweredMethod}
use Rattle.op_model.specs.declared.node.Node.{Node}
use Rattle.slot_names.specs.declared.arrivals.Arrival.{Arrival}
use Rattle.slot_names.specs.declared.arrivals.Arrival.TheVariants.{Nothing, OneNode, Several}
use Rattle.slot_names.specs.declared.entry.Entry.{Entry}
use Rattle.slot_names.specs.declared.entry.Root.TheVariants.{Beginning, Meeting}
use Rattle.slot_names.specs.declared.naming.Naming.{Naming}
use Rattle.slot_names.specs.Arriving.{AreArrivals, HandsTo, LeadsTo, Notes}
use Rattle.slot_names.specs.NamedNodes.{AreAllEntered, Grows, HasRoots, IsEntered, IsFollowed, IsFollowedAt, IsNaming, IsRootEntered, root_of}
use Rattle.slot_names.specs.NodePlaces.{AreInOrder, StandsAt}
use Rattle.slot_names.specs.Variables.{AreReachedNodes, IsReachedNode, at_first, from_node, from_handler}
use Rattle.slot_names.proofs.FoundPlaces.{one_place}
use Rattle.slot_names.proofs.NotedArrivals.{handled_at, noted_at}

pub order_of : (l : LoweredMethod) → AreReachedNodes l → AreInOrder l
order_of l reached = record { ascend = reached.ascend }

-- ---- those that are followed

IsFollowedAt-grows : (l : LoweredMethod) (arrivals : List Arrival) (old new : Naming) (from offset : ℕ) → Grows old new
    → IsFollowedAt l arrivals old.entries.items from offset → IsFollowedAt l arrivals new.entries.items from offset
IsFollowedAt-grows l arrivals old new from offset grows followed = record { each = λ place at here. grows.entered place (followed.each place at here) }

IsFollowed-grows : (l : LoweredMethod) (arrivals : List Arrival) (old new : Naming) (from : ℕ) → Grows old new
    → IsFollowed l arrivals old.entries.items from → IsFollowed l arrivals new.entries.items from
IsFollowed-grows l arrivals old new from grows followed = record {
  each = λ offset leads. IsFollowedAt-grows l arrivals old new from offset grows (followed.each offset leads);
}

pub followed_more : (l : LoweredMethod) (arrivals : List Arrival) (old new : Naming) (from i : ℕ) (items : List ℕ) → i < length items → Grows old new
    → All (IsFollowedAt l arrivals old.entries.items from) (take i items) → IsFollowedAt l arrivals new.entries.items from (get_or items i 0)
    → All (IsFollowedAt l arrivals new.entries.items from) (take (i + 1) items)
followed_more l arrivals old new from i items lt grows all one =
    All-more (IsFollowedAt l arrivals new.entries.items from) items i 0 lt
    (All-weaker (IsFollowedAt l arrivals old.entries.items from) (IsFollowedAt l arrivals new.entries.items from)
    (λ offset. IsFollowedAt-grows l arrivals old new from offset grows) (take i items) all) one

-- the nodes at the first places of the order
pub record AreFollowed (l : LoweredMethod) (arrivals : List Arrival) (naming : Naming) (done : ℕ) : Type 0 where
  pub each : (k from : ℕ) → k < done → slice_get naming.order.items k ≡ Some from → IsFollowed l arrivals naming.entries.items from

pub AreFollowed-more : (l : LoweredMethod) (arrivals : List Arrival) (old new : Naming) (done from : ℕ) → AreFollowed l arrivals old done → Grows old new
    → slice_get old.order.items done ≡ Some from → IsFollowed l arrivals new.entries.items from → AreFollowed l arrivals new (done + 1)
AreFollowed-more l arrivals old new done from followed grows turn now = record {
  each = λ k x lt at.
      let within = slice_get_within old.order.items done from turn in
      let there = stands_below old.order.items k (omega arith) in
      let same : there.0 ≡ x = same_Some _ _ (sym (grows.order.stays k there.0 there.1) ∙ at) in
      elim (cases_lt k done) [
        | inl before ↦ IsFollowed-grows l arrivals old new x grows (followed.each k x before (there.1 ∙ ap Some same))
        | inr last ↦ (
            let here : done ≡ k = omega arith in
            let is : from ≡ x = same_Some _ _ (sym turn ∙ ap (slice_get old.order.items) here ∙ there.1 ∙ ap Some same) in
            subst (IsFollowed l arrivals new.entries.items) is now)
      ];
}

-- ---- the first ones

pub HasRoots-grows : (l : LoweredMethod) (arrivals : List Arrival) (done : ℕ) (old new : Naming) → Grows old new → HasRoots l arrivals done old.entries.items
    → HasRoots l arrivals done new.entries.items
HasRoots-grows l arrivals done old new grows roots = record {
  each = λ place lt. record { each = λ n arrival root stands here is. grows.entered place ((roots.each place lt).each n arrival root stands here is) };
}

-- a node that another tells
pub no_root : (l : LoweredMethod) (arrivals : List Arrival) (entries : List (Option Entry)) (place : ℕ) (n : Node) (a : Arrival) → slice_get l.nodes place ≡ Some n
    → slice_get arrivals place ≡ Some a → root_of a place n.offset ≡ None → IsRootEntered l arrivals entries place
no_root l arrivals entries place n a stands here none = record {
  each = λ m b root at h is.
      let node : m ≡ n = same_Some _ _ (sym at ∙ stands) in
      let arrival : b ≡ a = same_Some _ _ (sym h ∙ here) in
      absurd (none-some root (sym none ∙ ap (λ (x : Arrival). root_of x place n.offset) (sym arrival) ∙ ap (λ (x : Node). root_of b place x.offset) (sym node) ∙ is));
}

pub HasRoots-none : (l : LoweredMethod) (arrivals : List Arrival) (naming : Naming) → HasRoots l arrivals 0 naming.entries.items
HasRoots-none l arrivals naming = record { each = λ place lt. absurd (omega arith) }

pub HasRoots-more : (l : LoweredMethod) (arrivals : List Arrival) (done : ℕ) (old new : Naming) → Grows old new → HasRoots l arrivals done old.entries.items
    → IsRootEntered l arrivals new.entries.items done → HasRoots l arrivals (done + 1) new.entries.items
HasRoots-more l arrivals done old new grows roots now =
    let before = HasRoots-grows l arrivals done old new grows roots in
    record {
      each = λ place lt. elim (cases_lt place done) [
        | inl earlier ↦ before.each place earlier
        | inr last ↦ (let same : done ≡ place = omega arith in subst (IsRootEntered l arrivals new.entries.items) same now)
      ];
    }

-- ---- each node

-- at a merge point
meeting_entered : (l : LoweredMethod) (arrivals : List Arrival) (naming : Naming) (offset place : ℕ) → HasRoots l arrivals (length l.nodes) naming.entries.items
    → StandsAt l offset place → slice_get arrivals place ≡ Some Several → IsEntered naming.entries.items place
meeting_entered l arrivals naming offset place roots at here =
    (roots.each place (slice_get_within l.nodes place at.node at.stands)).each at.node Several (Meeting at.node.offset) at.stands here refl

-- at the first node
first_entered : (l : LoweredMethod) (arrivals : List Arrival) (naming : Naming) (offset place : ℕ) (a : Arrival) → AreArrivals l arrivals
    → HasRoots l arrivals (length l.nodes) naming.entries.items → StandsAt l offset place → place ≡ 0 → slice_get arrivals place ≡ Some a → IsEntered naming.entries.items place
first_entered l arrivals naming offset place Nothing are roots at zeroth here =
    (roots.each place (slice_get_within l.nodes place at.node at.stands)).each at.node Nothing Beginning at.stands here
    (ap (λ (b : Bool). cond b (Some Beginning) None) (eq-eqb place 0 zeroth))
first_entered l arrivals naming offset place (OneNode from) are roots at zeroth here =
    let is = are.sound.each place at.node (OneNode from) at.stands here in
    absurd (omega (arith, is.1, zeroth))
first_entered l arrivals naming offset place Several are roots at zeroth here = meeting_entered l arrivals naming offset place roots at here

-- at a node that an entered one leads to
next_entered : (l : LoweredMethod) (arrivals : List Arrival) (naming : Naming) (done from offset place : ℕ) (a : Arrival)
    → HasRoots l arrivals (length l.nodes) naming.entries.items → IsNaming l naming → AreFollowed l arrivals naming done → length naming.order.items ≤ done
    → IsEntered naming.entries.items from → LeadsTo l from offset → StandsAt l offset place → slice_get arrivals place ≡ Some a → Notes from a
    → IsEntered naming.entries.items place
next_entered l arrivals naming done from offset place Nothing roots is followed all entered leads at here noted = absurd noted
next_entered l arrivals naming done from offset place (OneNode earlier) roots is followed all entered leads at here noted =
    let listed = place_of naming.order.items from (is.listed from entered) in
    let within = slice_get_within naming.order.items listed.0 from listed.1 in
    ((followed.each listed.0 from (omega arith) listed.1).each offset leads).each place at (here ∙ ap (λ (k : ℕ). Some (OneNode k)) noted)
next_entered l arrivals naming done from offset place Several roots is followed all entered leads at here noted = meeting_entered l arrivals naming offset place roots at here

-- what is known when all of the order are followed
pub record IsAtEnd (l : LoweredMethod) (arrivals : List Arrival) (naming : Naming) (done : ℕ) : Type 0 where
  pub order : AreInOrder l
  pub noted : AreArrivals l arrivals
  pub named : IsNaming l naming
  pub roots : HasRoots l arrivals (length l.nodes) naming.entries.items
  pub followed : AreFollowed l arrivals naming done
  pub all : length naming.order.items ≤ done

reached_entered : (l : LoweredMethod) (arrivals : List Arrival) (naming : Naming) (done : ℕ) → IsAtEnd l arrivals naming done → (offset : ℕ) → IsReachedNode l offset
    → (place : ℕ) → StandsAt l offset place → IsEntered naming.entries.items place
reached_entered l arrivals naming done end offset (at_first n _ zeroth is) place at =
    let same : place ≡ 0 = one_place l offset place 0 end.order at (record { node = n; stands = zeroth; is = sym is }) in
    let within = slice_get_within l.nodes place at.node at.stands in
    let there = stands_below arrivals place (omega (arith, end.noted.sound.count)) in
    first_entered l arrivals naming offset place there.0 end.noted end.roots at same there.1
reached_entered l arrivals naming done end offset (from_node n _ stands reached goes) place at =
    let from = place_of l.nodes n stands in
    let entered = reached_entered l arrivals naming done end n.offset reached from.0 (record { node = n; stands = from.1; is = refl }) in
    let within = slice_get_within l.nodes place at.node at.stands in
    let there = stands_below arrivals place (omega (arith, end.noted.sound.count)) in
    let to_node = subst (Contains n.successors) (sym at.is) goes in
    next_entered l arrivals naming done from.0 offset place there.0 end.roots end.named end.followed end.all entered (record { node = n; stands = from.1; goes = goes }) at there.1
    (noted_at l arrivals place at.node there.0 from.0 n end.noted at.stands there.1 from.1 to_node)
reached_entered l arrivals naming done end offset (from_handler n h _ stands reached covers is) place at =
    let from = place_of l.nodes n stands in
    let hands : HandsTo l from.0 at.node.offset = record { node = n; stands = from.1; handler = h; covers = covers; begins = sym is ∙ sym at.is } in
    meeting_entered l arrivals naming offset place end.roots at (handled_at l arrivals place at.node from.0 end.noted at.stands hands)

pub all_entered : (l : LoweredMethod) (arrivals : List Arrival) (naming : Naming) (done : ℕ) → AreReachedNodes l → IsAtEnd l arrivals naming done
    → AreAllEntered l naming.entries.items
all_entered l arrivals naming done reached end = record {
  each = λ place lt.
      let there = stands_below l.nodes place lt in
      let is = All-contains (λ (n : Node). IsReachedNode l n.offset) l.nodes there.0 reached.each (contains_at l.nodes place there.0 there.1) in
      reached_entered l arrivals naming done end there.0.offset is place (record { node = there.0; stands = there.1; is = refl });
}
