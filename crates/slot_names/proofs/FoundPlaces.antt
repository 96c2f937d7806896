-- What a binary search finds among nodes in the order of their offsets, and that it is the only one.
use Rattle.std.proofs.Common.{◌≡◌, ℕ, ◌<◌, ◌≤◌, List, length, get_or, Option, Some, None, Result, Ok, Err, sym, ap, subst, ◌∙◌, inl, inr, ◌⊎◌, arith}
use Rattle.std.specs.List.Sorted.{IsSearchInRange, IsBinarySearchResult}
use Rattle.std.specs.Ordering.{nat_cmp, ordering_index}
use Rattle.std.specs.declared.cmp.Ordering.TheVariants.{Less, Greater}
use Rattle.std.specs.Option.{IfSome}
use Rattle.std.specs.Result.{result_ok}
use Rattle.std.proofs.lemmas.Bool.{cases_lt, cases_order}
use Rattle.std.proofs.lemmas.Bool.Decides.{nat_tests}
use Rattle.std.proofs.lemmas.Cmp.{ranked}
use Rattle.std.proofs.lemmas.Option.{slice_get_within, slice_get-get_or, get_or_from_slice_get}
use Rattle.list_laws.proofs.Places.{stands_below}
use Rattle.op_model.specs.declared.lowered.LoweredMethod.{LoweredMethod}
use Rattle.op_model.specs.declared.node.Node.{Node}
use Rattle.slot_names.specs.NodePlaces.{AreInOrder, IsPlaceOf, StandsAt}

-- ---- nodes of one offset stand at one place

pub one_place : (l : LoweredMethod) (offset i j : ℕ) → AreInOrder l → StandsAt l offset i → StandsAt l offset j → i ≡ j
one_place l offset i j order a b = elim (cases_order i j) [
  | inl same ↦ same
  | inr apart ↦ elim apart [
    | inl below ↦ absurd (omega (arith, order.ascend i j a.node b.node below a.stands b.stands, a.is, b.is))
    | inr above ↦ absurd (omega (arith, order.ascend j i b.node a.node above b.stands a.stands, a.is, b.is))
  ]
]

-- ---- what is found

rises : (a b x : ℕ) → a ≤ b → ordering_index (nat_cmp a x) ≤ ordering_index (nat_cmp b x)
rises a b x le = grind (arith, nat_tests, le)

-- offsets do not fall
le_at : (l : LoweredMethod) → AreInOrder l → (i j : ℕ) (d : Node) → i ≤ j → j < length l.nodes → (get_or l.nodes i d).offset ≤ (get_or l.nodes j d).offset
le_at l order i j d le lt = by (cases_lt i j)
  where
    by : (i < j) ⊎ (j ≤ i) → (get_or l.nodes i d).offset ≤ (get_or l.nodes j d).offset
    by (inl less) =
        let first = slice_get-get_or l.nodes i d (omega arith) in
        let second = slice_get-get_or l.nodes j d lt in
        omega (arith, order.ascend i j (get_or l.nodes i d) (get_or l.nodes j d) less first second)
    by (inr more) =
        let same : i ≡ j = omega (arith, le, more) in
        let e : (get_or l.nodes i d).offset ≡ (get_or l.nodes j d).offset = ap (λ (k : ℕ). (get_or l.nodes k d).offset) same in
        omega (arith, e)

searched : (l : LoweredMethod) (offset : ℕ) (r : Result ℕ ℕ) → AreInOrder l → IsSearchInRange r (length l.nodes)
    → IsBinarySearchResult (λ (n : Node). nat_cmp n.offset offset) l.nodes r → IsPlaceOf l offset (result_ok r)
searched l offset (Ok i) order bound equal =
    let there = stands_below l.nodes i bound in
    let n = there.0 in
    let same : (get_or l.nodes i n).offset ≡ n.offset = ap (λ (m : Node). m.offset) (get_or_from_slice_get l.nodes i n n there.1) in
    record { node = n; stands = there.1; is = sym same ∙ ranked (get_or l.nodes i n).offset offset _ (sym (equal n)) }
searched l offset (Err i) order bound parted =
    let parts = parted (λ a b e le lt. rises (get_or l.nodes a e).offset (get_or l.nodes b e).offset offset (le_at l order a b e le lt)) in
    λ place at. by place at parts.0 parts.1 (cases_lt place i)
  where
    by : (place : ℕ) → StandsAt l offset place → ((k : ℕ) (e : Node) → 0 ≤ k → k < i → nat_cmp (get_or l.nodes k e).offset offset ≡ Less)
        → ((k : ℕ) (e : Node) → i ≤ k → k < length l.nodes → nat_cmp (get_or l.nodes k e).offset offset ≡ Greater) → (place < i) ⊎ (i ≤ place) → ⊥
    by place at less greater (inl below) =
        let here = ap (λ (m : Node). m.offset) (get_or_from_slice_get l.nodes place at.node at.node at.stands) in
        let x : (get_or l.nodes place at.node).offset < offset = ranked (get_or l.nodes place at.node).offset offset Less (sym (less place at.node (omega arith) below)) in
        omega (arith, x, here, at.is)
    by place at less greater (inr above) =
        let here = ap (λ (m : Node). m.offset) (get_or_from_slice_get l.nodes place at.node at.node at.stands) in
        let within = slice_get_within l.nodes place at.node at.stands in
        let x : offset < (get_or l.nodes place at.node).offset = ranked (get_or l.nodes place at.node).offset offset Greater (sym (greater place at.node above within)) in
        omega (arith, x, here, at.is)

-- the same in a list that is the nodes
pub searched_in : (l : LoweredMethod) (nodes : List Node) (offset : ℕ) (r : Result ℕ ℕ) (found : Option ℕ) → nodes ≡ l.nodes → AreInOrder l → IsSearchInRange r (length nodes)
    → IsBinarySearchResult (λ (n : Node). nat_cmp n.offset offset) nodes r → found ≡ result_ok r → IsPlaceOf l offset found
searched_in l nodes offset r found is order bound by_offset e =
    subst (IsPlaceOf l offset) (sym e)
    (searched l offset r order (subst (λ (ns : List Node). IsSearchInRange r (length ns)) is bound)
    (subst (λ (ns : List Node). IsBinarySearchResult (λ (n : Node). nat_cmp n.offset offset) ns r) is by_offset))

-- and it is a place of the nodes
pub place_within : (l : LoweredMethod) (offset : ℕ) (found : Option ℕ) → IsPlaceOf l offset found → IfSome found (λ (place : ℕ). place < length l.nodes)
place_within l offset None is = tt
place_within l offset (Some place) is = slice_get_within l.nodes place is.node is.stands
