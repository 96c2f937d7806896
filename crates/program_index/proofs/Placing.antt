-- Placing classes upward: what is placed, what waits, and what one class more does to both.
use Rattle.std.proofs.Common.{◌≡◌, ℕ, ◌+◌, ◌<◌, ◌≤◌, true, false, List, [], ◌∷◌, ◌++◌, length, length-append, take, get_or, set, Option, Some, None, Vec, refl, sym, ◌∙◌, ap, subst, arith, add-one, inl, inr}
use Rattle.std.specs.declared.alloc.Global.{Global}
use Rattle.std.specs.List.{slice_get, Contains, All, Any, IsDistinct}
use Rattle.std.specs.Prelude.{nat_eq}
use Rattle.std.specs.Option.{option_to_list}
use Rattle.std.proofs.lemmas.List.Elements.{All-nil, All-cons, All-append, All-push, All-more, All-weaker, All-contains, Contains-append_left, Contains-get_or}
use Rattle.std.proofs.lemmas.List.Quantifiers.{Any-push}
use Rattle.std.proofs.lemmas.Option.{slice_get_within, same_Some}
use Rattle.std.proofs.lemmas.Bool.{cases_eq, cond_both, false_from_ne_true, false≢true}
use Rattle.std.proofs.lemmas.List.{take_all, take-append-le, length-set, get_or_append_left}
use Rattle.list_laws.proofs.Places.{contains_at, front_push as front_push_place, in_front, place_of, push_cases, set_at, set_other, to_front}
use Rattle.program_index.specs.declared.parents.Parents.{Parents}
use Rattle.program_index.specs.declared.order.Waiter.{Waiter}
use Rattle.program_index.specs.Supertypes.{direct_of, IsDirect}
use Rattle.program_index.specs.ClassSets.{Classes, has, with_class}
use Rattle.program_index.specs.Sorting.{AreIn, IsReady, IsWaiting, IsFront, IsSorting, IsHeld, in_order, in_a_list, GoesOn, AreHeld, IsFilled}
use Rattle.program_index.proofs.ClassLists.{with_class_old, with_class_front, with_class_longer, has_push_other, contains_from_has, has_from_contains}

-- the superclass is placed, or there is none
pub superclass_in : (order : List ℕ) (o : Option ℕ) (y : ℕ) → o ≡ Some y → has order y ≡ true → AreIn order (option_to_list o)
superclass_in order o y e h = rw e (All-cons (λ (x : ℕ). has order x ≡ true) y [] h (All-nil (λ (x : ℕ). has order x ≡ true)))

pub no_superclass_in : (order : List ℕ) (o : Option ℕ) → o ≡ None → AreIn order (option_to_list o)
no_superclass_in order o e = rw e (All-nil (λ (x : ℕ). has order x ≡ true))

-- so all direct supertypes are
pub direct_in : (order : List ℕ) (p : Parents) (n : ℕ) → length p.interfaces.items ≤ n → AreIn order (option_to_list p.super_class)
    → AreIn order (take n p.interfaces.items) → AreIn order (direct_of p)
direct_in order p n l above interfaces =
    All-append (λ (x : ℕ). has order x ≡ true) p.interfaces.items (option_to_list p.super_class)
    (subst (λ (xs : List ℕ). AreIn order xs) (take_all n p.interfaces.items l) interfaces) above

-- one superinterface more
pub interfaces_more : (order xs : List ℕ) (i x : ℕ) → i < length xs → x ≡ get_or xs i x → has order x ≡ true → AreIn order (take i xs) → AreIn order (take (i + 1) xs)
interfaces_more order xs i x l e h old =
    All-more (λ (y : ℕ). has order y ≡ true) xs i x l old (subst (λ (y : ℕ). has order y ≡ true) e h)

-- a superinterface is a direct supertype
pub interface_among : (p : Parents) (i x : ℕ) → i < length p.interfaces.items → x ≡ get_or p.interfaces.items i x → Contains (direct_of p) x
interface_among p i x l e =
    Contains-append_left p.interfaces.items (option_to_list p.super_class) x
    (subst (λ (y : ℕ). Contains p.interfaces.items y) (sym e) (Contains-get_or p.interfaces.items i x l))

-- what was placed before is placed still, and what waited waits still
in_more : (order order' xs : List ℕ) → ((x : ℕ) → has order x ≡ true → has order' x ≡ true) → AreIn order xs → AreIn order' xs
in_more order order' xs kept all = All-weaker (λ (x : ℕ). has order x ≡ true) (λ (x : ℕ). has order' x ≡ true) kept xs all

pub ready_more : (g : List Parents) (order order' : List ℕ) (w : Waiter) → ((x : ℕ) → has order x ≡ true → has order' x ≡ true) → IsReady g order w → IsReady g order' w
ready_more g order order' w kept ready = record {
  parents = ready.parents;
  stands = ready.stands;
  before = in_more order order' (take w.place ready.parents.interfaces.items) kept ready.before;
}

waiting_more : (g : List Parents) (order order' : List ℕ) (y : ℕ) (w : Waiter) → ((x : ℕ) → has order x ≡ true → has order' x ≡ true) → IsWaiting g order y w
    → IsWaiting g order' y w
waiting_more g order order' y w kept old = record { ready = ready_more g order order' w kept old.ready; direct = old.direct }

-- the front with one class more, all direct supertypes of which are placed
front_push : (g : List Parents) (order : List ℕ) (class : ℕ) (p : Parents) → IsFront g order → slice_get g class ≡ Some p → AreIn order (direct_of p)
    → IsFront g (order ++ class ∷ [])
front_push g order class p front stands all = record {
  after = λ k x y e d. elim (push_cases order class k x e) [
    | inl old ↦ (let l = slice_get_within order k x old in
        subst (λ (xs : List ℕ). has xs y ≡ true) (sym (take-append-le k order (class ∷ []) (omega arith))) (front.after k x y old d))
    | inr new ↦ (let same : d.parents ≡ p = same_Some d.parents p (sym d.stands ∙ ap (slice_get g) new.1 ∙ stands) in
        let among : Contains (direct_of p) y = subst (λ (q : Parents). Contains (direct_of q) y) same d.among in
        let whole : take k (order ++ class ∷ []) ≡ order = ap (λ (n : ℕ). take n (order ++ class ∷ [])) new.0 ∙ take-append-le (length order) order (class ∷ []) (omega arith) ∙ take_all (length order) order (omega arith) in
        subst (λ (xs : List ℕ). has xs y ≡ true) (sym whole) (All-contains (λ (z : ℕ). has order z ≡ true) (direct_of p) y all among))
  ];
}

pub front_with_class : (g : List Parents) (order : List ℕ) (class : ℕ) (p : Parents) → IsFront g order → slice_get g class ≡ Some p → AreIn order (direct_of p)
    → IsFront g (with_class order class)
front_with_class g order class p front stands all =
    cond_both (has order class) order (order ++ class ∷ []) (λ (xs : List ℕ). IsFront g xs) (λ _. front) (λ _. front_push g order class p front stands all)

-- a class is placed
pub placed_sorting : (g : List Parents) (order : Classes) (lists : List (Vec Waiter Global)) (class : ℕ) (p : Parents) → IsSorting g order lists
    → slice_get g class ≡ Some p → AreIn order.items (direct_of p) → IsSorting g (record { size = order.size; items = with_class order.items class }) lists
placed_sorting g order lists class p sorting stands all = record {
  size = sorting.size;
  count = sorting.count;
  front = front_with_class g order.items class p sorting.front stands all;
  waiting = λ y list e. All-weaker (IsWaiting g order.items y) (IsWaiting g (with_class order.items class) y)
      (λ w h. waiting_more g order.items (with_class order.items class) y w (λ x. with_class_old order.items class x) h) list.items (sorting.waiting y list e);
}

pub placed_goes_on : (order : List ℕ) (lists : List (Vec Waiter Global)) (class : ℕ) → GoesOn order lists (with_class order class) lists
placed_goes_on order lists class = record {
  longer = λ n l. with_class_front order class n l;
  size = with_class_longer order class;
  kept = λ x. with_class_old order class x;
  lists_kept = λ y c list e any. (list, e, any);
}

-- a class waits
any_longer : {X : Type 0} (P : X → Type 0) (xs ys : List X) → Any P xs → Any P (xs ++ ys)
any_longer P xs ys (k, x, l, e, h) = (k, x, omega (arith, length-append xs ys), get_or_append_left xs ys x k l ∙ e, h)

pub waits_sorting : (g : List Parents) (order : Classes) (lists : List (Vec Waiter Global)) (y : ℕ) (list list' : Vec Waiter Global) (w : Waiter)
    → IsSorting g order lists → slice_get lists y ≡ Some list → list'.items ≡ list.items ++ w ∷ [] → IsWaiting g order.items y w
    → IsSorting g order (set lists y list')
waits_sorting g order lists y list list' w sorting stands pushed here = record {
  size = sorting.size;
  count = length-set lists y list' ∙ sorting.count;
  front = sorting.front;
  waiting = λ z held e. elim (cases_eq z y) [
    | inl same ↦ (let is : held ≡ list' = same_Some held list' (sym e ∙ ap (slice_get (set lists y list')) same ∙ set_at lists y list' (slice_get_within lists y list stands)) in
        subst (λ (v : Vec Waiter Global). All (IsWaiting g order.items z) v.items) (sym is)
        (subst (λ (n : ℕ). All (IsWaiting g order.items n) list'.items) (sym same)
        (subst (λ (ws : List Waiter). All (IsWaiting g order.items y) ws) (sym pushed)
        (All-push (IsWaiting g order.items y) list.items w (sorting.waiting y list stands) here))))
    | inr other ↦ sorting.waiting z held (sym (set_other lists y z list' other) ∙ e)
  ];
}

pub waits_goes_on : (order : List ℕ) (lists : List (Vec Waiter Global)) (y : ℕ) (list list' : Vec Waiter Global) (w : Waiter)
    → slice_get lists y ≡ Some list → list'.items ≡ list.items ++ w ∷ [] → GoesOn order lists order (set lists y list')
waits_goes_on order lists y list list' w stands pushed = record {
  longer = λ n l. refl;
  size = omega arith;
  kept = λ x h. h;
  lists_kept = λ z c held e any. elim (cases_eq z y) [
    | inl same ↦ (let is : held ≡ list = same_Some held list (sym e ∙ ap (slice_get lists) same ∙ stands) in (
      list',
      ap (slice_get (set lists y list')) same ∙ set_at lists y list' (slice_get_within lists y list stands),
      subst (λ (ws : List Waiter). Any (λ (v : Waiter). v.class ≡ c) ws) (sym pushed)
          (any_longer (λ (v : Waiter). v.class ≡ c) list.items (w ∷ []) (subst (λ (v : Vec Waiter Global). Any (λ (u : Waiter). u.class ≡ c) v.items) is any)),
    ))
    | inr other ↦ (held, set_other lists y z list' other ∙ e, any)
  ];
}

pub waits_held : (order : List ℕ) (lists : List (Vec Waiter Global)) (y : ℕ) (list list' : Vec Waiter Global) (w : Waiter)
    → slice_get lists y ≡ Some list → list'.items ≡ list.items ++ w ∷ [] → has order y ≡ false → IsHeld order (set lists y list') (length order) w.class
waits_held order lists y list list' w stands pushed absent = in_a_list (record {
  y = y;
  list = list';
  stands = set_at lists y list' (slice_get_within lists y list stands);
  waits = subst (λ (ws : List Waiter). Any (λ (v : Waiter). v.class ≡ w.class) ws) (sym pushed) (Any-push (λ (v : Waiter). v.class ≡ w.class) list.items w refl);
  later = subst (λ (xs : List ℕ). has xs y ≡ false) (sym (take_all (length order) order (omega arith))) absent;
})

-- steps that go on, none or one after the other
pub goes_on_none : (order : List ℕ) (lists : List (Vec Waiter Global)) → GoesOn order lists order lists
goes_on_none order lists = record { longer = λ n l. refl; size = omega arith; kept = λ x h. h; lists_kept = λ y c list e any. (list, e, any) }

pub goes_on_trans : (order : List ℕ) (lists : List (Vec Waiter Global)) (order' : List ℕ) (lists' : List (Vec Waiter Global)) (order'' : List ℕ) (lists'' : List (Vec Waiter Global))
    → GoesOn order lists order' lists' → GoesOn order' lists' order'' lists'' → GoesOn order lists order'' lists''
goes_on_trans order lists order' lists' order'' lists'' a b = record {
  longer = λ n l. b.longer n (omega (arith, a.size)) ∙ a.longer n l;
  size = omega (arith, a.size, b.size);
  kept = λ x h. b.kept x (a.kept x h);
  lists_kept = λ y c list e any. let one = a.lists_kept y c list e any in b.lists_kept y c one.0 one.1 one.2;
}

-- a class that is held stays so
has_front : (order : List ℕ) (n m x : ℕ) → n ≤ m → has (take m order) x ≡ false → has (take n order) x ≡ false
has_front order n m x l absent = false_from_ne_true _ (λ h.
    let p = place_of (take n order) x (contains_from_has (take n order) x h) in
    let q = in_front order n p.0 x p.1 in
    let r : slice_get (take m order) p.0 ≡ Some x = to_front order m p.0 x (omega (arith, q.0)) q.1 in
    false≢true (sym absent ∙ has_from_contains (take m order) x (contains_at (take m order) p.0 x r)))

pub held_less : (order : List ℕ) (lists : List (Vec Waiter Global)) (n m c : ℕ) → n ≤ m → IsHeld order lists m c → IsHeld order lists n c
held_less order lists n m c l (in_order h) = in_order h
held_less order lists n m c l (in_a_list w) = in_a_list (record { y = w.y; list = w.list; stands = w.stands; waits = w.waits; later = has_front order n m w.y l w.later })

pub held_on : (order : List ℕ) (lists : List (Vec Waiter Global)) (order' : List ℕ) (lists' : List (Vec Waiter Global)) (n c : ℕ)
    → GoesOn order lists order' lists' → n ≤ length order → IsHeld order lists n c → IsHeld order' lists' n c
held_on order lists order' lists' n c on l (in_order h) = in_order (on.kept c h)
held_on order lists order' lists' n c on l (in_a_list w) = let kept = on.lists_kept w.y c w.list w.stands w.waits in
    in_a_list (record { y = w.y; list = kept.0; stands = kept.1; waits = kept.2; later = subst (λ (xs : List ℕ). has xs w.y ≡ false) (sym (on.longer n l)) w.later })

-- the list of a class is taken out
pub taken_sorting : (g : List Parents) (order : Classes) (lists : List (Vec Waiter Global)) (y : ℕ) (list' : Vec Waiter Global) → y < length lists → list'.items ≡ []
    → IsSorting g order lists → IsSorting g order (set lists y list')
taken_sorting g order lists y list' l nothing sorting = record {
  size = sorting.size;
  count = length-set lists y list' ∙ sorting.count;
  front = sorting.front;
  waiting = λ z held e. elim (cases_eq z y) [
    | inl same ↦ (let is : held ≡ list' = same_Some held list' (sym e ∙ ap (slice_get (set lists y list')) same ∙ set_at lists y list' l) in
        subst (λ (ws : List Waiter). All (IsWaiting g order.items z) ws) (sym (ap (λ (v : Vec Waiter Global). v.items) is ∙ nothing)) (All-nil (IsWaiting g order.items z)))
    | inr other ↦ sorting.waiting z held (sym (set_other lists y z list' other) ∙ e)
  ];
}

pub all_ready : (g : List Parents) (order : Classes) (lists : List (Vec Waiter Global)) (y : ℕ) (list : Vec Waiter Global) → IsSorting g order lists
    → slice_get lists y ≡ Some list → All (IsReady g order.items) list.items
all_ready g order lists y list sorting e = All-weaker (IsWaiting g order.items y) (IsReady g order.items) (λ w h. h.ready) list.items (sorting.waiting y list e)

front_push_at : (xs : List ℕ) (k x : ℕ) → slice_get xs k ≡ Some x → take (k + 1) xs ≡ take k xs ++ x ∷ []
front_push_at xs k x e = rw add-one (front_push_place xs k x e)

-- one more class of the order had its turn: what waited for it was released, and is held again
pub held_more : (order : List ℕ) (lists : List (Vec Waiter Global)) (order' : List ℕ) (lists' : List (Vec Waiter Global)) (done y c : ℕ) (list list' : Vec Waiter Global)
    → slice_get order done ≡ Some y → slice_get lists y ≡ Some list → GoesOn order (set lists y list') order' lists'
    → All (λ (w : Waiter). IsHeld order' lists' (length order) w.class) list.items → IsHeld order lists done c → IsHeld order' lists' (done + 1) c
held_more order lists order' lists' done y c list list' turn stands on released (in_order h) = in_order (on.kept c h)
held_more order lists order' lists' done y c list list' turn stands on released (in_a_list w) =
    let l = slice_get_within order done y turn in
    elim (cases_eq w.y y) [
      | inl same ↦ (let is : w.list ≡ list = same_Some w.list list (sym w.stands ∙ ap (slice_get lists) same ∙ stands) in
          let any : Any (λ (v : Waiter). v.class ≡ c) list.items = subst (λ (v : Vec Waiter Global). Any (λ (u : Waiter). u.class ≡ c) v.items) is w.waits in
          let again : IsHeld order' lists' (length order) any.1.class =
          All-contains (λ (v : Waiter). IsHeld order' lists' (length order) v.class) list.items any.1 released (any.0, any.2, any.3) in
          held_less order' lists' (done + 1) (length order) c (omega arith) (subst (λ (n : ℕ). IsHeld order' lists' (length order) n) any.4 again))
      | inr other ↦ (let later : has (take (done + 1) order) w.y ≡ false = (let front = front_push_at order done y turn in
          subst (λ (xs : List ℕ). has xs w.y ≡ false) (sym front) (has_push_other (take done order) y w.y other ∙ w.later)) in
          held_on order (set lists y list') order' lists' (done + 1) c on (omega arith)
          (in_a_list (record { y = w.y; list = w.list; stands = set_other lists y w.y list' other ∙ w.stands; waits = w.waits; later = later })))
    ]

-- in the end each class that is not placed has a direct supertype that is not
still_missing : (g : List Parents) (order : Classes) (lists : List (Vec Waiter Global)) (done c : ℕ) → IsSorting g order lists → length order.items ≤ done
    → has order.items c ≡ false → IsHeld order.items lists done c → (y : ℕ) × IsDirect g c y × (has order.items y ≡ false)
still_missing g order lists done c sorting l absent (in_order h) = absurd (false≢true (sym absent ∙ h))
still_missing g order lists done c sorting l absent (in_a_list w) =
    let here : IsWaiting g order.items w.y w.waits.1 =
    All-contains (IsWaiting g order.items w.y) w.list.items w.waits.1 (sorting.waiting w.y w.list w.stands) (w.waits.0, w.waits.2, w.waits.3) in
    (w.y, subst (λ (n : ℕ). IsDirect g n w.y) w.waits.4 here.direct, subst (λ (xs : List ℕ). has xs w.y ≡ false) (take_all done order.items l) w.later)

pub filled : (g : List Parents) (order : Classes) (lists : List (Vec Waiter Global)) (done : ℕ) → IsSorting g order lists → AreHeld order.items lists done (length g)
    → length order.items ≤ done → IsDistinct nat_eq order.items → IsFilled g order
filled g order lists done sorting held l distinct = record {
  size = sorting.size;
  distinct = distinct;
  front = sorting.front;
  left = λ c lc absent. still_missing g order lists done c sorting l absent (held.held c lc);
}
