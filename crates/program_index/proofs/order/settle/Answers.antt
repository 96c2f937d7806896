use Rattle.std.proofs.Common.{◌≡◌, ℕ, ◌<◌, List, Vec, Some, All, length, take, get_or, refl, sym, ◌∙◌, subst, arith}
use Rattle.std.specs.declared.alloc.Global.{Global}
use Rattle.std.specs.List.{slice_get, Contains}
use Rattle.std.proofs.lemmas.Option.{same_Some, slice_get_within, slice_get_read}
use Rattle.program_index.specs.declared.parents.Parents.{Parents}
use Rattle.program_index.specs.declared.order.Waiter.{Waiter}
use Rattle.program_index.specs.Supertypes.{AreInRange, IsDirect, direct_of}
use Rattle.program_index.specs.ClassSets.{Classes}
use Rattle.program_index.specs.Sorting.{AreIn, IsSorting, IsWaiting}
use Rattle.program_index.proofs.UpwardSteps.{direct_below}
use Rattle.program_index.proofs.Placing.{placed_sorting, placed_goes_on, waits_sorting, waits_goes_on, waits_held}
use Rattle.program_index.specs.Sorting.IsHeld.{in_order}
use Rattle.program_index.proofs.ClassLists.{with_class_new}
use Rattle.program_index.proofs.order.settle.Goals as goal

-- the entry that is read at a class is that of the class
entry_read : (g : List Parents) (p q : Parents) (class : ℕ) → slice_get g class ≡ Some q → p ≡ get_or g class p → slice_get g class ≡ Some p
entry_read g p q class stands is = slice_get_read g (length g) class p refl (slice_get_within g class q stands) is

-- the list that is written is that of the class that is missing
place_read : (g : List Parents) (p : Parents) (class y : ℕ) (order : Classes) (lists : List (Vec Waiter Global)) (list : Vec Waiter Global) → AreInRange g
    → IsSorting g order lists → (q : Parents) → slice_get g class ≡ Some q → p ≡ get_or g class p → Contains (direct_of p) y → list ≡ get_or lists y list
    → slice_get lists y ≡ Some list
place_read g p class y order lists list range sorting q stands is among value =
    let below = direct_below g class y range (record { parents = p; stands = entry_read g p q class stands is; among = among }) in
    slice_get_read lists (length lists) y list refl (omega (arith, sorting.count, below)) value

pub returns-in_ok-add-in-None-clause-sorting : goal.returns-in_ok-add-in-None-clause-sorting
returns-in_ok-add-in-None-clause-sorting c =
    let g = c.args.parents.now in
    let p = c.index-parents-waiter.result in
    let stands = entry_read g p c.requires.ready.parents c.args.waiter.class c.requires.ready.stands c.index-parents-waiter.is in
    rw c.in_ok-add-in-None.ensures.ok
    (placed_sorting g c.args.order.now c.args.waiting.now.items c.args.waiter.class p c.requires.sorting stands c.in-None.ensures.none)

pub returns-in_ok-add-in-None-clause-goes_on : goal.returns-in_ok-add-in-None-clause-goes_on
returns-in_ok-add-in-None-clause-goes_on c =
    rw c.in_ok-add-in-None.ensures.ok (placed_goes_on c.args.order.now.items c.args.waiting.now.items c.args.waiter.class)

pub returns-in_ok-push-in-Some-clause-sorting : goal.returns-in_ok-push-in-Some-clause-sorting
returns-in_ok-push-in-Some-clause-sorting c =
    let g = c.args.parents.now in
    let p = c.index-parents-waiter.result in
    let m = c.in-Some.missing in
    let found = c.in-Some.ensures.some in
    let stands = entry_read g p c.requires.ready.parents c.args.waiter.class c.requires.ready.stands c.index-parents-waiter.is in
    let direct : IsDirect g c.args.waiter.class m.class = record { parents = p; stands = stands; among = found.among } in
    let here : IsWaiting g c.args.order.now.items m.class (record { class = c.args.waiter.class; place = m.place }) =
    record { ready = record { parents = p; stands = stands; before = found.before }; direct = direct } in
    let list = place_read g p c.args.waiter.class m.class c.args.order.now c.args.waiting.now.items c.index_mut.result.now c.requires.in_range
    c.requires.sorting c.requires.ready.parents c.requires.ready.stands c.index-parents-waiter.is found.among c.index_mut.ensures.value in
    waits_sorting g c.args.order.now c.args.waiting.now.items m.class c.index_mut.result.now c.push.new.self (record { class = c.args.waiter.class; place = m.place })
    c.requires.sorting list c.in_ok-push-in-Some.ensures.items here

pub returns-in_ok-push-in-Some-clause-goes_on : goal.returns-in_ok-push-in-Some-clause-goes_on
returns-in_ok-push-in-Some-clause-goes_on c =
    let m = c.in-Some.missing in
    waits_goes_on c.args.order.now.items c.args.waiting.now.items m.class c.index_mut.result.now c.push.new.self (record { class = c.args.waiter.class; place = m.place })
    (place_read c.args.parents.now c.index-parents-waiter.result c.args.waiter.class m.class c.args.order.now c.args.waiting.now.items c.index_mut.result.now c.requires.in_range
    c.requires.sorting c.requires.ready.parents c.requires.ready.stands c.index-parents-waiter.is c.in-Some.ensures.some.among c.index_mut.ensures.value)
    c.in_ok-push-in-Some.ensures.items

pub returns-in_ok-push-in-Some-clause-held : goal.returns-in_ok-push-in-Some-clause-held
returns-in_ok-push-in-Some-clause-held c =
    let m = c.in-Some.missing in
    waits_held c.args.order.now.items c.args.waiting.now.items m.class c.index_mut.result.now c.push.new.self (record { class = c.args.waiter.class; place = m.place })
    (place_read c.args.parents.now c.index-parents-waiter.result c.args.waiter.class m.class c.args.order.now c.args.waiting.now.items c.index_mut.result.now c.requires.in_range
    c.requires.sorting c.requires.ready.parents c.requires.ready.stands c.index-parents-waiter.is c.in-Some.ensures.some.among c.index_mut.ensures.value)
    c.in_ok-push-in-Some.ensures.items c.in-Some.ensures.some.missing

pub returns-in_ok-add-in-None-clause-held : goal.returns-in_ok-add-in-None-clause-held
returns-in_ok-add-in-None-clause-held c =
    rw c.in_ok-add-in-None.ensures.ok (in_order (with_class_new c.args.order.now.items c.args.waiter.class))

pub bounds-parents-waiter : goal.bounds-parents-waiter
bounds-parents-waiter c = slice_get_within c.args.parents.now c.args.waiter.class c.requires.ready.parents c.requires.ready.stands

pub first_missing-requires-clause-in_range : goal.first_missing-requires-clause-in_range
first_missing-requires-clause-in_range c =
    let p = c.index-parents-waiter.result in
    let below = c.requires.in_range.below c.args.waiter.class p (bounds-parents-waiter c.before) in
    let here = subst (λ (q : Parents). All (λ (y : ℕ). y < length c.args.parents.now) (direct_of q)) (sym c.index-parents-waiter.is) below in
    subst (λ (size : ℕ). All (λ (y : ℕ). y < size) (direct_of p)) (sym c.requires.sorting.size) here

pub first_missing-requires-clause-before : goal.first_missing-requires-clause-before
first_missing-requires-clause-before c =
    let p = c.index-parents-waiter.result in
    let ready = c.requires.ready in
    let same = same_Some ready.parents p (sym ready.stands ∙ entry_read c.args.parents.now p ready.parents c.args.waiter.class ready.stands c.index-parents-waiter.is) in
    subst (λ (q : Parents). AreIn c.args.order.now.items (take c.args.waiter.place q.interfaces.items)) same ready.before

pub add-requires : goal.add-requires
add-requires c =
    let below = slice_get_within c.args.parents.now c.args.waiter.class c.requires.ready.parents c.requires.ready.stands in
    omega (arith, below, c.requires.sorting.size)

pub index_mut-requires : goal.index_mut-requires
index_mut-requires c =
    let g = c.args.parents.now in
    let p = c.index-parents-waiter.result in
    let stands = entry_read g p c.requires.ready.parents c.args.waiter.class c.requires.ready.stands c.index-parents-waiter.is in
    let below = direct_below g c.args.waiter.class c.in-Some.missing.class c.requires.in_range
    (record { parents = p; stands = stands; among = c.in-Some.ensures.some.among }) in
    omega (arith, below, c.requires.sorting.count)
