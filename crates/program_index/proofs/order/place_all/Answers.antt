use Rattle.std.proofs.Common.{◌≡◌, ◌<◌, ℕ, List, [], Vec, Some, length, get_or, refl, sym, ◌∙◌, ap, subst, arith}
use Rattle.std.specs.declared.alloc.Global.{Global}
use Rattle.std.specs.List.{slice_get, All}
use Rattle.std.proofs.lemmas.Option.{slice_get_read}
use Rattle.program_index.specs.declared.order.Waiter.{Waiter}
use Rattle.program_index.specs.Sorting.{IsReady, IsHeld}
use Rattle.program_index.proofs.Placing.{taken_sorting, all_ready, held_more, filled}
use Rattle.program_index.proofs.order.place_all.Goals as goal

-- the list that is taken out is that of the class whose turn it is
list_taken : (lists : List (Vec Waiter Global)) (y : ℕ) (list taken : Vec Waiter Global) → y < length lists → taken ≡ list → list ≡ get_or lists y list
    → slice_get lists y ≡ Some taken
list_taken lists y list taken l same is = slice_get_read lists (length lists) y list refl l is ∙ ap Some (sym same)

pub settle_released-requires-clause-sorting : goal.settle_released-requires-clause-sorting
settle_released-requires-clause-sorting c =
    let below : c.at-class.result < length c.loop-done.waiting.items =
    omega (arith, c.loop-done.invariant.sorting.size, c.loop-done.invariant.sorting.count, c.at-class.ensures.below) in
    let nothing : c.replace-released.new.dest.items ≡ [] = ap (λ (v : Vec Waiter Global). v.items) c.replace-released.ensures.after ∙ c.new-in-loop-done.ensures.items in
    taken_sorting c.args.parents.now c.loop-done.order c.loop-done.waiting.items c.at-class.result c.replace-released.new.dest below nothing c.loop-done.invariant.sorting

pub settle_released-requires-clause-ready : goal.settle_released-requires-clause-ready
settle_released-requires-clause-ready c =
    let below : c.at-class.result < length c.loop-done.waiting.items =
    omega (arith, c.loop-done.invariant.sorting.size, c.loop-done.invariant.sorting.count, c.at-class.ensures.below) in
    let list = list_taken c.loop-done.waiting.items c.at-class.result c.index_mut.result.now c.replace-released.result below c.replace-released.ensures.value c.index_mut.ensures.value in
    subst (λ (ws : List Waiter). All (IsReady c.args.parents.now c.loop-done.order.items) ws) (sym c.deref.ensures.value)
    (all_ready c.args.parents.now c.loop-done.order c.loop-done.waiting.items c.at-class.result c.replace-released.result c.loop-done.invariant.sorting list)

pub loop-done-preserved : goal.loop-done-preserved
loop-done-preserved c =
    let below : c.at-class.result < length c.loop-done.waiting.items =
    omega (arith, c.loop-done.invariant.sorting.size, c.loop-done.invariant.sorting.count, c.at-class.ensures.below) in
    let list = list_taken c.loop-done.waiting.items c.at-class.result c.index_mut.result.now c.replace-released.result below c.replace-released.ensures.value c.index_mut.ensures.value in
    let order = c.settle_released.new.order.items in
    let lists = c.settle_released.new.waiting.items in
    let on = c.in_ok-settle_released.ensures.goes_on in
    let released = subst (λ (ws : List Waiter). All (λ (w : Waiter). IsHeld order lists (length c.loop-done.order.items) w.class) ws) c.deref.ensures.value
    c.in_ok-settle_released.ensures.held in
    record {
      sorting = c.in_ok-settle_released.ensures.sorting;
      held = record {
        held = λ d l. held_more c.loop-done.order.items c.loop-done.waiting.items order lists c.loop-done.done c.at-class.result d c.replace-released.result
            c.replace-released.new.dest c.at-class.ensures.found list on released (c.loop-done.invariant.held.held d l);
      };
      within = omega (arith, c.len.ensures.count, on.size);
    }

pub returns : goal.returns
returns c =
    filled c.args.parents.now c.loop-done.order c.loop-done.waiting.items c.loop-done.done c.loop-done.invariant.sorting c.loop-done.invariant.held
    (omega (arith, c.len.ensures.count)) c.len.ensures.distinct
