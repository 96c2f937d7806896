use Rattle.std.proofs.Common.{length, take, get_or, arith}
use Rattle.std.proofs.lemmas.List.Elements.{All-nil, All-more, All-weaker}
use Rattle.std.specs.List.{All}
use Rattle.std.proofs.lemmas.List.{take_all}
use Rattle.std.proofs.Common.{List, subst}
use Rattle.program_index.specs.declared.order.Waiter.{Waiter}
use Rattle.program_index.specs.Sorting.{IsHeld}
use Rattle.program_index.proofs.Placing.{goes_on_none, goes_on_trans, ready_more, held_less, held_on}
use Rattle.program_index.proofs.order.settle_released.Goals as goal

pub loop-waiter-init : goal.loop-waiter-init
loop-waiter-init c = record {
  sorting = c.requires.sorting;
  goes_on = goes_on_none c.args.order.now.items c.args.waiting.now.items;
  held = All-nil (λ (w : Waiter). IsHeld c.args.order.now.items c.args.waiting.now.items (length c.args.order.now.items) w.class);
}

pub settle-requires-clause-ready : goal.settle-requires-clause-ready
settle-requires-clause-ready c =
    let w = get_or c.args.released.now c.loop-waiter.waiter-index (record { class = 0; place = 0 }) in
    ready_more c.args.parents.now c.args.order.now.items c.loop-waiter.order.items w c.loop-waiter.invariant.goes_on.kept
    (c.requires.ready c.loop-waiter.waiter-index (record { class = 0; place = 0 }) c.loop-waiter-test.true)

pub loop-waiter-preserved : goal.loop-waiter-preserved
loop-waiter-preserved c =
    let first = c.args.order.now.items in
    let i = c.loop-waiter.waiter-index in
    let old = c.loop-waiter.order.items in
    let old_lists = c.loop-waiter.waiting.items in
    let order = c.settle.new.order.items in
    let lists = c.settle.new.waiting.items in
    let on = c.in_ok-settle.ensures.goes_on in
    record {
      sorting = c.in_ok-settle.ensures.sorting;
      goes_on = goes_on_trans first c.args.waiting.now.items old old_lists order lists c.loop-waiter.invariant.goes_on on;
      held = All-more (λ (w : Waiter). IsHeld order lists (length first) w.class) c.args.released.now i (record { class = 0; place = 0 }) c.loop-waiter-test.true
          (All-weaker (λ (w : Waiter). IsHeld old old_lists (length first) w.class) (λ (w : Waiter). IsHeld order lists (length first) w.class)
          (λ w h. held_on old old_lists order lists (length first) w.class on c.loop-waiter.invariant.goes_on.size h) (take i c.args.released.now) c.loop-waiter.invariant.held)
          (held_less order lists (length first) (length order) (get_or c.args.released.now i (record { class = 0; place = 0 })).class
          (omega (arith, c.loop-waiter.invariant.goes_on.size, on.size)) c.in_ok-settle.ensures.held);
    }

pub returns-clause-held : goal.returns-clause-held
returns-clause-held c =
    subst (λ (ws : List Waiter). All (λ (w : Waiter). IsHeld c.loop-waiter.order.items c.loop-waiter.waiting.items (length c.args.order.now.items) w.class) ws)
    (take_all c.loop-waiter.waiter-index c.args.released.now c.loop-waiter-test.false) c.loop-waiter.invariant.held
