use Rattle.std.proofs.Common.{◌≡◌, ℕ, true, length, subst, arith, inl, inr}
use Rattle.std.proofs.lemmas.Bool.{cases_lt}
use Rattle.std.proofs.lemmas.List.Elements.{All-nil}
use Rattle.list_laws.proofs.Places.{stands_below}
use Rattle.program_index.specs.ClassSets.{has}
use Rattle.program_index.specs.Sorting.{IsHeld}
use Rattle.program_index.proofs.Placing.{held_less, held_on}
use Rattle.program_index.proofs.order.settle_each.Goals as goal

pub settle-requires-clause-ready : goal.settle-requires-clause-ready
settle-requires-clause-ready c =
    let entry = stands_below c.args.parents.now c.loop-class.class c.loop-class-test.true in
    record { parents = entry.0; stands = entry.1; before = All-nil (λ (x : ℕ). has c.loop-class.order.items x ≡ true) }

pub loop-class-preserved : goal.loop-class-preserved
loop-class-preserved c =
    let order = c.settle.new.order.items in
    let lists = c.settle.new.waiting.items in
    record {
      sorting = c.in_ok-settle.ensures.sorting;
      held = record {
        held = λ d l. elim (cases_lt d c.loop-class.class) [
          | inl old ↦ held_on c.loop-class.order.items c.loop-class.waiting.items order lists 0 d c.in_ok-settle.ensures.goes_on (omega arith)
              (c.loop-class.invariant.held.held d old)
          | inr new ↦ (let same : c.loop-class.class ≡ d = omega arith in
              subst (λ (n : ℕ). IsHeld order lists 0 n) same (held_less order lists 0 (length order) c.loop-class.class (omega arith) c.in_ok-settle.ensures.held))
        ];
      };
    }
