use Rattle.std.proofs.Common.{◌≡◌, [], arith}
use Rattle.std.proofs.lemmas.List.Elements.{All-push}
use Rattle.program_index.proofs.order.empty_lists.Goals as goal

pub loop-preserved : goal.loop-preserved
loop-preserved g c = record {
  count = omega (arith, c.in_ok-push.ensures.len, c.loop.invariant.count);
  empty = rw c.in_ok-push.ensures.items (All-push (λ list. list.items ≡ []) c.loop.lists.items c.new.result c.loop.invariant.empty c.new.ensures.items);
}

pub returns-clause-count : goal.returns-clause-count
returns-clause-count g c = omega (arith, c.loop.invariant.count)

pub returns-clause-empty : goal.returns-clause-empty
returns-clause-empty g c = c.loop.invariant.empty
