use Rattle.std.proofs.Common.{refl}
use Rattle.ground.proofs.PutInOrder.{are_put}
use Rattle.ground.proofs.lists.put_in_order.Goals as goal

pub returns : goal.returns
returns c = are_put c.args.lists.now _ refl c.order.ensures c.order-2.ensures
