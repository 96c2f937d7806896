-- What an operation leads to, by what the operation is.
use Rattle.std.proofs.Common.{◌≡◌, List, Result, sym, subst}
use Rattle.std.specs.Result.{OnOk}
use Rattle.jvm_model.specs.Programs.{Program}
use Rattle.op_model.specs.declared.lowered.LoweredMethod.{LoweredMethod}
use Rattle.op_model.specs.declared.node.Node.{Node}
use Rattle.op_model.specs.declared.op.Op.{Op}
use Rattle.points_to_constraints.specs.NodeItems.{OpItem}
use Rattle.points_to_numbers.specs.Steps.{Makes}
use Rattle.points_to_numbers.specs.declared.item.Item.{Item}
use Rattle.points_to_numbers.specs.Numbered.{Numbered}

pub op_is : {T E : Type 0} (r : Result T E) (p : Program) (l : LoweredMethod) (n : Node) (a b : Numbered) (xs ys : List Item) (o q : Op) → o ≡ q
    → OnOk r (Makes a b (OpItem q p l.method l n) xs ys) → OnOk r (Makes a b (OpItem o p l.method l n) xs ys)
op_is r p l n a b xs ys o q is h = subst (λ (s : Op). OnOk r (Makes a b (OpItem s p l.method l n) xs ys)) (sym is) h
