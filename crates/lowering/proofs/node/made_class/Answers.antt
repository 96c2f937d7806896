use Rattle.std.proofs.Common.{List, sym, ap, ◌∙◌, arith}
use Rattle.jvm_model.specs.declared.pool.PoolEntry.{PoolEntry}
use Rattle.jvm_model.specs.Lookups.{class_name_at}
use Rattle.lowering.proofs.CodeFacts.{operand_below}
use Rattle.lowering.proofs.MadeClasses.{made_class}
use Rattle.lowering.proofs.node.made_class.Goals as goal

pub overflow_cast-index : goal.overflow_cast-index
overflow_cast-index c =
    let l = operand_below c.args.body c.requires.body c.args.judged.placed.now c.requires.judged.1.stands in
    omega (arith, l)

pub returns-clause-made : goal.returns-clause-made
returns-clause-made c =
    let named = ap (λ (pool : List PoolEntry). class_name_at pool c.args.judged.placed.now.instruction.operand) (sym c.as_slice.ensures) ∙ sym c.in_ok-name.ensures in
    made_class c.args.body c.args.judged c.in_ok-name.name.now c.find.result named c.find.ensures.found c.find.ensures.none
