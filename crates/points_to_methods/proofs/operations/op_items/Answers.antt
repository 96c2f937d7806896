use Rattle.std.proofs.Common.{ℕ, List, sym, ap, ◌∙◌}
use Rattle.jvm_model.specs.declared.site.Site.{Site}
use Rattle.op_model.specs.declared.op.Op.TheVariants.{Cast, NewArray}
use Rattle.points_to_methods.proofs.OperationItems.{op_is}
use Rattle.points_to_methods.proofs.operations.op_items.Goals as goal

pub returns-in-Load : goal.returns-in-Load
returns-in-Load c = λ n at.
    op_is c.read_slot.result c.args.at.now.program.now c.args.at.now.method.now n c.args.work.now.tables c.read_slot.new.work.tables c.args.work.now.steps.items c.read_slot.new.work.steps.items c.args.op.now _ (c.in-Load.is) (c.read_slot.ensures n at)

pub returns-in-Store : goal.returns-in-Store
returns-in-Store c = λ n at.
    op_is c.write_slot.result c.args.at.now.program.now c.args.at.now.method.now n c.args.work.now.tables c.write_slot.new.work.tables c.args.work.now.steps.items c.write_slot.new.work.steps.items c.args.op.now _ (c.in-Store.is) (c.write_slot.ensures n at)

pub returns-in-LoadElement : goal.returns-in-LoadElement
returns-in-LoadElement c = λ n at.
    op_is c.read_slot-in-LoadElement.result c.args.at.now.program.now c.args.at.now.method.now n c.args.work.now.tables c.read_slot-in-LoadElement.new.work.tables c.args.work.now.steps.items c.read_slot-in-LoadElement.new.work.steps.items c.args.op.now _ (c.in-LoadElement.is) (c.read_slot-in-LoadElement.ensures n at)

pub returns-in-StoreElement : goal.returns-in-StoreElement
returns-in-StoreElement c = λ n at.
    op_is c.write_slot-in-StoreElement.result c.args.at.now.program.now c.args.at.now.method.now n c.args.work.now.tables c.write_slot-in-StoreElement.new.work.tables c.args.work.now.steps.items c.write_slot-in-StoreElement.new.work.steps.items c.args.op.now _ (c.in-StoreElement.is) (c.write_slot-in-StoreElement.ensures n at)

pub returns-in-StoreStatic : goal.returns-in-StoreStatic
returns-in-StoreStatic c = λ n at.
    op_is c.leave_slot.result c.args.at.now.program.now c.args.at.now.method.now n c.args.work.now.tables c.leave_slot.new.work.tables c.args.work.now.steps.items c.leave_slot.new.work.steps.items c.args.op.now _ (c.in-StoreStatic.is) (c.leave_slot.ensures n at)

pub returns-in-New : goal.returns-in-New
returns-in-New c = λ n at.
    op_is c.make_site.result c.args.at.now.program.now c.args.at.now.method.now n c.args.work.now.tables c.make_site.new.work.tables c.args.work.now.steps.items c.make_site.new.work.steps.items c.args.op.now _ (c.in-New.is) (c.make_site.ensures n at)

pub returns-in-Constant : goal.returns-in-Constant
returns-in-Constant c = λ n at.
    op_is c.make_site-in-Constant.result c.args.at.now.program.now c.args.at.now.method.now n c.args.work.now.tables c.make_site-in-Constant.new.work.tables c.args.work.now.steps.items c.make_site-in-Constant.new.work.steps.items c.args.op.now _ (c.in-Constant.is) (c.make_site-in-Constant.ensures n at)

pub returns-in-NewArray : goal.returns-in-NewArray
returns-in-NewArray c = λ n at.
    op_is c.make_arrays.result c.args.at.now.program.now c.args.at.now.method.now n c.args.work.now.tables c.make_arrays.new.work.tables c.args.work.now.steps.items c.make_arrays.new.work.steps.items c.args.op.now _ (c.in-NewArray.is ∙ ap (λ (sites : List Site). NewArray sites c.in-NewArray.target) (sym c.as_slice.ensures)) (c.make_arrays.ensures n at)

pub returns-in-Return : goal.returns-in-Return
returns-in-Return c = λ n at.
    op_is c.return_slot.result c.args.at.now.program.now c.args.at.now.method.now n c.args.work.now.tables c.return_slot.new.work.tables c.args.work.now.steps.items c.return_slot.new.work.steps.items c.args.op.now _ (c.in-Return.is) (c.return_slot.ensures n at)

pub returns-in-Throw : goal.returns-in-Throw
returns-in-Throw c = λ n at.
    op_is c.throw_slot.result c.args.at.now.program.now c.args.at.now.method.now n c.args.work.now.tables c.throw_slot.new.work.tables c.args.work.now.steps.items c.throw_slot.new.work.steps.items c.args.op.now _ (c.in-Throw.is) (c.throw_slot.ensures n at)

pub returns-in-Cast : goal.returns-in-Cast
returns-in-Cast c = λ n at.
    op_is c.read_slot-in-Cast.result c.args.at.now.program.now c.args.at.now.method.now n c.args.work.now.tables c.read_slot-in-Cast.new.work.tables c.args.work.now.steps.items c.read_slot-in-Cast.new.work.steps.items c.args.op.now _ (c.in-Cast.is ∙ ap (λ (class : List ℕ). Cast class c.in-Cast.slot) (sym c.as_slice-in-Cast.ensures)) (c.read_slot-in-Cast.ensures n at)
