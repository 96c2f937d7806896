use Rattle.std.proofs.Common.{◌∙◌, ◌-◌, ◌/◌, ℕ, sym, ap, arith}
use Rattle.slot_names.specs.declared.branch.Branch.{Branch}
use Rattle.slot_names.specs.Branches.{next_row, value_of}
use Rattle.slot_names.proofs.RowValues.{value_of-after, value_of-zero}
use Rattle.slot_names.proofs.rows.Rows.value.Goals as goal

pub loop-left-preserved : goal.loop-left-preserved
loop-left-preserved c =
    let branches = c.args.self.now.branches.items in
    let before = c.loop-left.left - 1 in
    ap (λ (row : ℕ). value_of branches row (before / 2)) (c.next_row-at.ensures ∙ ap (λ (b : Branch). next_row b before) c.branch-self.ensures)
    ∙ sym (value_of-after branches c.loop-left.at c.loop-left.left before (omega arith)) ∙ c.loop-left.invariant

pub returns : goal.returns
returns c =
    let branches = c.args.self.now.branches.items in
    ap (λ (b : Branch). b.value) c.branch-self-2.ensures ∙ sym (value_of-zero branches c.loop-left.at)
    ∙ ap (value_of branches c.loop-left.at) (omega arith) ∙ c.loop-left.invariant
