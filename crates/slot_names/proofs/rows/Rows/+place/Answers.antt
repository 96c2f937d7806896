use Rattle.std.proofs.Common.{ℕ, ◌-◌, length, subst, sym, arith}
use Rattle.std.proofs.lemmas.Result.{IfOk-weaker}
use Rattle.slot_names.specs.declared.branch.Branch.{Branch}
use Rattle.slot_names.specs.Branches.{IsAdded, IsPlaced}
use Rattle.slot_names.proofs.PlacedRows.{next_even, next_odd, placed_after, placed_first}
use Rattle.slot_names.proofs.rows.Rows.+place.Goals as goal

pub returns-then-slot-eq0-clause-placed : goal.returns-then-slot-eq0-clause-placed
returns-then-slot-eq0-clause-placed t c =
    let old = c.args.self.now.branches.items in
    let new = c.add.new.self.branches.items in
    let b = c.branch-branch.result in
    let with_value : Branch = record b { value = c.args.value } in
    IfOk-weaker c.add.result (IsAdded old new with_value) (IsPlaced old new c.args.row c.args.slot c.args.value)
    (λ placed a. subst (λ (s : ℕ). IsPlaced old new c.args.row s c.args.value placed) (sym c.if-slot-eq0.true)
    (placed_first old new (length c.args.self.now.variables.items) c.args.row c.args.value placed b c.args.self.now.sound c.requires.row c.branch-branch.ensures a)) c.add.ensures.added

pub add-requires-2-clause-odd : goal.add-requires-2-clause-odd
add-requires-2-clause-odd t c =
    next_odd c.args.self.now.branches.items c.place.new.self.branches.items (length c.args.self.now.variables.items) c.args.row _ _ c.args.value c.in_ok-next.next (c.args.slot - 1)
    c.branch-branch.result c.with_next.result c.args.self.now.sound c.requires.row c.branch-branch.ensures c.in_ok-next.ensures.placed c.with_next.ensures

pub add-requires-2-clause-even : goal.add-requires-2-clause-even
add-requires-2-clause-even t c =
    next_even c.args.self.now.branches.items c.place.new.self.branches.items (length c.args.self.now.variables.items) c.args.row _ _ c.args.value c.in_ok-next.next (c.args.slot - 1)
    c.branch-branch.result c.with_next.result c.args.self.now.sound c.requires.row c.branch-branch.ensures c.in_ok-next.ensures.placed c.with_next.ensures

pub returns-clause-placed : goal.returns-clause-placed
returns-clause-placed t c =
    let old = c.args.self.now.branches.items in
    let mid = c.place.new.self.branches.items in
    let new = c.add-2.new.self.branches.items in
    let bound = length c.args.self.now.variables.items in
    let b = c.branch-branch.result in
    let next = c.in_ok-next.next in
    let before = c.args.slot - 1 in
    IfOk-weaker c.add-2.result (IsAdded mid new c.with_next.result) (IsPlaced old new c.args.row c.args.slot c.args.value)
    (λ placed a.
    placed_after old mid new bound (length c.place.new.self.variables.items) c.args.row c.args.slot before c.args.value c.next_row.result next placed b c.with_next.result
    c.args.self.now.sound c.place.new.self.sound c.requires.row c.branch-branch.ensures (omega arith) c.next_row.ensures c.in_ok-next.ensures.placed c.with_next.ensures a) c.add-2.ensures.added
