use Rattle.std.proofs.Common.{◌≡◌, ◌∙◌, length, ap, arith}
use Rattle.std.proofs.lemmas.Result.{IfOk-weaker}
use Rattle.slot_names.specs.declared.variable.Variable.{Variable}
use Rattle.slot_names.specs.Branches.{IsPlaced}
use Rattle.slot_names.specs.Rows.{IsSet}
use Rattle.slot_names.proofs.SetRows.{is_set}
use Rattle.slot_names.proofs.rows.Rows.set.Goals as goal

pub returns : goal.returns
returns c =
    let old = c.args.self.now in
    let new = c.place.new.self in
    let count : c.in_ok-value.value ≡ length new.variables.items = omega (arith, c.in_ok-value.ensures, c.len.ensures, ap (length {A = Variable}) c.place.ensures.variables) in
    IfOk-weaker c.place.result (IsPlaced old.branches.items new.branches.items c.args.row c.args.slot c.in_ok-value.value) (IsSet old new c.args.row c.args.slot c.args.variable)
    (λ made placed. is_set old new c.args.row c.args.slot c.args.variable c.in_ok-value.value made old.sound c.requires (c.place.ensures.variables ∙ c.in_ok-push.ensures.items) count placed)
    c.place.ensures.placed
