use Rattle.std.proofs.Common.{◌∙◌, ap}
use Rattle.slot_names.specs.declared.variable.Variable.{Variable}
use Rattle.stage_transfer.specs.Settings.{same_variable}
use Rattle.stage_slots.proofs.slots_at.SlotsAtNodeSlots.share.Goals as goal

pub returns : goal.returns
returns c = λ w l n is.
    c.same_variable.ensures ∙ ap (λ (v : Variable). same_variable v c.variable-2.result) (c.variable.ensures w l n is)
    ∙ ap (λ (v : Variable). same_variable (w.answers.variable_at l n c.args.first) v) (c.variable-2.ensures w l n is)
