use Rattle.example_machine.proofs.CallChoices.{a_string_begins_with_a_constant}
use Rattle.example_machine.proofs.calls.a_string_begins_with_a_constant.Goals as goal

pub returns : goal.returns
returns c = a_string_begins_with_a_constant
