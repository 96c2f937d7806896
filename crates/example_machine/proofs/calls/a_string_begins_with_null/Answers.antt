use Rattle.example_machine.proofs.CallChoices.{a_string_begins_with_null}
use Rattle.example_machine.proofs.calls.a_string_begins_with_null.Goals as goal

pub returns : goal.returns
returns c = a_string_begins_with_null
