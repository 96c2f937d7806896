use Rattle.example_machine.proofs.CallRuns.{an_event_leads_to_the_error}
use Rattle.example_machine.proofs.calls.an_event_leads_to_the_error.Goals as goal

pub returns : goal.returns
returns c = an_event_leads_to_the_error
