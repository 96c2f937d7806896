use Rattle.example_nodes.proofs.ReturnRuns.{an_event_leads_to_the_error}
use Rattle.example_nodes.proofs.returns.an_event_leads_to_the_error.Goals as goal

pub returns : goal.returns
returns c = an_event_leads_to_the_error
