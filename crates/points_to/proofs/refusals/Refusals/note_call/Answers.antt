use Rattle.points_to.specs.Firsts.{LeadsCall, TrailsCall}
use Rattle.points_to.proofs.FirstNoted.{told_yes, told_not, call_leads, call_trails}
use Rattle.points_to.proofs.refusals.Refusals.note_call.Goals as goal

pub returns-then-leads_call-clause-call : goal.returns-then-leads_call-clause-call
returns-then-leads_call-clause-call c calls h = call_leads calls c.args.self.now.call c.args.call (told_yes c.leads_call.result (LeadsCall c.args.call c.args.self.now.call) (TrailsCall c.args.call c.args.self.now.call) c.if-leads_call.true c.leads_call.ensures) h

pub returns-else-leads_call-clause-call : goal.returns-else-leads_call-clause-call
returns-else-leads_call-clause-call c calls h = call_trails calls c.args.self.now.call c.args.call (told_not c.leads_call.result (LeadsCall c.args.call c.args.self.now.call) (TrailsCall c.args.call c.args.self.now.call) c.if-leads_call.false c.leads_call.ensures) h
