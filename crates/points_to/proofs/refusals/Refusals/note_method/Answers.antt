use Rattle.points_to.specs.Firsts.{LeadsMethod, TrailsMethod}
use Rattle.points_to.proofs.FirstNoted.{told_yes, told_not, method_leads, method_trails}
use Rattle.points_to.proofs.refusals.Refusals.note_method.Goals as goal

pub returns-then-leads_method-clause-method : goal.returns-then-leads_method-clause-method
returns-then-leads_method-clause-method c methods h = method_leads methods c.args.self.now.method c.args.method (told_yes c.leads_method.result (LeadsMethod c.args.method.method.0 c.args.self.now.method) (TrailsMethod c.args.method.method.0 c.args.self.now.method) c.if-leads_method.true c.leads_method.ensures) h

pub returns-else-leads_method-clause-method : goal.returns-else-leads_method-clause-method
returns-else-leads_method-clause-method c methods h = method_trails methods c.args.self.now.method c.args.method (told_not c.leads_method.result (LeadsMethod c.args.method.method.0 c.args.self.now.method) (TrailsMethod c.args.method.method.0 c.args.self.now.method) c.if-leads_method.false c.leads_method.ensures) h
