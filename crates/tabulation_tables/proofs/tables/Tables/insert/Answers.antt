use Rattle.tabulation_tables.specs.Lists.{lists_of}
use Rattle.tabulation_tables.proofs.Noted.{inserted_there, insertion_adds}
use Rattle.tabulation_tables.proofs.tables.Tables.insert.Goals as goal

pub returns-clause-adds : goal.returns-clause-adds
returns-clause-adds c =
    insertion_adds (lists_of c.args.self.now) c.in_ok-insert.field-0 c.insert.new.self c.args.edge c.push.new.self.items c.args.because c.add.new.self c.if-not-branch.false
    c.in_ok-insert.ensures.inserted c.in_ok-push.ensures.items c.in_ok-add.ensures.added

pub returns-clause-there : goal.returns-clause-there
returns-clause-there c = inserted_there c.in_ok-insert.field-0 c.args.self.now.edges c.insert.new.self c.args.edge c.in_ok-insert.ensures.inserted
