use Rattle.std.proofs.lemmas.Result.{on_ok_weaker}
use Rattle.report_sites.proofs.FoundSites.{file_target, stub_target}
use Rattle.report_sites.proofs.targets.add_target.Goals as goal

pub returns-in-InFile : goal.returns-in-InFile
returns-in-InFile c =
    file_target c.args.wanted.now.program.now c.args.wanted.now.upper c.args.method c.args.offset c.args.target c.requires.target c.in-InFile.file c.in-InFile.number
    c.in-InFile.ensures c.args.sites.now.items

pub returns-in-Described : goal.returns-in-Described
returns-in-Described c =
    on_ok_weaker c.add_stub.result
    (λ added. stub_target c.args.wanted.now.program.now c.args.wanted.now.upper c.args.method c.args.offset c.args.target c.requires.target c.in-Described.stub c.in-Described.ensures
    c.args.sites.now.items c.add_stub.new.sites.items added)
    c.add_stub.ensures
