use Rattle.cases_files.proofs.ReadStubs.{read_sound}
use Rattle.cases_files.proofs.stubs.stubs_in.Goals as goal

pub returns-in-Ok : goal.returns-in-Ok
returns-in-Ok c = read_sound _ c.args.bytes.now c.in-Ok.stubs.items c.in-Ok.ensures.found
