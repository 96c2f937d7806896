use Rattle.std.proofs.Common.{subst}
use Rattle.jvm_model.specs.LinkedPrograms.{IsProgram}
use Rattle.program_model.specs.Files.{HaveOneFile}
use Rattle.program_model.specs.Ranks.{IsRanked}
use Rattle.program_model.specs.Roots.{HasRoot}
use Rattle.program_model.proofs.Accessing.{differ, same_size}
use Rattle.program_model.proofs.OneFile.{one_file}
use Rattle.program_model.proofs.Ranking.{ranked}
use Rattle.program_model.proofs.Roots.{has_root}
use Rattle.program_model.proofs.program.Program.well_formed.Goals as goal

pub returns-clause-program : goal.returns-clause-program
returns-clause-program c = subst IsProgram c.self.view_is c.self.invariant.program

pub returns-clause-ranked : goal.returns-clause-ranked
returns-clause-ranked c =
    subst IsRanked c.self.view_is
    (ranked c.self.inside.origins.items c.self.inside.parents.items (differ c.self.inside c.self.invariant) c.self.invariant.parents_are c.self.invariant.ordered (same_size c.self.inside c.self.invariant))

pub returns-clause-files : goal.returns-clause-files
returns-clause-files c = subst HaveOneFile c.self.view_is (one_file c.self.inside.origins.items c.self.invariant.program.differ)

pub returns-clause-root : goal.returns-clause-root
returns-clause-root c =
    let falls = ranked c.self.inside.origins.items c.self.inside.parents.items (differ c.self.inside c.self.invariant) c.self.invariant.parents_are c.self.invariant.ordered (same_size c.self.inside c.self.invariant) in
    subst HasRoot c.self.view_is (has_root c.self.inside.origins.items c.self.invariant.sound c.self.invariant.program.supers falls)
