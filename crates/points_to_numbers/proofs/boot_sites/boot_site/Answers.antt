use Rattle.std.proofs.Common.{refl}
use Rattle.machine_bytecode.specs.Start.{boot_site}
use Rattle.points_to_numbers.proofs.boot_sites.boot_site.Goals as goal

pub returns-clause-stands : goal.returns-clause-stands
returns-clause-stands c = c.in_ok-site.ensures.stands (boot_site c.args.class.now) (record { class = c.in_ok-class.ensures.stands; kind = refl; method = refl; offset = refl })
