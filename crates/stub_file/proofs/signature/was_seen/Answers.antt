use Rattle.std.specs.BTreeSet.{contains}
use Rattle.stub_file.specs.Signatures.{signature_cmp}
use Rattle.stub_file.proofs.Differing.{added_to}
use Rattle.stub_file.proofs.signature.was_seen.Goals as goal

pub returns-clause-after : goal.returns-clause-after
returns-clause-after c = λ other.
    added_to c.args.signature other (contains signature_cmp c.insert.new.self other) (contains signature_cmp c.args.seen.now other)
    (c.in_ok-added.ensures.updates.0 other)
