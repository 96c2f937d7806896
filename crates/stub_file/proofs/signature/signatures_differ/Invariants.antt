use Rattle.std.proofs.Common.{take}
use Rattle.stub_file.proofs.Differing.{AreSeen}
use Rattle.stub_file.proofs.signature.signatures_differ.Given as goal

-- those so far are seen, and differ
abbrev pub invariant-loop-signature : goal.invariant-loop-signature
invariant-loop-signature l = AreSeen l.seen (take l.signature-index l.signatures)
