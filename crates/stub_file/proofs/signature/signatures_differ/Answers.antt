use Rattle.std.proofs.Common.{◌<◌, [], length, get_or, arith, sym}
use Rattle.std.proofs.lemmas.List.{get_or_default}
use Rattle.stub_file.specs.declared.signature.Signature.{Signature}
use Rattle.stub_file.proofs.Differing.{seen_again, seen_all, seen_more}
use Rattle.stub_file.proofs.signature.signatures_differ.Goals as goal

-- what the code reads where nothing stands
abbrev nothing : Signature
nothing = record { name = record { ref_ptr = (0, 0); now = [] }; descriptor = record { ref_ptr = (0, 0); now = [] } }

pub returns-then-branch : goal.returns-then-branch
returns-then-branch c =
    let signatures = c.args.signatures.now in
    let i = c.loop-signature.signature-index in
    let within : i < length signatures = omega arith in
    let here = get_or signatures i nothing in
    sym (seen_again c.loop-signature.seen signatures i here c.in_ok-was_seen.field-0 within (get_or_default signatures i nothing here within) c.loop-signature.invariant c.in_ok-was_seen.ensures.before c.if-branch.true)

pub loop-signature-preserved : goal.loop-signature-preserved
loop-signature-preserved c =
    let signatures = c.args.signatures.now in
    let i = c.loop-signature.signature-index in
    let within : i < length signatures = omega arith in
    let here = get_or signatures i nothing in
    seen_more c.loop-signature.seen c.was_seen.new.seen signatures i here c.in_ok-was_seen.field-0 within (get_or_default signatures i nothing here within) c.loop-signature.invariant c.in_ok-was_seen.ensures.before c.if-branch.false c.in_ok-was_seen.ensures.after

pub returns : goal.returns
returns c = sym (seen_all c.loop-signature.seen c.args.signatures.now c.loop-signature.signature-index (omega arith) c.loop-signature.invariant)
