use Rattle.std.proofs.Common.{Ok, Err, refl}
use Rattle.lowering_reasons.specs.Judgements.{judged}
use Rattle.lowering_reasons.specs.Reasons.{LooksUpField, LooksUpMethod}
use Rattle.lowering_reasons.proofs.FreeInstructions.{at_field, field_within, free, known, no_access, no_call, no_failed_field, no_failed_method, target_numbers}
use Rattle.lowering_reasons.proofs.Only.{only_here}
use Rattle.lowering_reasons.proofs.OtherKinds.{at_outcome, method_within}
use Rattle.lowering_reasons.proofs.judgement.named_member.Goals as goal

pub returns-in-Some-Ok-clause-member : goal.returns-in-Some-Ok-clause-member
returns-in-Some-Ok-clause-member c = λ named.
    let j = judged c.args.instruction in
    let only = at_outcome (LooksUpMethod j) c.args.lookups.method _ (Ok c.in-Some-Ok.resolved) c.in-Some-Ok.is (rw c.in-Some-Ok.is at c.in-Some-Ok.field-0-is) c.requires.lookups.method in
    let looked = only_here (LooksUpMethod j) (Ok c.in-Some-Ok.resolved.0) only in
    (looked, known j j.action c.in-Some-Ok.resolved.0 c.args.lookups.target refl looked.calls.0 (free j c.requires.free) looked c.requires.lookups.target)

pub returns-in-Some-Err-clause-member : goal.returns-in-Some-Err-clause-member
returns-in-Some-Err-clause-member c = λ named.
    let j = judged c.args.instruction in
    let only = at_outcome (LooksUpMethod j) c.args.lookups.method _ (Err c.in-Some-Err.field-0-0) c.in-Some-Err.is (rw c.in-Some-Err.is at c.in-Some-Err.field-0-is) c.requires.lookups.method in
    absurd (no_failed_method j c.in-Some-Err.field-0-0 (free j c.requires.free) (only_here (LooksUpMethod j) (Err c.in-Some-Err.field-0-0) only))

pub returns-in-Some-Err-field-clause-member : goal.returns-in-Some-Err-field-clause-member
returns-in-Some-Err-field-clause-member c = λ named.
    let j = judged c.args.instruction in
    let only = at_field (LooksUpField j) c.args.lookups.field _ (Err c.in-Some-Err-field.field-0-0) c.in-Some-Err-field.is (rw c.in-Some-Err-field.is at c.in-Some-Err-field.field-0-is)
    c.requires.lookups.field in
    absurd (no_failed_field j c.in-Some-Err-field.field-0-0 (free j c.requires.free) (only_here (LooksUpField j) (Err c.in-Some-Err-field.field-0-0) only))

pub returns-in-None-field-clause-member : goal.returns-in-None-field-clause-member
returns-in-None-field-clause-member c = λ named.
    let j = judged c.args.instruction in (
      no_call j c.args.lookups.method (free j c.requires.free) named c.in-None.is c.requires.lookups.no_method,
      no_access j c.args.lookups.field (free j c.requires.free) named c.in-None-field.is c.requires.lookups.no_field,
    )

pub returns-in-Some-Ok-clause-below : goal.returns-in-Some-Ok-clause-below
returns-in-Some-Ok-clause-below c =
    let j = judged c.args.instruction in
    let only = at_outcome (LooksUpMethod j) c.args.lookups.method _ (Ok c.in-Some-Ok.resolved) c.in-Some-Ok.is (rw c.in-Some-Ok.is at c.in-Some-Ok.field-0-is) c.requires.lookups.method in (
      method_within j c.in-Some-Ok.resolved.0 (only_here (LooksUpMethod j) (Ok c.in-Some-Ok.resolved.0) only),
      target_numbers j c.args.lookups.target c.requires.lookups.target,
    )

pub returns-in-Some-Ok-field-clause-below : goal.returns-in-Some-Ok-field-clause-below
returns-in-Some-Ok-field-clause-below c =
    let j = judged c.args.instruction in
    let only = at_field (LooksUpField j) c.args.lookups.field _ (Ok c.in-Some-Ok-field.field) c.in-Some-Ok-field.is (rw c.in-Some-Ok-field.is at c.in-Some-Ok-field.field-0-is)
    c.requires.lookups.field in
    field_within j c.in-Some-Ok-field.field.0 (only_here (LooksUpField j) (Ok c.in-Some-Ok-field.field.0) only)
