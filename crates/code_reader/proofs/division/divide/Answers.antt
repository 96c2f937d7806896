use Rattle.std.proofs.Common.{◌≡◌, ℕ, ◌+◌, ap, sym, ◌∙◌, subst, List, [], ◌∷◌, ◌++◌, set, get_or, true, false, Err, arith}
use Rattle.std.proofs.lemmas.List.{length-set}
use Rattle.jvm_model.specs.Instructions.{DecodedInstruction}
use Rattle.failure.specs.declared.Failure.{Failure}
use Rattle.jvm_model.specs.declared.reason.Reason.{Reason}
use Rattle.code_reader.specs.Decoding.{GivesInstruction}
use Rattle.code_reader.specs.Division.{Spot, instruction_in, starts}
use Rattle.code_reader.proofs.Sizes.{inside}
use Rattle.code_reader.proofs.Divided.{GoesBefore, one_more, marks_one, stopped, ended}
use Rattle.code_reader.proofs.division.divide.Goals as goal

pub loop-offset-smaller : goal.loop-offset-smaller
loop-offset-smaller c =
    let f = inside c.args.pool.now c.args.code.now c.loop-offset.offset c.in-Ok.decoded c.loop-offset-test.true c.in-Ok.ensures in
    let same = ap (λ (i : DecodedInstruction). i.size) c.decoded.view_is in
    omega (arith, f.0, f.1, same)

pub loop-offset-preserved : goal.loop-offset-preserved
loop-offset-preserved c =
    let i : DecodedInstruction = c.in-Ok.decoded in
    let f = inside c.args.pool.now c.args.code.now c.loop-offset.offset i c.loop-offset-test.true c.in-Ok.ensures in
    let same = ap (λ (j : DecodedInstruction). j.size) c.decoded.view_is in
    let pushed : c.push.new.self.items ≡ c.loop-offset.spots.items ++ record { offset = c.loop-offset.offset; instruction = i } ∷ [] =
    c.in_ok-push-in-Ok.ensures.items in
    let next : c.loop-offset.offset + i.size ≡ c.loop-offset.offset + c.decoded.inside.size = ap (λ n. c.loop-offset.offset + n) (sym same) in
    let h = c.loop-offset.invariant in
    let before = one_more c.args.pool.now c.args.code.now c.loop-offset.offset c.loop-offset.spots.items i c.loop-offset-test.true c.in-Ok.ensures h.2 in
    let marked = marks_one c.loop-offset.spots.items c.loop-offset.starts.items c.loop-offset.offset i (omega (arith, h.1, c.loop-offset-test.true)) h.3 in (
      omega (arith, f.1, same),
      length-set c.loop-offset.starts.items c.loop-offset.offset true ∙ h.1,
      subst (GoesBefore c.args.pool.now c.args.code.now (c.loop-offset.offset + c.decoded.inside.size)) (sym pushed)
          (subst (λ (n : ℕ). GoesBefore c.args.pool.now c.args.code.now n (c.loop-offset.spots.items ++ record { offset = c.loop-offset.offset; instruction = i } ∷ [])) next before),
      subst (λ (spots : List Spot). (t : ℕ) → get_or (set c.loop-offset.starts.items c.loop-offset.offset true) t false ≡ starts spots t) (sym pushed) marked,
    )

pub returns-in-Err : goal.returns-in-Err
returns-in-Err c =
    let h = c.loop-offset.invariant in
    let refused = subst (λ (e : Failure Reason). GivesInstruction (Err e) (instruction_in c.args.pool.now c.args.code.now c.loop-offset.offset)) c.in_ok-reason-in-Err.ensures c.in-Err.ensures in
    record {
      divided = stopped c.args.pool.now c.args.code.now c.loop-offset.offset c.loop-offset.spots.items c.in_ok-reason-in-Err.reason c.loop-offset-test.true refused h.2;
      starts_known = record { there = h.3 };
    }

pub returns : goal.returns
returns c =
    let h = c.loop-offset.invariant in
    record {
      divided = ended c.args.pool.now c.args.code.now c.loop-offset.offset c.loop-offset.spots.items h.0 c.loop-offset-test.false h.2;
      starts_known = record { there = h.3 };
    }
