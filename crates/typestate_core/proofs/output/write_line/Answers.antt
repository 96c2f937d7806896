use Rattle.std.proofs.Common.{◌<◌, ◌∙◌, length, sym, rules, subst}
use Rattle.typestate_core.proofs.Handing.{HandedUpTo, handed_more, handed_in_vain}
use Rattle.typestate_core.proofs.Written.{Written, written_more, written_front, on_err}
use Rattle.typestate_core.proofs.output.write_line.Goals as goal

pub returns-in_err-count-clause-front : goal.returns-in_err-count-clause-front
returns-in_err-count-clause-front g c =
    on_err _ _ (written_front _ _ _ _ (subst (λ taken. Written (g.S.Sink.taken c.args.out.now) taken c.args.line.now c.loop-rest.rest.now) (sym c.in_err-count.ensures.takes_nothing) c.loop-rest.invariant.written))

pub returns-in_err-count-clause-pieces_front : goal.returns-in_err-count-clause-pieces_front
returns-in_err-count-clause-pieces_front g c =
    let some : 0 < length c.loop-rest.rest.now = search rules in
    on_err _ _ (handed_in_vain _ _ _ _ _ c.requires some c.loop-rest.invariant.handed c.in_err-count.ensures.hands_in_vain)

pub loop-rest-preserved : goal.loop-rest-preserved
loop-rest-preserved g c =
    let some : 0 < length c.loop-rest.rest.now = search rules in
    record {
      written = subst (λ rest. Written (g.S.Sink.taken c.args.out.now) (g.S.Sink.taken c.write.new.self) c.args.line.now rest) (sym c.split_at.ensures.back)
          (written_more _ _ _ _ _ _ c.loop-rest.invariant.written c.in_ok-count.ensures.takes);
      handed = subst (λ rest. HandedUpTo (g.S.Sink.handed c.args.out.now) (g.S.Sink.handed c.write.new.self) c.args.line.now rest) (sym c.split_at.ensures.back)
          (handed_more _ _ _ _ _ _ some c.in_ok-count.ensures.some.0 c.loop-rest.invariant.handed c.in_ok-count.ensures.hands);
      no_fault = c.in_ok-count.ensures.no_fault ∙ c.loop-rest.invariant.no_fault;
    }
