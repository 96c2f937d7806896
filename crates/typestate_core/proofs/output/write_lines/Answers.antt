use Rattle.std.proofs.Common.{◌∙◌, ◌∷◌, [], take, sym, subst}
use Rattle.typestate_core.specs.Output.{Hands, HandsInVain, TakesAll, TakesFront, lines_in}
use Rattle.typestate_core.proofs.Handing.{handed_line, line_in_vain}
use Rattle.typestate_core.proofs.Written.{Written, front_of_rest, written_more, on_err}
use Rattle.typestate_core.proofs.output.write_lines.Goals as goal

pub returns-in_err-write_line-clause-front : goal.returns-in_err-write_line-clause-front
returns-in_err-write_line-clause-front g c =
    on_err _ _ (front_of_rest _ _ _ _ _ c.line_end.result c.loop-rest.invariant.written
    (subst (λ bytes. TakesFront (g.S.Sink.taken c.loop-rest.out) (g.S.Sink.taken c.write_line.new.out) bytes) c.split_at.ensures.front c.in_err-write_line.ensures.front))

pub returns-in_err-write_line-clause-pieces_front : goal.returns-in_err-write_line-clause-pieces_front
returns-in_err-write_line-clause-pieces_front g c =
    on_err _ _ (line_in_vain _ _ _ _ _ _ _ c.line_end.ensures.first c.loop-rest.invariant.handed
    (subst (λ line. HandsInVain (g.S.Sink.handed c.loop-rest.out) (g.S.Sink.handed c.write_line.new.out) (line ∷ [])) c.split_at.ensures.front
    c.in_err-write_line.ensures.pieces_front))

pub loop-rest-preserved : goal.loop-rest-preserved
loop-rest-preserved g c =
    let n = c.line_end.result in
    let rest = c.loop-rest.rest.now in
    record {
      written = subst (λ others. Written (g.S.Sink.taken c.args.out.now) (g.S.Sink.taken c.write_line.new.out) c.args.text.now others) (sym c.split_at.ensures.back)
          (written_more _ _ _ _ _ n c.loop-rest.invariant.written
          (subst (λ line. TakesAll (g.S.Sink.taken c.loop-rest.out) (g.S.Sink.taken c.write_line.new.out) line) c.split_at.ensures.front
          c.in_ok-write_line.ensures.all));
      handed = subst (λ others. Hands (g.S.Sink.handed c.args.out.now) (g.S.Sink.handed c.write_line.new.out) (lines_in c.args.text.now) (lines_in others))
          (sym c.split_at.ensures.back)
          (handed_line _ _ _ _ (take n rest) _ _ c.line_end.ensures.first c.loop-rest.invariant.handed
          (subst (λ line. Hands (g.S.Sink.handed c.loop-rest.out) (g.S.Sink.handed c.write_line.new.out) (line ∷ []) []) c.split_at.ensures.front
          c.in_ok-write_line.ensures.pieces));
      no_fault = c.in_ok-write_line.ensures.no_fault ∙ c.loop-rest.invariant.no_fault;
    }
