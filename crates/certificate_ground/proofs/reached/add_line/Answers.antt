use Rattle.std.proofs.Common.{◌≡◌, ◌∙◌, sym, ap}
use Rattle.std.proofs.lemmas.Result.{on_ok_weaker}
use Rattle.jvm_model.specs.declared.number.MethodNo.{MethodNo}
use Rattle.ground.proofs.Adding.{added_as, added_none}
use Rattle.certificate_lines.specs.declared.line.Line.TheVariants as kinds
use Rattle.certificate_ground.specs.Reached.{IsReachedBy}
use Rattle.certificate_ground.proofs.reached.add_line.Goals as goal

pub returns-clause-running : goal.returns-clause-running
returns-clause-running g c =
    let a = c.args.reached.now.running.keys in
    let b = c.add_method.new.reached.running.keys in
    on_ok_weaker c.add_method.result
    (λ added. added_as (λ (m : MethodNo). m ≡ c.in-Reached.method) (IsReachedBy c.args.line.now) a b
    (λ m same. c.in-Reached.is ∙ ap kinds.Reached (sym same))
    (λ m is. let both : kinds.Reached c.in-Reached.method ≡ kinds.Reached m = sym c.in-Reached.is ∙ is in let same : m ≡ c.in-Reached.method = cc in same)
    added)
    c.add_method.ensures.running

pub returns-in_default-clause-running : goal.returns-in_default-clause-running
returns-in_default-clause-running g c = added_none (IsReachedBy c.args.line.now) c.args.reached.now.running.keys (λ m is. c.in_default.not-Reached m is)
