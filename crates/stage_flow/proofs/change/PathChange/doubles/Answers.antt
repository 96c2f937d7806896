use Rattle.std.proofs.Common.{◌||◌, Bool, sym, ◌∙◌, ap}
use Rattle.std.specs.List.{list_any}
use Rattle.std.proofs.lemmas.Bool.{or_left}
use Rattle.stage_flow.specs.Shapes.{is_double, is_handed, written_of}
use Rattle.stage_flow.proofs.Doubled.{doubled_test}
use Rattle.stage_flow.proofs.change.PathChange.doubles.Goals as goal

pub returns-then-stands : goal.returns-then-stands
returns-then-stands g c w l n knows proper =
    let code = c.args.self.now in
    c.if-stands.true
    ∙ sym (or_left (list_any (is_double w l n (written_of code.written) c.args.path.now) c.args.set.now)
    (is_handed w l n code.gain c.args.set.now c.args.path.now) (sym (c.stands.ensures w l n knows) ∙ c.if-stands.true))
    ∙ sym (doubled_test w l n code proper c.args.set.now c.args.path.now)

pub returns-else-stands : goal.returns-else-stands
returns-else-stands g c w l n knows proper =
    let code = c.args.self.now in
    c.is_handed.ensures w l n knows
    ∙ ap (λ (b : Bool). b || is_handed w l n code.gain c.args.set.now c.args.path.now) (sym c.if-stands.false ∙ c.stands.ensures w l n knows)
    ∙ sym (doubled_test w l n code proper c.args.set.now c.args.path.now)
