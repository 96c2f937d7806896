use Rattle.std.proofs.Common.{◌≡◌, ◌∙◌, sym, ap}
use Rattle.ground.specs.declared.lists.FieldWrite.{FieldWrite}
use Rattle.ground.proofs.Adding.{added_as, added_none}
use Rattle.ground.proofs.ExactKeys.{same_writes, tells_writes}
use Rattle.ground.proofs.KeySets.{inserted_adds}
use Rattle.certificate_lines.specs.declared.line.Line.TheVariants.{Modifies}
use Rattle.certificate_ground.specs.Reached.{IsWriteOf}
use Rattle.certificate_ground.proofs.writes.add_line.Goals as goal

pub returns : goal.returns
returns c =
    let a = c.args.writes.now.keys in
    let b = c.insert.new.self.keys in
    let w : FieldWrite = record { method = c.in-Modifies.method; field = c.in-Modifies.field } in
    added_as (λ (x : FieldWrite). x ≡ w) (IsWriteOf c.args.line.now) a b
    (λ x same. c.in-Modifies.is ∙ ap (λ (y : FieldWrite). Modifies y.method y.field) (sym same))
    (λ x is.
    let both : Modifies c.in-Modifies.method c.in-Modifies.field ≡ Modifies x.method x.field = sym c.in-Modifies.is ∙ is in
    let methods : x.method ≡ c.in-Modifies.method = cc in
    let fields : x.field ≡ c.in-Modifies.field = cc in
    (λ i. record { method = methods i; field = fields i }))
    (inserted_adds same_writes tells_writes a b w c.in_ok-insert.ensures.keys)

pub returns-in_default : goal.returns-in_default
returns-in_default c = added_none (IsWriteOf c.args.line.now) c.args.writes.now.keys (λ w is. c.in_default.not-Modifies w.method w.field is)
