use Rattle.std.proofs.Common.{[], ◌∷◌, inl, inr, None, refl, subst}
use Rattle.jvm_model.specs.Soundness.{text_uses, differs}
use Rattle.classfile_reader.specs.FirstPlace.{IsFirstUse}
use Rattle.classfile_reader.proofs.FirstPlaces.{uses_go_on, uses_stop}
use Rattle.classfile_reader.proofs.soundness.member.name_reason.Goals as goal

pub returns-in-Some-clause-exact : goal.returns-in-Some-clause-exact
returns-in-Some-clause-exact c = λ earlier repeat.
    let pool = c.args.pool.now in
    let m = c.args.member.now in
    let uses = text_uses c.args.grammar m.name in
    uses_stop pool uses (differs earlier m ∷ []) c.in-Some.reason (subst (IsFirstUse pool uses) c.in-Some.is c.in_ok-reason.ensures.exact)

pub returns-then-is_repeat-clause-exact : goal.returns-then-is_repeat-clause-exact
returns-then-is_repeat-clause-exact c = λ earlier repeat.
    let pool = c.args.pool.now in
    let m = c.args.member.now in
    let uses = text_uses c.args.grammar m.name in
    uses_go_on pool uses (differs earlier m ∷ []) _ (subst (IsFirstUse pool uses) c.in_default.is c.in_ok-reason.ensures.exact) (record { is = inr (repeat.repeated c.if-is_repeat.true, refl) })

pub returns-clause-exact : goal.returns-clause-exact
returns-clause-exact c = λ earlier repeat.
    let pool = c.args.pool.now in
    let m = c.args.member.now in
    let uses = text_uses c.args.grammar m.name in
    uses_go_on pool uses (differs earlier m ∷ []) None (subst (IsFirstUse pool uses) c.in_default.is c.in_ok-reason.ensures.exact) (record { is = inl (repeat.fresh c.if-is_repeat.false, refl) })
