use Rattle.std.proofs.Common.{◌≡◌, ◌∷◌, ◌++◌, ◌+◌, [], suc, length, subst, arith}
use Rattle.chained_lists.specs.Entries.{entry}
use Rattle.chained_lists.specs.Chained.{IsNamed}
use Rattle.chained_lists.proofs.Joining.{first_alone, first_with}
use Rattle.chained_lists.proofs.links.first_with_one.Goals as goal

pub returns-then-first-eq0 : goal.returns-then-first-eq0
returns-then-first-eq0 c = λ es value chained.
    let name : suc (length es) ≡ length c.args.links.now + 1 = omega (arith, chained.count) in
    subst (IsNamed (es ++ entry c.args.number value ∷ []) c.args.number 0) name
    (first_alone es c.args.number value c.first_of-first.result c.if-first-eq0.true (c.first_of-first.ensures es chained))

pub returns : goal.returns
returns c = λ es value chained. first_with es c.args.number value c.first_of-first.result c.if-first-eq0.false (c.first_of-first.ensures es chained)
