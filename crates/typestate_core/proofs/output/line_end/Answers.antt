use Rattle.std.proofs.Common.{◌≡◌, ◌<◌, ◌≤◌, ◌∙◌, ◌∷◌, length, get_or, sym, add-one, arith, rules}
use Rattle.std.proofs.lemmas.List.{drop_all, take_all}
use Rattle.typestate_core.specs.Output.{lines_in}
use Rattle.typestate_core.proofs.Cutting.{cut_after, cut_nowhere}
use Rattle.typestate_core.proofs.output.line_end.Goals as goal

pub returns-then-byte-eq10-clause-first : goal.returns-then-byte-eq10-clause-first
returns-then-byte-eq10-clause-first c =
    let k = c.loop-place.place in
    let text = c.args.text.now in
    let within : k < length text = omega arith in
    let is : get_or text k 0 ≡ 10 = search rules in
    rw add-one (cut_after text k within c.loop-place.invariant.none is)

pub returns-clause-first : goal.returns-clause-first
returns-clause-first c =
    let text = c.args.text.now in
    let past : length text ≤ c.loop-place.place = omega arith in
    let whole = cut_nowhere text c.requires (λ k below. c.loop-place.invariant.none k (omega arith)) in
    let same : length text ≤ length text = omega arith in
    let line = take_all (length text) text same in
    let none = drop_all (length text) text same in
    whole ∙ (λ i. sym line i ∷ lines_in (sym none i))
