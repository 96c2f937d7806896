use Rattle.std.proofs.Common.{◌+◌, None, get_or, length, sym, arith, subst, List, Option}
use Rattle.std.proofs.lemmas.Option.{slice_get-get_or}
use Rattle.jvm_model.specs.declared.number.SiteNo.{SiteNo}
use Rattle.report_analysis.specs.Numbers.{AreTurnedRound}
use Rattle.report_analysis.proofs.TurnedRound.{turned_more}
use Rattle.report_analysis.proofs.numbers.put_numbers.Goals as goal

pub loop-number-preserved : goal.loop-number-preserved
loop-number-preserved c =
    let places = c.args.places.now in
    let i = c.loop-number.number in
    let place = get_or places i None in
    let count = length c.args.numbers.now in
    let stands = slice_get-get_or places i None (omega (arith, c.loop-number-test.true, c.requires.count)) in
    let more = turned_more places count c.loop-number.numbers i c.loop-number.invariant.turned place c.requires.below stands in
    record { turned = subst (λ (new : List (Option SiteNo)). AreTurnedRound places count (i + 1) new) (sym c.put_number.ensures) more }
