use Rattle.std.proofs.lemmas.Result.{IfOk-weaker}
use Rattle.bit_rows.specs.Sets.{IsIn, IsInBoth, IsNew}
use Rattle.bit_rows.proofs.Added.{nothing_by}
use Rattle.bit_rows.proofs.set.NumberSet.add_set.Goals as goal

pub returns-clause-fresh_count : goal.returns-clause-fresh_count
returns-clause-fresh_count c =
    let held = c.args.self.now in
    let other = c.args.other.now in
    IfOk-weaker c.add_fitting.result _ _
    (λ count counts nothing. counts (nothing_by c.args.fresh.now (IsNew held (IsIn other)) (IsNew held (IsInBoth other other))
    (λ n new. record { offered = new.offered.left; absent = new.absent }) nothing))
    c.add_fitting.ensures.fresh_count
