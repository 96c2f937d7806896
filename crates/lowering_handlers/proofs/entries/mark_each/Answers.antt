use Rattle.std.proofs.Common.{true, List, ℕ, get_or, set, take, sym, subst}
use Rattle.lowering_handlers.specs.Entries.{MarksEach}
use Rattle.lowering_handlers.proofs.MarkedEntries.{front_more, marks_more}
use Rattle.lowering_handlers.proofs.entries.mark_each.Goals as goal

pub loop-place-preserved : goal.loop-place-preserved
loop-place-preserved c =
    let old = c.args.used.now in
    let places = c.args.places.now in
    let i = c.loop-place.place-index in
    let lt = c.loop-place-test.true in
    let k = get_or places i 0 in
    record {
      marks = subst (λ (ks : List ℕ). MarksEach old ks (set c.loop-place.used k true)) (sym (front_more places i 0 lt))
          (marks_more old (take i places) c.loop-place.used k (c.requires i 0 lt) c.loop-place.invariant.marks);
    }
