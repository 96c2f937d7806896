use Rattle.std.proofs.Common.{inl, inr, sym, subst, arith}
use Rattle.std.proofs.lemmas.Bool.{cases_lt}
use Rattle.std.proofs.lemmas.Option.{slice_get_within}
use Rattle.tabulation_tables.specs.Lists.{IsProcessed, lists_of}
use Rattle.tabulation_tables.proofs.Still.{edge_still}
use Rattle.tabulation.proofs.work_list.process_all.Goals as goal

pub loop-place-preserved : goal.loop-place-preserved
loop-place-preserved c =
    let old = lists_of c.loop-place.tables in
    let new = lists_of c.process.new.tables in
    let before = c.loop-place.invariant in
    let done = c.in_ok-process.ensures in
    let short = slice_get_within new.edges c.loop-place.place done.processed.edge done.processed.at in
    record {
      kept = done.step.kept;
      start = record {
        number = before.start.number;
        at = done.step.grows.ends before.start.number _ before.start.at;
        there = edge_still old new done.step.grows before.start.number before.start.number before.start.there;
      };
      within = omega (arith, short);
      processed = λ k less. elim (cases_lt k c.loop-place.place) [
        | inl earlier ↦ done.step.processed k (before.processed k earlier)
        | inr last ↦ subst (IsProcessed new) (sym (omega (arith, last, less))) done.processed
      ];
    }

pub returns-clause-finished : goal.returns-clause-finished
returns-clause-finished c =
    let all = c.loop-place-test.false in
    let count = c.len.ensures in
    record {
      kept = c.loop-place.invariant.kept;
      start = c.loop-place.invariant.start;
      processed = λ k short. c.loop-place.invariant.processed k (omega (arith, all, count, short));
    }
