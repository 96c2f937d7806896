use Rattle.std.proofs.Common.{◌≡◌, ℕ, ◌+◌, ◌-◌, ◌<◌, ◌∙◌, ap, length, set, get_or, arith, sym, subst}
use Rattle.std.proofs.lemmas.List.{length-set}
use Rattle.fact_pool.specs.declared.entry.Entry.{Entry}
use Rattle.fact_pool.specs.Chains.{AreHeads, AreLinked}
use Rattle.fact_pool.specs.Hashes.{bucket_of, hash_of}
use Rattle.fact_pool.specs.Layout.{buckets_of, rows_of}
use Rattle.list_laws.proofs.Places.{stands_below}
use Rattle.fact_pool.proofs.Finding.{in_bucket, length-rows_of, next_last}
use Rattle.fact_pool.proofs.Linking.{heads_fewer}
use Rattle.fact_pool.proofs.chains.unlink.Goals as goal

pub loop-held-preserved : goal.loop-held-preserved
loop-held-preserved c =
    let entries = c.args.entries.now in
    let heads = c.loop-held.heads in
    let count = length heads in
    let row = c.loop-held.held - 1 in
    let rows = rows_of c.args.words.now entries in
    let bucket = c.bucket_of-bucket.result in
    let none : Entry = record { end = 0; next = 0 } in
    let next = (get_or entries row none).next in
    let same = length-rows_of c.args.words.now entries in
    let own = stands_below rows row (omega (arith, same, c.loop-held-test.true, c.loop-held.invariant.within)) in
    let is : bucket ≡ bucket_of (hash_of own.0) count =
    c.bucket_of-bucket.ensures.bucket ∙ ap (λ (n : ℕ). bucket_of c.hash_at.result n) (sym c.loop-held.auto.heads) ∙ ap (λ (h : ℕ). bucket_of h count) (c.hash_at.ensures own.0 own.1) in
    let within : bucket < count = omega arith in
    let held : row + 1 ≡ c.loop-held.held = omega (arith, c.loop-held-test.true) in
    let before : AreHeads (buckets_of rows count) (row + 1) heads = subst (λ (n : ℕ). AreHeads (buckets_of rows count) n heads) (sym held) c.loop-held.invariant.heads_last in
    let linked = subst (λ (n : ℕ). AreLinked rows entries n (length entries)) (sym c.loop-held.auto.heads) c.requires.chained.links_last in
    let last = next_last rows entries count (bucket_of (hash_of own.0) count) row none same linked (in_bucket rows count row own.0 own.1) in
    record {
      within = omega (arith, c.loop-held.invariant.within);
      no_further = omega (arith, c.loop-held-test.true, c.loop-held.invariant.no_further);
      heads_last = subst (λ (n : ℕ). AreHeads (buckets_of rows n) row (set heads bucket next)) (sym (length-set heads bucket next))
          (heads_fewer rows entries heads count row bucket own.0 own.1 is next within last before);
    }
