use Rattle.std.proofs.Common.{ℕ, ◌-◌, length, get_or, subst, sym, arith}
use Rattle.std.proofs.lemmas.Bool.{false≢true}
use Rattle.fact_pool.specs.declared.entry.Entry.{Entry}
use Rattle.fact_pool.specs.Chains.{IsLast}
use Rattle.fact_pool.specs.Hashes.{bucket_of}
use Rattle.fact_pool.specs.Layout.{buckets_of, rows_of}
use Rattle.fact_pool.proofs.Finding.{length-rows_of, next_last, none_after, none_after_next}
use Rattle.list_laws.proofs.Places.{place_of}
use Rattle.fact_pool.proofs.chains.find.Goals as goal

pub loop-named-init : goal.loop-named-init
loop-named-init c =
    let entries = c.args.entries.now in
    let count = length c.args.heads.now in
    let bucket = bucket_of c.args.hash count in
    let rows = rows_of c.args.words.now entries in
    let last : IsLast (buckets_of rows count) (length entries) bucket c.head_of-named.result =
    subst (λ (k : ℕ). IsLast (buckets_of rows count) (length entries) bucket k) (sym c.head_of-named.ensures)
    (c.requires.table.chained.heads_last.at_bucket bucket) in
    record {
      within = last.below;
      there = last.there;
      none = none_after c.args.words.now entries count c.head_of-named.result c.args.wanted.now
          (subst (λ (h : ℕ). IsLast (buckets_of rows count) (length entries) (bucket_of h count) c.head_of-named.result) c.requires.hash last);
    }

pub loop-named-smaller : goal.loop-named-smaller
loop-named-smaller c =
    let entries = c.args.entries.now in
    let count = length c.args.heads.now in
    let rows = rows_of c.args.words.now entries in
    let row = c.loop-named.named - 1 in
    let none : Entry = record { end = 0; next = 0 } in
    let at = c.loop-named.invariant.there row (omega arith) in
    let last = next_last rows entries count (bucket_of c.args.hash count) row none (length-rows_of c.args.words.now entries) c.requires.table.chained.links_last at in
    omega (arith, last.below)

pub loop-named-preserved : goal.loop-named-preserved
loop-named-preserved c =
    let entries = c.args.entries.now in
    let count = length c.args.heads.now in
    let row = c.loop-named.named - 1 in
    let rows = rows_of c.args.words.now entries in
    let none : Entry = record { end = 0; next = 0 } in
    let at = c.loop-named.invariant.there row (omega arith) in
    let last = next_last rows entries count (bucket_of c.args.hash count) row none (length-rows_of c.args.words.now entries) c.requires.table.chained.links_last at in
    record {
      within = omega (arith, last.below);
      there = last.there;
      none = none_after_next rows count c.loop-named.named _ c.args.wanted.now c.loop-named-test.true
          (subst (λ (h : ℕ). IsLast (buckets_of rows count) row (bucket_of h count) (get_or entries row none).next) c.requires.hash last)
          (λ at. false≢true (c.if-has_words.ensures.1 at))
          c.loop-named.invariant.none;
    }

pub returns : goal.returns
returns c there =
    let at = place_of (rows_of c.args.words.now c.args.entries.now) c.args.wanted.now there in
    c.loop-named.invariant.none at.0 (omega arith) at.1
