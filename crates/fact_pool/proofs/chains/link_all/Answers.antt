use Rattle.std.proofs.Common.{◌≡◌, ℕ, ◌+◌, ◌<◌, ◌∙◌, List, ap, length, set, get_or, arith, refl, sym, subst}
use Rattle.std.specs.List.{slice_get}
use Rattle.fact_pool.specs.declared.entry.Entry.{Entry}
use Rattle.std.proofs.lemmas.List.{length-set}
use Rattle.fact_pool.specs.Chains.{AreHeads, AreLinked}
use Rattle.fact_pool.specs.Hashes.{bucket_of, hash_of}
use Rattle.fact_pool.specs.Layout.{Ascend, buckets_of, rows_from, rows_of}
use Rattle.list_laws.proofs.Places.{stands_below}
use Rattle.fact_pool.proofs.Finding.{length-rows_of}
use Rattle.fact_pool.proofs.Linking.{ends_set, heads_more, links_more}
use Rattle.fact_pool.proofs.chains.link_all.Goals as goal

pub hash_at-requires-clause-ascend : goal.hash_at-requires-clause-ascend
hash_at-requires-clause-ascend c =
    subst (λ (ends : List ℕ). Ascend 0 ends (length c.args.words.now)) (sym c.loop-row.invariant.same_ends) c.requires.ascend

pub loop-row-preserved : goal.loop-row-preserved
loop-row-preserved c =
    let words = c.args.words.now in
    let entries = c.loop-row.entries in
    let heads = c.loop-row.heads in
    let row = c.loop-row.row in
    let rows = rows_of words c.args.entries.now in
    let bucket = c.bucket_of-bucket.result in
    let none : Entry = record { end = 0; next = 0 } in
    let linked : Entry = record { end = (get_or entries row none).end; next = get_or heads bucket 0 } in
    let held : row < length entries = omega arith in
    let within : bucket < length heads = omega arith in
    let same : rows_of words entries ≡ rows = ap (rows_from words 0) c.loop-row.invariant.same_ends in
    let own = stands_below rows row (omega (arith, held, length-rows_of words c.args.entries.now)) in
    let hash : c.hash_at.result ≡ hash_of own.0 = c.hash_at.ensures own.0 (ap (λ (rs : List (List ℕ)). slice_get rs row) same ∙ own.1) in
    let is : bucket ≡ bucket_of (hash_of own.0) (length heads) =
    c.bucket_of-bucket.ensures.bucket ∙ ap (λ (n : ℕ). bucket_of c.hash_at.result n) (sym c.loop-row.auto.heads) ∙ ap (λ (h : ℕ). bucket_of h (length heads)) hash in
    let count : length (set heads bucket (row + 1)) ≡ length heads = length-set heads bucket (row + 1) in
    record {
      same_ends = ends_set entries row linked none held refl ∙ c.loop-row.invariant.same_ends;
      heads_last = subst (λ (n : ℕ). AreHeads (buckets_of rows n) (row + 1) (set heads bucket (row + 1))) (sym count)
          (heads_more rows entries heads (length heads) row bucket own.0 own.1 is within c.loop-row.invariant.heads_last);
      links_last = subst (λ (n : ℕ). AreLinked rows (set entries row linked) n (row + 1)) (sym count)
          (links_more rows entries heads (length heads) row bucket own.0 own.1 is linked held refl c.loop-row.invariant.heads_last c.loop-row.invariant.links_last);
    }
