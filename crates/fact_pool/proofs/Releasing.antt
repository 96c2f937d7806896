-- The rows after a mark are gone: what stays of the rows, and of the table that finds them.
use Rattle.std.proofs.Common.{◌≡◌, ℕ, ◌+◌, ◌≤◌, List, length, take, get_or, sym, ◌∙◌, ap, subst, arith}
use Rattle.std.proofs.lemmas.List.{length-take-le, take-map, take-take}
use Rattle.std.proofs.lemmas.List.Sums.{sum_by-take-le}
use Rattle.std.proofs.lemmas.Option.{slice_get_within}
use Rattle.list_laws.proofs.Places.{in_front}
use Rattle.fact_pool.specs.declared.entry.Entry.{Entry}
use Rattle.fact_pool.specs.Chains.{AreChained, AreHeads, IsLast, IsTable}
use Rattle.fact_pool.specs.Hashes.{bucket_of, hash_of}
use Rattle.fact_pool.specs.Layout.{Ascend, buckets_of, ends_of, rows_from, rows_of}
use Rattle.fact_pool.specs.Rows.{AreDistinct, word_count}
use Rattle.fact_pool.proofs.ChainSteps.{last_in_front}
use Rattle.fact_pool.proofs.Finding.{length-rows_of}
use Rattle.fact_pool.proofs.RowLists.{ascend_take, rows_take, same_rows, word_count_from}

-- the words of the rows are all words
pub word_count-rows : (words : List ℕ) (entries : List Entry) → Ascend 0 (ends_of entries) (length words) → word_count (rows_of words entries) ≡ length words
word_count-rows words entries up = omega (arith, word_count_from words 0 (ends_of entries) (length words) up (omega arith))

pub distinct_front : (rows : List (List ℕ)) (n : ℕ) → AreDistinct rows → AreDistinct (take n rows)
distinct_front rows n distinct = record { one_place = λ i j x at_i at_j. distinct.one_place i j x (in_front rows n i x at_i).1 (in_front rows n j x at_j).1 }

-- the ends of the first rows
ends_front : (words : List ℕ) (entries : List Entry) (kept count : ℕ) → Ascend 0 (ends_of entries) (length words)
    → word_count (take kept (rows_of words entries)) ≡ count
    → Ascend 0 (ends_of (take kept entries)) count
ends_front words entries kept count up is =
    let cut : take kept (ends_of entries) ≡ ends_of (take kept entries) = take-map (λ (e : Entry). e.end) kept entries in
    let total : 0 + word_count (take kept (rows_of words entries)) ≡ count = omega arith in
    subst (λ (es : List ℕ). Ascend 0 es count) cut
    (subst (λ (n : ℕ). Ascend 0 (take kept (ends_of entries)) n) total
    (ascend_take words 0 (ends_of entries) (length words) kept up (omega arith)))

-- the first rows have no more words than all
pub count_within : (words : List ℕ) (entries : List Entry) (kept count : ℕ) → Ascend 0 (ends_of entries) (length words)
    → word_count (take kept (rows_of words entries)) ≡ count
    → count ≤ length words
count_within words entries kept count up is =
    omega (arith, sum_by-take-le (λ (row : List ℕ). length row) (rows_of words entries) kept, word_count-rows words entries up)

pub rows_front : (words : List ℕ) (entries : List Entry) (kept count : ℕ) → Ascend 0 (ends_of entries) (length words)
    → word_count (take kept (rows_of words entries)) ≡ count
    → rows_of (take count words) (take kept entries) ≡ take kept (rows_of words entries)
rows_front words entries kept count up is =
    let cut : take kept (ends_of entries) ≡ ends_of (take kept entries) = take-map (λ (e : Entry). e.end) kept entries in
    let front : take count (take count words) ≡ take count words = take-take count count words (omega arith) in
    same_rows (take count words) words count 0 (ends_of (take kept entries)) front (ends_front words entries kept count up is)
    ∙ ap (λ (es : List ℕ). rows_from words 0 es) (sym cut)
    ∙ rows_take words 0 (ends_of entries) kept

-- the chains of the first rows
chained_front : (rows : List (List ℕ)) (entries : List Entry) (old heads : List ℕ) (kept : ℕ) → AreChained rows entries old → kept ≤ length entries
    → length heads ≡ length old → AreHeads (buckets_of rows (length old)) kept heads → AreChained (take kept rows) (take kept entries) heads
chained_front rows entries old heads kept chained within same heads_last =
    let cut : take kept (buckets_of rows (length heads)) ≡ buckets_of (take kept rows) (length heads) =
    take-map (λ (row : List ℕ). bucket_of (hash_of row) (length heads)) kept rows in
    let held : length (take kept entries) ≡ kept = length-take-le kept entries within in
    record {
      heads_last = record {
        at_bucket = λ b.
            subst (λ (bs : List ℕ). IsLast bs (length (take kept entries)) b (get_or heads b 0)) cut
            (last_in_front (buckets_of rows (length heads)) kept (length (take kept entries)) b (get_or heads b 0)
            (subst (λ (n : ℕ). IsLast (buckets_of rows (length heads)) n b (get_or heads b 0)) (sym held)
            (subst (λ (n : ℕ). IsLast (buckets_of rows n) kept b (get_or heads b 0)) (sym same) (heads_last.at_bucket b)))
            (omega arith));
      };
      links_last = record {
        at_row = λ r e row below at at_row.
            let there = in_front entries kept r e at in
            let stands = in_front rows kept r row at_row in
            subst (λ (bs : List ℕ). IsLast bs r (bucket_of (hash_of row) (length heads)) e.next) cut
            (last_in_front (buckets_of rows (length heads)) kept r (bucket_of (hash_of row) (length heads)) e.next
            (subst (λ (n : ℕ). IsLast (buckets_of rows n) r (bucket_of (hash_of row) n) e.next) (sym same)
            (chained.links_last.at_row r e row (slice_get_within entries r e there.1) there.1 stands.1))
            (omega (arith, there.0)));
      };
    }

pub table_front : (words : List ℕ) (entries : List Entry) (old heads : List ℕ) (kept count : ℕ) → IsTable words entries old → kept ≤ length entries
    → word_count (take kept (rows_of words entries)) ≡ count → length heads ≡ length old → AreHeads (buckets_of (rows_of words entries) (length old)) kept heads
    → IsTable (take count words) (take kept entries) heads
table_front words entries old heads kept count table within is same heads_last =
    let all : length (take count words) ≡ count = length-take-le count words (count_within words entries kept count table.ends_ascend is) in
    record {
      ends_ascend = subst (λ (n : ℕ). Ascend 0 (ends_of (take kept entries)) n) (sym all) (ends_front words entries kept count table.ends_ascend is);
      row_each = length-rows_of (take count words) (take kept entries);
      chained = subst (λ (rows : List (List ℕ)). AreChained rows (take kept entries) heads) (sym (rows_front words entries kept count table.ends_ascend is))
          (chained_front (rows_of words entries) entries old heads kept table.chained within same heads_last);
    }
