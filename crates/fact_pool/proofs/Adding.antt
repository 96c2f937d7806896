-- One more row stands last: what it makes of the rows, and of the table that finds them.
use Rattle.std.proofs.Common.{◌≡◌, ◌⊎◌, ℕ, ◌+◌, ◌<◌, List, [], ◌∷◌, ◌++◌, length, set, take, get_or, Some, sym, ◌∙◌, ap, subst, arith, inl, inr}
use Rattle.std.specs.List.{slice_get, Contains}
use Rattle.std.proofs.lemmas.List.{length-append, length-map, length-set, length_push, map_push, take-append-le}
use Rattle.std.proofs.lemmas.Option.{slice_get_within}
use Rattle.list_laws.proofs.Places.{contains_at, push_cases, pushed_at}
use Rattle.fact_pool.specs.declared.entry.Entry.{Entry}
use Rattle.fact_pool.specs.Chains.{AreChained, AreHeads, AreLinked, IsLast, IsTable}
use Rattle.fact_pool.specs.Hashes.{bucket_of, hash_of}
use Rattle.fact_pool.specs.Layout.{Ascend, buckets_of, ends_of, rows_from, rows_of}
use Rattle.fact_pool.specs.Rows.{AreDistinct}
use Rattle.fact_pool.proofs.ChainSteps.{heads_linked, last_in_longer}
use Rattle.fact_pool.proofs.Finding.{length-rows_of}
use Rattle.fact_pool.proofs.RowLists.{ascend_push, rows_push, same_rows}

-- what an entry is for a row that stands last
pub record IsNext (words : List ℕ) (heads : List ℕ) (row : List ℕ) (bucket : ℕ) (e : Entry) : Type 0 where
  pub end_is : e.end ≡ length words + length row
  pub bucket_is : bucket ≡ bucket_of (hash_of row) (length heads)
  pub next_is : e.next ≡ get_or heads bucket 0
  pub within : bucket < length heads

pub rows_added : (words row : List ℕ) (entries : List Entry) (e : Entry) → Ascend 0 (ends_of entries) (length words) → e.end ≡ length words + length row
    → rows_of (words ++ row) (entries ++ e ∷ []) ≡ rows_of words entries ++ row ∷ []
rows_added words row entries e up end_is =
    let ends = ends_of entries in
    let more : ends_of (entries ++ e ∷ []) ≡ ends ++ (length words + length row) ∷ [] =
    map_push (λ (x : Entry). x.end) entries e ∙ ap (λ (end : ℕ). ends ++ end ∷ []) end_is in
    let front : take (length words) (words ++ row) ≡ take (length words) words = take-append-le (length words) words row (omega arith) in
    ap (λ (es : List ℕ). rows_from (words ++ row) 0 es) more
    ∙ rows_push words row 0 ends up
    ∙ ap (λ (rows : List (List ℕ)). rows ++ row ∷ []) (same_rows (words ++ row) words (length words) 0 ends front up)

pub distinct_added : (rows : List (List ℕ)) (row : List ℕ) → AreDistinct rows → (Contains rows row → ⊥) → AreDistinct (rows ++ row ∷ [])
distinct_added rows row distinct absent = record {
  one_place = λ i j x at_i at_j. elim (push_cases rows row i x at_i) [
    | inl old_i ↦ elim (push_cases rows row j x at_j) [
      | inl old_j ↦ distinct.one_place i j x old_i old_j
      | inr new_j ↦ absurd (absent (contains_at rows i row (old_i ∙ ap (λ (y : List ℕ). Some y) new_j.1)))
    ]
    | inr new_i ↦ elim (push_cases rows row j x at_j) [
      | inl old_j ↦ absurd (absent (contains_at rows j row (old_j ∙ ap (λ (y : List ℕ). Some y) new_i.1)))
      | inr new_j ↦ new_i.0 ∙ sym new_j.0
    ]
  ];
}

-- ---- the chains

buckets_added : (rows : List (List ℕ)) (row : List ℕ) (count : ℕ) → buckets_of (rows ++ row ∷ []) count ≡ buckets_of rows count ++ bucket_of (hash_of row) count ∷ []
buckets_added rows row count = map_push (λ (words : List ℕ). bucket_of (hash_of words) count) rows row

length-buckets : (rows : List (List ℕ)) (count : ℕ) → length (buckets_of rows count) ≡ length rows
length-buckets rows count = length-map rows (λ (words : List ℕ). bucket_of (hash_of words) count)

heads_added : (rows : List (List ℕ)) (row : List ℕ) (heads : List ℕ) (bucket n : ℕ) → length rows ≡ n → bucket ≡ bucket_of (hash_of row) (length heads) → bucket < length heads
    → AreHeads (buckets_of rows (length heads)) n heads
    → AreHeads (buckets_of (rows ++ row ∷ []) (length heads)) (n + 1) (set heads bucket (n + 1))
heads_added rows row heads bucket n count is within before =
    let buckets = buckets_of rows (length heads) in
    let own = bucket_of (hash_of row) (length heads) in
    let longer = buckets ++ own ∷ [] in
    let all : length buckets ≡ n = length-buckets rows (length heads) ∙ count in
    let weaker : AreHeads longer n heads =
    record { at_bucket = λ b. last_in_longer buckets own n b (get_or heads b 0) (before.at_bucket b) (omega arith) } in
    let at : slice_get longer n ≡ Some bucket =
    ap (λ (k : ℕ). slice_get longer k) (sym all) ∙ pushed_at buckets own ∙ ap (λ (b : ℕ). Some b) (sym is) in
    subst (λ (bs : List ℕ). AreHeads bs (n + 1) (set heads bucket (n + 1))) (sym (buckets_added rows row (length heads)))
    (heads_linked longer heads n bucket at within weaker)

last_of_added : (rows : List (List ℕ)) (row : List ℕ) (e : Entry) (heads : List ℕ) (bucket n : ℕ) → length rows ≡ n → bucket ≡ bucket_of (hash_of row) (length heads)
    → e.next ≡ get_or heads bucket 0 → AreHeads (buckets_of rows (length heads)) n heads
    → IsLast (buckets_of rows (length heads) ++ bucket_of (hash_of row) (length heads) ∷ []) n (bucket_of (hash_of row) (length heads)) e.next
last_of_added rows row e heads bucket n count is next before =
    let buckets = buckets_of rows (length heads) in
    let own = bucket_of (hash_of row) (length heads) in
    let named : get_or heads own 0 ≡ e.next = ap (λ (b : ℕ). get_or heads b 0) (sym is) ∙ sym next in
    subst (λ (k : ℕ). IsLast (buckets ++ own ∷ []) n own k) named
    (last_in_longer buckets own n own (get_or heads own 0) (before.at_bucket own) (omega (arith, length-buckets rows (length heads), count)))

module _ (rows : List (List ℕ)) (row : List ℕ) (entries : List Entry) (e : Entry) (heads : List ℕ) (bucket : ℕ) (count : length rows ≡ length entries)
    (is : bucket ≡ bucket_of (hash_of row) (length heads)) (next : e.next ≡ get_or heads bucket 0) (before : AreChained rows entries heads) where
  abbrev longer : List ℕ
  longer = buckets_of rows (length heads) ++ bucket_of (hash_of row) (length heads) ∷ []

  link_added : (r : ℕ) (x : Entry) (own : List ℕ) → (slice_get entries r ≡ Some x) ⊎ ((r ≡ length entries) × (x ≡ e))
      → (slice_get rows r ≡ Some own) ⊎ ((r ≡ length rows) × (own ≡ row)) → IsLast longer r (bucket_of (hash_of own) (length heads)) x.next
  link_added r x own (inl old) (inl stood) =
      let within = slice_get_within entries r x old in
      last_in_longer (buckets_of rows (length heads)) (bucket_of (hash_of row) (length heads)) r (bucket_of (hash_of own) (length heads)) x.next
      (before.links_last.at_row r x own within old stood) (omega (arith, within, count, length-buckets rows (length heads)))
  link_added r x own (inl old) (inr fresh) = absurd (omega (arith, slice_get_within entries r x old, fresh.0, count))
  link_added r x own (inr fresh) (inl stood) = absurd (omega (arith, slice_get_within rows r own stood, fresh.0, count))
  link_added r x own (inr fresh) (inr also) =
      subst (λ (y : Entry). IsLast longer r (bucket_of (hash_of own) (length heads)) y.next) (sym fresh.1)
      (subst (λ (ws : List ℕ). IsLast longer r (bucket_of (hash_of ws) (length heads)) e.next) (sym also.1)
      (subst (λ (k : ℕ). IsLast longer k (bucket_of (hash_of row) (length heads)) e.next) (sym fresh.0)
      (last_of_added rows row e heads bucket (length entries) count is next before.heads_last)))

  links_added : AreLinked (rows ++ row ∷ []) (entries ++ e ∷ []) (length heads) (length entries + 1)
  links_added = record {
    at_row = λ r x own below at at_own.
        subst (λ (bs : List ℕ). IsLast bs r (bucket_of (hash_of own) (length heads)) x.next) (sym (buckets_added rows row (length heads)))
        (link_added r x own (push_cases entries e r x at) (push_cases rows row r own at_own));
  }

  pub chained_added : bucket < length heads → AreChained (rows ++ row ∷ []) (entries ++ e ∷ []) (set heads bucket (length entries + 1))
  chained_added within =
      let same : length (set heads bucket (length entries + 1)) ≡ length heads = length-set heads bucket (length entries + 1) in
      let held : length (entries ++ e ∷ []) ≡ length entries + 1 = length_push entries e in
      record {
        heads_last = subst (λ (n : ℕ). AreHeads (buckets_of (rows ++ row ∷ []) n) (length (entries ++ e ∷ [])) (set heads bucket (length entries + 1))) (sym same)
            (subst (λ (n : ℕ). AreHeads (buckets_of (rows ++ row ∷ []) (length heads)) n (set heads bucket (length entries + 1))) (sym held)
            (heads_added rows row heads bucket (length entries) count is within before.heads_last));
        links_last = subst (λ (n : ℕ). AreLinked (rows ++ row ∷ []) (entries ++ e ∷ []) n (length (entries ++ e ∷ []))) (sym same)
            (subst (λ (n : ℕ). AreLinked (rows ++ row ∷ []) (entries ++ e ∷ []) (length heads) n) (sym held) links_added);
      }

-- ---- the table

pub table_added : (words row : List ℕ) (entries : List Entry) (heads : List ℕ) (bucket : ℕ) (e : Entry) → IsTable words entries heads
    → IsNext words heads row bucket e
    → IsTable (words ++ row) (entries ++ e ∷ []) (set heads bucket (length entries + 1))
table_added words row entries heads bucket e table is =
    let all : length (words ++ row) ≡ length words + length row = length-append words row in
    let ends : ends_of (entries ++ e ∷ []) ≡ ends_of entries ++ e.end ∷ [] = map_push (λ (x : Entry). x.end) entries e in
    record {
      ends_ascend = subst (λ (es : List ℕ). Ascend 0 es (length (words ++ row))) (sym ends)
          (subst (λ (n : ℕ). Ascend 0 (ends_of entries ++ n ∷ []) (length (words ++ row))) (all ∙ sym is.end_is)
          (ascend_push 0 (ends_of entries) (length words) (length (words ++ row)) table.ends_ascend (omega arith)));
      row_each = length-rows_of (words ++ row) (entries ++ e ∷ []);
      chained = subst (λ (rows : List (List ℕ)). AreChained rows (entries ++ e ∷ []) (set heads bucket (length entries + 1)))
          (sym (rows_added words row entries e table.ends_ascend is.end_is))
          (chained_added (rows_of words entries) row entries e heads bucket (length-rows_of words entries) is.bucket_is is.next_is table.chained is.within);
    }
