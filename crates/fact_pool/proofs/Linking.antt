-- One more row is linked: its entry names the head of its bucket, and becomes the head. Or it is taken off, and what it names becomes the head.
use Rattle.std.proofs.Common.{◌≡◌, ℕ, ◌+◌, ◌<◌, List, length, set, get_or, Some, sym, ◌∙◌, ap, subst, arith, inl, inr}
use Rattle.std.specs.List.{slice_get}
use Rattle.std.proofs.lemmas.Bool.{cases_eq}
use Rattle.std.proofs.lemmas.List.{get_or-map, get_or-set_other, get_or-set_same, map-set, set-get_or}
use Rattle.std.proofs.lemmas.Option.{same_Some}
use Rattle.list_laws.proofs.Places.{set_at, set_other}
use Rattle.fact_pool.specs.declared.entry.Entry.{Entry}
use Rattle.fact_pool.specs.Chains.{AreHeads, AreLinked, IsLast}
use Rattle.fact_pool.specs.Hashes.{bucket_of, hash_of}
use Rattle.fact_pool.specs.Layout.{buckets_of, ends_of}
use Rattle.fact_pool.proofs.ChainSteps.{heads_linked, last_before}
use Rattle.fact_pool.proofs.Finding.{in_bucket}

-- an entry that is written and ends where it did leaves the ends as they are
pub ends_set : (entries : List Entry) (i : ℕ) (e d : Entry) → i < length entries → e.end ≡ (get_or entries i d).end → ends_of (set entries i e) ≡ ends_of entries
ends_set entries i e d l same =
    map-set (λ (x : Entry). x.end) entries i e
    ∙ ap (set (ends_of entries) i) (same ∙ sym (get_or-map (λ (x : Entry). x.end) entries i d 0 l))
    ∙ set-get_or (ends_of entries) i 0

module _ (rows : List (List ℕ)) (entries : List Entry) (heads : List ℕ) (count i bucket : ℕ) (row : List ℕ) (at : slice_get rows i ≡ Some row) (is : bucket ≡ bucket_of (hash_of row) count) where
  -- the row is linked

  pub links_more : (e : Entry) → i < length entries → e.next ≡ get_or heads bucket 0 → AreHeads (buckets_of rows count) i heads → AreLinked rows entries count i
      → AreLinked rows (set entries i e) count (i + 1)
  links_more e l next heads_last links_last = record {
    at_row = λ r x own below at_x at_own. elim (cases_eq r i) [
      | inl same ↦
          (let entry : e ≡ x = same_Some e x (sym (set_at entries i e l) ∙ ap (slice_get (set entries i e)) (sym same) ∙ at_x) in
          let words : row ≡ own = same_Some row own (sym at ∙ ap (slice_get rows) (sym same) ∙ at_own) in
          subst (λ (y : Entry). IsLast (buckets_of rows count) r (bucket_of (hash_of own) count) y.next) entry
          (subst (λ (ws : List ℕ). IsLast (buckets_of rows count) r (bucket_of (hash_of ws) count) e.next) words
          (subst (λ (k : ℕ). IsLast (buckets_of rows count) k (bucket_of (hash_of row) count) e.next) (sym same)
          (subst (λ (b : ℕ). IsLast (buckets_of rows count) i b e.next) is
          (subst (λ (k : ℕ). IsLast (buckets_of rows count) i bucket k) (sym next) (heads_last.at_bucket bucket))))))
      | inr apart ↦ links_last.at_row r x own (omega arith) (sym (set_other entries i r e apart) ∙ at_x) at_own
    ];
  }

  pub heads_more : bucket < length heads → AreHeads (buckets_of rows count) i heads → AreHeads (buckets_of rows count) (i + 1) (set heads bucket (i + 1))
  heads_more within heads_last = heads_linked (buckets_of rows count) heads i bucket (in_bucket rows count i row at ∙ ap Some (sym is)) within heads_last

  -- the row is taken off

  pub heads_fewer : (next : ℕ) → bucket < length heads → IsLast (buckets_of rows count) i (bucket_of (hash_of row) count) next → AreHeads (buckets_of rows count) (i + 1) heads
      → AreHeads (buckets_of rows count) i (set heads bucket next)
  heads_fewer next within last heads_last = record {
    at_bucket = λ b. elim (cases_eq b bucket) [
      | inl same ↦ subst (λ (k : ℕ). IsLast (buckets_of rows count) i b k)
          (sym (ap (λ (j : ℕ). get_or (set heads bucket next) j 0) same ∙ get_or-set_same heads bucket next 0 within))
          (subst (λ (k : ℕ). IsLast (buckets_of rows count) i k next) (sym (same ∙ is)) last)
      | inr apart ↦ subst (λ (k : ℕ). IsLast (buckets_of rows count) i b k) (sym (get_or-set_other heads bucket b next 0 apart))
          (last_before (buckets_of rows count) i b bucket (get_or heads b 0) (heads_last.at_bucket b) (in_bucket rows count i row at ∙ ap Some (sym is)) apart)
    ];
  }
