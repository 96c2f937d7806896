use Rattle.std.proofs.Common.{◌≡◌, ℕ, ◌+◌, ◌-◌, ◌<◌, List, [], ◌∷◌, ◌++◌, length, min, get_or, ◌∙◌, sym, ap, subst, arith}
use Rattle.std.specs.List.{Contains}
use Rattle.fact_pool.specs.declared.entry.Entry.{Entry}
use Rattle.fact_pool.specs.Hashes.{bucket_of}
use Rattle.fact_pool.specs.Rows.{PoolRows, row_room, word_room}
use Rattle.fact_pool.specs.Layout.{rows_of}
use Rattle.fact_pool.proofs.Adding.{IsNext, rows_added, table_added, distinct_added}
use Rattle.fact_pool.proofs.Rooms.{row_room_is, word_room_is}
use Rattle.fact_pool.proofs.pool.FactPool.add.Goals as goal

pub invariant_of-self : goal.invariant_of-self
invariant_of-self c =
    let inside = c.self.inside in
    let entries = inside.entries.items in
    let heads = inside.heads.items in
    let words = c.args.words.now in
    let rows = rows_of inside.words.items entries in
    let bucket = c.bucket_of-bucket.result in
    let e : Entry = record { end = c.len-end.result; next = c.head_of-next.result } in
    let spare : inside.heads.len - inside.entries.len ≡ c.args.self.now.spare_rows = ap (λ (p : PoolRows). p.spare_rows) c.self.view_is in
    let count : c.len.result ≡ length heads = c.len.ensures ∙ inside.heads.ok.0 in
    let bucket_is : bucket ≡ bucket_of c.args.hash (length heads) = c.bucket_of-bucket.ensures.bucket ∙ ap (bucket_of c.args.hash) count in
    let some : 0 < c.len.result = omega (arith, c.len.ensures) in
    let within : bucket < length heads = omega (arith, c.bucket_of-bucket.ensures.within some) in
    let is : IsNext inside.words.items heads words bucket e = record {
      end_is = c.len-end.ensures ∙ c.in-Ok.ensures.len ∙ ap (λ (n : ℕ). n + length words) inside.words.ok.0;
      bucket_is = bucket_is ∙ ap (λ (h : ℕ). bucket_of h (length heads)) c.requires.hash;
      next_is = c.head_of-next.ensures
          ∙ ap (λ (hs : List ℕ). get_or hs (bucket_of c.args.hash (length hs)) 0) c.deref.ensures.value
          ∙ ap (λ (b : ℕ). get_or heads b 0) (sym bucket_is);
      within = within;
    } in
    let more = rows_added inside.words.items words entries e c.self.invariant.table.ends_ascend is.end_is in
    let absent = λ (there : Contains rows words). c.requires.absent (subst (λ (p : PoolRows). Contains p.rows words) c.self.view_is there) in
    let row : c.len-row.result ≡ length entries = c.len-row.ensures ∙ inside.entries.ok.0 in
    record {
      table = rw (c.in-Ok.ensures.items, c.in-Ok-push.ensures.items, row)
          (table_added inside.words.items words entries heads bucket e c.self.invariant.table is);
      distinct = rw (c.in-Ok.ensures.items, c.in-Ok-push.ensures.items, more) (distinct_added rows words c.self.invariant.distinct absent);
      bucket_each = omega (arith, c.in-Ok-push.ensures.len);
      entry_each = omega (arith, c.in-Ok-push.ensures.capacity, c.self.invariant.entry_each);
      few = c.self.invariant.few;
      few_words = omega (arith, c.in-Ok.ensures.len, inside.words.ok.0, c.requires.room.words_fit, ap (λ (p : PoolRows). p.spare_words) c.self.view_is);
    }

pub returns-clause-rows : goal.returns-clause-rows
returns-clause-rows c =
    let inside = c.self.inside in
    let words = c.args.words.now in
    let e : Entry = record { end = c.len-end.result; next = c.head_of-next.result } in
    let end_is : e.end ≡ length inside.words.items + length words =
    c.len-end.ensures ∙ c.in-Ok.ensures.len ∙ ap (λ (n : ℕ). n + length words) inside.words.ok.0 in
    rw (c.in-Ok.ensures.items, c.in-Ok-push.ensures.items)
    (rows_added inside.words.items words inside.entries.items e c.self.invariant.table.ends_ascend end_is
    ∙ ap (λ (p : PoolRows). p.rows ++ words ∷ []) c.self.view_is)

pub returns-clause-room_kept : goal.returns-clause-room_kept
returns-clause-room_kept c =
    let inside = c.self.inside in
    let words = c.extend_from_slice.new.self in
    let entries = c.push.new.self in
    let after = invariant_of-self c in
    let before = c.self.invariant in
    let rows_before = row_room_is inside.words.items inside.entries.items inside.entries.len inside.heads.len inside.entries.ok.0 before.bucket_each in
    let rows_after = row_room_is words.items entries.items entries.len inside.heads.len entries.ok.0 after.bucket_each in
    let held = inside.words in
    let words_before = word_room_is held.items inside.entries.items held.len (min held.cap 4294967295) before.table.ends_ascend held.ok.0 (omega (arith, held.ok.1, before.few_words)) in
    let words_after = word_room_is words.items entries.items words.len (min words.cap 4294967295) after.table.ends_ascend words.ok.0 (omega (arith, words.ok.1, after.few_words)) in
    record {
      rows_stay = omega (arith, rows_before, rows_after, ap row_room c.self.view_is);
      words_stay = omega (arith, words_before, words_after, ap word_room c.self.view_is, c.in-Ok.ensures.capacity);
    }
