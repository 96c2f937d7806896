use Rattle.std.proofs.Common.{◌≡◌, ℕ, ◌≤◌, List, length, min, take, ◌∙◌, sym, ap, subst, arith}
use Rattle.std.specs.Vec.{with_items}
use Rattle.std.proofs.lemmas.List.{with_items_is}
use Rattle.fact_pool.specs.Rows.{PoolRows, row_room, word_count, word_room}
use Rattle.fact_pool.specs.Chains.{AreHeads, IsTable}
use Rattle.fact_pool.specs.Layout.{buckets_of, rows_of}
use Rattle.fact_pool.proofs.Finding.{length-rows_of}
use Rattle.fact_pool.proofs.Releasing.{rows_front, table_front, distinct_front}
use Rattle.fact_pool.proofs.Rooms.{row_room_is, word_room_is}
use Rattle.fact_pool.proofs.pool.FactPool.release.Goals as goal

pub invariant_of-self : goal.invariant_of-self
invariant_of-self c =
    let inside = c.self.inside in
    let words = inside.words.items in
    let entries = inside.entries.items in
    let rows = rows_of words entries in
    let heads = c.unlink.new.heads in
    let kept = c.args.mark.rows in
    let before = c.self.invariant in
    let marked : word_count (take kept rows) ≡ c.args.mark.words =
    ap (λ (p : PoolRows). word_count (take kept p.rows)) c.self.view_is ∙ c.requires.words_before in
    let all : length rows ≡ length c.args.self.now.rows = ap (λ (p : PoolRows). length p.rows) c.self.view_is in
    let within : kept ≤ length entries = omega (arith, c.requires.within, length-rows_of words entries) in
    let same : length heads ≡ length inside.heads.items = c.unlink.auto.heads ∙ ap length c.deref_mut.ensures.value in
    let written : (with_items inside.heads heads).items ≡ heads = with_items_is inside.heads heads (same ∙ sym inside.heads.ok.0) in
    let heads_last : AreHeads (buckets_of rows (length inside.heads.items)) kept heads =
    rw (c.deref.ensures.value, c.deref-2.ensures.value, c.deref_mut.ensures.value) at c.unlink.ensures in
    let table = table_front words entries inside.heads.items heads kept c.args.mark.words before.table within marked same heads_last in
    record {
      table = subst (λ (hs : List ℕ). IsTable c.truncate-2.new.self.items c.truncate.new.self.items hs) (sym written)
          (rw (c.truncate-2.ensures.items, c.truncate.ensures.items) table);
      distinct = rw (c.truncate-2.ensures.items, c.truncate.ensures.items, rows_front words entries kept c.args.mark.words before.table.ends_ascend marked)
          (distinct_front rows kept before.distinct);
      bucket_each = omega (arith, c.truncate.ensures.len, before.bucket_each);
      entry_each = omega (arith, c.truncate.ensures.capacity, before.entry_each);
      few = before.few;
      few_words = omega (arith, c.truncate-2.ensures.len, before.few_words);
    }

pub returns-clause-rows : goal.returns-clause-rows
returns-clause-rows c =
    let inside = c.self.inside in
    let marked : word_count (take c.args.mark.rows (rows_of inside.words.items inside.entries.items)) ≡ c.args.mark.words =
    ap (λ (p : PoolRows). word_count (take c.args.mark.rows p.rows)) c.self.view_is ∙ c.requires.words_before in
    rw (c.truncate-2.ensures.items, c.truncate.ensures.items)
    (rows_front inside.words.items inside.entries.items c.args.mark.rows c.args.mark.words c.self.invariant.table.ends_ascend marked
    ∙ ap (λ (p : PoolRows). take c.args.mark.rows p.rows) c.self.view_is)

pub returns-clause-row_room : goal.returns-clause-row_room
returns-clause-row_room c =
    let inside = c.self.inside in
    let entries = c.truncate.new.self in
    row_room_is c.truncate-2.new.self.items entries.items entries.len inside.heads.len entries.ok.0 (invariant_of-self c).bucket_each
    ∙ sym (row_room_is inside.words.items inside.entries.items inside.entries.len inside.heads.len inside.entries.ok.0 c.self.invariant.bucket_each)
    ∙ ap row_room c.self.view_is

pub returns-clause-word_room : goal.returns-clause-word_room
returns-clause-word_room c =
    let inside = c.self.inside in
    let held = inside.words in
    let words = c.truncate-2.new.self in
    word_room_is words.items c.truncate.new.self.items words.len (min words.cap 4294967295) (invariant_of-self c).table.ends_ascend words.ok.0 (omega (arith, words.ok.1, (invariant_of-self c).few_words))
    ∙ ap (λ (n : ℕ). min n 4294967295) c.truncate-2.ensures.capacity
    ∙ sym (word_room_is held.items inside.entries.items held.len (min held.cap 4294967295) c.self.invariant.table.ends_ascend held.ok.0 (omega (arith, held.ok.1, c.self.invariant.few_words)))
    ∙ ap word_room c.self.view_is
