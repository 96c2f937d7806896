use Rattle.std.proofs.Common.{ℕ, ◌<◌, ◌∷◌, List, length, get_or, Some, sym, ◌∙◌, ap, arith, drop, take}
use Rattle.std.proofs.lemmas.List.{length-map}
use Rattle.fact_pool.specs.declared.entry.Entry.{Entry}
use Rattle.fact_pool.specs.Layout.{ends_of}
use Rattle.fact_pool.proofs.RowLists.{ascend_at, end_at, rows_from-at}
use Rattle.fact_pool.proofs.layout.words_at.Goals as goal

ended : (entries : List Entry) (row : ℕ) → row < length entries → row < length (ends_of entries)
ended entries row l = omega (arith, length-map entries (λ (e : Entry). e.end))

pub split_at-requires : goal.split_at-requires
split_at-requires c =
    let ends = ends_of c.args.entries.now in
    let bounds = ascend_at 0 ends (length c.args.words.now) c.args.row c.requires.ascend (ended c.args.entries.now c.args.row c.requires.held) in
    omega (arith, end_at 0 ends c.args.row)

pub split_at-requires-2 : goal.split_at-requires-2
split_at-requires-2 c =
    let ends = ends_of c.args.entries.now in
    let bounds = ascend_at 0 ends (length c.args.words.now) c.args.row c.requires.ascend (ended c.args.entries.now c.args.row c.requires.held) in
    omega (arith, end_at 0 ends c.args.row, c.split_at.ensures.front_len)

pub returns : goal.returns
returns c =
    let words = c.args.words.now in
    let ends = ends_of c.args.entries.now in
    let start = get_or (0 ∷ ends) c.args.row 0 in
    rows_from-at words 0 ends c.args.row (ended c.args.entries.now c.args.row c.requires.held)
    ∙ ap (λ (end : ℕ). Some (drop start (take end words))) (sym (c.start_of-end.ensures ∙ end_at 0 ends c.args.row))
    ∙ ap (λ (front : List ℕ). Some (drop start front)) (sym c.split_at.ensures.front)
    ∙ ap (λ (from : ℕ). Some (drop from c.split_at.result.0.now)) (sym c.start_of-start.ensures)
    ∙ ap (λ (row : List ℕ). Some row) (sym c.split_at-2.ensures.back)
