use Rattle.std.proofs.Common.{◌≡◌, ℕ, ◌+◌, ◌≤◌, List, length, Some, ◌∙◌, sym, ap, subst, arith}
use Rattle.std.specs.List.{slice_get}
use Rattle.std.specs.Prelude.{IfOk, OnOk}
use Rattle.std.proofs.lemmas.Bool.{false≢true}
use Rattle.access_paths.specs.Sets.{IsPathSet}
use Rattle.stage_facts.specs.Facts.{Tuple, of_object}
use Rattle.fact_pool.specs.Rows.{IsInterned}
use Rattle.fact_rows.specs.FactRows.{IsFactRow, first_words}
use Rattle.fact_rows.specs.PathRows.{SpendsAtMost}
use Rattle.fact_rows.specs.Packing.{GetsRows}
use Rattle.fact_rows.proofs.Growing.{gets_length, spare_last, spare_second, spends_tuple}
use Rattle.fact_rows.proofs.Tuples.{once_row, tuple_row}
use Rattle.fact_rows.proofs.fact_row.tuple_row.Goals as goal

pub returns-in_err-pack_paths-2-clause-sure : goal.returns-in_err-pack_paths-2-clause-sure
returns-in_err-pack_paths-2-clause-sure c spare =
    let must = c.tuple.inside.must in
    let must_not = c.tuple.inside.must_not in
    absurd (false≢true (c.in_err-pack_paths-2.ensures.sure
    (spare_second (length must) (length must_not) c.args.pool.now c.pack_paths.new.pool c.in_ok-pack_paths.ensures.grows
    c.well_formed-2.ensures.few c.well_formed-3.ensures.few spare)))

pub returns-clause-row : goal.returns-clause-row
returns-clause-row c =
    let inside = c.tuple.inside in
    let t : Tuple = record { unique = inside.unique; state = inside.state; must = inside.must; may = inside.may; must_not = inside.must_not } in
    let is : t ≡ c.args.tuple.now = c.tuple.view_is in
    let one = c.pack_paths.new.pool in
    let two = c.pack_paths-2.new.pool in
    let last = c.intern.new.self in
    let some = c.pack_paths.new.words.items in
    let all = c.pack_paths-2.new.words.items in
    let start : c.first_words-words.result.items ≡ first_words t = c.first_words-words.ensures.words ∙ ap first_words (sym is) in
    let first : GetsRows one.rows t.must (first_words t) some =
    subst (λ (ws : List ℕ). GetsRows one.rows t.must ws some) start c.in_ok-pack_paths.ensures.rows in
    let stands : IfOk c.intern.result (λ row. slice_get last.rows row.0 ≡ Some all) =
    subst (λ (ws : List ℕ). IfOk c.intern.result (λ row. slice_get last.rows row.0 ≡ Some ws)) c.as_slice.ensures.value c.intern.ensures.row in
    let interned : OnOk c.intern.result (IsInterned two last all) =
    subst (λ (ws : List ℕ). OnOk c.intern.result (IsInterned two last ws)) c.as_slice.ensures.value c.intern.ensures.interned in
    let must : IsPathSet t.must = record { ordered = c.well_formed-2.ensures.ordered; few = c.well_formed-2.ensures.few } in
    let must_not : IsPathSet t.must_not = record { ordered = c.well_formed-3.ensures.ordered; few = c.well_formed-3.ensures.few } in
    let fits : t.state ≤ 255 = omega (arith, c.first_words-words.ensures.state, ap (λ (u : Tuple). u.state) is) in
    subst (λ (u : Tuple). IfOk c.intern.result (λ row. IsFactRow last.rows row.0 (of_object u))) is
    (tuple_row t one two last some all c.intern.result must must_not fits first c.pack_paths-2.ensures.kept
    c.in_ok-pack_paths-2.ensures.rows stands interned)

pub returns-clause-sure : goal.returns-clause-sure
returns-clause-sure c spare =
    let must = c.tuple.inside.must in
    let must_not = c.tuple.inside.must_not in
    let one = c.pack_paths.new.pool in
    let two = c.pack_paths-2.new.pool in
    let first = gets_length one.rows must c.first_words-words.result.items c.pack_paths.new.words.items c.in_ok-pack_paths.ensures.rows in
    let second = gets_length two.rows must_not c.pack_paths.new.words.items c.pack_paths-2.new.words.items c.in_ok-pack_paths-2.ensures.rows in
    let total : length c.as_slice.result.now ≡ 5 + length must + length must_not =
    omega (arith, first, second, ap length c.as_slice.ensures.value, ap length c.first_words-words.ensures.words) in
    c.intern.ensures.sure_of_spare
    (spare_last (length must) (length must_not) (length c.as_slice.result.now) c.args.pool.now one two
    c.in_ok-pack_paths.ensures.grows c.in_ok-pack_paths-2.ensures.grows c.well_formed-2.ensures.few c.well_formed-3.ensures.few total spare)

pub returns-clause-spends : goal.returns-clause-spends
returns-clause-spends c =
    let must = c.tuple.inside.must in
    let must_not = c.tuple.inside.must_not in
    let old = c.args.pool.now in
    let one = c.pack_paths.new.pool in
    let two = c.pack_paths-2.new.pool in
    let last = c.intern.new.self in
    let words = c.as_slice.result.now in
    let first = gets_length one.rows must c.first_words-words.result.items c.pack_paths.new.words.items c.in_ok-pack_paths.ensures.rows in
    let second = gets_length two.rows must_not c.pack_paths.new.words.items c.pack_paths-2.new.words.items c.in_ok-pack_paths-2.ensures.rows in
    let total : length words ≡ 5 + length must + length must_not =
    omega (arith, first, second, ap length c.as_slice.ensures.value, ap length c.first_words-words.ensures.words) in
    once_row (SpendsAtMost 13 77 old last) two last words c.intern.result c.intern.ensures.interned
    (λ interned. spends_tuple (length must) (length must_not) old one two last words c.in_ok-pack_paths.ensures.grows c.in_ok-pack_paths-2.ensures.grows
    c.well_formed-2.ensures.few c.well_formed-3.ensures.few total interned c.intern.ensures.room)
