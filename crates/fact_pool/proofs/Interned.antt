-- For callers: what stays when words are made a row.
use Rattle.std.proofs.Common.{◌≡◌, ℕ, ◌+◌, ◌≤◌, List, [], ◌∷◌, length, take, Some, sym, ◌∙◌, ap, arith}
use Rattle.std.specs.List.{slice_get}
use Rattle.std.proofs.lemmas.List.{length-append, length_push, take-append-le, take_all}
use Rattle.std.proofs.lemmas.List.Sums.{sum_by_push}
use Rattle.list_laws.proofs.Places.{in_longer}
use Rattle.fact_pool.specs.declared.row.Mark.{Mark}
use Rattle.fact_pool.specs.Rows.{HasSpare, IsInterned, IsMarked, KeepsRoom, PoolRows, is_added, was_held, word_count}

-- the rows that there were
pub front_of_interned : (old new : PoolRows) (words : List ℕ) (n : ℕ) → IsInterned old new words → n ≤ length old.rows → take n new.rows ≡ take n old.rows
front_of_interned old new words n (was_held there same) within = ap (λ (p : PoolRows). take n p.rows) same
front_of_interned old new words n (is_added absent more) within = ap (take n) more ∙ take-append-le n old.rows (words ∷ []) within

-- each row keeps its number
pub row_of_interned : (old new : PoolRows) (words : List ℕ) (k : ℕ) (row : List ℕ) → IsInterned old new words → slice_get old.rows k ≡ Some row
    → slice_get new.rows k ≡ Some row
row_of_interned old new words k row (was_held there same) at = ap (λ (p : PoolRows). slice_get p.rows k) same ∙ at
row_of_interned old new words k row (is_added absent more) at = ap (λ (rows : List (List ℕ)). slice_get rows k) more ∙ in_longer old.rows (words ∷ []) k row at

-- there are no fewer rows
pub length_of_interned : (old new : PoolRows) (words : List ℕ) → IsInterned old new words → length old.rows ≤ length new.rows
length_of_interned old new words (was_held there same) = omega (arith, ap (λ (p : PoolRows). length p.rows) same)
length_of_interned old new words (is_added absent more) = omega (arith, ap length more, length-append old.rows (words ∷ []))

-- a mark stays one
pub marked_of_interned : (old new : PoolRows) (words : List ℕ) (mark : Mark) → IsInterned old new words → IsMarked old.rows mark → IsMarked new.rows mark
marked_of_interned old new words mark interned marked = record {
  within = omega (arith, marked.within, length_of_interned old new words interned);
  words_before = ap word_count (front_of_interned old new words mark.rows interned marked.within) ∙ marked.words_before;
}

-- what `mark` answers is one
pub marked_now : (rows : List (List ℕ)) (mark : Mark) → mark.rows ≡ length rows → mark.words ≡ word_count rows → IsMarked rows mark
marked_now rows mark all words = record {
  within = omega arith;
  words_before = ap word_count (take_all mark.rows rows (omega arith)) ∙ sym words;
}

-- what was spare is spare yet, but for these words
pub spare_of_interned : (old new : PoolRows) (words : List ℕ) (rows more : ℕ) → IsInterned old new words → KeepsRoom old new
    → HasSpare old (rows + 1) (more + length words) → HasSpare new rows more
spare_of_interned old new words rows more (was_held there same) room spare = record {
  rows_fit = omega (arith, spare.rows_fit, ap (λ (p : PoolRows). p.spare_rows) same);
  words_fit = omega (arith, spare.words_fit, ap (λ (p : PoolRows). p.spare_words) same);
}
spare_of_interned old new words rows more (is_added absent last) room spare =
    let held : length new.rows ≡ length old.rows + 1 = ap length last ∙ length_push old.rows words in
    let all : word_count new.rows ≡ word_count old.rows + length words = ap word_count last ∙ sum_by_push (λ (row : List ℕ). length row) old.rows words in
    record {
      rows_fit = omega (arith, spare.rows_fit, room.rows_stay, held);
      words_fit = omega (arith, spare.words_fit, room.words_stay, all);
    }
