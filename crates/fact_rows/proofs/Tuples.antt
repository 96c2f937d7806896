-- The row of a tuple.
use Rattle.std.proofs.Common.{◌≡◌, ℕ, ◌≤◌, List, ◌++◌, Some, ◌∙◌, ap}
use Rattle.std.specs.List.{slice_get}
use Rattle.std.specs.Prelude.{Result, Ok, Err, IfOk, OnOk}
use Rattle.access_paths.specs.Sets.{IsPathSet}
use Rattle.stage_facts.specs.Facts.{Tuple, of_object}
use Rattle.fact_pool.specs.declared.row.Row.{Row}
use Rattle.fact_pool.specs.Rows.{IsInterned, PoolRows}
use Rattle.fact_rows.specs.PathRows.{KeepsRows}
use Rattle.fact_rows.specs.FactRows.{IsFactRow, first_words}
use Rattle.fact_rows.specs.Packing.{GetsRows}
use Rattle.fact_rows.proofs.Growing.{kept_interned, kept_paths, kept_then}

-- the rows of the must paths were made, then those of the must-not paths, and then that of the tuple
pub tuple_row : {E : Type 0} (t : Tuple) (one two last : PoolRows) (some all : List ℕ) (r : Result Row E) → IsPathSet t.must → IsPathSet t.must_not
    → t.state ≤ 255 → GetsRows one.rows t.must (first_words t) some → KeepsRows one.rows two.rows → GetsRows two.rows t.must_not some all
    → IfOk r (λ row. slice_get last.rows row.0 ≡ Some all) → OnOk r (IsInterned two last all) → IfOk r (λ row. IsFactRow last.rows row.0 (of_object t))
tuple_row t one two last some all (Err e) must must_not fits first kept second stands interned = tt
tuple_row t one two last some all (Ok row) must must_not fits first kept second stands interned =
    let now = kept_interned two last all interned in
    record {
      words = all;
      stands = stands;
      are = record {
        must_rows = first.numbers;
        must_not_rows = second.numbers;
        words_are = second.behind ∙ ap (λ (ws : List ℕ). ws ++ second.numbers) first.behind;
        must = record {
          is_set = must;
          have = kept_paths one.rows last.rows t.must first.numbers (kept_then one.rows two.rows last.rows kept now) first.have;
        };
        must_not = record { is_set = must_not; have = kept_paths two.rows last.rows t.must_not second.numbers now second.have };
        state_fits = fits;
      };
    }

-- what holds once words are a row holds where they are made one
pub once_row : {E : Type 0} (P : Type 0) (old new : PoolRows) (words : List ℕ) (r : Result Row E) → OnOk r (IsInterned old new words)
    → (IsInterned old new words → P) → OnOk r P
once_row P old new words (Err e) interned give = tt
once_row P old new words (Ok row) interned give = give interned
