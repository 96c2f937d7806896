-- What rows of a pool keep, and what they gain, while it grows.
use Rattle.std.proofs.Common.{◌≡◌, ℕ, ◌+◌, ◌*◌, ◌<◌, ◌≤◌, List, [], ◌∷◌, ◌++◌, length, take, get_or, Some, refl, sym, ◌∙◌, ap, arith, append_assoc}
use Rattle.std.specs.List.{slice_get}
use Rattle.std.proofs.lemmas.List.{length-append, length-map, length-take, take-take, take_all}
use Rattle.list_laws.proofs.Places.{in_front}
use Rattle.list_laws.proofs.Zips.{zip_more, zip_weaker}
use Rattle.access_paths.specs.Paths.{Path, number_of}
use Rattle.fact_pool.specs.Rows.{HasSpare, IsInterned, KeepsRoom, PoolRows, is_added, was_held}
use Rattle.fact_pool.proofs.Interned.{front_of_interned, spare_of_interned}
use Rattle.fact_rows.specs.PathRows.{IsPathRow, KeepsRows, SpendsAtMost, path_words}
use Rattle.fact_rows.specs.FactRows.{HaveRows}
use Rattle.fact_rows.specs.Packing.{GetsRows, GrowsBy}

-- ---- rows that stay

pub kept_length : (old new : List (List ℕ)) → KeepsRows old new → length old ≤ length new
kept_length old new kept = omega (arith, ap length kept.front, length-take (length old) new)

pub kept_then : (first second third : List (List ℕ)) → KeepsRows first second → KeepsRows second third → KeepsRows first third
kept_then first second third one two = record {
  front = sym (take-take (length first) (length second) third (kept_length first second one)) ∙ ap (take (length first)) two.front ∙ one.front;
}

-- a row keeps its number
pub kept_at : (old new : List (List ℕ)) (k : ℕ) (row : List ℕ) → KeepsRows old new → slice_get old k ≡ Some row → slice_get new k ≡ Some row
kept_at old new k row kept at =
    let within : slice_get (take (length old) new) k ≡ Some row = ap (λ (rows : List (List ℕ)). slice_get rows k) kept.front ∙ at in
    (in_front new (length old) k row within).1

pub kept_interned : (old new : PoolRows) (words : List ℕ) → IsInterned old new words → KeepsRows old.rows new.rows
kept_interned old new words interned = record {
  front = front_of_interned old new words (length old.rows) interned (omega arith) ∙ take_all (length old.rows) old.rows (omega arith);
}

-- ---- rows of paths

pub kept_path : (old new : List (List ℕ)) (row : ℕ) (x : Path) → KeepsRows old new → IsPathRow old row x → IsPathRow new row x
kept_path old new row x kept is = record { words = kept_at old new row (path_words x) kept is.words; few = is.few }

pub kept_paths : (old new : List (List ℕ)) (paths : List Path) (numbers : List ℕ) → KeepsRows old new → HaveRows old paths numbers → HaveRows new paths numbers
kept_paths old new paths numbers kept have =
    let before = λ (x : Path) (n : ℕ). IsPathRow old n x in
    let after = λ (x : Path) (n : ℕ). IsPathRow new n x in
    zip_weaker before after (λ x n is. kept_path old new n x kept is) paths numbers have

-- there are as many rows as paths
pub have_length : (rows : List (List ℕ)) (paths : List Path) (numbers : List ℕ) → HaveRows rows paths numbers → length numbers ≡ length paths
have_length rows [] [] have = refl
have_length rows [] (n ∷ numbers) have = absurd have
have_length rows (x ∷ paths) [] have = absurd have
have_length rows (x ∷ paths) (n ∷ numbers) have = omega (arith, have_length rows paths numbers have.1)

-- one path more
pub gets_more : (old new : List (List ℕ)) (paths : List Path) (i : ℕ) (x : Path) (start before after : List ℕ) (n : ℕ)
    → GetsRows old (take i paths) start before → KeepsRows old new → i < length paths → x ≡ get_or paths i x → IsPathRow new n x → after ≡ before ++ n ∷ []
    → GetsRows new (take (i + 1) paths) start after
gets_more old new paths i x start before after n got kept within at is more = record {
  numbers = got.numbers ++ n ∷ [];
  behind = more ∙ ap (λ (ws : List ℕ). ws ++ n ∷ []) got.behind ∙ append_assoc start got.numbers (n ∷ []);
  have =
      zip_more (λ (y : Path) (m : ℕ). IsPathRow new m y) paths got.numbers i x n within at
      (kept_paths old new (take i paths) got.numbers kept got.have) is;
}

-- ---- the pool grows

-- a path has five words at most
pub words_of_path : (rows : List (List ℕ)) (row : ℕ) (x : Path) → IsPathRow rows row x → length (path_words x) ≤ 5
words_of_path rows row x is = omega (arith, length-map x.fields number_of, is.few)

pub grows_more : (n : ℕ) (old now new : PoolRows) (words : List ℕ) → GrowsBy n old now → IsInterned now new words → KeepsRoom now new → length words ≤ 5
    → length new.rows ≤ length now.rows + 1 → GrowsBy (n + 1) old new
grows_more n old now new words grows interned room short one = record {
  kept = kept_then old.rows now.rows new.rows grows.kept (kept_interned now new words interned);
  few = omega (arith, grows.few);
  room = record {
    rows_stay = omega (arith, grows.room.rows_stay, room.rows_stay);
    words_stay = omega (arith, grows.room.words_stay, room.words_stay);
  };
  spare = λ rows more spare.
      let before : HasSpare now (rows + 1) (more + 5) = grows.spare (rows + 1) (more + 5) (record {
        rows_fit = omega (arith, spare.rows_fit);
        words_fit = omega (arith, spare.words_fit);
      }) in
      spare_of_interned now new words rows more interned room
      (record { rows_fit = before.rows_fit; words_fit = omega (arith, before.words_fit) });
}

-- there is room for the next path
pub spare_next : (i n : ℕ) (old now : PoolRows) → GrowsBy i old now → i < n → HasSpare old n (5 * n) → HasSpare now 1 5
spare_next i n old now grows l spare = grows.spare 1 5 (record { rows_fit = omega (arith, spare.rows_fit); words_fit = omega (arith, spare.words_fit) })

pub one_more : (old new : PoolRows) (words : List ℕ) → IsInterned old new words → length new.rows ≤ length old.rows + 1
one_more old new words (was_held there same) = omega (arith, ap (λ (p : PoolRows). length p.rows) same)
one_more old new words (is_added absent more) = omega (arith, ap length more, length-append old.rows (words ∷ []))

-- the words have grown by the rows
pub gets_length : (rows : List (List ℕ)) (paths : List Path) (old new : List ℕ) → GetsRows rows paths old new → length new ≡ length old + length paths
gets_length rows paths old new got =
    omega (arith, ap length got.behind, length-append old got.numbers, have_length rows paths got.numbers got.have)

-- once the paths of both sets are rows, a row of seventeen words is spare
pub spare_last : (m n total : ℕ) (old now last : PoolRows) → GrowsBy m old now → GrowsBy n now last → m ≤ 6 → n ≤ 6 → total ≡ 5 + m + n
    → HasSpare old 13 77 → HasSpare last 1 total
spare_last m n total old now last first second few some all spare =
    let middle : HasSpare now (1 + n) (total + 5 * n) =
    first.spare (1 + n) (total + 5 * n) (record { rows_fit = omega (arith, spare.rows_fit); words_fit = omega (arith, spare.words_fit) }) in
    second.spare 1 total middle

-- once those of the first set are rows, those of the second are spare
pub spare_second : (m n : ℕ) (old now : PoolRows) → GrowsBy m old now → m ≤ 6 → n ≤ 6 → HasSpare old 13 77 → HasSpare now n (5 * n)
spare_second m n old now first few some spare =
    first.spare n (5 * n) (record { rows_fit = omega (arith, spare.rows_fit); words_fit = omega (arith, spare.words_fit) })

-- ---- what is left once all are rows

pub spends_tuple : (m n : ℕ) (old now last new : PoolRows) (words : List ℕ) → GrowsBy m old now → GrowsBy n now last → m ≤ 6 → n ≤ 6
    → length words ≡ 5 + m + n → IsInterned last new words → KeepsRoom last new → SpendsAtMost 13 77 old new
spends_tuple m n old now last new words first second few some all interned room = record {
  few = omega (arith, first.few, second.few, one_more last new words interned);
  left = λ rows more spare.
      let middle : HasSpare now (rows + 1 + n) (more + length words + 5 * n) =
      first.spare (rows + 1 + n) (more + length words + 5 * n)
      (record { rows_fit = omega (arith, spare.rows_fit); words_fit = omega (arith, spare.words_fit) }) in
      spare_of_interned last new words rows more interned room (second.spare (rows + 1) (more + length words) middle);
}
