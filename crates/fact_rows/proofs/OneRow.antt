-- A row is that of one value, a value has one row, and its row stays.
use Rattle.std.proofs.Common.{◌≡◌, ℕ, List, [], ◌∷◌, ◌++◌, length, take, drop, get_or, ◌-◌, Some, refl, sym, ◌∙◌, ap, subst, arith}
use Rattle.std.proofs.lemmas.Option.{same_Some}
use Rattle.list_laws.proofs.Zips.{zip_unique}
use Rattle.access_paths.specs.Paths.{Path}
use Rattle.fact_pool.specs.Rows.{AreDistinct}
use Rattle.stage_facts.specs.Facts.{SiteFact, Tuple, none_yet, some_yet, of_object}
use Rattle.fact_rows.specs.PathRows.{IsPathRow, KeepsRows, path_words}
use Rattle.fact_rows.specs.FactRows.{AreFactWords, AreTupleWords, HaveRows, IsFactRow, first_words}
use Rattle.fact_rows.proofs.Growing.{kept_at, kept_paths}
use Rattle.fact_rows.proofs.PathWords.{one_path}
use Rattle.fact_rows.proofs.Reading.{may_is, must_not_part, must_part, state_is, unique_is}

-- ---- a row is that of one value

pub path_of_row : (rows : List (List ℕ)) (row : ℕ) (x y : Path) → IsPathRow rows row x → IsPathRow rows row y → x ≡ y
path_of_row rows row x y first second = one_path x y (same_Some _ _ (sym first.words ∙ second.words))

paths_of_rows : (rows : List (List ℕ)) (numbers : List ℕ) (xs ys : List Path) → HaveRows rows xs numbers → HaveRows rows ys numbers → xs ≡ ys
paths_of_rows rows [] [] [] first second = refl
paths_of_rows rows [] [] (y ∷ ys) first second = absurd second
paths_of_rows rows [] (x ∷ xs) ys first second = absurd first
paths_of_rows rows (n ∷ numbers) [] ys first second = absurd first
paths_of_rows rows (n ∷ numbers) (x ∷ xs) [] first second = absurd second
paths_of_rows rows (n ∷ numbers) (x ∷ xs) (y ∷ ys) first second =
    let heads = path_of_row rows n x y first.0 second.0 in
    let tails = paths_of_rows rows numbers xs ys first.1 second.1 in
    (λ i. heads i ∷ tails i)

tuple_of_words : (rows : List (List ℕ)) (words : List ℕ) (t u : Tuple) → AreTupleWords rows words t → AreTupleWords rows words u → t ≡ u
tuple_of_words rows words t u first second =
    let front = take (get_or words 4 0) (take (length words - 5) (drop 5 words)) in
    let back = drop (get_or words 4 0) (take (length words - 5) (drop 5 words)) in
    let unique = sym (unique_is rows words t first) ∙ unique_is rows words u second in
    let state = sym (state_is rows words t first) ∙ state_is rows words u second in
    let may = sym (may_is rows words t first) ∙ may_is rows words u second in
    let must = paths_of_rows rows front t.must u.must (must_part rows words front t first refl).have (must_part rows words front u second refl).have in
    let must_not =
    paths_of_rows rows back t.must_not u.must_not (must_not_part rows words back t first refl).have (must_not_part rows words back u second refl).have in
    λ i. record { unique = unique i; state = state i; must = must i; may = may i; must_not = must_not i }

-- the first word says what kind of fact it is
kind_word : SiteFact → ℕ
kind_word none_yet = 4
kind_word some_yet = 5
kind_word (of_object t) = 6

has_kind : (rows : List (List ℕ)) (words : List ℕ) (x : SiteFact) → AreFactWords rows words x → get_or words 0 0 ≡ kind_word x
unfolding kind_word
has_kind rows words none_yet are = ap (λ (ws : List ℕ). get_or ws 0 0) are
has_kind rows words some_yet are = ap (λ (ws : List ℕ). get_or ws 0 0) are
has_kind rows words (of_object t) are = ap (λ (ws : List ℕ). get_or ws 0 0) are.words_are

fact_of_words : (rows : List (List ℕ)) (words : List ℕ) (x y : SiteFact) → kind_word x ≡ kind_word y → AreFactWords rows words x → AreFactWords rows words y
    → x ≡ y
unfolding kind_word
fact_of_words rows words none_yet none_yet kind first second = refl
fact_of_words rows words none_yet some_yet kind first second = absurd (omega arith)
fact_of_words rows words none_yet (of_object u) kind first second = absurd (omega arith)
fact_of_words rows words some_yet none_yet kind first second = absurd (omega arith)
fact_of_words rows words some_yet some_yet kind first second = refl
fact_of_words rows words some_yet (of_object u) kind first second = absurd (omega arith)
fact_of_words rows words (of_object t) none_yet kind first second = absurd (omega arith)
fact_of_words rows words (of_object t) some_yet kind first second = absurd (omega arith)
fact_of_words rows words (of_object t) (of_object u) kind first second = ap of_object (tuple_of_words rows words t u first second)

pub fact_of_row : (rows : List (List ℕ)) (row : ℕ) (x y : SiteFact) → IsFactRow rows row x → IsFactRow rows row y → x ≡ y
fact_of_row rows row x y first second =
    let same : second.words ≡ first.words = same_Some _ _ (sym second.stands ∙ first.stands) in
    let are : AreFactWords rows first.words y = subst (λ (ws : List ℕ). AreFactWords rows ws y) same second.are in
    fact_of_words rows first.words x y (sym (has_kind rows first.words x first.are) ∙ has_kind rows first.words y are) first.are are

-- ---- a value has one row

pub row_of_path : (rows : List (List ℕ)) → AreDistinct rows → (i j : ℕ) (x : Path) → IsPathRow rows i x → IsPathRow rows j x → i ≡ j
row_of_path rows distinct i j x first second = distinct.one_place i j (path_words x) first.words second.words

rows_of_paths : (rows : List (List ℕ)) → AreDistinct rows → (xs : List Path) (ns ms : List ℕ) → HaveRows rows xs ns → HaveRows rows xs ms → ns ≡ ms
rows_of_paths rows distinct xs ns ms =
    zip_unique (λ (x : Path) (n : ℕ). IsPathRow rows n x) (λ x n m first second. row_of_path rows distinct n m x first second) xs ns ms

words_of_fact : (rows : List (List ℕ)) → AreDistinct rows → (x : SiteFact) (some others : List ℕ) → AreFactWords rows some x → AreFactWords rows others x
    → some ≡ others
words_of_fact rows distinct none_yet some others first second = first ∙ sym second
words_of_fact rows distinct some_yet some others first second = first ∙ sym second
words_of_fact rows distinct (of_object t) some others first second =
    let must = rows_of_paths rows distinct t.must first.must_rows second.must_rows first.must.have second.must.have in
    let must_not = rows_of_paths rows distinct t.must_not first.must_not_rows second.must_not_rows first.must_not.have second.must_not.have in
    let same : first_words t ++ first.must_rows ++ first.must_not_rows ≡ first_words t ++ second.must_rows ++ second.must_not_rows =
    λ i. first_words t ++ must i ++ must_not i in
    first.words_are ∙ same ∙ sym second.words_are

pub row_of_fact : (rows : List (List ℕ)) → AreDistinct rows → (i j : ℕ) (x : SiteFact) → IsFactRow rows i x → IsFactRow rows j x → i ≡ j
row_of_fact rows distinct i j x first second =
    distinct.one_place i j first.words first.stands (second.stands ∙ ap Some (words_of_fact rows distinct x second.words first.words second.are first.are))

-- ---- rows stay

words_stay : (old new : List (List ℕ)) → KeepsRows old new → (words : List ℕ) (x : SiteFact) → AreFactWords old words x → AreFactWords new words x
words_stay old new kept words none_yet are = are
words_stay old new kept words some_yet are = are
words_stay old new kept words (of_object t) are = record {
  must_rows = are.must_rows;
  must_not_rows = are.must_not_rows;
  words_are = are.words_are;
  must = record { is_set = are.must.is_set; have = kept_paths old new t.must are.must_rows kept are.must.have };
  must_not = record { is_set = are.must_not.is_set; have = kept_paths old new t.must_not are.must_not_rows kept are.must_not.have };
  state_fits = are.state_fits;
}

pub fact_stays : (old new : List (List ℕ)) → KeepsRows old new → (row : ℕ) (x : SiteFact) → IsFactRow old row x → IsFactRow new row x
fact_stays old new kept row x is = record {
  words = is.words;
  stands = kept_at old new row is.words kept is.stands;
  are = words_stay old new kept is.words x is.are;
}
