-- A set, and a tuple, as they are read from their rows.
use Rattle.std.proofs.Common.{◌≡◌, ℕ, ◌+◌, ◌-◌, ◌<◌, ◌≤◌, nat_eq, Bool, true, false, List, ◌++◌, length, take, drop, get_or, Some, refl, sym, ◌∙◌, ap, subst, arith}
use Rattle.std.specs.List.{slice_get}
use Rattle.std.proofs.Math.Seq.{drop-append_seam, take-append_seam}
use Rattle.std.proofs.lemmas.List.{length-append, length-drop, length-take, take_all}
use Rattle.std.proofs.lemmas.Option.{slice_get-get_or}
use Rattle.list_laws.proofs.Places.{front_more}
use Rattle.list_laws.proofs.Zips.{zip_back}
use Rattle.access_paths.specs.Paths.{Path, path_set, with_path}
use Rattle.access_paths.specs.Sets.{IsPathSet}
use Rattle.access_paths.proofs.SetMembers.{front_ordered, path_set_push, path_set_same}
use Rattle.stage_facts.specs.Facts.{Tuple}
use Rattle.fact_rows.specs.PathRows.{IsPathRow}
use Rattle.fact_rows.specs.FactRows.{AreTupleWords, SetHasRows, word_of}
use Rattle.fact_rows.proofs.Growing.{have_length}

-- ---- a set

-- the path whose row is named at a place
pub path_at : (rows : List (List ℕ)) (set : List Path) (numbers : List ℕ) (i : ℕ) → SetHasRows rows set numbers → i < length numbers
    → (x : Path) × (slice_get set i ≡ Some x) × IsPathRow rows (get_or numbers i 0) x
path_at rows set numbers i has within =
    zip_back (λ (x : Path) (n : ℕ). IsPathRow rows n x) set numbers i (get_or numbers i 0) has.have (slice_get-get_or numbers i 0 within)

-- the paths of a set come back in their order
pub add_next : (set : List Path) (i : ℕ) (x : Path) → IsPathSet set → slice_get set i ≡ Some x → take 6 (with_path x (take i set)) ≡ take (i + 1) set
add_next set i x is at =
    let before : path_set (take i set) ≡ take i set = path_set_same (take i set) (front_ordered i set is.ordered) in
    let next : with_path x (take i set) ≡ take (i + 1) set =
    ap (with_path x) (sym before) ∙ sym (path_set_push (take i set) x) ∙ ap path_set (sym (front_more set i x at))
    ∙ path_set_same (take (i + 1) set) (front_ordered (i + 1) set is.ordered) in
    ap (take 6) next ∙ take_all 6 (take (i + 1) set) (omega (arith, length-take (i + 1) set, is.few))

-- ---- a tuple

-- the rows of all paths stand behind the first five words
pub rows_behind : (rows : List (List ℕ)) (words : List ℕ) (t : Tuple) (are : AreTupleWords rows words t)
    → take (length words - 5) (drop 5 words) ≡ are.must_rows ++ are.must_not_rows
rows_behind rows words t are = take_all (length words - 5) (drop 5 words) (omega (arith, length-drop 5 words)) ∙ ap (drop 5) are.words_are

-- the fifth word counts those of the must paths
pub must_count : (rows : List (List ℕ)) (words : List ℕ) (t : Tuple) (are : AreTupleWords rows words t) → get_or words 4 0 ≡ length are.must_rows
must_count rows words t are = ap (λ (ws : List ℕ). get_or ws 4 0) are.words_are ∙ sym (have_length rows t.must are.must_rows are.must.have)

pub must_within : (rows : List (List ℕ)) (words : List ℕ) (t : Tuple) → AreTupleWords rows words t
    → get_or words 4 0 ≤ length (take (length words - 5) (drop 5 words))
must_within rows words t are =
    omega (arith, must_count rows words t are, ap length (rows_behind rows words t are), length-append are.must_rows are.must_not_rows)

-- so the set of must paths has the rows before the cut, and that of must-not paths those behind it
pub must_part : (rows : List (List ℕ)) (words part : List ℕ) (t : Tuple) → AreTupleWords rows words t
    → part ≡ take (get_or words 4 0) (take (length words - 5) (drop 5 words)) → SetHasRows rows t.must part
must_part rows words part t are is =
    let same : part ≡ are.must_rows =
    is ∙ ap (λ (n : ℕ). take n (take (length words - 5) (drop 5 words))) (must_count rows words t are)
    ∙ ap (take (length are.must_rows)) (rows_behind rows words t are) ∙ take-append_seam are.must_rows are.must_not_rows in
    subst (SetHasRows rows t.must) (sym same) are.must

pub must_not_part : (rows : List (List ℕ)) (words part : List ℕ) (t : Tuple) → AreTupleWords rows words t
    → part ≡ drop (get_or words 4 0) (take (length words - 5) (drop 5 words)) → SetHasRows rows t.must_not part
must_not_part rows words part t are is =
    let same : part ≡ are.must_not_rows =
    is ∙ ap (λ (n : ℕ). drop n (take (length words - 5) (drop 5 words))) (must_count rows words t are)
    ∙ ap (drop (length are.must_rows)) (rows_behind rows words t are) ∙ drop-append_seam are.must_rows are.must_not_rows in
    subst (SetHasRows rows t.must_not) (sym same) are.must_not

-- a word says yes or no
pub word_tells : (b : Bool) → nat_eq (word_of b) 1 ≡ b
word_tells true = refl
word_tells false = refl

pub unique_is : (rows : List (List ℕ)) (words : List ℕ) (t : Tuple) → AreTupleWords rows words t → nat_eq (get_or words 1 0) 1 ≡ t.unique
unique_is rows words t are = ap (λ (ws : List ℕ). nat_eq (get_or ws 1 0) 1) are.words_are ∙ word_tells t.unique

pub state_is : (rows : List (List ℕ)) (words : List ℕ) (t : Tuple) → AreTupleWords rows words t → get_or words 2 0 ≡ t.state
state_is rows words t are = ap (λ (ws : List ℕ). get_or ws 2 0) are.words_are

pub may_is : (rows : List (List ℕ)) (words : List ℕ) (t : Tuple) → AreTupleWords rows words t → nat_eq (get_or words 3 0) 1 ≡ t.may
may_is rows words t are = ap (λ (ws : List ℕ). nat_eq (get_or ws 3 0) 1) are.words_are ∙ word_tells t.may
