-- The fact of a row is the fact whose row it is.
use Rattle.std.proofs.Common.{◌≡◌, ℕ, List, [], ◌∷◌, ◌++◌, length, map, take, drop, get_or, nat_eq, if◌then◌else◌, refl, sym, ◌∙◌, ap}
use Rattle.std.proofs.Math.Seq.{drop-append_seam, take-append_seam}
use Rattle.std.proofs.lemmas.Option.{get_or_from_slice_get}
use Rattle.jvm_model.specs.declared.number.FieldNo.{FieldNo}
use Rattle.access_paths.specs.declared.root.Root.{Root}
use Rattle.access_paths.specs.declared.root.Root.TheVariants.{Slot, Static, Returned, Thrown}
use Rattle.access_paths.specs.Paths.{Path, number_of}
use Rattle.stage_facts.specs.Facts.{SiteFact, Tuple, none_yet, some_yet, of_object}
use Rattle.fact_rows.specs.PathRows.{IsPathRow, kind_of, path_words, root_number}
use Rattle.fact_rows.specs.FactRows.{AreFactWords, AreTupleWords, HaveRows, IsFactRow, first_words}
use Rattle.fact_rows.proofs.Growing.{have_length}
use Rattle.fact_rows.proofs.Reading.{word_tells}
use Rattle.end_numbers.specs.RowFacts.{fact_from, field_from, path_from, root_from, row_fact, row_path, tuple_from}

-- ---- paths

root_back : (r : Root) → root_from (kind_of r) (root_number r) ≡ r
root_back (Slot z) = refl
root_back (Static f) = refl
root_back Returned = refl
root_back Thrown = refl

fields_back : (fields : List FieldNo) → map field_from (map number_of fields) ≡ fields
fields_back [] = refl
fields_back (f ∷ fields) = ap (λ (fs : List FieldNo). f ∷ fs) (fields_back fields)

path_back : (x : Path) → path_from (path_words x) ≡ x
path_back x = λ i. record { root = root_back x.root i; fields = fields_back x.fields i }

path_is : (rows : List (List ℕ)) (row : ℕ) (x : Path) → IsPathRow rows row x → row_path rows row ≡ x
path_is rows row x is = ap path_from (get_or_from_slice_get rows row (path_words x) [] is.words) ∙ path_back x

paths_are : (rows : List (List ℕ)) (paths : List Path) (numbers : List ℕ) → HaveRows rows paths numbers → map (row_path rows) numbers ≡ paths
paths_are rows [] [] have = refl
paths_are rows [] (n ∷ numbers) have = absurd have
paths_are rows (x ∷ paths) [] have = absurd have
paths_are rows (x ∷ paths) (n ∷ numbers) have =
    let head = path_is rows n x have.0 in
    let tail = paths_are rows paths numbers have.1 in
    (λ i. head i ∷ tail i)

-- ---- facts

tuple_is : (rows : List (List ℕ)) (words : List ℕ) (t : Tuple) → AreTupleWords rows words t → tuple_from rows words ≡ t
unfolding tuple_from
tuple_is rows words t are =
    let ms = are.must_rows in
    let ns = are.must_not_rows in
    let count : length t.must ≡ length ms = sym (have_length rows t.must ms are.must.have) in
    let must : map (row_path rows) (take (length t.must) (ms ++ ns)) ≡ t.must =
    ap (λ (n : ℕ). map (row_path rows) (take n (ms ++ ns))) count ∙ ap (map (row_path rows)) (take-append_seam ms ns)
    ∙ paths_are rows t.must ms are.must.have in
    let must_not : map (row_path rows) (drop (length t.must) (ms ++ ns)) ≡ t.must_not =
    ap (λ (n : ℕ). map (row_path rows) (drop n (ms ++ ns))) count ∙ ap (map (row_path rows)) (drop-append_seam ms ns)
    ∙ paths_are rows t.must_not ns are.must_not.have in
    let unique = word_tells t.unique in
    let may = word_tells t.may in
    let whole : tuple_from rows (first_words t ++ ms ++ ns) ≡ t =
    (λ i. record { unique = unique i; state = t.state; must = must i; may = may i; must_not = must_not i }) in
    ap (tuple_from rows) are.words_are ∙ whole

-- the fact of words whose first one is given
by_kind : (rows : List (List ℕ)) (words : List ℕ) (kind : ℕ) → SiteFact
by_kind rows words kind = if nat_eq kind 4 then none_yet else (if nat_eq kind 5 then some_yet else of_object (tuple_from rows words))

fact_is : (rows : List (List ℕ)) (words : List ℕ) (x : SiteFact) → AreFactWords rows words x → fact_from rows words ≡ x
unfolding by_kind
fact_is rows words none_yet are = ap (fact_from rows) are
fact_is rows words some_yet are = ap (fact_from rows) are
fact_is rows words (of_object t) are =
    let kind : get_or words 0 0 ≡ 6 = ap (λ (ws : List ℕ). get_or ws 0 0) are.words_are in
    ap (by_kind rows words) kind ∙ ap of_object (tuple_is rows words t are)

pub row_fact_is : (rows : List (List ℕ)) (row : ℕ) (x : SiteFact) → IsFactRow rows row x → row_fact rows row ≡ x
unfolding row_fact
row_fact_is rows row x is = ap (fact_from rows) (get_or_from_slice_get rows row is.words [] is.stands) ∙ fact_is rows is.words x is.are
