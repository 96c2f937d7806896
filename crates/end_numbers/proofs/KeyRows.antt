-- Keys that are rows of a pool: a key is told by its words.
use Rattle.std.proofs.Common.{◌≡◌, ◌∙◌, ℕ, List, [], ◌∷◌, ◌++◌, length, Option, None, Some, refl, sym, ap, subst, inl, inr}
use Rattle.std.specs.List.{slice_get, Contains}
use Rattle.std.proofs.lemmas.List.{length-map, map_push}
use Rattle.std.proofs.lemmas.Option.{none-some}
use Rattle.list_laws.proofs.Places.{at_map, contains_at, map_at, push_cases}
use Rattle.jvm_model.specs.declared.number.MethodNo.{MethodNo}
use Rattle.op_model.specs.declared.node.Spot.{Spot}
use Rattle.op_model.specs.declared.node.Spot.TheVariants.{Node, Returned, Thrown}
use Rattle.least_sets.specs.Rules.{IsWithoutDoubles}
use Rattle.fact_pool.specs.Rows.{AreDistinct}
use Rattle.end_numbers.specs.declared.key.EndKey.{EndKey}
use Rattle.end_numbers.specs.KeyRows.{AreKeyRows, key_words, keys_from, row_key}

-- the key of the words of a key
key_with : (method : Option MethodNo) (spot : Spot) (fact : ℕ) → row_key (key_words (record { method = method; spot = spot; fact = fact })) ≡ record { method = method; spot = spot; fact = fact }
key_with None (Node offset) fact = refl
key_with None Returned fact = refl
key_with None Thrown fact = refl
key_with (Some m) (Node offset) fact = refl
key_with (Some m) Returned fact = refl
key_with (Some m) Thrown fact = refl

pub key_back : (key : EndKey) → row_key (key_words key) ≡ key
key_back key = key_with key.method key.spot key.fact

-- ---- keys by number

pub length-keys : (rows : List (List ℕ)) → length (keys_from rows) ≡ length rows
unfolding keys_from
length-keys rows = length-map rows row_key

pub key_of_row : (rows : List (List ℕ)) (k : ℕ) (row : List ℕ) → slice_get rows k ≡ Some row → slice_get (keys_from rows) k ≡ Some (row_key row)
unfolding keys_from
key_of_row rows k row at = at_map row_key rows k row at

pub key_of_words : (rows : List (List ℕ)) (k : ℕ) (key : EndKey) → slice_get rows k ≡ Some (key_words key) → slice_get (keys_from rows) k ≡ Some key
key_of_words rows k key at = key_of_row rows k (key_words key) at ∙ ap (λ (x : EndKey). Some x) (key_back key)

pub row_length : (rows : List (List ℕ)) → AreKeyRows rows → (k : ℕ) (row : List ℕ) → slice_get rows k ≡ Some row → length row ≡ 4
row_length rows are k row at = ap (λ (words : List ℕ). length words) (are.each k row at)

pub words_of_key : (rows : List (List ℕ)) → AreKeyRows rows → (k : ℕ) (key : EndKey) → slice_get (keys_from rows) k ≡ Some key → slice_get rows k ≡ Some (key_words key)
unfolding keys_from
words_of_key rows are k key at =
    let (row, stands, is) = map_at row_key rows k key at in
    stands ∙ ap (λ (words : List ℕ). Some words) (are.each k row stands ∙ ap key_words is)

-- rows that differ are keys that differ
pub keys_apart : (rows : List (List ℕ)) → AreKeyRows rows → AreDistinct rows → IsWithoutDoubles (keys_from rows)
keys_apart rows are distinct key i j at_i at_j = distinct.one_place i j (key_words key) (words_of_key rows are i key at_i) (words_of_key rows are j key at_j)

-- ---- a key more

pub row_there : (rows : List (List ℕ)) → AreKeyRows rows → (key : EndKey) (k : ℕ) → slice_get (keys_from rows) k ≡ Some key → Contains rows (key_words key)
row_there rows are key k at = contains_at rows k (key_words key) (words_of_key rows are k key at)

pub keys_pushed : (rows : List (List ℕ)) (key : EndKey) → keys_from (rows ++ key_words key ∷ []) ≡ keys_from rows ++ key ∷ []
unfolding keys_from
keys_pushed rows key = map_push row_key rows (key_words key) ∙ ap (λ (x : EndKey). keys_from rows ++ x ∷ []) (key_back key)

pub rows_pushed : (rows : List (List ℕ)) (key : EndKey) → AreKeyRows rows → AreKeyRows (rows ++ key_words key ∷ [])
rows_pushed rows key are = record {
  each = λ k row at. elim (push_cases rows (key_words key) k row at) [
    | inl stood ↦ are.each k row stood
    | inr last ↦ subst (λ (words : List ℕ). words ≡ key_words (row_key words)) (sym last.1) (ap key_words (sym (key_back key)))
  ];
}

pub no_rows : AreKeyRows []
no_rows = record { each = λ k row at. absurd (none-some row at) }
