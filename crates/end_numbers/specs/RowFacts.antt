-- Proofs of this crate alone rest on this module.
-- The fact of a row: what the words of the row, and those of the rows that it names, stand for. Any row has one, so that ends are a function of
-- their keys; it is the right one where the row is that of a fact.
use Rattle.std.specs.Prelude.{ℕ, zero, suc, List, [], drop, take, map, get_or, nat_eq, if◌then◌else◌}
use Rattle.jvm_model.specs.declared.number.FieldNo.{FieldNo}
use Rattle.access_paths.specs.declared.root.Root.{Root}
use Rattle.access_paths.specs.declared.root.Root.TheVariants.{Slot, Static, Returned, Thrown}
use Rattle.access_paths.specs.Paths.{Path}
use Rattle.stage_facts.specs.Facts.{SiteFact, Tuple, none_yet, some_yet, of_object}

-- The words of a row.
abbrev pub row_words : (rows : List (List ℕ)) → ℕ → List ℕ
row_words rows row = get_or rows row []

-- The root of a kind with a number.
abbrev pub root_from : (kind number : ℕ) → Root
root_from zero n = Slot n
root_from (suc zero) n = Static (record { 0 = n })
root_from (suc (suc zero)) n = Returned
root_from (suc (suc (suc k))) n = Thrown

-- The field of a number.
abbrev pub field_from : ℕ → FieldNo
field_from n = record { 0 = n }

-- The path of these words: the kind and the number of its root, and the numbers of its fields.
abbrev pub path_from : List ℕ → Path
path_from words = record { root = root_from (get_or words 0 0) (get_or words 1 0); fields = map field_from (drop 2 words) }

-- The path of a row.
abbrev pub row_path : (rows : List (List ℕ)) → ℕ → Path
row_path rows row = path_from (row_words rows row)

-- The tuple of these words: behind its parts stands how many rows of must paths follow, and then those of its must-not paths.
unfoldable pub tuple_from : (rows : List (List ℕ)) → List ℕ → Tuple
tuple_from rows words = record {
  unique = nat_eq (get_or words 1 0) 1;
  state = get_or words 2 0;
  must = map (row_path rows) (take (get_or words 4 0) (drop 5 words));
  may = nat_eq (get_or words 3 0) 1;
  must_not = map (row_path rows) (drop (get_or words 4 0) (drop 5 words));
}

-- The fact of these words: the first one says what kind of fact it is.
abbrev pub fact_from : (rows : List (List ℕ)) → List ℕ → SiteFact
fact_from rows words = if nat_eq (get_or words 0 0) 4 then none_yet else (if nat_eq (get_or words 0 0) 5 then some_yet else of_object (tuple_from rows words))

-- The fact of a row.
unfoldable pub row_fact : (rows : List (List ℕ)) → ℕ → SiteFact
row_fact rows row = fact_from rows (row_words rows row)
