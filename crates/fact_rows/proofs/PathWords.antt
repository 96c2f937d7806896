-- A path is told by its words.
use Rattle.std.proofs.Common.{◌≡◌, ℕ, zero, suc, ◌≤◌, List, [], ◌∷◌, length, map, drop, get_or, refl, sym, ◌∙◌, ap, arith}
use Rattle.jvm_model.specs.declared.number.FieldNo.{FieldNo}
use Rattle.access_paths.specs.declared.root.Root.{Root}
use Rattle.access_paths.specs.declared.root.Root.TheVariants.{Slot, Static, Returned, Thrown}
use Rattle.access_paths.specs.Followed.{first_three, listed}
use Rattle.access_paths.specs.Paths.{Path, number_of}
use Rattle.fact_rows.specs.PathRows.{kind_of, path_words, root_number}

-- three fields at most are those that are listed
pub listed-first_three : (fields : List FieldNo) → length fields ≤ 3 → listed (first_three fields) ≡ fields
listed-first_three [] few = refl
listed-first_three (f ∷ []) few = refl
listed-first_three (f ∷ g ∷ []) few = refl
listed-first_three (f ∷ g ∷ h ∷ []) few = refl
listed-first_three (f ∷ g ∷ h ∷ i ∷ rest) few = absurd (omega arith)

-- ---- the path of words

root_from : ℕ → ℕ → Root
root_from zero n = Slot n
root_from (suc zero) n = Static (record { 0 = n })
root_from (suc (suc zero)) n = Returned
root_from (suc (suc (suc k))) n = Thrown

root_back : (r : Root) → root_from (kind_of r) (root_number r) ≡ r
unfolding root_from
root_back (Slot z) = refl
root_back (Static f) = refl
root_back Returned = refl
root_back Thrown = refl

fields_from : List ℕ → List FieldNo
fields_from [] = []
fields_from (n ∷ ns) = record { 0 = n } ∷ fields_from ns

fields_back : (fields : List FieldNo) → fields_from (map number_of fields) ≡ fields
unfolding fields_from
fields_back [] = refl
fields_back (f ∷ fields) = ap (λ (fs : List FieldNo). f ∷ fs) (fields_back fields)

path_from : List ℕ → Path
path_from words = record { root = root_from (get_or words 0 0) (get_or words 1 0); fields = fields_from (drop 2 words) }

path_back : (x : Path) → path_from (path_words x) ≡ x
unfolding path_from
path_back x = λ i. record { root = root_back x.root i; fields = fields_back x.fields i }

-- two paths with the same words are one
pub one_path : (x y : Path) → path_words x ≡ path_words y → x ≡ y
one_path x y same = sym (path_back x) ∙ ap path_from same ∙ path_back y
