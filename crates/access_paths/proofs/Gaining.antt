-- What a set gains from its paths, one after another.
use Rattle.std.proofs.Common.{◌≡◌, ℕ, suc, nat_le, Bool, true, false, cond, not, ◌&&◌, ◌||◌, List, [], ◌∷◌, ◌++◌, length, map, min, refl, sym, ◌∙◌, ap, arith, append-nil, append_assoc, Option, Some, None}
use Rattle.std.specs.List.{cons_option, filter, filter_map, flat_map, list_any}
use Rattle.std.proofs.lemmas.Bool.Decides.{nat_tests}
use Rattle.std.proofs.lemmas.List.Elements.{filter_map-append}
use Rattle.jvm_model.specs.declared.number.FieldNo.{FieldNo}
use Rattle.access_paths.specs.declared.root.Root.{Root}
use Rattle.access_paths.specs.declared.gain.Gain.TheVariants.{Copied, Stored, Loaded}
use Rattle.access_paths.specs.Paths.{Path, path_set}
use Rattle.access_paths.specs.Operations.{begins_at, behind, copies, cut_of, has_long_store, is_short, loaded_fields, loads, same_field, short_stores, with_root}
use Rattle.access_paths.specs.Gains.{gained, is_long_store, rest_behind, with_gain}
use Rattle.access_paths.proofs.Cuts.{cut-with}
use Rattle.access_paths.proofs.SetMembers.{path_set_push}

-- ---- one path after another

-- a cut that takes in what one more path adds
pub gain-push : (gain : Path → Option Path) (set front : List Path) (x : Path)
    → with_gain (cut_of (path_set (set ++ filter_map gain front))) (gain x) ≡ cut_of (path_set (set ++ filter_map gain (front ++ x ∷ [])))
gain-push gain set front x = by (gain x) ∙ ap (λ (ys : List Path). cut_of (path_set (set ++ ys))) (sym (filter_map-append gain front (x ∷ [])))
  where
    by : (o : Option Path) → with_gain (cut_of (path_set (set ++ filter_map gain front))) o ≡ cut_of (path_set (set ++ (filter_map gain front ++ cons_option o [])))
    by None = ap (λ (ys : List Path). cut_of (path_set (set ++ ys))) (sym (append-nil (filter_map gain front)))
    by (Some y) =
        cut-with y (path_set (set ++ filter_map gain front)) ∙ ap cut_of (sym (path_set_push (set ++ filter_map gain front) y))
        ∙ ap (λ (ys : List Path). cut_of (path_set ys)) (append_assoc set (filter_map gain front) (y ∷ []))

-- ---- what is gained in all

pub gained_copies : (source target : Root) (set : List Path) → filter_map (gained (Copied source target)) set ≡ copies source target set
gained_copies source target [] = refl
gained_copies source target (x ∷ xs) = by (begins_at source x) (gained_copies source target xs)
  where
    by : (a : Bool) → filter_map (gained (Copied source target)) xs ≡ copies source target xs
        → cons_option (cond a (Some (with_root target x)) None) (filter_map (gained (Copied source target)) xs)
        ≡ map (with_root target) (cond a (x ∷ filter (begins_at source) xs) (filter (begins_at source) xs))
    by true rest = ap (λ (ys : List Path). with_root target x ∷ ys) rest
    by false rest = rest

-- what one path of the object gives
loaded_one : (f : FieldNo) (target : Root) (fs : List FieldNo) (ys : List Path) → cons_option (rest_behind f target fs) ys ≡ loaded_fields f target fs ++ ys
loaded_one f target [] ys = refl
loaded_one f target (g ∷ rest) ys = by (same_field f g)
  where
    by : (a : Bool) → cons_option (cond a (Some (record { root = target; fields = rest })) None) ys ≡ cond a (record { root = target; fields = rest } ∷ []) [] ++ ys
    by true = refl
    by false = refl

pub gained_loads : (object : Root) (f : FieldNo) (target : Root) (set : List Path) → filter_map (gained (Loaded object f target)) set ≡ loads object f target set
gained_loads object f target [] = refl
gained_loads object f target (x ∷ xs) = by (begins_at object x) (gained_loads object f target xs)
  where
    by : (a : Bool) → filter_map (gained (Loaded object f target)) xs ≡ loads object f target xs
        → cons_option (cond a (rest_behind f target x.fields) None) (filter_map (gained (Loaded object f target)) xs)
        ≡ flat_map (λ (y : Path). loaded_fields f target y.fields) (cond a (x ∷ filter (begins_at object) xs) (filter (begins_at object) xs))
    by true rest =
        loaded_one f target x.fields (filter_map (gained (Loaded object f target)) xs)
        ∙ ap (λ (ys : List Path). loaded_fields f target x.fields ++ ys) rest
    by false rest = rest

pub gained_stores : (source object : Root) (f : FieldNo) (depth : ℕ) (set : List Path)
    → filter_map (gained (Stored source object f depth)) set ≡ short_stores source object f depth set
gained_stores source object f depth [] = refl
gained_stores source object f depth (x ∷ xs) = by (begins_at source x) (gained_stores source object f depth xs)
  where
    first : (b : Bool) → filter_map (gained (Stored source object f depth)) xs ≡ short_stores source object f depth xs
        → cons_option (cond b (Some (behind object f x)) None) (filter_map (gained (Stored source object f depth)) xs)
        ≡ cond b (behind object f x ∷ short_stores source object f depth xs) (short_stores source object f depth xs)
    first true rest = ap (λ (ys : List Path). behind object f x ∷ ys) rest
    first false rest = rest

    by : (a : Bool) → filter_map (gained (Stored source object f depth)) xs ≡ short_stores source object f depth xs
        → cons_option (cond (a && is_short depth (behind object f x)) (Some (behind object f x)) None) (filter_map (gained (Stored source object f depth)) xs)
        ≡ filter (is_short depth) (map (behind object f) (cond a (x ∷ filter (begins_at source) xs) (filter (begins_at source) xs)))
    by true rest = first (is_short depth (behind object f x)) rest
    by false rest = rest

-- ---- paths that would be too long

pub long_stores : (source object : Root) (f : FieldNo) (depth : ℕ) (set : List Path)
    → list_any (is_long_store source depth) set ≡ has_long_store source object f depth set
long_stores source object f depth [] = refl
long_stores source object f depth (x ∷ xs) = by (begins_at source x) (long_stores source object f depth xs)
  where
    too_long : (n m : ℕ) → nat_le m n ≡ not (nat_le (suc n) m)
    too_long n m = grind (arith, nat_tests)

    by : (a : Bool) → list_any (is_long_store source depth) xs ≡ has_long_store source object f depth xs
        → ((a && nat_le (min depth 3) (length x.fields)) || list_any (is_long_store source depth) xs)
        ≡ list_any (λ (y : Path). not (is_short depth y)) (map (behind object f) (cond a (x ∷ filter (begins_at source) xs) (filter (begins_at source) xs)))
    by true rest = λ i. too_long (length x.fields) (min depth 3) i || rest i
    by false rest = rest
