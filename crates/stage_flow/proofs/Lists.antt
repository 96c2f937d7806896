-- Lists that are mapped and filtered, as what each element gives; and tests of them.
use Rattle.std.proofs.Common.{◌≡◌, ℕ, ◌≤◌, Bool, true, false, cond, not, ◌||◌, List, [], ◌∷◌, ◌++◌, length, map, take, refl, ◌∙◌, ap, subst, append-nil, if◌then◌else◌}
use Rattle.std.specs.List.{filter, flat_map, list_any}
use Rattle.std.proofs.lemmas.Grind.{flat_map-append}
use Rattle.std.proofs.lemmas.List.{take_all}
use Rattle.std.proofs.lemmas.List.Folds.{list_any-append}
use Rattle.op_model.specs.declared.op.Move.{Move}
use Rattle.op_model.specs.declared.op.Source.{Source}
use Rattle.op_model.specs.declared.op.Source.TheVariants as sources
use Rattle.access_paths.specs.declared.root.Root.{Root}
use Rattle.access_paths.specs.declared.root.Root.TheVariants.{Slot}
use Rattle.access_paths.specs.Paths.{Path}
use Rattle.stage_transfer.specs.Changes.{Copy, begins_at, copied, with_root}
use Rattle.stage_transfer.specs.Operations.{copies_of}
use Rattle.stage_flow.specs.Shapes.{copied_path, moved_paths, paths_of_source, root_copy}

-- ---- what each element gives

pub map_filtered : {X Y : Type 0} (f : X → Y) (p : X → Bool) (xs : List X) → map f (filter p xs) ≡ flat_map (λ x. if p x then f x ∷ [] else []) xs
map_filtered f p [] = refl
map_filtered {Y = Y} f p (x ∷ xs) = by (p x) (map_filtered f p xs)
  where
    by : (b : Bool) → map f (filter p xs) ≡ flat_map (λ y. if p y then f y ∷ [] else []) xs
        → map f (cond b (x ∷ filter p xs) (filter p xs)) ≡ (if b then f x ∷ [] else []) ++ flat_map (λ y. if p y then f y ∷ [] else []) xs
    by true rest = ap (λ (ys : List Y). f x ∷ ys) rest
    by false rest = rest

pub flat_filtered : {X Y : Type 0} (f : X → List Y) (p : X → Bool) (xs : List X) → flat_map f (filter p xs) ≡ flat_map (λ x. if p x then f x else []) xs
flat_filtered f p [] = refl
flat_filtered {Y = Y} f p (x ∷ xs) = by (p x) (flat_filtered f p xs)
  where
    by : (b : Bool) → flat_map f (filter p xs) ≡ flat_map (λ y. if p y then f y else []) xs
        → flat_map f (cond b (x ∷ filter p xs) (filter p xs)) ≡ (if b then f x else []) ++ flat_map (λ y. if p y then f y else []) xs
    by true rest = ap (λ (ys : List Y). f x ++ ys) rest
    by false rest = rest

pub left_filtered : {X : Type 0} (p : X → Bool) (xs : List X) → filter (λ x. not (p x)) xs ≡ flat_map (λ x. if p x then [] else x ∷ []) xs
left_filtered p [] = refl
left_filtered {X = X} p (x ∷ xs) = by (p x) (left_filtered p xs)
  where
    by : (b : Bool) → filter (λ y. not (p y)) xs ≡ flat_map (λ y. if p y then [] else y ∷ []) xs
        → cond (not b) (x ∷ filter (λ y. not (p y)) xs) (filter (λ y. not (p y)) xs) ≡ (if b then [] else x ∷ []) ++ flat_map (λ y. if p y then [] else y ∷ []) xs
    by true rest = rest
    by false rest = ap (λ (ys : List X). x ∷ ys) rest

-- ---- copies

pub copied_each : (from to : Root) (set : List Path) → copied (root_copy from to ∷ []) set ≡ flat_map (copied_path from to) set
copied_each from to set = append-nil (map (with_root to) (filter (begins_at from) set)) ∙ map_filtered (with_root to) (begins_at from) set

of_each : List Path → Copy → List Path
of_each set c = map (with_root c.to) (filter (begins_at c.from) set)

source_copied : (set : List Path) (s : Source) (to : ℕ) → copied (copies_of s to) set ≡ paths_of_source set s to
source_copied set (sources.Slot y) to = copied_each (Slot y) (Slot to) set
source_copied set sources.Null to = refl
source_copied set sources.Primitive to = refl

pub moves_copied : (set : List Path) (moves : List Move) → copied (flat_map (λ (m : Move). copies_of m.source m.target) moves) set ≡ flat_map (moved_paths set) moves
moves_copied set [] = refl
moves_copied set (m ∷ moves) =
    flat_map-append (λ (c : Copy). map (with_root c.to) (filter (begins_at c.from) set)) (copies_of m.source m.target)
    (flat_map (λ (k : Move). copies_of k.source k.target) moves)
    ∙ (λ i. source_copied set m.source m.target i ++ moves_copied set moves i)

-- ---- tests

pub any_map : {X Y : Type 0} (p : Y → Bool) (f : X → Y) (xs : List X) → list_any p (map f xs) ≡ list_any (λ x. p (f x)) xs
any_map p f [] = refl
any_map p f (x ∷ xs) = ap (λ (b : Bool). p (f x) || b) (any_map p f xs)

pub any_flat_map : {X Y : Type 0} (p : Y → Bool) (f : X → List Y) (xs : List X) → list_any p (flat_map f xs) ≡ list_any (λ x. list_any p (f x)) xs
any_flat_map p f [] = refl
any_flat_map p f (x ∷ xs) = list_any-append p (f x) (flat_map f xs) ∙ ap (λ (b : Bool). list_any p (f x) || b) (any_flat_map p f xs)

pub none_in_all : {X : Type 0} (p : X → Bool) (xs : List X) (i : ℕ) → length xs ≤ i → list_any p (take i xs) ≡ false → list_any p xs ≡ false
none_in_all {X} p xs i past none = subst (λ (ys : List X). list_any p ys ≡ false) (take_all i xs past) none

-- What passes the one test passes the other one.
pub any_alike : {X : Type 0} (p q : X → Bool) (xs : List X) → ((x : X) → p x ≡ q x) → list_any p xs ≡ list_any q xs
any_alike p q [] each = refl
any_alike p q (x ∷ xs) each = λ i. each x i || any_alike p q xs each i
