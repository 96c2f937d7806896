-- What was gathered in a loop.
use Rattle.std.proofs.Common.{◌≡◌, ℕ, ◌≤◌, ◌<◌, ◌+◌, Bool, true, false, refl, if◌then◌else◌, List, [], ◌∷◌, ◌++◌, length, take, get_or, sym, ◌∙◌, ap, subst, append-nil}
use Rattle.std.specs.List.{flat_map, list_any, range_with_len}
use Rattle.std.proofs.lemmas.Bool.{false≢true, or_parts}
use Rattle.std.proofs.lemmas.List.{flat_map_more, take_all, take_more}
use Rattle.access_paths.specs.Paths.{Path}
use Rattle.stage_views.specs.declared.gathering.Gathering.{Gathering}
use Rattle.stage_views.specs.Views.{Gathers}

-- Before a loop, some paths are gathered; at each step, what the elements so far give.
pub record AreGathered {X : Type 0} (f : X → List Path) (xs : List X) (before after : Gathering) : Type 0 where
  pub each : (paths : List Path) → Gathers before paths → Gathers after (paths ++ flat_map f xs)

pub none_gathered : {X : Type 0} (f : X → List Path) (g : Gathering) → AreGathered f [] g g
none_gathered f g = record { each = λ paths gathers. subst (Gathers g) (sym (append-nil paths)) gathers }

pub more_gathered : {X : Type 0} (f : X → List Path) (xs : List X) (i : ℕ) (x : X) (before old new : Gathering) → i < length xs → x ≡ get_or xs i x
    → AreGathered f (take i xs) before old → ((paths : List Path) → Gathers old paths → Gathers new (paths ++ f x))
    → AreGathered f (take (i + 1) xs) before new
more_gathered {X} f xs i x before old new inside is so_far step = record {
  each = λ paths gathers.
      subst (Gathers new)
      (flat_map_more f paths (take i xs) x
      ∙ ap (λ (ys : List X). paths ++ flat_map f ys)
      (ap (λ (y : X). take i xs ++ y ∷ []) is ∙ sym (take_more xs i x inside)))
      (step (paths ++ flat_map f (take i xs)) (so_far.each paths gathers));
}

pub all_gathered : {X : Type 0} (f : X → List Path) (xs : List X) (i : ℕ) (before after : Gathering) → length xs ≤ i
    → AreGathered f (take i xs) before after → (paths : List Path) → Gathers before paths → Gathers after (paths ++ flat_map f xs)
all_gathered {X} f xs i before after past so_far paths gathers =
    subst (λ (ys : List X). Gathers after (paths ++ flat_map f ys)) (take_all i xs past) (so_far.each paths gathers)

-- The same over the numbers from 0 on.
pub next_gathered : (f : ℕ → List Path) (k : ℕ) (before old new : Gathering)
    → AreGathered f (range_with_len 0 k) before old → ((paths : List Path) → Gathers old paths → Gathers new (paths ++ f k))
    → AreGathered f (range_with_len 0 k ++ k ∷ []) before new
next_gathered f k before old new so_far step = record {
  each = λ paths gathers.
      subst (Gathers new) (flat_map_more f paths (range_with_len 0 k) k) (step (paths ++ flat_map f (range_with_len 0 k)) (so_far.each paths gathers));
}

-- ---- whole sets

-- Where no path is left out, all are left.
pub none_left_out : {X : Type 0} (p : X → Bool) (xs : List X) → list_any p xs ≡ false → flat_map (λ x. if p x then [] else x ∷ []) xs ≡ xs
none_left_out p [] none = refl
none_left_out {X = X} p (x ∷ xs) none = let parts = or_parts (p x) (list_any p xs) none in by (p x) parts.0 (none_left_out p xs parts.1)
  where
    by : (b : Bool) → b ≡ false → flat_map (λ y. if p y then [] else y ∷ []) xs ≡ xs
        → (if b then [] else x ∷ []) ++ flat_map (λ y. if p y then [] else y ∷ []) xs ≡ x ∷ xs
    by true is rest = absurd (false≢true (sym is))
    by false is rest = ap (λ (ys : List X). x ∷ ys) rest
