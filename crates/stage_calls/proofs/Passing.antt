-- The units of a call: which slots are passed, and what is copied.
use Rattle.std.proofs.Common.{◌≡◌, ℕ, zero, suc, ◌+◌, ◌<◌, List, [], ◌∷◌, ◌++◌, length, map, take, get_or, Option, sym, ◌∙◌, ap, subst, arith, append-nil, append_assoc}
use Rattle.std.specs.List.{filter}
use Rattle.std.proofs.lemmas.List.Concat.{flat_map-append}
use Rattle.access_paths.specs.Paths.{Path}
use Rattle.stage_transfer.specs.Calls.{passing_from, passing_to}
use Rattle.stage_transfer.specs.Changes.{Copy, begins_at, copied, with_root}
use Rattle.stage_views.specs.declared.gathering.Gathering.{Gathering}
use Rattle.stage_views.specs.Views.{Gathers}

-- one unit more is passed
passing_more : (first : ℕ) (arguments : List (Option ℕ)) (i : ℕ) (d : Option ℕ) → i < length arguments
    → passing_from first (take (suc i) arguments) ≡ passing_from first (take i arguments) ++ passing_to (first + i) (get_or arguments i d)
passing_more first [] i d within = absurd (omega arith)
passing_more first (a ∷ rest) zero d within =
    let number : first ≡ first + 0 = omega arith in
    append-nil (passing_to first a) ∙ ap (λ (n : ℕ). passing_to n a) number
passing_more first (a ∷ rest) (suc i) d within =
    let number : suc first + i ≡ first + suc i = omega arith in
    ap (λ (cs : List Copy). passing_to first a ++ cs)
    (passing_more (suc first) rest i d (omega arith) ∙ ap (λ (n : ℕ). passing_from (suc first) (take i rest) ++ passing_to n (get_or rest i d)) number)
    ∙ sym (append_assoc (passing_to first a) (passing_from (suc first) (take i rest)) (passing_to (first + suc i) (get_or rest i d)))

-- what is copied for it
copied_more : (set : List Path) (arguments : List (Option ℕ)) (i : ℕ) (d : Option ℕ) → i < length arguments
    → copied (passing_from 0 (take (i + 1) arguments)) set ≡ copied (passing_from 0 (take i arguments)) set ++ copied (passing_to i (get_or arguments i d)) set
copied_more set arguments i d within =
    let number : 0 + i ≡ i = omega arith in
    let next : i + 1 ≡ suc i = omega arith in
    ap (λ (n : ℕ). copied (passing_from 0 (take n arguments)) set) next
    ∙ ap (λ (cs : List Copy). copied cs set)
    (passing_more 0 arguments i d within ∙ ap (λ (n : ℕ). passing_from 0 (take i arguments) ++ passing_to n (get_or arguments i d)) number)
    ∙ flat_map-append (λ (c : Copy). map (with_root c.to) (filter (begins_at c.from) set)) (passing_from 0 (take i arguments)) (passing_to i (get_or arguments i d))

pub gathers_passed : (g : Gathering) (before set : List Path) (arguments : List (Option ℕ)) (i : ℕ) (d : Option ℕ) → i < length arguments
    → Gathers g (before ++ copied (passing_from 0 (take i arguments)) set ++ copied (passing_to i (get_or arguments i d)) set)
    → Gathers g (before ++ copied (passing_from 0 (take (i + 1) arguments)) set)
gathers_passed g before set arguments i d within gathers =
    subst (λ (paths : List Path). Gathers g paths)
    (append_assoc before (copied (passing_from 0 (take i arguments)) set) (copied (passing_to i (get_or arguments i d)) set)
    ∙ ap (λ (ys : List Path). before ++ ys) (sym (copied_more set arguments i d within)))
    gathers
