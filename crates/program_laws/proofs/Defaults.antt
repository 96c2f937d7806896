-- Where the own search of a class finds one method, the search with its superinterfaces does.
use Rattle.std.proofs.Common.{◌≡◌, ℕ, ◌≤◌, List, arith}
use Rattle.jvm_model.specs.Lookups.{Signature}
use Rattle.jvm_model.specs.Programs.{Program}
use Rattle.jvm_model.specs.Resolution.{IsOnlyDefault, IsLeastInherited, ResolvesFrom, itself, by_default, by_name}
use Rattle.jvm_model.specs.Selection.{SelectsFrom, upward, by_default as by_only_default}

-- the own search finds at most one method
pub record FindsOne (Own : ℕ → Type 0) : Type 0 where
  pub one : (i j : ℕ) → Own i → Own j → i ≡ j

pub one_default : (p : Program) (class : List ℕ) (s : Signature) (i j : ℕ) → IsOnlyDefault p class s i → IsOnlyDefault p class s j → i ≡ j
one_default p class s i j x y = y.only i x.default

one_least : (p : Program) (class : List ℕ) (s : Signature) (i j : ℕ) → IsLeastInherited p class s i → IsLeastInherited p class s j → i ≡ j
one_least p class s i j x y =
    let low : i ≤ j = x.least j y.inherited in
    let high : j ≤ i = y.least i x.inherited in
    omega arith

pub one_resolved : (p : Program) (class : List ℕ) (s : Signature) (Own : ℕ → Type 0) (i j : ℕ) → FindsOne Own → ResolvesFrom p class s Own i → ResolvesFrom p class s Own j → i ≡ j
one_resolved p class s Own i j own (itself x) (itself y) = own.one i j x y
one_resolved p class s Own i j own (itself x) (by_default none y) = absurd (none i x)
one_resolved p class s Own i j own (itself x) (by_name none no_default y) = absurd (none i x)
one_resolved p class s Own i j own (by_default none x) (itself y) = absurd (none j y)
one_resolved p class s Own i j own (by_default none x) (by_default none2 y) = one_default p class s i j x y
one_resolved p class s Own i j own (by_default none x) (by_name none2 no_default y) = absurd (no_default i x)
one_resolved p class s Own i j own (by_name none no_default x) (itself y) = absurd (none j y)
one_resolved p class s Own i j own (by_name none no_default x) (by_default none2 y) = absurd (no_default j y)
one_resolved p class s Own i j own (by_name none no_default x) (by_name none2 no_default2 y) = one_least p class s i j x y

pub one_selected : (p : Program) (class : List ℕ) (s : Signature) (Own : ℕ → Type 0) (i j : ℕ) → FindsOne Own → SelectsFrom p class s Own i → SelectsFrom p class s Own j → i ≡ j
one_selected p class s Own i j own (upward x) (upward y) = own.one i j x y
one_selected p class s Own i j own (upward x) (by_only_default none y) = absurd (none i x)
one_selected p class s Own i j own (by_only_default none x) (upward y) = absurd (none j y)
one_selected p class s Own i j own (by_only_default none x) (by_only_default none2 y) = one_default p class s i j x y
