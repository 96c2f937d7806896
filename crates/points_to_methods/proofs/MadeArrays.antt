-- Arrays that hold one another, by the places of their sites.
use Rattle.std.proofs.Common.{◌≡◌, ◌↔◌, ℕ, ◌+◌, ◌<◌, List, length, Some, sym, ◌∙◌, arith, inl, inr, ◌⊎◌, subst}
use Rattle.std.specs.List.{slice_get}
use Rattle.std.proofs.lemmas.Option.{same_Some, slice_get_within}
use Rattle.jvm_model.specs.declared.site.Site.{Site}
use Rattle.op_model.specs.declared.lowered.LoweredMethod.{LoweredMethod}
use Rattle.op_model.specs.declared.node.Node.{Node}
use Rattle.points_to_constraints.specs.Items.{Item, known}
use Rattle.points_to_constraints.specs.NodeItems.{MakesItem, NewArrayItem, first, nest}
use Rattle.points_to_rules.specs.Facts.{elements_of, may_hold}
use Rattle.points_to_methods.specs.Arrays.{NestsAt}

-- two sites that stand one after another
pub nested_at : (sites : List Site) (i : ℕ) (outer inner : Site) → slice_get sites i ≡ Some outer → slice_get sites (i + 1) ≡ Some inner
    → (x : Item) → (x ≡ known (may_hold (elements_of outer) inner)) ↔ NestsAt sites i x
nested_at sites i outer inner at next x = (
  (λ e. (outer, inner, at, next, e)),
  (λ (o, j, there, after, e).
      let same : o ≡ outer = same_Some o outer (sym there ∙ at) in
      let other : j ≡ inner = same_Some j inner (sym after ∙ next) in
      cc),
)

pub nested_last : (sites : List Site) (i : ℕ) → i + 1 ≡ length sites → (x : Item) → NestsAt sites i x → ⊥
nested_last sites i last x (outer, inner, at, next, e) = let within = slice_get_within sites (i + 1) inner next in omega (arith, within, last)

pub no_arrays : (l : LoweredMethod) (n : Node) (sites : List Site) (target : ℕ) → length sites ≡ 0 → (x : Item) → NewArrayItem l n sites target x → ⊥
no_arrays l n sites target none x (first s at makes) = let within = slice_get_within sites 0 s at in omega (arith, within, none)
no_arrays l n sites target none x (nest i outer inner at next e) = let within = slice_get_within sites i outer at in omega (arith, within, none)

-- the first one, and those that hold the next ones
pub arrays : (l : LoweredMethod) (n : Node) (sites : List Site) (target : ℕ) (s : Site) → slice_get sites 0 ≡ Some s
    → (x : Item) → (MakesItem l n target s x ⊎ ((i : ℕ) × (i < length sites) × NestsAt sites i x)) ↔ NewArrayItem l n sites target x
arrays l n sites target s at x = (
  (λ h. elim h [
    | inl makes ↦ first s at makes
    | inr (i, within, (outer, inner, here, next, e)) ↦ nest i outer inner here next e
  ]),
  (λ h. back h),
)
  where
    back : NewArrayItem l n sites target x → MakesItem l n target s x ⊎ ((i : ℕ) × (i < length sites) × NestsAt sites i x)
    back (first t there makes) = inl (subst (λ (u : Site). MakesItem l n target u x) (same_Some t s (sym there ∙ at)) makes)
    back (nest i outer inner here next e) = inr (i, slice_get_within sites i outer here, (outer, inner, here, next, e))
