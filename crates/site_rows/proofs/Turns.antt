-- What holds of rows after the fresh sites of a place were taken.
use Rattle.std.proofs.Common.{◌≡◌, inl, inr, ℕ, ◌<◌, List, [], ◌∷◌, length, refl, sym, ap, ◌∙◌, subst, arith}
use Rattle.std.proofs.lemmas.Bool.{cases_eq}
use Rattle.bit_rows.specs.declared.set.NumberSet.{NumberSet}
use Rattle.bit_rows.specs.Sets.{IsIn}
use Rattle.bit_rows.proofs.Numbers.{none_in_empty}
use Rattle.site_rows.specs.declared.row.SiteRow.{SiteRow}
use Rattle.site_rows.specs.Rows.{AreWaiting, IsNextPlace, PassesOn, fresh_at}
use Rattle.site_rows.specs.Sound.{AreWithin}

module _ (old new : List SiteRow) (place : ℕ) (passes : PassesOn old new place) where
  pub within_taken : AreWithin old → AreWithin new
  within_taken within = record {
    each = λ q site is. elim (cases_eq q place) [
      | inl e ↦ absurd (none_in_empty site (subst (λ (s : NumberSet). IsIn s site) (ap (λ (k : ℕ). fresh_at new k) e ∙ passes.gone) is))
      | inr other ↦ subst (λ (s : NumberSet). IsIn s site) (sym (passes.held q)) (within.each q site (subst (λ (s : NumberSet). IsIn s site) (passes.fresh q other) is))
    ];
  }

  pub waiting_taken : (waiting : List ℕ) → IsNextPlace old waiting place → AreWaiting new waiting
  waiting_taken waiting next = record {
    each = λ q some. elim (cases_eq q place) [
      | inl e ↦ absurd (some (ap (λ (k : ℕ). fresh_at new k) e ∙ passes.gone))
      | inr other ↦ next.others q other (λ none. some (passes.fresh q other ∙ none))
    ];
  }

-- a list that is not empty has a length
pub some_long : (xs : List ℕ) → (xs ≡ [] → ⊥) → 0 < length xs
some_long [] some = absurd (some refl)
some_long (x ∷ xs) some = omega arith
