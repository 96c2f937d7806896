-- The draft of a tuple beside a new object.
use Rattle.std.proofs.Common.{◌≡◌, ℕ, false, List, take, Option, Some, None, sym, ◌∙◌, ap, subst}
use Rattle.access_paths.specs.declared.root.Root.TheVariants.{Slot}
use Rattle.access_paths.specs.Paths.{Path, bare, most_paths, with_path}
use Rattle.access_paths.proofs.Cuts.{take-with}
use Rattle.stage_facts.specs.Facts.{Tuple}
use Rattle.stage_transfer.specs.Operations.{beside_new}
use Rattle.stage_views.specs.declared.draft.Draft.{Draft}
use Rattle.stage_views.specs.declared.gathering.Gathering.{Gathering}
use Rattle.stage_views.specs.Drafts.{cut_with, IsCutOf, IsDraft}

pub beside_draft : (target : Option ℕ) (t : Tuple) (old new : Draft) → IsDraft old t
    → new.unique ≡ false → new.state ≡ old.state → new.must ≡ old.must → new.may ≡ old.may → new.must_not ≡ cut_with target old.must_not
    → IsDraft new (beside_new target t)
beside_draft None t old new is unique state must may must_not = record {
  unique = unique;
  state = state ∙ is.state;
  must = subst (λ (g : Gathering). IsCutOf g t.must) (sym must) is.must;
  may = may ∙ is.may;
  must_not = must_not ∙ is.must_not;
}
beside_draft (Some z) t old new is unique state must may must_not = record {
  unique = unique;
  state = state ∙ is.state;
  must = subst (λ (g : Gathering). IsCutOf g t.must) (sym must) is.must;
  may = may ∙ is.may;
  must_not =
      must_not ∙ ap (λ (ps : List Path). take most_paths (with_path (bare (Slot z)) ps)) is.must_not
      ∙ take-with most_paths (bare (Slot z)) t.must_not;
}
