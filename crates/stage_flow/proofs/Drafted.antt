-- The draft of a tuple.
use Rattle.std.proofs.Common.{◌≡◌, Bool, true, false, ◌||◌, List, ◌++◌, refl, sym, ◌∙◌, ap, subst}
use Rattle.std.specs.List.{flat_map, list_any}
use Rattle.std.proofs.Math.Bool.{or-false, or_comm}
use Rattle.op_model.specs.declared.lowered.LoweredMethod.{LoweredMethod}
use Rattle.op_model.specs.declared.node.Node.{Node}
use Rattle.access_paths.specs.Paths.{Path}
use Rattle.stage_facts.specs.Facts.{Tuple}
use Rattle.stage_transfer.specs.Settings.{Setting}
use Rattle.stage_transfer.specs.Changes.{Change, changed, changed_set, is_lost, with_may}
use Rattle.stage_views.specs.declared.gathering.Gathering.{Gathering}
use Rattle.stage_views.specs.Views.{Gathers}
use Rattle.stage_flow.specs.declared.change.PathChange.{PathChange}
use Rattle.stage_views.specs.declared.draft.Draft.{Draft}
use Rattle.stage_views.specs.Drafts.{IsCutOf, IsDraft}
use Rattle.stage_flow.specs.Shapes.{adds_of, change_of, goes_of, kept_path}
use Rattle.stage_flow.proofs.Lists.{left_filtered}

-- what a change leaves of a set, and adds to it
pub cut_set : (w : Setting) (l : LoweredMethod) (n : Node) (code : PathChange) (set : List Path) (g : Gathering)
    → Gathers g (flat_map (kept_path code) set ++ adds_of code.gain set) → IsCutOf g (changed_set (change_of w l n code) set)
cut_set w l n code set g gathers =
    let is = subst (λ (ps : List Path). Gathers g (ps ++ adds_of code.gain set))
    (sym (left_filtered (λ (x : Path). goes_of code.written code.leaving x.root) set)) gathers in
    record { set = is.set; dropped = is.dropped }

-- The draft of what was gathered of a tuple's sets.
pub drafted : (of : Tuple → Tuple) {inside t made : Tuple} → inside ≡ t → of t ≡ made → (d : Draft) (others : Gathering)
    → d.unique ≡ (of inside).unique → d.state ≡ (of inside).state → IsCutOf d.must (of inside).must → d.may ≡ (of t).may
    → d.must_not ≡ others.set → IsCutOf others (of inside).must_not → IsDraft d made
drafted of {inside} same makes d others unique state must may set must_not =
    subst (IsDraft d) (ap of same ∙ makes) (record {
      unique = unique;
      state = state;
      must = must;
      may = may ∙ ap (λ (x : Tuple). (of x).may) (sym same);
      must_not = set ∙ must_not.set;
    })

-- ---- parts of drafts

-- Where the object is put away first, other cells may hold it also afterwards.
pub may_later : (c : Change) (t : Tuple) (more : Bool) (d : Draft) → IsDraft d (with_may more (changed c t)) → IsDraft d (changed c (with_may more t))
may_later c t more d is = record {
  unique = is.unique;
  state = is.state;
  must = is.must;
  may = is.may ∙ or_swap t.may (list_any (is_lost c (changed_set c t.must)) t.must) more;
  must_not = is.must_not;
}
  where
    or_swap : (a b e : Bool) → ((a || b) || e) ≡ ((a || e) || b)
    or_swap true b e = refl
    or_swap false b e = or_comm b e

-- Nothing is put away.
pub with_none : (t : Tuple) → with_may false t ≡ t
with_none t =
    let same = or-false t.may in
    λ i. record { unique = t.unique; state = t.state; must = t.must; may = same i; must_not = t.must_not }
