-- What a store makes of the parts of a tuple.
use Rattle.std.proofs.Common.{◌≡◌, Bool, true, false, ◌||◌, List, length, nat_lt, take, refl, ◌∙◌, ap}
use Rattle.std.specs.List.{flat_map, list_any}
use Rattle.op_model.specs.declared.lowered.LoweredMethod.{LoweredMethod}
use Rattle.op_model.specs.declared.node.Node.{Node}
use Rattle.access_paths.specs.Paths.{Path, most_paths}
use Rattle.stage_facts.specs.Facts.{Tuple}
use Rattle.stage_transfer.specs.Settings.{Setting}
use Rattle.stage_transfer.specs.Operations.{store_loses}
use Rattle.stage_views.specs.declared.gathering.Gathering.{Gathering}
use Rattle.stage_views.specs.Views.{Gathers}
use Rattle.stage_flow.specs.declared.store.FieldStore.{FieldStore}
use Rattle.stage_views.specs.Drafts.{IsCutOf}
use Rattle.stage_flow.specs.Stores.{after_field_store, given_path, may_after_store}
use Rattle.stage_flow.proofs.LostByStores.{left_of_store, lost_after, lost_by_store}
use Rattle.stage_flow.proofs.StoredPaths.{after_store_of, gathered_kept}

or_apart : (a b c : Bool) → (a || (b || c)) ≡ ((a || b) || c)
or_apart true b c = refl
or_apart false b c = refl

-- what a store leaves of a set, and adds to it
pub store_cut : (w : Setting) (l : LoweredMethod) (n : Node) (s : FieldStore) (set : List Path) (g : Gathering)
    → Gathers g (flat_map (given_path w l n s) set) → IsCutOf g (left_of_store w l n s set)
store_cut w l n s set g gathers = record {
  set = gathers.set ∙ ap (take most_paths) (gathered_kept w l n s set);
  dropped = gathers.dropped ∙ ap (λ (ps : List Path). nat_lt most_paths (length ps)) (gathered_kept w l n s set);
}

-- whether cells may hold the object afterwards in which no path ends
pub store_may : (w : Setting) (l : LoweredMethod) (n : Node) (s : FieldStore) (t : Tuple) → may_after_store w l n s t ≡ (after_field_store w l n s t).may
store_may w l n s t =
    ap (λ (b : Bool). t.may || b) (lost_by_store w l n s t.must)
    ∙ or_apart t.may (store_loses w l n s.object s.field s.value t.must) (list_any (lost_after w l n s t.must) (after_store_of w l n s t.must))
