-- What a stage gives: that some result is related as a law asks for, and that facts without an object stay.
use Rattle.std.proofs.Common.{ℕ, Bool, true, false, List, [], ◌∷◌, map, Option, refl, sym}
use Rattle.std.specs.List.{Contains}
use Rattle.std.specs.Option.{option_to_list}
use Rattle.list_laws.proofs.Members.{contained_in_map, contains_first, contains_later, contains_map, contains_none}
use Rattle.access_paths.specs.declared.root.Root.TheVariants.{Slot}
use Rattle.access_paths.specs.Paths.{bare}
use Rattle.stage_facts.specs.Facts.{Tuple, SiteFact, none_yet, some_yet, of_object}
use Rattle.stage_transfer.specs.Settings.{Setting}
use Rattle.stage_transfer.specs.Operations.{after_new, new_tuple, on_tuples}
use Rattle.stage_transfer.specs.Stages.{finished, limited, normal}
use Rattle.stage_relations.specs.Laws.{IsIdle, IsOne, Meets}
use Rattle.stage_relations.specs.Relations.{IsBorn}
use Rattle.stage_transfer_laws.proofs.Members.{in_option, of_option}
use Rattle.stage_transfer_laws.proofs.Finished.{finished_cut}
use Rattle.stage_transfer_laws.proofs.CutRelations.{born_cut}

-- ---- results

-- The tuple of a result, once it is finished.
abbrev pub whole : Setting → Tuple → Tuple
whole w u = limited (normal w.stage u)

pub meets_only : (w : Setting) (IsRelated : Tuple → Type 0) (u : Tuple) → IsRelated (whole w u) → Meets IsRelated (map (finished w) (of_object u ∷ []))
meets_only w IsRelated u related = record { tuple = whole w u; listed = contains_first (of_object (whole w u)) []; related = related }

pub meets_some : (w : Setting) (IsRelated : Tuple → Type 0) (us : List Tuple) (u : Tuple) → Contains us u → IsRelated (whole w u)
    → Meets IsRelated (map (finished w) (map of_object us))
meets_some w IsRelated us u there related = record {
  tuple = whole w u;
  listed = contains_map (finished w) (map of_object us) (of_object u) (contains_map of_object us u there);
  related = related;
}

pub is_only : (w : Setting) (IsRelated : Tuple → Type 0) (u : Tuple) → IsRelated (whole w u) → IsOne IsRelated (finished w (of_object u))
is_only w IsRelated u related = record { tuple = whole w u; is = refl; related = related }

-- ---- facts without an object

pub idle_stays : (w : Setting) (change : Tuple → Tuple) (f : SiteFact) → IsIdle f → Contains (map (finished w) (on_tuples change f)) f
idle_stays w change none_yet idle = contains_first none_yet []
idle_stays w change some_yet idle = contains_first some_yet []
idle_stays w change (of_object t) idle = absurd idle

pub idle_same : (w : Setting) (f : SiteFact) → IsIdle f → Contains (map (finished w) (f ∷ [])) f
idle_same w none_yet idle = contains_first none_yet []
idle_same w some_yet idle = contains_first some_yet []
idle_same w (of_object t) idle = absurd idle

-- ---- new objects

pub new_some : (w : Setting) (target : Option ℕ) (written : Tuple → Tuple) (f : SiteFact) → IsIdle f
    → Contains (map (finished w) (after_new w target written f)) some_yet
new_some w target written none_yet idle = contains_first some_yet (of_object (whole w (new_tuple w target true)) ∷ [])
new_some w target written some_yet idle = contains_first some_yet (of_object (whole w (new_tuple w target false)) ∷ [])
new_some w target written (of_object t) idle = absurd idle

born : (w : Setting) (target : Option ℕ) (first : Bool) → IsBorn target first w.property.initial (new_tuple w target first)
born w target first = record {
  unique = λ e. e;
  state = refl;
  must = λ y there.
      let found = contained_in_map (λ (z : ℕ). bare (Slot z)) (option_to_list target) y there in
      record { slot = found.0; target_is = of_option target found.0 found.1; path_is = sym found.2 };
  must_not = λ y there. contains_none y there;
  held = λ e z is. contains_map (λ (y : ℕ). bare (Slot y)) (option_to_list target) z (in_option target z is);
}

pub new_first : (w : Setting) (target : Option ℕ) (written : Tuple → Tuple)
    → Meets (IsBorn target true w.property.initial) (map (finished w) (after_new w target written none_yet))
new_first w target written = record {
  tuple = whole w (new_tuple w target true);
  listed = contains_later some_yet (of_object (whole w (new_tuple w target true))) (of_object (whole w (new_tuple w target true)) ∷ [])
      (contains_first (of_object (whole w (new_tuple w target true))) []);
  related = born_cut (finished_cut w.stage (new_tuple w target true)) (born w target true);
}

pub new_further : (w : Setting) (target : Option ℕ) (written : Tuple → Tuple)
    → Meets (IsBorn target false w.property.initial) (map (finished w) (after_new w target written some_yet))
new_further w target written = record {
  tuple = whole w (new_tuple w target false);
  listed = contains_later some_yet (of_object (whole w (new_tuple w target false))) (of_object (whole w (new_tuple w target false)) ∷ [])
      (contains_first (of_object (whole w (new_tuple w target false))) []);
  related = born_cut (finished_cut w.stage (new_tuple w target false)) (born w target false);
}
