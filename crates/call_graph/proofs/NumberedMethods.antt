-- The numbers of methods that differ, one after the other.
use Rattle.std.proofs.Common.{◌≡◌, ℕ, ◌+◌, Bool, true, false, cond, List, [], ◌∷◌, ◌++◌, map, take, Some, refl, sym, ◌∙◌, ap, subst, arith}
use Rattle.std.specs.List.{slice_get, list_any, Contains}
use Rattle.indexmap.specs.IndexSet.{insert_key}
use Rattle.indexmap.proofs.CallerLemmas.{Contains-list_any}
use Rattle.jvm_model.specs.declared.number.MethodNo.{MethodNo}
use Rattle.program_index.proofs.ListPlaces.{map_at}
use Rattle.least_sets.proofs.Places.{in_front, place_of}
use Rattle.program_model.proofs.Pieces.{take_one_more}
use Rattle.points_to_rules.specs.declared.running_method.RunningMethod.{RunningMethod}
use Rattle.ground.specs.Lists.{HaveDifferentNumbers, number_of}
use Rattle.ground.proofs.ExactKeys.{same_methods, tells_methods}

module _ (methods : List RunningMethod) (apart : HaveDifferentNumbers methods) (k : ℕ) (m : RunningMethod) (at : slice_get methods k ≡ Some m) where
  -- the number is none of those before
  not_before : Contains (map number_of (take k methods)) (number_of m) → ⊥
  not_before there =
      let (i, stands) = place_of (map number_of (take k methods)) (number_of m) there in
      let (r, r_at, same) = map_at number_of (take k methods) i (number_of m) stands in
      let (less, r_stands) = in_front methods k i r r_at in
      let one = apart i k r m r_stands at same in
      omega (arith, less, one)

  added : (keys : List MethodNo) (b : Bool) → keys ≡ map number_of (take k methods) → list_any (same_methods (number_of m)) keys ≡ b
      → cond b keys (keys ++ number_of m ∷ []) ≡ map number_of (take (k + 1) methods)
  added keys true are found = absurd (not_before (subst (λ (ks : List MethodNo). Contains ks (number_of m)) are (Contains-list_any same_methods tells_methods.exact keys (number_of m) found)))
  added keys false are found =
      ap (λ (ks : List MethodNo). ks ++ number_of m ∷ []) are
      ∙ sym (map_push (take k methods))
      ∙ ap (λ (ms : List RunningMethod). map number_of ms) (sym (take_one_more methods k m at))
    where
      map_push : (ms : List RunningMethod) → map number_of (ms ++ m ∷ []) ≡ map number_of ms ++ number_of m ∷ []
      map_push [] = refl
      map_push (x ∷ xs) = ap (λ (ns : List MethodNo). number_of x ∷ ns) (map_push xs)

  pub one_more_number : (old new : List MethodNo) → old ≡ map number_of (take k methods) → new ≡ insert_key same_methods old (number_of m)
      → new ≡ map number_of (take (k + 1) methods)
  one_more_number old new are is = is ∙ added old (list_any (same_methods (number_of m)) old) are refl
