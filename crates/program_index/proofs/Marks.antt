-- A list of classes beside a mark for each class.
use Rattle.std.proofs.Common.{◌≡◌, ℕ, ◌<◌, Bool, true, false, List, [], ◌∷◌, ◌++◌, length, get_or, set, replicate, sym, ◌∙◌, subst, arith, inl, inr}
use Rattle.std.proofs.lemmas.Cmp.{nat_eq_equiv}
use Rattle.std.proofs.lemmas.Bool.{cases_eq}
use Rattle.std.proofs.lemmas.Map.Keys.{IsDistinct-push}
use Rattle.std.proofs.lemmas.List.{get_or-set_same, get_or-set_other, get_or-replicate, length-set, length-replicate}
use Rattle.std.proofs.lemmas.List.Elements.{All-push, All-nil}
use Rattle.program_index.specs.ClassSets.{has, AreMarked}
use Rattle.program_index.proofs.ClassLists.{has_push_new, has_push_other, all_before, distinct_none, distinct_before, distinct_last}

-- no class is marked in the empty list
pub marked_none : (n : ℕ) → AreMarked (replicate n false) []
marked_none n = record {
  marked = λ x l. let below : x < n = omega (arith, length-replicate n false) in get_or-replicate n x false false below;
  below = All-nil (λ (x : ℕ). x < length (replicate n false));
  distinct = distinct_none;
}

-- a class that is not marked is marked, and stands at the end
pub marked_push : (marks : List Bool) (items : List ℕ) (y : ℕ) → AreMarked marks items → y < length marks → get_or marks y false ≡ false
    → AreMarked (set marks y true) (items ++ y ∷ [])
marked_push marks items y marked l unmarked = record {
  marked = λ x lx. let lx' : x < length marks = omega (arith, length-set marks y true) in
      elim (cases_eq x y) [
        | inl e ↦ subst (λ (z : ℕ). get_or (set marks y true) z false ≡ has (items ++ y ∷ []) z) (sym e)
            (get_or-set_same marks y true false l ∙ sym (has_push_new items y))
        | inr ne ↦ get_or-set_other marks y x true false ne ∙ marked.marked x lx' ∙ sym (has_push_other items y x ne)
      ];
  below = rw length-set (All-push (λ (x : ℕ). x < length marks) items y marked.below l);
  distinct = IsDistinct-push nat_eq_equiv items y marked.distinct (sym (marked.marked y l) ∙ unmarked);
}

-- the last class goes, and its mark with it
pub marked_pop : (marks : List Bool) (items : List ℕ) (y : ℕ) → AreMarked marks (items ++ y ∷ []) → AreMarked (set marks y false) items
marked_pop marks items y marked = record {
  marked = λ x lx. let lx' : x < length marks = omega (arith, length-set marks y false) in
      elim (cases_eq x y) [
        | inl e ↦ subst (λ (z : ℕ). get_or (set marks y false) z false ≡ has items z) (sym e)
            (get_or-set_same marks y false false (subst (λ (z : ℕ). z < length marks) e lx') ∙ sym (distinct_last items y marked.distinct))
        | inr ne ↦ get_or-set_other marks y x false false ne ∙ marked.marked x lx' ∙ has_push_other items y x ne
      ];
  below = rw length-set (all_before (λ (x : ℕ). x < length marks) items y marked.below);
  distinct = distinct_before items y marked.distinct;
}
