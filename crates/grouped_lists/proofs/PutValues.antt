-- One more value at a number: what stands at each number then.
use Rattle.std.proofs.Common.{◌≡◌, ℕ, Bool, true, false, cond, eqb, List, [], ◌∷◌, ◌++◌, refl, sym, ◌∙◌, ap, subst, inl, inr, ◌⊎◌, eq-eqb}
use Rattle.std.specs.List.{Contains}
use Rattle.std.specs.declared.alloc.Global.{Global}
use Rattle.std.specs.declared.vec.Vec.{Vec}
use Rattle.std.proofs.lemmas.Bool.{eqb-true}
use Rattle.std.proofs.lemmas.List.Elements.{Contains-append_left, Contains-push, Contains-push_cases}
use Rattle.grouped_lists.specs.Groups.{values_at, IsPut}

module _ {V : Type 0} (old new : List (Vec V Global)) (number : ℕ) (value : V) (put : IsPut old new number value) where
  -- what stands at a number, by whether it is the one
  put_at : (q : ℕ) (b : Bool) → eqb number q ≡ b → values_at new q ≡ cond b (values_at old q ++ value ∷ []) (values_at old q)
  put_at q b e = put q ∙ ap (λ (c : Bool). cond c (values_at old q ++ value ∷ []) (values_at old q)) e

  pub put_there : Contains (values_at new number) value
  put_there = subst (λ (vs : List V). Contains vs value) (sym (put_at number true (eq-eqb number number refl))) (Contains-push (values_at old number) value)

  pub put_keeps : (q : ℕ) (x : V) → Contains (values_at old q) x → Contains (values_at new q) x
  put_keeps q x there = by (eqb number q) refl
    where
      by : (b : Bool) → eqb number q ≡ b → Contains (values_at new q) x
      by true e = subst (λ (vs : List V). Contains vs x) (sym (put_at q true e)) (Contains-append_left (values_at old q) (value ∷ []) x there)
      by false e = subst (λ (vs : List V). Contains vs x) (sym (put_at q false e)) there

  pub put_cases : (q : ℕ) (x : V) → Contains (values_at new q) x → Contains (values_at old q) x ⊎ ((number ≡ q) × (value ≡ x))
  put_cases q x there = by (eqb number q) refl
    where
      by : (b : Bool) → eqb number q ≡ b → Contains (values_at old q) x ⊎ ((number ≡ q) × (value ≡ x))
      by true e = elim (Contains-push_cases (values_at old q) value x (subst (λ (vs : List V). Contains vs x) (put_at q true e) there)) [
        | inl before ↦ inl before
        | inr last ↦ inr (eqb-true number q e, last)
      ]
      by false e = inl (subst (λ (vs : List V). Contains vs x) (put_at q false e) there)
