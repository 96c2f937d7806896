-- The first element that passes a test, as a loop finds it; and the slots of arguments.
use Rattle.std.proofs.Common.{◌≡◌, ℕ, zero, suc, ◌+◌, ◌<◌, Bool, true, false, cond, List, [], ◌∷◌, length, take, get_or, Option, Some, None, nat_eq, find, option_to_list, refl, sym, add-one, ◌∙◌, ap, arith, inl, inr, ◌⊎◌, ◌||◌}
use Rattle.std.specs.List.{list_any}
use Rattle.std.proofs.lemmas.Bool.{cases_Bool}
use Rattle.std.proofs.lemmas.List.Folds.{list_any-append}
use Rattle.machine_nodes.specs.Slots.{argument_slots}

module _ {X : Type 0} (p : X → Bool) where
  -- the first one is none, and so are the others
  split_none : (x : X) (rest : List X) → find p (x ∷ rest) ≡ None → (p x ≡ false) × (find p rest ≡ None)
  split_none x rest none = by (cases_Bool (p x))
    where
      by : (p x ≡ true) ⊎ (p x ≡ false) → (p x ≡ false) × (find p rest ≡ None)
      by (inl t) = absurd (let some : Some x ≡ None = sym (ap (λ (b : Bool). cond b (Some x) (find p rest)) t) ∙ none in cc)
      by (inr f) = (f, sym (ap (λ (b : Bool). cond b (Some x) (find p rest)) f) ∙ none)

  none_after : (xs : List X) (i : ℕ) (d : X) → i < length xs → find p (take i xs) ≡ None → p (get_or xs i d) ≡ false → find p (take (suc i) xs) ≡ None
  none_after [] i d within none here = absurd (omega arith)
  none_after (x ∷ xs) zero d within none here = rw here refl
  none_after (x ∷ xs) (suc i) d within none here =
      let (f, later) = split_none x (take i xs) none in
      rw f (none_after xs i d (omega arith) later here)

  pub none_more : (xs : List X) (i : ℕ) (d : X) → i < length xs → find p (take i xs) ≡ None → p (get_or xs i d) ≡ false → find p (take (i + 1) xs) ≡ None
  none_more xs i d within none here = rw add-one (none_after xs i d within none here)

  pub first_found : (xs : List X) (i : ℕ) (d : X) → i < length xs → find p (take i xs) ≡ None → p (get_or xs i d) ≡ true → find p xs ≡ Some (get_or xs i d)
  first_found [] i d within none here = absurd (omega arith)
  first_found (x ∷ xs) zero d within none here = rw here refl
  first_found (x ∷ xs) (suc i) d within none here =
      let (f, later) = split_none x (take i xs) none in
      rw f (first_found xs i d (omega arith) later here)

-- a slot is among those of arguments if it is one of theirs
pub among_arguments : (z : ℕ) (arguments : List (Option ℕ))
    → list_any (λ (y : ℕ). nat_eq y z) (argument_slots arguments) ≡ list_any (λ (a : Option ℕ). list_any (λ (y : ℕ). nat_eq y z) (option_to_list a)) arguments
among_arguments z [] = refl
among_arguments z (a ∷ arguments) =
    list_any-append (λ (y : ℕ). nat_eq y z) (option_to_list a) (argument_slots arguments)
    ∙ ap (λ (b : Bool). list_any (λ (y : ℕ). nat_eq y z) (option_to_list a) || b) (among_arguments z arguments)
