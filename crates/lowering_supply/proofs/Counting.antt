-- A list that is counted from its front: each place has its value.
use Rattle.std.proofs.Common.{◌≡◌, ◌⊎◌, inl, inr, ℕ, ◌+◌, ◌<◌, ◌≤◌, List, [], ◌∷◌, ◌++◌, length, Some, sym, ap, ◌∙◌, arith, length-append}
use Rattle.std.specs.List.{slice_get}
use Rattle.std.proofs.lemmas.Bool.{cases_lt}
use Rattle.program_index.proofs.ListPlaces.{in_longer, pushed_at}

abbrev pub AreCountedTo : (ℕ → ℕ) → List ℕ → ℕ → Type 0
AreCountedTo value xs n = (k : ℕ) → k < n → slice_get xs k ≡ Some (value k)

pub none_counted : (value : ℕ → ℕ) (xs : List ℕ) → AreCountedTo value xs 0
none_counted value xs k lt = absurd (omega (arith, lt))

pub record IsCountedList (value : ℕ → ℕ) (xs : List ℕ) (n : ℕ) : Type 0 where
  pub count : length xs ≡ n
  pub counted : AreCountedTo value xs n

pub one_counted : (value : ℕ → ℕ) (xs : List ℕ) (n x : ℕ) → length xs ≡ n → x ≡ value n → AreCountedTo value xs n → IsCountedList value (xs ++ x ∷ []) (n + 1)
one_counted value xs n x count is earlier = record {
  count = length-append xs (x ∷ []) ∙ ap (λ (k : ℕ). k + 1) count;
  counted = λ k lt. by k lt (cases_lt k n);
}
  where
    by : (k : ℕ) → k < n + 1 → (k < n) ⊎ (n ≤ k) → slice_get (xs ++ x ∷ []) k ≡ Some (value k)
    by k lt (inl below) = in_longer xs (x ∷ []) k (value k) (earlier k below)
    by k lt (inr above) =
        let last : k ≡ n = omega (arith, lt, above) in
        ap (slice_get (xs ++ x ∷ [])) (last ∙ sym count) ∙ pushed_at xs x ∙ ap (λ (v : ℕ). Some v) (is ∙ ap value (sym last))
