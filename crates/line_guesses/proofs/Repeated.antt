-- Steps of the loops that add paths, bytes of names and states.
use Rattle.std.proofs.Common.{◌≡◌, eqb, eqb-true, eq-eqb, inl, inr, ℕ, zero, suc, ◌-◌, ◌<◌, ◌≤◌, true, false, nat_le, List, [], ◌∷◌, ◌++◌, take, drop, refl, sym, ap, ◌∙◌, arith}
use Rattle.std.proofs.lemmas.Bool.{cases_Bool}
use Rattle.std.proofs.lemmas.Bool.Decides.{nat_tests}
use Rattle.access_paths.specs.Paths.{Path, with_path}
use Rattle.line_guesses.specs.Guess.{byte_at, first_byte, more_at, name_on, path_at, small_at, states_on}

not_equal : (a b : ℕ) → (a ≡ b → ⊥) → eqb a b ≡ false
not_equal a b other = elim (cases_Bool (eqb a b)) [
  | inl t ↦ absurd (other (eqb-true a b t))
  | inr f ↦ f
]

-- ---- paths

pub more_stop : (k : ℕ) (set : List Path) (rest : List ℕ) → (first_byte rest ≡ 44 → ⊥) → more_at k set rest ≡ (set, rest)
unfolding more_at
more_stop zero set rest other = refl
more_stop (suc k) set rest other = rw (not_equal (first_byte rest) 44 other) refl

pub more_zero : (k : ℕ) (set : List Path) (rest : List ℕ) → k ≤ 0 → more_at k set rest ≡ (set, rest)
unfolding more_at
more_zero zero set rest l = refl
more_zero (suc k) set rest l = absurd (omega (arith, l))

comma : (j : ℕ) (set : List Path) (rest : List ℕ) → eqb (first_byte rest) 44 ≡ true
    → more_at (suc j) set rest ≡ more_at j (take 6 (with_path (path_at (drop 1 rest)).0 set)) (path_at (drop 1 rest)).1
unfolding more_at
comma j set rest e = rw e refl

pub more_step : (k : ℕ) (set next : List Path) (rest skipped after : List ℕ) (p : Path) → 0 < k → first_byte rest ≡ 44 → skipped ≡ drop 1 rest
    → p ≡ (path_at skipped).0 → after ≡ (path_at skipped).1 → next ≡ take 6 (with_path p set) → more_at (k - 1) next after ≡ more_at k set rest
more_step k set next rest skipped after p l f s q a n =
    let one : suc (k - 1) ≡ k = omega (arith, l) in
    let h = comma (k - 1) set rest (eq-eqb (first_byte rest) 44 f) in
    let own : p ≡ (path_at (drop 1 rest)).0 = q ∙ ap (λ (x : List ℕ). (path_at x).0) s in
    let left : after ≡ (path_at (drop 1 rest)).1 = a ∙ ap (λ (x : List ℕ). (path_at x).1) s in
    let grown : next ≡ take 6 (with_path (path_at (drop 1 rest)).0 set) = n ∙ ap (λ (x : Path). take 6 (with_path x set)) own in
    (λ i. more_at (k - 1) (grown i) (left i)) ∙ sym h ∙ ap (λ (n : ℕ). more_at n set rest) one

-- ---- names

pub name_stop : (k : ℕ) (name rest : List ℕ) → first_byte rest ≤ 32 → name_on k name rest ≡ (name, rest)
unfolding name_on
name_stop zero name rest l = refl
name_stop (suc k) name rest l = let e : nat_le (first_byte rest) 32 ≡ true = grind (arith, nat_tests, l) in rw e refl

pub name_zero : (k : ℕ) (name rest : List ℕ) → k ≤ 0 → name_on k name rest ≡ (name, rest)
unfolding name_on
name_zero zero name rest l = refl
name_zero (suc k) name rest l = absurd (omega (arith, l))

visible : (j : ℕ) (name rest : List ℕ) → nat_le (first_byte rest) 32 ≡ false → name_on (suc j) name rest ≡ name_on j (name ++ (byte_at rest).0 ∷ []) (byte_at rest).1
unfolding name_on
visible j name rest e = rw e refl

pub name_step : (k : ℕ) (name next rest after : List ℕ) (b : ℕ) → 0 < k → 32 < first_byte rest → b ≡ (byte_at rest).0 → after ≡ (byte_at rest).1
    → next ≡ name ++ b ∷ [] → name_on (k - 1) next after ≡ name_on k name rest
name_step k name next rest after b l f q a n =
    let one : suc (k - 1) ≡ k = omega (arith, l) in
    let e : nat_le (first_byte rest) 32 ≡ false = grind (arith, nat_tests, f) in
    let grown : next ≡ name ++ (byte_at rest).0 ∷ [] = n ∙ ap (λ (x : ℕ). name ++ x ∷ []) q in
    (λ i. name_on (k - 1) (grown i) (a i)) ∙ sym (visible (k - 1) name rest e) ∙ ap (λ (n : ℕ). name_on n name rest) one

-- ---- states

pub states_stop : (k : ℕ) (states rest : List ℕ) → (first_byte rest ≡ 32 → ⊥) → states_on k states rest ≡ (states, rest)
unfolding states_on
states_stop zero states rest other = refl
states_stop (suc k) states rest other = rw (not_equal (first_byte rest) 32 other) refl

pub states_zero : (k : ℕ) (states rest : List ℕ) → k ≤ 0 → states_on k states rest ≡ (states, rest)
unfolding states_on
states_zero zero states rest l = refl
states_zero (suc k) states rest l = absurd (omega (arith, l))

behind_space : (j : ℕ) (states rest : List ℕ) → eqb (first_byte rest) 32 ≡ true
    → states_on (suc j) states rest ≡ states_on j (states ++ (small_at (drop 1 rest)).0 ∷ []) (small_at (drop 1 rest)).1
unfolding states_on
behind_space j states rest e = rw e refl

pub states_step : (k : ℕ) (states next rest skipped after : List ℕ) (q : ℕ) → 0 < k → first_byte rest ≡ 32 → skipped ≡ drop 1 rest
    → q ≡ (small_at skipped).0 → after ≡ (small_at skipped).1 → next ≡ states ++ q ∷ [] → states_on (k - 1) next after ≡ states_on k states rest
states_step k states next rest skipped after q l f s p a n =
    let one : suc (k - 1) ≡ k = omega (arith, l) in
    let own : q ≡ (small_at (drop 1 rest)).0 = p ∙ ap (λ (x : List ℕ). (small_at x).0) s in
    let left : after ≡ (small_at (drop 1 rest)).1 = a ∙ ap (λ (x : List ℕ). (small_at x).1) s in
    let grown : next ≡ states ++ (small_at (drop 1 rest)).0 ∷ [] = n ∙ ap (λ (x : ℕ). states ++ x ∷ []) own in
    (λ i. states_on (k - 1) (grown i) (left i)) ∙ sym (behind_space (k - 1) states rest (eq-eqb (first_byte rest) 32 f))
    ∙ ap (λ (n : ℕ). states_on n states rest) one
