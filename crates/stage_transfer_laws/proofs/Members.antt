-- What lists contain that are filtered, joined or cut, and what tests say of what they contain.
use Rattle.std.proofs.Common.{◌≡◌, ◌⊎◌, inl, inr, ℕ, zero, suc, ◌≤◌, ◌<◌, ◌+◌, nat_eq, Bool, true, false, cond, ◌||◌, List, [], ◌∷◌, take, length, refl, sym, ◌∙◌, ap, subst, arith, Option, Some, None}
use Rattle.std.specs.List.{Contains, filter, flat_map, list_any, range_with_len}
use Rattle.std.specs.Option.{option_to_list}
use Rattle.std.proofs.lemmas.Bool.{false≢true, cases_eq, cases_order, or_parts, or_left, or_right, eq-eqb, eqb-true}
use Rattle.std.proofs.lemmas.List.{take_all}
use Rattle.std.proofs.lemmas.List.Elements.{Contains-append_cases, Contains-append_left, Contains-append_right}
use Rattle.list_laws.proofs.Members.{contains_none, contains_first, contains_later, contains_cases}
use Rattle.stage_transfer.specs.Settings.{among}

-- ---- filters

pub in_filter : {X : Type 0} (p : X → Bool) (xs : List X) (x : X) → Contains xs x → p x ≡ true → Contains (filter p xs) x
in_filter p [] x there passes = absurd (contains_none x there)
in_filter {X} p (y ∷ ys) x there passes = by (p y) refl (contains_cases y x ys there) (λ later. in_filter p ys x later passes)
  where
    by : (b : Bool) → p y ≡ b → (y ≡ x) ⊎ Contains ys x → (Contains ys x → Contains (filter p ys) x) → Contains (cond b (y ∷ filter p ys) (filter p ys)) x
    by true is (inl same) rest = subst (λ (z : X). Contains (z ∷ filter p ys) x) (sym same) (contains_first x (filter p ys))
    by true is (inr later) rest = contains_later y x (filter p ys) (rest later)
    by false is (inl same) rest = absurd (false≢true (sym is ∙ ap p same ∙ passes))
    by false is (inr later) rest = rest later

pub of_filter : {X : Type 0} (p : X → Bool) (xs : List X) (x : X) → Contains (filter p xs) x → Contains xs x × (p x ≡ true)
of_filter p [] x there = absurd (contains_none x there)
of_filter {X} p (y ∷ ys) x there = by (p y) refl there (λ later. of_filter p ys x later)
  where
    by : (b : Bool) → p y ≡ b → Contains (cond b (y ∷ filter p ys) (filter p ys)) x → (Contains (filter p ys) x → Contains ys x × (p x ≡ true))
        → Contains (y ∷ ys) x × (p x ≡ true)
    by true is there rest = elim (contains_cases y x (filter p ys) there) [
      | inl same ↦ (subst (λ (z : X). Contains (y ∷ ys) z) same (contains_first y ys), subst (λ (z : X). p z ≡ true) same is)
      | inr later ↦ let found = rest later in (contains_later y x ys found.0, found.1)
    ]
    by false is there rest = let found = rest there in (contains_later y x ys found.0, found.1)

-- ---- lists of lists

pub in_flat_map : {X Y : Type 0} (f : X → List Y) (xs : List X) (x : X) (y : Y) → Contains xs x → Contains (f x) y → Contains (flat_map f xs) y
in_flat_map f [] x y there has = absurd (contains_none x there)
in_flat_map {X} f (z ∷ zs) x y there has = elim (contains_cases z x zs there) [
  | inl same ↦ Contains-append_left (f z) (flat_map f zs) y (subst (λ (k : X). Contains (f k) y) (sym same) has)
  | inr later ↦ Contains-append_right (f z) (flat_map f zs) y (in_flat_map f zs x y later has)
]

pub of_flat_map : {X Y : Type 0} (f : X → List Y) (xs : List X) (y : Y) → Contains (flat_map f xs) y → (x : X) × Contains xs x × Contains (f x) y
of_flat_map f [] y there = absurd (contains_none y there)
of_flat_map f (x ∷ xs) y there = elim (Contains-append_cases (f x) (flat_map f xs) y there) [
  | inl here ↦ (x, contains_first x xs, here)
  | inr later ↦ let found = of_flat_map f xs y later in (found.0, contains_later x found.0 xs found.1, found.2)
]

-- ---- tests

pub none_passes : {X : Type 0} (p : X → Bool) (xs : List X) (x : X) → list_any p xs ≡ false → Contains xs x → p x ≡ false
none_passes p [] x none there = absurd (contains_none x there)
none_passes {X} p (y ∷ ys) x none there =
    let parts = or_parts (p y) (list_any p ys) none in
    elim (contains_cases y x ys there) [
      | inl same ↦ subst (λ (z : X). p z ≡ false) same parts.0
      | inr later ↦ none_passes p ys x parts.1 later
    ]

pub one_passes : {X : Type 0} (p : X → Bool) (xs : List X) → list_any p xs ≡ true → (x : X) × Contains xs x × (p x ≡ true)
one_passes p [] any = absurd (false≢true any)
one_passes {X} p (y ∷ ys) any = by (p y) refl any (one_passes p ys)
  where
    by : (b : Bool) → p y ≡ b → (b || list_any p ys) ≡ true → (list_any p ys ≡ true → (x : X) × Contains ys x × (p x ≡ true))
        → (x : X) × Contains (y ∷ ys) x × (p x ≡ true)
    by true is any rest = (y, contains_first y ys, is)
    by false is any rest = let found = rest any in (found.0, contains_later y found.0 ys found.1, found.2)

pub any_passes : {X : Type 0} (p : X → Bool) (xs : List X) (x : X) → Contains xs x → p x ≡ true → list_any p xs ≡ true
any_passes p [] x there passes = absurd (contains_none x there)
any_passes {X} p (y ∷ ys) x there passes = elim (contains_cases y x ys there) [
  | inl same ↦ or_left (p y) (list_any p ys) (subst (λ (z : X). p z ≡ true) (sym same) passes)
  | inr later ↦ or_right (p y) (list_any p ys) (any_passes p ys x later passes)
]

-- ---- fronts

pub of_take : {X : Type 0} (n : ℕ) (xs : List X) (x : X) → Contains (take n xs) x → Contains xs x
of_take zero xs x there = absurd (contains_none x there)
of_take (suc n) [] x there = absurd (contains_none x there)
of_take {X} (suc n) (y ∷ ys) x there = elim (contains_cases y x (take n ys) there) [
  | inl same ↦ subst (λ (z : X). Contains (y ∷ ys) z) same (contains_first y ys)
  | inr later ↦ contains_later y x ys (of_take n ys x later)
]

pub in_take : {X : Type 0} (n : ℕ) (xs : List X) (x : X) → length xs ≤ n → Contains xs x → Contains (take n xs) x
in_take {X} n xs x few there = subst (λ (ys : List X). Contains ys x) (sym (take_all n xs few)) there

-- ---- numbers

pub is_among : (zs : List ℕ) (z : ℕ) → among zs z ≡ true → Contains zs z
is_among zs z is = let found = one_passes (nat_eq z) zs is in subst (λ (y : ℕ). Contains zs y) (sym (eqb-true z found.0 found.2)) found.1

pub among_those : (zs : List ℕ) (z : ℕ) → Contains zs z → among zs z ≡ true
among_those zs z there = any_passes (nat_eq z) zs z there (eq-eqb z z refl)

pub not_among : (zs : List ℕ) (z : ℕ) → among zs z ≡ false → Contains zs z → ⊥
not_among zs z is there = false≢true (sym is ∙ among_those zs z there)

pub none_among : (zs : List ℕ) (z : ℕ) → (Contains zs z → ⊥) → among zs z ≡ false
none_among zs z absent = by (among zs z) refl
  where
    by : (b : Bool) → among zs z ≡ b → b ≡ false
    by true is = absurd (absent (is_among zs z is))
    by false is = refl

ne-lt : (a z : ℕ) → a ≤ z → (a ≡ z → ⊥) → a < z
ne-lt a z from other = elim (cases_order a z) [
  | inl same ↦ absurd (other same)
  | inr rest ↦ elim rest [ inl less ↦ less | inr more ↦ absurd (omega (arith, from, more)) ]
]

pub of_range : (a n z : ℕ) → Contains (range_with_len a n) z → z < a + n
of_range a zero z there = absurd (contains_none z there)
of_range a (suc n) z there = elim (contains_cases a z (range_with_len (a + 1) n) there) [
  | inl same ↦ omega (arith, same)
  | inr later ↦ omega (arith, of_range (a + 1) n z later)
]

pub in_range : (a n z : ℕ) → a ≤ z → z < a + n → Contains (range_with_len a n) z
in_range a zero z from below = absurd (omega (arith, from, below))
in_range a (suc n) z from below = elim (cases_eq a z) [
  | inl same ↦ subst (λ (y : ℕ). Contains (a ∷ range_with_len (a + 1) n) y) same (contains_first a (range_with_len (a + 1) n))
  | inr other ↦ contains_later a z (range_with_len (a + 1) n)
      (in_range (a + 1) n z (omega (arith, from, ne-lt a z from other)) (omega (arith, below)))
]

-- ---- options

pub in_option : {X : Type 0} (o : Option X) (x : X) → o ≡ Some x → Contains (option_to_list o) x
in_option {X} o x is = subst (λ (p : Option X). Contains (option_to_list p) x) (sym is) (contains_first x [])

pub of_option : {X : Type 0} (o : Option X) (x : X) → Contains (option_to_list o) x → o ≡ Some x
of_option None x there = absurd (contains_none x there)
of_option (Some y) x there = elim (contains_cases y x [] there) [ inl same ↦ ap Some same | inr none ↦ absurd (contains_none x none) ]
