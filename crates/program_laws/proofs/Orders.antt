-- Items in byte order of their names have one order, if no two of them have one name.
use Rattle.std.proofs.Common.{◌≡◌, ◌≢◌, ℕ, suc, ◌+◌, ◌<◌, ◌≤◌, Bool, true, false, cond, List, [], ◌∷◌, length, get_or, map, Ordering, refl, sym, ap, ◌∙◌, subst, inl, inr, ◌⊎◌, arith}
use Rattle.std.specs.declared.cmp.Ordering.TheVariants.{Less, Equal, Greater}
use Rattle.std.specs.Cmp.Lexicographic.{slice_cmp}
use Rattle.std.specs.List.{AllPairs, Contains, count_by}
use Rattle.std.specs.List.Sorted.{IsPermutation, IsSorted}
use Rattle.std.specs.Ordering.{is_lt, nat_cmp, ordering_reverse}
use Rattle.std.specs.Str.{bytes_eq}
use Rattle.std.proofs.lemmas.Bool.{true≢false, cases_Bool, cases_lt}
use Rattle.std.proofs.lemmas.Cmp.{nat_list_cmp_total}
use Rattle.std.proofs.lemmas.List.Sorted.{ranks_by, sorted_far, sum_by-IsPermutation, IsPermutation-map, IsPermutation-sym, Contains-permutation}
use Rattle.std.proofs.lemmas.List.Sums.{sum_by-cons}
use Rattle.std.proofs.lemmas.Map.Lookups.{exact_bytes}
use Rattle.std.proofs.lemmas.Slice.Eq.{bytes_eq-Decides}
use Rattle.list_laws.proofs.Members.{contains_cases, contains_first, contains_later, contains_none}
pub use Rattle.list_laws.proofs.Members.{contains_none as none_there, contains_first as first_there, contains_later as more_there, contains_cases as where_there}

-- ---- how often a name stands in a list

abbrev pub count_of : List ℕ → List (List ℕ) → ℕ
count_of q names = count_by (λ (n : List ℕ). bytes_eq n q) names

abbrev one_if : Bool → ℕ
one_if b = cond b 1 0

-- no name stands twice
pub record AreOnce (names : List (List ℕ)) : Type 0 where
  pub once : (q : List ℕ) → count_of q names ≤ 1

counted : (q n : List ℕ) (names : List (List ℕ)) → count_of q (n ∷ names) ≡ one_if (bytes_eq n q) + count_of q names
counted q n names = sum_by-cons (λ (m : List ℕ). one_if (bytes_eq m q)) n names

pub counted_here : (q n : List ℕ) (names : List (List ℕ)) → n ≡ q → count_of q (n ∷ names) ≡ 1 + count_of q names
counted_here q n names e = counted q n names ∙ ap (λ (b : Bool). one_if b + count_of q names) ((bytes_eq-Decides n q).1 e)

pub counted_elsewhere : (q n : List ℕ) (names : List (List ℕ)) → bytes_eq n q ≡ false → count_of q (n ∷ names) ≡ count_of q names
counted_elsewhere q n names other = let e : count_of q (n ∷ names) ≡ 0 + count_of q names = counted q n names ∙ ap (λ (b : Bool). one_if b + count_of q names) other in omega arith

-- a name is this one, or is counted as another
pub this_or_other : (n q : List ℕ) → (n ≡ q) ⊎ (bytes_eq n q ≡ false)
this_or_other n q = by (cases_Bool (bytes_eq n q))
  where
    by : (bytes_eq n q ≡ true) ⊎ (bytes_eq n q ≡ false) → (n ≡ q) ⊎ (bytes_eq n q ≡ false)
    by (inl e) = inl ((bytes_eq-Decides n q).0 e)
    by (inr e) = inr e

-- ---- what stands in a list

name_there : {X : Type 0} (key : X → List ℕ) (y : X) (xs : List X) → Contains xs y → Contains (map key xs) (key y)
name_there key y [] there = absurd (contains_none y there)
name_there key y (x ∷ xs) there = by (name_there key y xs) (contains_cases x y xs there)
  where
    by : (Contains xs y → Contains (map key xs) (key y)) → (x ≡ y) ⊎ Contains xs y → Contains (key x ∷ map key xs) (key y)
    by later (inl e) = subst (λ (n : List ℕ). Contains (key x ∷ map key xs) n) (ap key e) (contains_first (key x) (map key xs))
    by later (inr h) = contains_later (key x) (key y) (map key xs) (later h)

counted_there : (q : List ℕ) (names : List (List ℕ)) → Contains names q → 1 ≤ count_of q names
counted_there q [] there = absurd (contains_none q there)
counted_there q (n ∷ names) there = by (counted_there q names) (contains_cases n q names there)
  where
    by : (Contains names q → 1 ≤ count_of q names) → (n ≡ q) ⊎ Contains names q → 1 ≤ count_of q (n ∷ names)
    by later (inl e) = let one = counted_here q n names e in omega arith
    by later (inr h) = let some = later h in let all = counted q n names in omega arith

pub there_counted : (q : List ℕ) (names : List (List ℕ)) → 1 ≤ count_of q names → Contains names q
there_counted q [] some = absurd (omega arith)
there_counted q (n ∷ names) some = by (there_counted q names) (this_or_other n q)
  where
    by : (1 ≤ count_of q names → Contains names q) → (n ≡ q) ⊎ (bytes_eq n q ≡ false) → Contains (n ∷ names) q
    by later (inl e) = subst (λ (m : List ℕ). Contains (n ∷ names) m) e (contains_first n names)
    by later (inr other) = let same = counted_elsewhere q n names other in contains_later n q names (later (omega arith))

-- ---- names in order

abbrev compared : List ℕ → List ℕ → Ordering
compared m n = slice_cmp nat_cmp m n

-- each name comes before the later ones
abbrev Ascends : List (List ℕ) → Type 0
Ascends [] = Unit {0}
Ascends (n ∷ names) = ((m : List ℕ) → Contains names m → compared n m ≡ Less) × Ascends names

-- no name comes before an earlier one
record IsRising (names : List (List ℕ)) : Type 0 where
  rises : (i j : ℕ) (d : List ℕ) → i ≤ j → j < length names → is_lt (compared (get_or names j d) (get_or names i d)) ≡ false

rising : (names : List (List ℕ)) → IsSorted (slice_cmp nat_cmp) names → IsRising names
rising names sorted = record { rises = sorted_far (λ x y. is_lt (compared x y)) (ranks_by nat_list_cmp_total (λ (n : List ℕ). n)) names sorted }

before : (m n : List ℕ) → (m ≡ n → ⊥) → is_lt (compared m n) ≡ false → compared n m ≡ Less
before m n apart not_less = nat_list_cmp_total.antisymm n m ∙ by (compared m n) (exact_bytes m n) not_less
  where
    by : (o : Ordering) → (o ≡ Equal → m ≡ n) → is_lt o ≡ false → ordering_reverse o ≡ Less
    by Less equal h = absurd (true≢false h)
    by Equal equal h = absurd (apart (equal refl))
    by Greater equal h = refl

ascends : (names : List (List ℕ)) → IsRising names → AreOnce names → Ascends names
ascends [] up once = tt
ascends (n ∷ names) up once = (later, ascends names rest rest_once)
  where
    later : (m : List ℕ) → Contains names m → compared n m ≡ Less
    later m there =
        let few = there.1 in
        let not_less : is_lt (compared m n) ≡ false = subst (λ (x : List ℕ). is_lt (compared x n) ≡ false) there.2 (up.rises 0 (suc there.0) m (omega arith) (omega arith)) in
        before m n
        (λ e.
        let twice = counted_there m names there in
        let first = counted_here m n names (sym e) in
        let only = once.once m in
        omega arith)
        not_less

    rest : IsRising names
    rest = record { rises = λ i j d le lt. up.rises (suc i) (suc j) d (omega arith) (omega arith) }

    rest_once : AreOnce names
    rest_once = record { once = λ q. let all = counted q n names in let only = once.once q in omega arith }

-- ---- items in order of their names

not_both : (m n : List ℕ) → compared m n ≡ Less → compared n m ≡ Less → ⊥
not_both m n less less2 = let e : Less ≡ Greater = sym less ∙ nat_list_cmp_total.antisymm m n ∙ ap ordering_reverse less2 in absurd cc

not_itself : (n : List ℕ) → compared n n ≡ Less → ⊥
not_itself n less = not_both n n less less

-- the items of one list are items of the other
record AreIn {X : Type 0} (xs ys : List X) : Type 0 where
  there : (x : X) → Contains xs x → Contains ys x

same_ascending : {X : Type 0} (key : X → List ℕ) (xs ys : List X) → Ascends (map key xs) → Ascends (map key ys) → AreIn xs ys → AreIn ys xs → xs ≡ ys
same_ascending key [] [] up up2 to back = refl
same_ascending key [] (y ∷ ys) up up2 to back = absurd (contains_none y (back.there y (contains_first y ys)))
same_ascending key (x ∷ xs) [] up up2 to back = absurd (contains_none x (to.there x (contains_first x xs)))
same_ascending {X = X} key (x ∷ xs) (y ∷ ys) up up2 to back = by (heads (contains_cases y x ys (to.there x (contains_first x xs))) (contains_cases x y xs (back.there y (contains_first y ys)))) (same_ascending key xs ys up.1 up2.1)
  where
    heads : (y ≡ x) ⊎ Contains ys x → (x ≡ y) ⊎ Contains xs y → x ≡ y
    heads (inl e) other = sym e
    heads (inr h) (inl e) = e
    heads (inr h) (inr h2) = absurd (not_both (key x) (key y) (up.0 (key y) (name_there key y xs h2)) (up2.0 (key x) (name_there key x ys h)))

    tail_in : x ≡ y → AreIn xs ys
    tail_in e = record { there = λ z h. at z h (contains_cases y z ys (to.there z (contains_later x z xs h))) }
      where
        at : (z : X) → Contains xs z → (y ≡ z) ⊎ Contains ys z → Contains ys z
        at z h (inl f) = absurd (not_itself (key x) (subst (λ (n : List ℕ). compared (key x) n ≡ Less) (ap key (sym (e ∙ f))) (up.0 (key z) (name_there key z xs h))))
        at z h (inr g) = g

    tail_back : x ≡ y → AreIn ys xs
    tail_back e = record { there = λ z h. at z h (contains_cases x z xs (back.there z (contains_later y z ys h))) }
      where
        at : (z : X) → Contains ys z → (x ≡ z) ⊎ Contains xs z → Contains xs z
        at z h (inl f) = absurd (not_itself (key y) (subst (λ (n : List ℕ). compared (key y) n ≡ Less) (ap key (sym (sym e ∙ f))) (up2.0 (key z) (name_there key z ys h))))
        at z h (inr g) = g

    by : x ≡ y → (AreIn xs ys → AreIn ys xs → xs ≡ ys) → (x ∷ xs) ≡ (y ∷ ys)
    by e rest = ap (λ (z : X). z ∷ xs) e ∙ ap (λ (zs : List X). y ∷ zs) (rest (tail_in e) (tail_back e))

-- items in order of their names, of which no two are the same, have one order
pub one_order : {X : Type 0} (key : X → List ℕ) (all a b : List X) → AreOnce (map key all) → IsPermutation all a → IsPermutation all b
    → IsSorted (slice_cmp nat_cmp) (map key a) → IsSorted (slice_cmp nat_cmp) (map key b) → a ≡ b
one_order {X = X} key all a b once moved moved2 sorted sorted2 =
    same_ascending key a b (ascends (map key a) (rising (map key a) sorted) (once_in a moved)) (ascends (map key b) (rising (map key b) sorted2) (once_in b moved2))
    (record { there = λ x there. Contains-permutation all b x moved2 (Contains-permutation a all x (IsPermutation-sym all a moved) there) })
    (record { there = λ x there. Contains-permutation all a x moved (Contains-permutation b all x (IsPermutation-sym all b moved2) there) })
  where
    once_in : (c : List X) → IsPermutation all c → AreOnce (map key c)
    once_in c m =
        record {
          once = λ q.
              let same = sum_by-IsPermutation (λ (n : List ℕ). one_if (bytes_eq n q)) (map key all) (map key c) (IsPermutation-map key all c m) in
              let few = once.once q in
              omega arith;
        }

-- ---- items of which no two have one name

named_there : {X : Type 0} (key : X → List ℕ) (n : List ℕ) (xs : List X) → Contains (map key xs) n → (x : X) × Contains xs x × (key x ≡ n)
named_there key n [] there = absurd (contains_none n there)
named_there {X = X} key n (x ∷ xs) there = by (named_there key n xs) (contains_cases (key x) n (map key xs) there)
  where
    by : (Contains (map key xs) n → (y : X) × Contains xs y × (key y ≡ n)) → (key x ≡ n) ⊎ Contains (map key xs) n → (y : X) × Contains (x ∷ xs) y × (key y ≡ n)
    by later (inl e) = (x, contains_first x xs, e)
    by later (inr h) = let other = later h in (other.0, contains_later x other.0 xs other.1, other.2)

pub once_in_pairs : {X : Type 0} (key : X → List ℕ) (xs : List X) → AllPairs (λ x y. key x ≢ key y) xs → AreOnce (map key xs)
once_in_pairs key [] apart = record { once = λ q. omega arith }
once_in_pairs {X = X} key (x ∷ xs) apart = by (once_in_pairs key xs (λ i j d lt lt2. apart (suc i) (suc j) d (omega arith) (omega arith)))
  where
    other : (n : List ℕ) → key x ≡ n → Contains (map key xs) n → ⊥
    other n e there =
        let y = named_there key n xs there in
        let few = y.1.1 in
        apart 0 (suc y.1.0) y.0 (omega arith) (omega arith) (e ∙ sym y.2 ∙ ap key (sym y.1.2))

    by : AreOnce (map key xs) → AreOnce (key x ∷ map key xs)
    by rest = record { once = λ q. few q (this_or_other (key x) q) (cases_lt 0 (count_of q (map key xs))) }
      where
        few : (q : List ℕ) → (key x ≡ q) ⊎ (bytes_eq (key x) q ≡ false) → (0 < count_of q (map key xs)) ⊎ (count_of q (map key xs) ≤ 0) → count_of q (key x ∷ map key xs) ≤ 1
        few q (inl e) (inl some) = absurd (other q e (there_counted q (map key xs) some))
        few q (inl e) (inr nothing) = let here = counted_here q (key x) (map key xs) e in omega arith
        few q (inr apart2) cases = let same = counted_elsewhere q (key x) (map key xs) apart2 in let one = rest.once q in omega arith
