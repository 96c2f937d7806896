-- How many numbers below a number pass a test.
use Rattle.std.proofs.Common.{◌≡◌, ℕ, zero, suc, ◌+◌, ◌-◌, ◌/◌, ◌%◌, ◌^◌, ◌<◌, ◌≤◌, pow-suc, Bool, true, false, cond, eqb, List, ◌∷◌, length, filter, refl, ap, ◌∙◌, arith}
use Rattle.std.specs.List.{range_with_len}
use Rattle.std.specs.Int.{bit_at}
use Rattle.std.specs.Int.Count.{ones, ones-le, ones_step}
use Rattle.std.proofs.lemmas.Nat.{div_below}
use Rattle.std.proofs.lemmas.Nat.Bits.{bit_at-suc, bit_at-lt, bit_at_lowest}

abbrev pub one_if : Bool → ℕ
one_if b = cond b 1 0

abbrev pub count_below : (ℕ → Bool) → ℕ → ℕ
count_below p zero = 0
count_below p (suc n) = count_below p n + one_if (p n)

pub same_below : (p q : ℕ → Bool) (n : ℕ) → ((k : ℕ) → k < n → p k ≡ q k) → count_below p n ≡ count_below q n
same_below p q zero same = refl
same_below p q (suc n) same =
    let rest = same_below p q n (λ k l. same k (omega arith)) in
    let last : one_if (p n) ≡ one_if (q n) = ap one_if (same n (omega arith)) in
    omega arith

-- two tests that part a third
pub parted_below : (p q r : ℕ → Bool) (n : ℕ) → ((k : ℕ) → k < n → one_if (p k) ≡ one_if (q k) + one_if (r k)) → count_below p n ≡ count_below q n + count_below r n
parted_below p q r zero parts = refl
parted_below p q r (suc n) parts =
    let rest = parted_below p q r n (λ k l. parts k (omega arith)) in
    let last = parts n (omega arith) in
    omega arith

pub none_below : (p : ℕ → Bool) (n : ℕ) → ((k : ℕ) → k < n → p k ≡ false) → count_below p n ≡ 0
none_below p zero none = refl
none_below p (suc n) none =
    let rest = none_below p n (λ k l. none k (omega arith)) in
    let last : one_if (p n) ≡ 0 = ap one_if (none n (omega arith)) in
    omega arith

pub count_within : (p : ℕ → Bool) (n : ℕ) → count_below p n ≤ n
count_within p zero = omega arith
count_within p (suc n) =
    let rest = count_within p n in
    let last : one_if (p n) ≤ 1 = elim (p n) as (λ b. one_if b ≤ 1) [ true ↦ omega arith | false ↦ omega arith ] in
    omega arith

-- of two tests the second one passes what the first one does
pub fewer_below : (p q : ℕ → Bool) (n : ℕ) → ((k : ℕ) → p k ≡ true → q k ≡ true) → count_below p n ≤ count_below q n
fewer_below p q zero weaker = omega arith
fewer_below p q (suc n) weaker = by (fewer_below p q n weaker) (p n) refl
  where
    by : count_below p n ≤ count_below q n → (b : Bool) → p n ≡ b → count_below p n + one_if (p n) ≤ count_below q n + one_if (q n)
    by rest true is =
        let left : one_if (p n) ≡ 1 = ap one_if is in
        let right : one_if (q n) ≡ 1 = ap one_if (weaker n is) in
        omega arith
    by rest false is = let left : one_if (p n) ≡ 0 = ap one_if is in omega arith

-- the numbers from m on
pub joined_below : (p : ℕ → Bool) (m n : ℕ) → count_below p (m + n) ≡ count_below p m + count_below (λ k. p (m + k)) n
joined_below p m zero =
    let e : m + 0 ≡ m = omega arith in
    let same : count_below p (m + 0) ≡ count_below p m = ap (λ (k : ℕ). count_below p k) e in
    omega arith
joined_below p m (suc n) =
    let e : m + suc n ≡ suc (m + n) = omega arith in
    let rest = joined_below p m n in
    let same : count_below p (m + suc n) ≡ count_below p (suc (m + n)) = ap (λ (k : ℕ). count_below p k) e in
    omega arith

-- the first number, and the others
pub first_and_later : (p : ℕ → Bool) (n : ℕ) → count_below p (suc n) ≡ one_if (p 0) + count_below (λ k. p (suc k)) n
first_and_later p zero = omega arith
first_and_later p (suc n) = let rest = first_and_later p n in omega arith

-- none passes from m on
pub none_beyond : (p : ℕ → Bool) (m n : ℕ) → m ≤ n → ((k : ℕ) → m ≤ k → p k ≡ false) → count_below p n ≡ count_below p m
none_beyond p m n l none =
    let e : m + (n - m) ≡ n = omega arith in
    let parts = joined_below p m (n - m) in
    let rest = none_below (λ k. p (m + k)) (n - m) (λ k h. none (m + k) (omega arith)) in
    let same : count_below p (m + (n - m)) ≡ count_below p n = ap (λ (k : ℕ). count_below p k) e in
    omega arith

-- ---- lists

pub count_filtered : (p : ℕ → Bool) (start n : ℕ) → length (filter p (range_with_len start n)) ≡ count_below (λ k. p (start + k)) n
count_filtered p start zero = refl
count_filtered p start (suc n) = by (count_filtered p (start + 1) n) (p start) refl
  where
    front : List ℕ
    front = filter p (range_with_len (start + 1) n)

    by : length (filter p (range_with_len (start + 1) n)) ≡ count_below (λ k. p (start + 1 + k)) n → (b : Bool) → p start ≡ b
        → length (cond (p start) (start ∷ filter p (range_with_len (start + 1) n)) (filter p (range_with_len (start + 1) n))) ≡ count_below (λ k. p (start + k)) (suc n)
    by later b is =
        let moved : count_below (λ k. p (start + 1 + k)) n ≡ count_below (λ k. p (start + suc k)) n =
        same_below (λ k. p (start + 1 + k)) (λ k. p (start + suc k)) n (λ k l. ap p (omega arith)) in
        let split = first_and_later (λ k. p (start + k)) n in
        let here : one_if (p (start + 0)) ≡ one_if (p start) = ap (λ (k : ℕ). one_if (p k)) (omega arith) in
        let long : length (cond (p start) (start ∷ front) front) ≡ length front + one_if (p start) =
        elim (p start) as (λ c. length (cond c (start ∷ front) front) ≡ length front + one_if c) [ true ↦ omega arith | false ↦ omega arith ] in
        omega arith

-- ---- bits

one_if_bit : (b : ℕ) → b < 2 → one_if (eqb b 1) ≡ b
one_if_bit zero l = refl
one_if_bit (suc zero) l = refl
one_if_bit (suc (suc b)) l = absurd (omega arith)

-- the ones of a word are the bits that are set
pub count_bits : (k w : ℕ) → w < 2 ^ k → count_below (λ i. eqb (bit_at w i) 1) k ≡ ones w
count_bits zero w small = let none : w ≡ 0 = omega arith in let few = ones-le 0 w small in omega arith
count_bits (suc k) w small =
    let halved : w / 2 < 2 ^ k = div_below w 2 (2 ^ k) (omega arith) (omega (arith, pow-suc 2 k)) in
    let rest = count_bits k (w / 2) halved in
    let split = first_and_later (λ i. eqb (bit_at w i) 1) k in
    let moved : count_below (λ i. eqb (bit_at w (suc i)) 1) k ≡ count_below (λ i. eqb (bit_at (w / 2) i) 1) k =
    same_below _ _ k (λ i l. ap (λ (b : ℕ). eqb b 1) (bit_at-suc w i)) in
    let here : one_if (eqb (bit_at w 0) 1) ≡ w % 2 = one_if_bit (bit_at w 0) (bit_at-lt w 0) ∙ bit_at_lowest w in
    let step = ones_step w in
    omega arith
