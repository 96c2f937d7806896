-- Steps of the loops over bytes and digits.
use Rattle.std.proofs.Common.{◌≡◌, ℕ, zero, suc, ◌+◌, ◌*◌, ◌-◌, ◌^◌, ◌<◌, ◌≤◌, Bool, true, false, cond, List, [], ◌∷◌, length, take, drop, get_or, refl, ap, ◌∙◌, arith}
use Rattle.std.proofs.lemmas.Bool.Decides.{nat_tests}
use Rattle.std.proofs.Math.Nat.{mul_comm}
use native.Mathlib.Numerals.{unary_clauses}
use Rattle.line_guesses.specs.Guess.{is_digit, digit_count, read_on}

-- ---- digits

pub count_more : (bytes : List ℕ) (i d : ℕ) → i < length bytes → is_digit (get_or bytes i d) ≡ true → digit_count (drop i bytes) ≡ suc (digit_count (drop (suc i) bytes))
unfolding digit_count
count_more [] i d l e = absurd (omega (arith, l))
count_more (b ∷ bs) zero d l e = rw e refl
count_more (b ∷ bs) (suc i) d l e = count_more bs i d (omega (arith, l)) e

pub count_stops : (bytes : List ℕ) (i d : ℕ) → i < length bytes → is_digit (get_or bytes i d) ≡ false → digit_count (drop i bytes) ≡ 0
unfolding digit_count
count_stops [] i d l e = absurd (omega (arith, l))
count_stops (b ∷ bs) zero d l e = rw e refl
count_stops (b ∷ bs) (suc i) d l e = count_stops bs i d (omega (arith, l)) e

pub count_ends : (bytes : List ℕ) (i : ℕ) → length bytes ≤ i → digit_count (drop i bytes) ≡ 0
unfolding digit_count
count_ends [] zero l = refl
count_ends [] (suc i) l = refl
count_ends (b ∷ bs) zero l = absurd (omega (arith, l))
count_ends (b ∷ bs) (suc i) l = count_ends bs i (omega (arith, l))

pub count_within : (bytes : List ℕ) → digit_count bytes ≤ length bytes
unfolding digit_count
count_within [] = omega arith
count_within (b ∷ bs) = by (is_digit b) (count_within bs)
  where
    by : (d : Bool) → digit_count bs ≤ length bs → cond d (suc (digit_count bs)) 0 ≤ suc (length bs)
    by true l = omega (arith, l)
    by false l = omega arith

front_by : (b : ℕ) (bs : List ℕ) (d : Bool) → is_digit b ≡ d → digit_count (take (digit_count bs) bs) ≡ length (take (digit_count bs) bs)
    → digit_count (take (cond d (suc (digit_count bs)) 0) (b ∷ bs)) ≡ length (take (cond d (suc (digit_count bs)) 0) (b ∷ bs))
unfolding digit_count
front_by b bs true e rest = rw e (ap suc rest)
front_by b bs false e rest = refl

-- the front that was counted is of digits alone
pub count_front : (bytes : List ℕ) → digit_count (take (digit_count bytes) bytes) ≡ length (take (digit_count bytes) bytes)
unfolding digit_count
count_front [] = refl
count_front (b ∷ bs) = front_by b bs (is_digit b) refl (count_front bs)

pub front_length : (bytes : List ℕ) → digit_count bytes ≡ length (take (digit_count bytes) bytes)
front_length bytes = by bytes (digit_count bytes) (count_within bytes)
  where
    by : (xs : List ℕ) (n : ℕ) → n ≤ length xs → n ≡ length (take n xs)
    by xs zero l = refl
    by [] (suc n) l = absurd (omega (arith, l))
    by (x ∷ xs) (suc n) l = ap suc (by xs n (omega (arith, l)))

-- where all are digits, each is one
pub each_digit : (ds : List ℕ) (i d : ℕ) → digit_count ds ≡ length ds → i < length ds → is_digit (get_or ds i d) ≡ true
unfolding digit_count
each_digit [] i d e l = absurd (omega (arith, l))
each_digit (b ∷ bs) i d e l = by (is_digit b) refl i l (λ j f m. each_digit bs j d f m)
  where
    by : (t : Bool) → is_digit b ≡ t → (i : ℕ) → i < suc (length bs) → ((j : ℕ) → digit_count bs ≡ length bs → j < length bs → is_digit (get_or bs j d) ≡ true) → is_digit (get_or (b ∷ bs) i d) ≡ true
    by true is zero l rest = is
    by true is (suc i) l rest = (let same : suc (digit_count bs) ≡ suc (length bs) = rw is at e in rest i (omega (arith, same)) (omega (arith, l)))
    by false is i l rest = (let none : 0 ≡ suc (length bs) = rw is at e in absurd (omega (arith, none)))

pub read_more : (ds : List ℕ) (i d n : ℕ) → i < length ds → read_on n (drop i ds) ≡ read_on (10 * n + (get_or ds i d - 48)) (drop (suc i) ds)
read_more [] i d n l = absurd (omega (arith, l))
read_more (b ∷ bs) zero d n l = refl
read_more (b ∷ bs) (suc i) d n l = read_more bs i d n (omega (arith, l))

pub read_end : (ds : List ℕ) (i n : ℕ) → length ds ≤ i → read_on n (drop i ds) ≡ n
read_end [] zero n l = refl
read_end [] (suc i) n l = refl
read_end (b ∷ bs) zero n l = absurd (omega (arith, l))
read_end (b ∷ bs) (suc i) n l = read_end bs i n (omega (arith, l))

pub digit_small : (d : ℕ) → is_digit d ≡ true → (48 ≤ d) × (d ≤ 57)
digit_small d e = (grind (arith, nat_tests, e), grind (arith, nat_tests, e))

pow_more : (i : ℕ) → 10 ^ (i + 1) ≡ 10 * 10 ^ i
pow_more i =
    let one : i + 1 ≡ suc i = omega arith in
    let s : 10 ^ suc i ≡ 10 ^ i * 10 = simp unary_clauses in
    ap (λ n. 10 ^ n) one ∙ s ∙ mul_comm (10 ^ i) 10

pow_up : (d i : ℕ) → 10 ^ i ≤ 10 ^ (i + d)
pow_up zero i = let e : i + 0 ≡ i = omega arith in let f : 10 ^ (i + 0) ≡ 10 ^ i = ap (λ n. 10 ^ n) e in omega (arith, f)
pow_up (suc d) i =
    let r = pow_up d i in
    let e : i + suc d ≡ i + d + 1 = omega arith in
    let f : 10 ^ (i + suc d) ≡ 10 ^ (i + d + 1) = ap (λ n. 10 ^ n) e in
    let g = pow_more (i + d) in
    omega (arith, r, f, g)

-- ten times a number with so many digits, and one more
pub value_more : (i v d : ℕ) → i < 10 → v < 10 ^ i → d ≤ 9 → (10 * v + d < 10 ^ (i + 1)) × (10 * v + d < 2 ^ 64)
value_more i v d l m n =
    let step = pow_more i in
    let whole : 10 * v + d < 10 ^ (i + 1) = omega (arith, step, m, n) in
    let up = pow_up (9 - i) (i + 1) in
    let e : i + 1 + (9 - i) ≡ 10 = omega (arith, l) in
    let f : 10 ^ (i + 1 + (9 - i)) ≡ 10 ^ 10 = ap (λ (k : ℕ). 10 ^ k) e in
    (whole, omega (arith, whole, up, f))
