-- The order of lists of numbers: it is total and strict.
use Rattle.std.proofs.Common.{◌≡◌, ℕ, nat_eq, nat_lt, Bool, true, false, ◌&&◌, ◌||◌, List, [], ◌∷◌, refl, sym, ◌∙◌, ap, arith}
use Rattle.std.specs.Str.{bytes_eq}
use Rattle.std.proofs.lemmas.Bool.{false≢true}
use Rattle.std.proofs.lemmas.Bool.Decides.{nat_tests}
use Rattle.access_paths.specs.Paths.{comes_before}

-- of two different lists one comes before the other
pub before_or_after : (ms ns : List ℕ) → comes_before ms ns ≡ false → bytes_eq ms ns ≡ false → comes_before ns ms ≡ true
before_or_after [] [] after differ = absurd (false≢true (sym differ))
before_or_after [] (n ∷ ns) after differ = absurd (false≢true (sym after))
before_or_after (m ∷ ms) [] after differ = refl
before_or_after (m ∷ ms) (n ∷ ns) after differ = by (nat_lt m n) refl (nat_eq m n) refl (before_or_after ms ns) after differ
  where
    by : (a : Bool) → nat_lt m n ≡ a → (b : Bool) → nat_eq m n ≡ b → (comes_before ms ns ≡ false → bytes_eq ms ns ≡ false → comes_before ns ms ≡ true)
        → (a || (b && comes_before ms ns)) ≡ false → (b && bytes_eq ms ns) ≡ false → comes_before (n ∷ ns) (m ∷ ms) ≡ true
    by true is b e rest h d = absurd (false≢true (sym h))
    by false is true e rest h d =
        let same : nat_eq n m ≡ true = grind (arith, nat_tests, e) in
        let not_less : nat_lt n m ≡ false = grind (arith, nat_tests, e) in
        ap (λ (c : Bool). c || (nat_eq n m && comes_before ns ms)) not_less ∙ ap (λ (c : Bool). c && comes_before ns ms) same ∙ rest h d
    by false is false e rest h d =
        let less : nat_lt n m ≡ true = grind (arith, nat_tests, is, e) in
        ap (λ (c : Bool). c || (nat_eq n m && comes_before ns ms)) less

-- what comes before a list comes before what that comes before
pub before_on : (ks ms ns : List ℕ) → comes_before ks ms ≡ true → comes_before ms ns ≡ true → comes_before ks ns ≡ true
before_on [] [] ns first second = absurd (false≢true first)
before_on [] (m ∷ ms) [] first second = absurd (false≢true second)
before_on [] (m ∷ ms) (n ∷ ns) first second = refl
before_on (k ∷ ks) [] ns first second = absurd (false≢true first)
before_on (k ∷ ks) (m ∷ ms) [] first second = absurd (false≢true second)
before_on (k ∷ ks) (m ∷ ms) (n ∷ ns) first second =
    by (nat_lt k m) refl (nat_eq k m) refl (nat_lt m n) refl (nat_eq m n) refl (before_on ks ms ns) first second
  where
    less : nat_lt k n ≡ true → comes_before (k ∷ ks) (n ∷ ns) ≡ true
    less e = ap (λ (c : Bool). c || (nat_eq k n && comes_before ks ns)) e

    by : (a : Bool) → nat_lt k m ≡ a → (b : Bool) → nat_eq k m ≡ b → (c : Bool) → nat_lt m n ≡ c → (d : Bool) → nat_eq m n ≡ d
        → (comes_before ks ms ≡ true → comes_before ms ns ≡ true → comes_before ks ns ≡ true)
        → (a || (b && comes_before ks ms)) ≡ true → (c || (d && comes_before ms ns)) ≡ true → comes_before (k ∷ ks) (n ∷ ns) ≡ true
    by true p b q true r d s rest h i = less (grind (arith, nat_tests, p, r))
    by true p b q false r true s rest h i = less (grind (arith, nat_tests, p, s))
    by true p b q false r false s rest h i = absurd (false≢true i)
    by false p true q true r d s rest h i = less (grind (arith, nat_tests, q, r))
    by false p true q false r true s rest h i =
        let same : nat_eq k n ≡ true = grind (arith, nat_tests, q, s) in
        let not_less : nat_lt k n ≡ false = grind (arith, nat_tests, q, s) in
        ap (λ (t : Bool). t || (nat_eq k n && comes_before ks ns)) not_less ∙ ap (λ (t : Bool). t && comes_before ks ns) same ∙ rest h i
    by false p true q false r false s rest h i = absurd (false≢true i)
    by false p false q c r d s rest h i = absurd (false≢true h)

-- no list comes before itself
pub not_before_itself : (ms : List ℕ) → comes_before ms ms ≡ true → ⊥
not_before_itself [] h = false≢true h
not_before_itself (m ∷ ms) h = by (nat_lt m m) refl (nat_eq m m) (not_before_itself ms) h
  where
    by : (a : Bool) → nat_lt m m ≡ a → (b : Bool) → (comes_before ms ms ≡ true → ⊥) → (a || (b && comes_before ms ms)) ≡ true → ⊥
    by true less b rest h = grind (arith, nat_tests, less)
    by false less true rest h = rest h
    by false less false rest h = false≢true h
