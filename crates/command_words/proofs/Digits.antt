-- Numbers of few decimal digits, digit by digit.
use Rattle.std.proofs.Common.{◌≡◌, ◌∙◌, ℕ, ◌+◌, ◌-◌, ◌*◌, ◌^◌, ◌<◌, ◌≤◌, Bool, true, false, ◌&&◌, List, length, take, get_or, fold, refl, sym, ap₂, leb-true, le-leb}
use Rattle.std.specs.List.{list_all}
use Rattle.std.proofs.lemmas.Bool.{and_parts}
use Rattle.std.proofs.lemmas.List.Folds.{list_all_at, list_all_more}
use Rattle.std.proofs.lemmas.List.Sums.{fold_more}
use Rattle.std.proofs.lemmas.Str.Parse.{IsDigitsTest, IsNumeralModel, numerals_by_fold, digits_value_short}
use Rattle.command_words.specs.Requests.{is_digit, number_of}

-- ---- how large they are

all_digits : IsDigitsTest (λ ds. list_all is_digit ds ≡ true)
all_digits = record {
  empty = refl;
  parts = λ c cs e. let k = and_parts (is_digit c) (list_all is_digit cs) e in let m = and_parts _ _ k.0 in ((leb-true 48 c m.0, leb-true c 57 m.1), k.1);
  more = λ c cs k e i. (le-leb 48 c k.0 i && le-leb c 57 k.1 i) && e i;
}

numerals : IsNumeralModel (λ ds. list_all is_digit ds ≡ true) (λ ds. number_of ds)
numerals =
    numerals_by_fold (λ ds. list_all is_digit ds ≡ true) all_digits (λ n ds. fold (λ m b. m * 10 + (b - 48)) n ds)
    record { empty = λ n. refl; more = λ n c cs k. refl }

-- digits of at most k places spell a number below the power
pub below_power : (ds : List ℕ) (k : ℕ) → list_all is_digit ds ≡ true → length ds ≤ k → number_of ds < 10 ^ k
below_power ds k digits short = digits_value_short numerals ds k digits short

-- ---- one more digit

module _ (text : List ℕ) (i : ℕ) (lt : i < length text) where
  pub digits_more : list_all is_digit (take i text) ≡ true → is_digit (get_or text i 0) ≡ true → list_all is_digit (take (i + 1) text) ≡ true
  digits_more before here = list_all_more is_digit text i 0 lt ∙ ap₂ (λ (x y : Bool). x && y) before here

  pub number_more : (n d : ℕ) → n ≡ number_of (take i text) → d ≡ get_or text i 0 - 48 → n * 10 + d ≡ number_of (take (i + 1) text)
  number_more n d before here = ap₂ (λ (x y : ℕ). x * 10 + y) before here ∙ sym (fold_more (λ (m b : ℕ). m * 10 + (b - 48)) 0 text i 0 lt)

  pub other_byte : is_digit (get_or text i 0) ≡ false → list_all is_digit text ≡ false
  other_byte here = list_all_at is_digit text i 0 lt here
