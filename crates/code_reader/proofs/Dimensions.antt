-- How many [ a text begins with, found as the place of the first other byte.
use Rattle.std.proofs.Common.{◌≡◌, ℕ, suc, ◌+◌, ◌≤◌, Bool, true, false, not, cond, eqb, ltb, List, [], ◌∷◌, length, Some, None, refl, sym, ◌∙◌, arith}
use Rattle.std.specs.List.{position, position_or_len}
use Rattle.std.proofs.lemmas.List.Recursion.{is_position_or_len}
use Rattle.std.proofs.lemmas.Bool.{ltb-false}
use Rattle.std.proofs.lemmas.Option.{same_Some}
use Rattle.jvm_model.specs.InstructionUses.{brackets}

abbrev is_other : ℕ → Bool
is_other b = not (eqb b 91)

step : (b : Bool) (n : ℕ) → cond b (suc n) 0 ≡ cond (not b) 0 (1 + n)
step true n = omega arith
step false n = refl

is_brackets : (text : List ℕ) → brackets text ≡ position_or_len is_other text
is_brackets text = is_position_or_len brackets is_other refl (λ x xs. step (eqb x 91) (brackets xs)) text

at_most : (text : List ℕ) → brackets text ≤ length text
at_most [] = omega arith
at_most (b ∷ text) = below (eqb b 91) (brackets text) (length text) (at_most text)
  where
    below : (t : Bool) (m n : ℕ) → m ≤ n → cond t (suc m) 0 ≤ suc n
    below true m n le = omega (arith, le)
    below false m n le = omega arith

chosen : (t : Bool) (m n : ℕ) → cond t (Some m) None ≡ Some n → m ≡ n
chosen true m n e = same_Some _ _ e
chosen false m n e = absurd cc

not_chosen : (t : Bool) (m : ℕ) → cond t (Some m) None ≡ None → t ≡ false
not_chosen true m e = absurd cc
not_chosen false m e = refl

pub brackets_some : (text : List ℕ) (n : ℕ) → position is_other text ≡ Some n → n ≡ brackets text
brackets_some text n e = sym (chosen (ltb (position_or_len is_other text) (length text)) (position_or_len is_other text) n e) ∙ sym (is_brackets text)

pub brackets_none : (text : List ℕ) → position is_other text ≡ None → length text ≡ brackets text
brackets_none text e =
    let past = ltb-false (position_or_len is_other text) (length text) (not_chosen (ltb (position_or_len is_other text) (length text)) (position_or_len is_other text) e) in
    omega (arith, past, is_brackets text, at_most text)
