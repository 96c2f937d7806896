-- The lines that are left of some, and the last of them.
use Rattle.std.proofs.Common.{◌≡◌, ◌∙◌, ◌==◌, ℕ, zero, suc, ◌-◌, ◌<◌, true, false, true≢false, eqb-true, List, [], ◌∷◌, length, take, drop, refl, sym, ap, arith}
use Rattle.std.proofs.lemmas.List.{length-drop}
use Rattle.run_spec.specs.Lines.{last_of}
use Rattle.typestate_core.specs.Output.{lines_in}

-- So many of the first were left behind.
pub record IsLeft (all rest : List (List ℕ)) : Type 0 where
  pub count : ℕ
  pub is : rest ≡ drop count all

pub all_left : (all : List (List ℕ)) → IsLeft all all
all_left all = record { count = 0; is = refl }

drop_once : (n : ℕ) (xs : List (List ℕ)) → drop (suc n) xs ≡ drop 1 (drop n xs)
drop_once zero xs = refl
drop_once (suc n) [] = refl
drop_once (suc n) (x ∷ xs) = drop_once n xs

module _ (all rest : List (List ℕ)) (left : IsLeft all rest) (line : List ℕ) where
  pub one_less : (others : List (List ℕ)) → rest ≡ line ∷ others → IsLeft all others
  one_less others cut = record {
    count = suc left.count;
    is = ap (λ (ls : List (List ℕ)). drop 1 ls) (sym cut ∙ left.is) ∙ sym (drop_once left.count all);
  }

  pub last_left : rest ≡ line ∷ [] → rest ≡ last_of all
  last_left cut =
      let one : length all - left.count ≡ 1 = sym (length-drop left.count all) ∙ ap (λ (ls : List (List ℕ)). length ls) (sym left.is ∙ cut) in
      let at : left.count ≡ length all - 1 = omega (arith, one) in
      left.is ∙ ap (λ (n : ℕ). drop n all) at

-- ---- of a text

none_there : (bytes : List ℕ) → (length bytes == 0) ≡ true → bytes ≡ []
none_there [] e = refl
none_there (b ∷ bytes) e = absurd (omega (arith, eqb-true (length (b ∷ bytes)) 0 e))

pub some_there : (bytes : List ℕ) → (length bytes == 0) ≡ false → 0 < length bytes
some_there [] e = absurd (true≢false e)
some_there (b ∷ bytes) e = omega arith

-- its first line has so many bytes
module _ (text rest others : List ℕ) (n : ℕ) (left : IsLeft (lines_in text) (lines_in rest)) (first : lines_in rest ≡ take n rest ∷ lines_in (drop n rest))
    (back : others ≡ drop n rest) where
  cut : lines_in rest ≡ take n rest ∷ lines_in others
  cut = first ∙ ap (λ (bytes : List ℕ). take n rest ∷ lines_in bytes) (sym back)

  pub text_left : IsLeft (lines_in text) (lines_in others)
  text_left = one_less (lines_in text) (lines_in rest) left (take n rest) (lines_in others) cut

  pub text_last : (length others == 0) ≡ true → lines_in rest ≡ last_of (lines_in text)
  text_last none =
      last_left (lines_in text) (lines_in rest) left (take n rest) (cut ∙ ap (λ (bytes : List ℕ). take n rest ∷ lines_in bytes) (none_there others none))
