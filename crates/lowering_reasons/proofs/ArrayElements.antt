-- The class of the elements of an array, by its name.
use Rattle.std.proofs.Common.{◌≡◌, ◌≢◌, Bor, ℕ, zero, suc, ◌+◌, Bool, false, List, [], ◌∷◌, ◌++◌, replicate, Option, Some, None, refl, sym, ◌∙◌, ap, subst, codes, arith, append_assoc}
use Rattle.std.specs.Prelude.{◌↔◌, IsTrue, MatchOption, option_map}
use Rattle.std.proofs.lemmas.Bool.{false≢true}
use Rattle.std.proofs.lemmas.List.{append_cancel_left, append_cancel_right}
use Rattle.jvm_model.specs.Programs.{Program}
use Rattle.jvm_model.specs.Soundness.{is_array}
use Rattle.jvm_model.specs.Subtypes.{class_named}
use Rattle.lowering_reasons.specs.Looked.{IsBehindBrackets, IsClassDescriptor, IsOnly}
use Rattle.lowering_reasons.specs.Reasons.{IsElementClass, IsNotThere, a_class, an_array}
use Rattle.lowering_reasons.proofs.Only.{none_such, only_none, only_one, only_same}

-- ---- brackets

-- so many brackets were taken away
pub record AreTaken (name rest : List ℕ) : Type 0 where
  pub dimensions : ℕ
  pub is : name ≡ replicate dimensions 91 ++ rest

pub none_taken : (name : List ℕ) → AreTaken name name
none_taken name = record { dimensions = 0; is = refl }

one_further : (n : ℕ) (inner : List ℕ) → replicate n 91 ++ 91 ∷ inner ≡ 91 ∷ (replicate n 91 ++ inner)
one_further zero inner = refl
one_further (suc n) inner = ap (λ (xs : List ℕ). 91 ∷ xs) (one_further n inner)

pub one_taken : (name rest inner : List ℕ) → AreTaken name rest → rest ≡ 91 ∷ inner → AreTaken name inner
one_taken name rest inner taken e =
    record { dimensions = suc taken.dimensions; is = taken.is ∙ ap (λ (xs : List ℕ). replicate taken.dimensions 91 ++ xs) e ∙ one_further taken.dimensions inner }

-- ---- descriptors

abbrev MayEnd : List ℕ → Option (Bor (List ℕ)) → Type 0
MayEnd rest r = MatchOption r ((front : List ℕ) → rest ≢ front ++ 59 ∷ []) (λ (x : Bor (List ℕ)). rest ≡ x.now ++ 59 ∷ [])

inner_text : (text rest class : List ℕ) → text ≡ 76 ∷ rest → IsClassDescriptor text class → rest ≡ class ++ 59 ∷ []
inner_text text rest class begins is = append_cancel_left (76 ∷ []) rest (class ++ 59 ∷ []) (sym begins ∙ is)

pub described : (text rest : List ℕ) (r : Option (Bor (List ℕ))) → text ≡ 76 ∷ rest → MayEnd rest r → IsOnly (IsClassDescriptor text) (option_map (λ (x : Bor (List ℕ)). x.now) r)
described text rest None begins ends = only_none (IsClassDescriptor text) (λ class is. ends class (inner_text text rest class begins is))
described text rest (Some x) begins ends =
    only_one (IsClassDescriptor text) x.now (begins ∙ ap (λ (xs : List ℕ). 76 ∷ xs) ends)
    (λ class is. append_cancel_right x.now class (59 ∷ []) (sym ends ∙ inner_text text rest class begins is))

-- ---- arrays

one_behind : (m n : ℕ) (x y : List ℕ) → is_array x ≡ false → is_array y ≡ false → replicate m 91 ++ x ≡ replicate n 91 ++ y → x ≡ y
one_behind zero zero x y plain_x plain_y e = e
one_behind zero (suc n) x y plain_x plain_y e = absurd (false≢true (sym plain_x ∙ ap is_array e))
one_behind (suc m) zero x y plain_x plain_y e = absurd (false≢true (sym plain_y ∙ ap is_array (sym e)))
one_behind (suc m) (suc n) x y plain_x plain_y e = one_behind m n x y plain_x plain_y (append_cancel_left (91 ∷ []) (replicate m 91 ++ x) (replicate n 91 ++ y) e)

grouped : (n : ℕ) (class : List ℕ) → replicate n 91 ++ codes "L" ++ class ++ codes ";" ≡ replicate n 91 ++ (codes "L" ++ class ++ codes ";")
grouped n class =
    append_assoc (replicate n 91 ++ codes "L") class (codes ";") ∙ append_assoc (replicate n 91) (codes "L") (class ++ codes ";")

element_of : (name rest class : List ℕ) (n : ℕ) → IsTrue (is_array name) → is_array rest ≡ false → name ≡ replicate n 91 ++ rest → IsClassDescriptor rest class → IsElementClass name class
element_of name rest class zero array plain is descriptor = absurd (false≢true (sym plain ∙ ap is_array (sym is) ∙ array))
element_of name rest class (suc n) array plain is descriptor =
    let more : suc n ≡ n + 1 = omega arith in
    record {
      dimensions = n;
      is = is ∙ ap (λ (xs : List ℕ). replicate (suc n) 91 ++ xs) descriptor ∙ sym (grouped (suc n) class)
          ∙ ap (λ (k : ℕ). replicate k 91 ++ codes "L" ++ class ++ codes ";") more;
    }

pub elements : (name rest : List ℕ) (o : Option (List ℕ)) → IsTrue (is_array name) → IsBehindBrackets name rest → IsOnly (IsClassDescriptor rest) o → IsOnly (IsElementClass name) o
elements name rest o array behind only =
    record {
      holds = λ class e. element_of name rest class behind.dimensions array behind.no_array behind.is (only.holds class e);
      only = λ class h. only.only class
          (one_behind behind.dimensions (h.dimensions + 1) rest (codes "L" ++ class ++ codes ";") behind.no_array refl
          (sym behind.is ∙ h.is ∙ grouped (h.dimensions + 1) class));
    }

-- ---- what is not there

pub array_there : (p : Program) (name class : List ℕ) (b : Bool) → IsTrue (is_array name) → IsOnly (IsElementClass name) (Some class) → (IsTrue b ↔ (class_named p class ≡ None))
    → IsTrue b ↔ IsNotThere p name
array_there p name class b array only test = (λ passed. an_array class (only.holds class refl) (test.0 passed), by)
  where
    by : IsNotThere p name → IsTrue b
    by (a_class plain none) = absurd (false≢true (sym plain ∙ array))
    by (an_array other element none) = test.1 (subst (λ (x : List ℕ). class_named p x ≡ None) (sym (only_same (IsElementClass name) class other only element)) none)

pub array_other : (p : Program) (name : List ℕ) → IsTrue (is_array name) → IsOnly (IsElementClass name) None → IsNotThere p name → ⊥
array_other p name array only (a_class plain none) = false≢true (sym plain ∙ array)
array_other p name array only (an_array other element none) = none_such (IsElementClass name) only other element
