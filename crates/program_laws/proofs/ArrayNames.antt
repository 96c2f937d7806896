-- The name of an array tells that of its elements.
use Rattle.std.proofs.Common.{codes, ◌≡◌, ℕ, ◌-◌, ◌<◌, Bool, true, false, List, ◌++◌, length, take, drop, cond, if◌then◌else◌, refl, sym, ap, ◌∙◌, subst, arith}
use Rattle.std.proofs.lemmas.List.{take_at, length-append}
use Rattle.jvm_model.specs.Soundness.{is_array}
use Rattle.jvm_model.specs.Subtypes.{array_of}

-- what stands behind [, if that is an array; else between L and the ; at the end
abbrev pub element_of : List ℕ → List ℕ
element_of text = cond (is_array (drop 1 text)) (drop 1 text) (take (length text - 3) (drop 2 text))

-- an array's name, by whether its elements are arrays
abbrev spelled : List ℕ → Bool → List ℕ
spelled name array = codes "[" ++ (if array then name else codes "L" ++ name ++ codes ";")

spelled_array : (name : List ℕ) (b : Bool) → is_array name ≡ b → array_of name ≡ spelled name b
spelled_array name b e = ap (spelled name) e

pub element_of_array : (name : List ℕ) → element_of (array_of name) ≡ name
element_of_array name = by (is_array name) refl
  where
    text : List ℕ
    text = codes "[" ++ name

    by : (b : Bool) → is_array name ≡ b → element_of (array_of name) ≡ name
    by true e = ap element_of (spelled_array name true e) ∙ ap (λ (b : Bool). cond b (drop 1 text) (take (length text - 3) (drop 2 text))) e
    by false e =
        ap element_of (spelled_array name false e) ∙ take_at name (codes ";") (length (codes "[L" ++ name ++ codes ";") - 3) (omega (arith, length-append name (codes ";")))

pub array_longer : (name : List ℕ) → length name < length (array_of name)
array_longer name = by (is_array name) refl
  where
    by : (b : Bool) → is_array name ≡ b → length name < length (array_of name)
    by true e = subst (λ (text : List ℕ). length name < length text) (sym (spelled_array name true e)) (omega arith)
    by false e = subst (λ (text : List ℕ). length name < length text) (sym (spelled_array name false e)) (omega (arith, length-append name (codes ";")))

pub element_is : (text name : List ℕ) → text ≡ array_of name → element_of text ≡ name
element_is text name e = ap element_of e ∙ element_of_array name

pub array_is : (text name : List ℕ) → text ≡ array_of name → text ≡ array_of (element_of text)
array_is text name e = e ∙ ap array_of (sym (element_is text name e))

pub element_shorter : (text : List ℕ) → text ≡ array_of (element_of text) → length (element_of text) < length text
element_shorter text e = subst (λ (x : List ℕ). length (element_of text) < length x) (sym e) (array_longer (element_of text))
