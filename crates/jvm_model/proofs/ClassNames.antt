-- Class names, and the parts between their slashes.
use Rattle.std.proofs.Common.{◌≡◌, ℕ, ◌<◌, Bool, true, false, ◌||◌, ◌==◌, List, [], ◌∷◌, length, refl, ap, sym, ◌∙◌, arith}
use Rattle.std.specs.Bool.{IsTrue}
use Rattle.std.specs.List.{All, AllByRecursion, list_all, slice_split, join_with_byte}
use Rattle.std.proofs.lemmas.Bool.{and_parts, and_from, or_parts, not-true}
use Rattle.std.proofs.lemmas.List.Elements.{All-from_recursion, recursion_from_All}
use Rattle.std.proofs.lemmas.List.Splits.{slice_split_none, slice_split_at, length-slice_split, join_with_byte-slice_split}
use Rattle.jvm_model.specs.Names.{is_name_byte, is_unqualified_name, IsClassName}

-- What each element that passes a test has, each element of a list has that passes it.
pub each_of : {X : Type 0} (p : X → Bool) (P : X → Type 0) → ((x : X) → p x ≡ true → P x) → (xs : List X) → list_all p xs ≡ true → AllByRecursion P xs
each_of p P h [] e = tt
each_of p P h (x ∷ xs) e = let both = and_parts (p x) (list_all p xs) e in (h x both.0, each_of p P h xs both.1)

-- A list passes a test where each element does.
pub test_of : {X : Type 0} (p : X → Bool) (xs : List X) → AllByRecursion (λ x. p x ≡ true) xs → list_all p xs ≡ true
test_of p [] h = refl
test_of p (x ∷ xs) h = and_from (p x) (list_all p xs) h.0 (test_of p xs h.1)

pub not_slash : (b : ℕ) → is_name_byte b ≡ true → (b == 47) ≡ false
not_slash b e = (or_parts (b == 46 || b == 59 || b == 91) (b == 47) (not-true (b == 46 || b == 59 || b == 91 || b == 47) e)).1

-- An unqualified name has name bytes.
pub name_bytes : (part : List ℕ) → is_unqualified_name part ≡ true → list_all is_name_byte part ≡ true
name_bytes [] e = refl
name_bytes (b ∷ bytes) e = e

no_slash : (part : List ℕ) → is_unqualified_name part ≡ true → All (λ b. (b == 47) ≡ false) part
no_slash part e = All-from_recursion (λ b. (b == 47) ≡ false) part (each_of is_name_byte (λ b. (b == 47) ≡ false) not_slash part (name_bytes part e))

-- The parts of joined parts are those parts.
split_joined : (parts : List (List ℕ)) → 0 < length parts → AllByRecursion (λ part. is_unqualified_name part ≡ true) parts → slice_split (λ b. b == 47) (join_with_byte 47 parts) ≡ parts
split_joined [] some each = absurd (omega arith)
split_joined (x ∷ []) some each = slice_split_none (λ b. b == 47) x (no_slash x each.0)
split_joined (x ∷ y ∷ parts) some each =
    slice_split_at (λ b. b == 47) x 47 (join_with_byte 47 (y ∷ parts)) (no_slash x each.0) refl
    ∙ ap (λ rest. x ∷ rest) (split_joined (y ∷ parts) (omega arith) each.1)

-- A text is the name of a class if each of its parts is an unqualified name.
pub class_name_from_parts : (name : List ℕ) → list_all is_unqualified_name (slice_split (λ b. b == 47) name) ≡ true → IsClassName name
class_name_from_parts name e =
    let parts = slice_split (λ b. b == 47) name in
    record {
      parts = parts;
      some = omega (arith, length-slice_split (λ b. b == 47) name);
      each = All-from_recursion (λ part. IsTrue (is_unqualified_name part)) parts (each_of is_unqualified_name (λ part. IsTrue (is_unqualified_name part)) (λ part h. h) parts e);
      joined = sym (join_with_byte-slice_split 47 name);
    }

-- Each part of the name of a class is an unqualified name.
pub parts_of_class_name : (name : List ℕ) → IsClassName name → list_all is_unqualified_name (slice_split (λ b. b == 47) name) ≡ true
parts_of_class_name name is =
    let each : AllByRecursion (λ part. is_unqualified_name part ≡ true) is.parts = recursion_from_All (λ part. is_unqualified_name part ≡ true) is.parts is.each in
    let e : slice_split (λ b. b == 47) name ≡ is.parts = ap (slice_split (λ b. b == 47)) is.joined ∙ split_joined is.parts is.some each in
    ap (list_all is_unqualified_name) e ∙ test_of is_unqualified_name is.parts each
