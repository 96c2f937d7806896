-- Names of classes of the program: none is that of an array, and what is above one of them is one.
use Rattle.std.proofs.Common.{◌≡◌, inl, inr, ℕ, ◌<◌, Bool, true, false, ◌||◌, ◌==◌, List, [], ◌∷◌, ◌++◌, length, Some, sym, ◌∙◌, ap, subst, arith}
use Rattle.std.specs.Prelude.{◌↔◌, IsTrue}
use Rattle.std.specs.List.{AllByRecursion, list_all, join_with_byte}
use Rattle.std.proofs.lemmas.Bool.{false≢true, and_parts, not-true, or_parts}
use Rattle.std.proofs.lemmas.List.{append-nil}
use Rattle.std.proofs.lemmas.List.Elements.{All-contains, recursion_from_All}
use Rattle.list_laws.proofs.Places.{at_map, contains_at}
use Rattle.jvm_model.specs.LinkedPrograms.{IsProgram, class_names}
use Rattle.jvm_model.specs.Names.{is_name_byte, is_unqualified_name, IsClassName}
use Rattle.jvm_model.specs.Programs.{Class, Program}
use Rattle.jvm_model.specs.Soundness.{is_array}
use Rattle.jvm_model.specs.Subtypes.{class_named, IsDirectSuper, IsSubtype, same, below}
use Rattle.program_model.specs.Numbers.{name_at, IsClassNumber}
use Rattle.hierarchy.proofs.ClassPlaces.{IsNowhere, class_of_number, number_named, somewhere, supers_of}
use Rattle.hierarchy.specs.Casts.{IsClassBelow}

-- ---- no class has the name of an array

-- a byte that may stand in a name is no [
no_bracket : (b : ℕ) → is_name_byte b ≡ true → (b == 91) ≡ false
no_bracket b e =
    let up_to = or_parts (b == 46 || b == 59 || b == 91) (b == 47) (not-true (b == 46 || b == 59 || b == 91 || b == 47) e) in
    (or_parts (b == 46 || b == 59) (b == 91) up_to.0).1

part_plain : (part rest : List ℕ) → is_unqualified_name part ≡ true → is_array (part ++ rest) ≡ false
part_plain [] rest e = absurd (false≢true e)
part_plain (b ∷ bytes) rest e = no_bracket b (and_parts (is_name_byte b) (list_all is_name_byte bytes) e).0

joined_plain : (parts : List (List ℕ)) → 0 < length parts → AllByRecursion (λ part. is_unqualified_name part ≡ true) parts → is_array (join_with_byte 47 parts) ≡ false
joined_plain [] some each = absurd (omega arith)
joined_plain (x ∷ []) some each = ap is_array (sym (append-nil x)) ∙ part_plain x [] each.0
joined_plain (x ∷ y ∷ parts) some each = part_plain x (47 ∷ join_with_byte 47 (y ∷ parts)) each.0

name_plain : (name : List ℕ) → IsClassName name → is_array name ≡ false
name_plain name is =
    ap is_array is.joined
    ∙ joined_plain is.parts is.some (recursion_from_All (λ (part : List ℕ). is_unqualified_name part ≡ true) is.parts is.each)

pub class_plain : (p : Program) → IsProgram p → (name : List ℕ) (c : Class) → class_named p name ≡ Some c → is_array name ≡ false
class_plain p program name c named =
    let at = number_named p name c named in
    let there = contains_at (class_names p) at.0 c.name (at_map (λ (d : Class). d.name) p.classes at.0 c at.1) in
    ap is_array (sym at.2) ∙ name_plain c.name (All-contains IsClassName (class_names p) c.name program.named there)

-- ---- what is above a class

super_there : (p : Program) → IsProgram p → (name super : List ℕ) (c : Class) → class_named p name ≡ Some c → IsDirectSuper c super → (d : Class) × (class_named p super ≡ Some d)
super_there p program name super c named (inl up) = let above = (supers_of p program name c named).superclass super up in (above.0, above.1)
super_there p program name super c named (inr through) = let above = (supers_of p program name c named).interfaces super through in (above.0, above.1)

above_there : (p : Program) → IsProgram p → (above name : List ℕ) (c : Class) → class_named p name ≡ Some c → IsSubtype p above name → (d : Class) × (class_named p above ≡ Some d)
above_there p program above name c named (same n e) = (c, subst (λ (x : List ℕ). class_named p x ≡ Some c) e named)
above_there p program above name c named (below n d super named_too direct rest) =
    let up = super_there p program name super d named_too direct in
    above_there p program above super up.0 up.1 rest

-- ---- whether a class is below another one

pub below_nowhere : (p : Program) (upper lower : List ℕ) → IsNowhere p lower → IsClassBelow p upper lower → ⊥
below_nowhere p upper lower nowhere h = somewhere p lower h.class h.named nowhere

pub nowhere_above : (p : Program) → IsProgram p → (upper lower : List ℕ) → IsNowhere p upper → IsClassBelow p upper lower → ⊥
nowhere_above p program upper lower nowhere h =
    let there = above_there p program upper lower h.class h.named h.below in somewhere p upper there.0 there.1 nowhere

pub below_by_numbers : (p : Program) → IsProgram p → (upper lower : List ℕ) (m n : ℕ) (b : Bool) → IsClassNumber p n → name_at p m ≡ upper → name_at p n ≡ lower
    → (IsTrue b ↔ IsSubtype p (name_at p m) (name_at p n)) → IsTrue b ↔ IsClassBelow p upper lower
below_by_numbers p program upper lower m n b within upper_is lower_is test =
    let there = class_of_number p program n within in (
      λ yes. record {
        class = there.0;
        named = subst (λ (x : List ℕ). class_named p x ≡ Some there.0) lower_is there.1.named;
        below = subst (λ (x : List ℕ). IsSubtype p upper x) lower_is (subst (λ (x : List ℕ). IsSubtype p x (name_at p n)) upper_is (test.0 yes));
      },
      λ h. test.1 (subst (λ (x : List ℕ). IsSubtype p x (name_at p n)) (sym upper_is) (subst (λ (x : List ℕ). IsSubtype p upper x) (sym lower_is) h.below)),
    )
