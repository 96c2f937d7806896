-- The numbers of the classes of names, one by one, and in which order the classes that are thrown stand.
use Rattle.std.proofs.Common.{codes, ◌≡◌, ℕ, zero, suc, ◌+◌, ◌<◌, Bool, true, false, not, cond, List, [], ◌∷◌, ◌++◌, length, map, position, Option, Some, None, refl, sym, ap, ◌∙◌, arith, append_assoc}
use Rattle.std.specs.List.{position_or_len, slice_get}
use Rattle.std.specs.Option.{option_map, option_to_list}
use Rattle.std.specs.Prelude.{nat_lt}
use Rattle.std.specs.Str.{bytes_eq}
use Rattle.std.proofs.lemmas.Bool.{lt-ltb, ltb-true}
use Rattle.std.proofs.lemmas.Grind.{flat_map-append}
use Rattle.std.proofs.lemmas.List.{append-nil, map-append}
use Rattle.std.proofs.lemmas.Option.{none-some, same_Some}
use Rattle.std.proofs.lemmas.Slice.Eq.{bytes_eq-Decides}
use Rattle.jvm_model.specs.declared.number.ClassNo.{ClassNo}
use Rattle.jvm_model.specs.LinkedPrograms.{IsProgram}
use Rattle.jvm_model.specs.Programs.{Class, Program}
use Rattle.jvm_model.specs.Table.{Raise}
use Rattle.program_model.specs.Numbers.{name_at, IsClassNumber as IsNumber}
use Rattle.hierarchy.proofs.ClassPlaces.{class_of_number, class_within, name_at-at, same_place}
use Rattle.machine_bytecode.specs.Machine.{exception_class}
use Rattle.machine_nodes.specs.Nodes.{HasInitialiser}
use Rattle.lowering_handlers.specs.Exceptions.{number_named, numbers_named, IsThrownList, raised_alone, with_errors}

-- ---- the place of what passes a test

not_true : (b : Bool) → (b ≡ true → ⊥) → b ≡ false
not_true true ne = absurd (ne refl)
not_true false ne = refl

module _ {X : Type 0} (test : X → Bool) where
  stops : (x : X) (rest : ℕ) → test x ≡ true → cond (not (test x)) (1 + rest) 0 ≡ 0
  stops x rest e = ap (λ (b : Bool). cond (not b) (1 + rest) 0) e

  goes_on : (x : X) (rest : ℕ) → test x ≡ false → cond (not (test x)) (1 + rest) 0 ≡ 1 + rest
  goes_on x rest e = ap (λ (b : Bool). cond (not b) (1 + rest) 0) e

  first_is : (xs : List X) (k : ℕ) (x : X) → slice_get xs k ≡ Some x → test x ≡ true → ((j : ℕ) (y : X) → j < k → slice_get xs j ≡ Some y → test y ≡ false) → position_or_len test xs ≡ k
  first_is [] k x is passes before = absurd (none-some x is)
  first_is (y ∷ ys) zero x is passes before = stops y (position_or_len test ys) (ap test (same_Some y x is) ∙ passes)
  first_is (y ∷ ys) (suc k) x is passes before =
      let later = first_is ys k x is passes (λ j z lt there. before (suc j) z (omega (arith, lt)) there) in
      let more : 1 + position_or_len test ys ≡ suc k = omega (arith, later) in
      goes_on y (position_or_len test ys) (before 0 y (omega arith) refl) ∙ more

  nowhere_is : (xs : List X) → ((j : ℕ) (y : X) → slice_get xs j ≡ Some y → test y ≡ false) → position_or_len test xs ≡ length xs
  nowhere_is [] none = refl
  nowhere_is (y ∷ ys) none =
      let later = nowhere_is ys (λ j z there. none (suc j) z there) in
      let more : 1 + position_or_len test ys ≡ suc (length ys) = omega (arith, later) in
      goes_on y (position_or_len test ys) (none 0 y refl) ∙ more

  position_is : (xs : List X) (k : ℕ) → position_or_len test xs ≡ k → k < length xs → position test xs ≡ Some k
  position_is xs k e lt = ap (λ (n : ℕ). cond (nat_lt n (length xs)) (Some n) None) e ∙ ap (λ (b : Bool). cond b (Some k) None) (lt-ltb k (length xs) lt)

  no_position : (xs : List X) → position_or_len test xs ≡ length xs → position test xs ≡ None
  no_position xs e =
      ap (λ (n : ℕ). cond (nat_lt n (length xs)) (Some n) None) e
      ∙ ap (λ (b : Bool). cond b (Some (length xs)) None) (not_true (nat_lt (length xs) (length xs)) (λ less. (let lt = ltb-true (length xs) (length xs) less in omega (arith, lt))))

-- ---- the number of a name

module _ (p : Program) (program : IsProgram p) (name : List ℕ) where
  abbrev of_name : Class → Bool
  of_name c = bytes_eq c.name name

  abbrev listed : Option ℕ → List ClassNo
  listed o = option_to_list (option_map (λ (n : ℕ). record { 0 = n }) o)

  pub one_named : (c : ClassNo) → IsNumber p c.0 → name_at p c.0 ≡ name → number_named p name ≡ c ∷ []
  one_named c within named =
      let there = class_of_number p program c.0 within in
      let is_named : there.0.name ≡ name = sym there.1.name ∙ named in
      let first = first_is of_name p.classes c.0 there.0 there.1.stands ((bytes_eq-Decides there.0.name name).1 is_named)
      (λ j y lt at_j. not_true (of_name y) (λ passes.
      (let same = same_place p program j c.0 y there.0 at_j there.1.stands ((bytes_eq-Decides y.name name).0 passes ∙ sym is_named) in omega (arith, same, lt)))) in
      ap listed (position_is of_name p.classes c.0 first within)

  pub none_named : ((n : ℕ) → IsNumber p n → name_at p n ≡ name → ⊥) → number_named p name ≡ []
  none_named none =
      ap listed (no_position of_name p.classes (nowhere_is of_name p.classes (λ j y at_j. not_true (of_name y) (λ passes.
      none j (class_within p j y at_j) (name_at-at p j y at_j ∙ (bytes_eq-Decides y.name name).0 passes)))))

-- ---- lists of names

-- one more name
pub named_more : (p : Program) (raises : List Raise) (raise : Raise) (all : List Raise) (old new : List ClassNo) → all ≡ raises ++ raise ∷ [] → old ≡ numbers_named p (map exception_class raises)
    → new ≡ old ++ number_named p (exception_class raise) → new ≡ numbers_named p (map exception_class all)
named_more p raises raise all old new longer before adds =
    adds
    ∙ ap (λ (cs : List ClassNo). cs ++ number_named p (exception_class raise)) before
    ∙ ap (λ (cs : List ClassNo). numbers_named p (map exception_class raises) ++ cs) (sym (append-nil (number_named p (exception_class raise))))
    ∙ sym (flat_map-append (number_named p) (map exception_class raises) (exception_class raise ∷ []))
    ∙ ap (numbers_named p) (sym (map-append exception_class raises (raise ∷ [])))
    ∙ ap (λ (rs : List Raise). numbers_named p (map exception_class rs)) (sym longer)

-- the errors behind what is raised
errors_more : (p : Program) (names : List (List ℕ)) (first second : List ℕ) (old one both : List ClassNo) → old ≡ numbers_named p names → one ≡ old ++ number_named p first → both ≡ one ++ number_named p second
    → both ≡ numbers_named p (names ++ first ∷ second ∷ [])
errors_more p names first second old one both before adds adds_2 =
    adds_2
    ∙ ap (λ (cs : List ClassNo). cs ++ number_named p second) adds
    ∙ append_assoc old (number_named p first) (number_named p second)
    ∙ ap (λ (cs : List ClassNo). cs ++ (number_named p first ++ number_named p second)) before
    ∙ ap (λ (cs : List ClassNo). numbers_named p names ++ (number_named p first ++ cs)) (sym (append-nil (number_named p second)))
    ∙ sym (flat_map-append (number_named p) names (first ∷ second ∷ []))

module _ (p : Program) (raises : List Raise) (raised : List ClassNo) (are : raised ≡ numbers_named p (map exception_class raises)) (trigger : Option (List ℕ)) where
  -- none but those that are raised
  pub alone : ((class : List ℕ) → trigger ≡ Some class → HasInitialiser p class → ⊥) → IsThrownList p raises trigger raised
  alone none = raised_alone none are

  -- and the errors of initialisation
  pub and_errors : (class : List ℕ) → trigger ≡ Some class → HasInitialiser p class → (one both : List ClassNo) → one ≡ raised ++ number_named p (codes "java/lang/ExceptionInInitializerError")
      → both ≡ one ++ number_named p (codes "java/lang/NoClassDefFoundError") → IsThrownList p raises trigger both
  and_errors class triggers has one both first second =
      with_errors class triggers has (errors_more p (map exception_class raises) (codes "java/lang/ExceptionInInitializerError") (codes "java/lang/NoClassDefFoundError") raised one both are first second)
