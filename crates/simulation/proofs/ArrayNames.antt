-- The arrays that an instruction of sound code makes have the names of arrays, and none of a class.
use Rattle.std.proofs.Common.{codes, ◌≡◌, ◌⊎◌, inl, inr, ℕ, zero, suc, ◌-◌, ◌<◌, ◌≤◌, Bool, true, false, cond, eqb, not, ◌&&◌, ◌||◌, List, [], ◌∷◌, ◌++◌, length, get_or, Option, Some, None, Contains, All, refl, sym, ap, ◌∙◌, subst, arith}
use Rattle.std.specs.Prelude.{nat_le, IsTrue}
use Rattle.std.specs.Option.{option_map_or}
use Rattle.std.specs.List.{list_all, join_with_byte}
use Rattle.std.proofs.lemmas.Bool.{and_parts, false≢true, leb-true}
use Rattle.std.proofs.lemmas.List.Elements.{All-get_or}
use Rattle.jvm_model.specs.declared.pool.PoolEntry.{PoolEntry}
use Rattle.jvm_model.specs.Instructions.{DecodedInstruction}
use Rattle.jvm_model.specs.InstructionUses.{brackets, has_shape, leads_right, leads_there, pool_target, target_kinds, within_dimensions}
use Rattle.jvm_model.specs.Lookups.{class_name_at}
use Rattle.jvm_model.specs.Names.{is_name_byte, is_unqualified_name, IsClassName}
use Rattle.jvm_model.specs.Soundness.{is_array}
use Rattle.jvm_model.specs.Subtypes.{array_of}
use Rattle.jvm_model.specs.Table.{Operands, pool_2_and_dimensions, an_array}
use Rattle.machine_bytecode.specs.Machine.{NamesArrays, of_primitives, of_references, nested, nested_arrays, primitive_array}
use Rattle.program_laws.proofs.Orders.{none_there, where_there}

-- ---- a name of a class

-- its first byte is no [
plain_byte : (a b c d : Bool) → not (((a || b) || c) || d) ≡ true → c ≡ false
plain_byte true b c d e = absurd (false≢true e)
plain_byte false true c d e = absurd (false≢true e)
plain_byte false false true d e = absurd (false≢true e)
plain_byte false false false d e = refl

part_plain : (part others : List ℕ) → is_unqualified_name part ≡ true → is_array (part ++ others) ≡ false
part_plain [] others e = absurd (false≢true e)
part_plain (b ∷ bytes) others e =
    plain_byte (eqb b 46) (eqb b 59) (eqb b 91) (eqb b 47) (and_parts (is_name_byte b) (list_all is_name_byte bytes) e).0

append_nothing : (xs : List ℕ) → xs ++ [] ≡ xs
append_nothing [] = refl
append_nothing (x ∷ xs) = ap (λ (ys : List ℕ). x ∷ ys) (append_nothing xs)

first_of_all : (part : List ℕ) (parts : List (List ℕ)) → All (λ p. IsTrue (is_unqualified_name p)) (part ∷ parts) → is_unqualified_name part ≡ true
first_of_all part parts all = All-get_or (λ (p : List ℕ). IsTrue (is_unqualified_name p)) (part ∷ parts) 0 part (omega arith) all

joined_plain : (parts : List (List ℕ)) → All (λ part. IsTrue (is_unqualified_name part)) parts → is_array (join_with_byte 47 parts) ≡ false
joined_plain [] all = refl
joined_plain (part ∷ []) all =
    subst (λ (text : List ℕ). is_array text ≡ false) (append_nothing part) (part_plain part [] (first_of_all part [] all))
joined_plain (part ∷ second ∷ parts) all = part_plain part (47 ∷ join_with_byte 47 (second ∷ parts)) (first_of_all part (second ∷ parts) all)

-- an array is none
pub array_no_class : (name : List ℕ) → is_array name ≡ true → IsClassName name → ⊥
array_no_class name is class = false≢true (sym (ap is_array class.joined ∙ joined_plain class.parts class.each) ∙ is)

-- nor is the empty text
empty_no_class : IsClassName [] → ⊥
empty_no_class class = by class.parts class.some class.each class.joined
  where
    by : (parts : List (List ℕ)) → 0 < length parts → All (λ part. IsTrue (is_unqualified_name part)) parts → [] ≡ join_with_byte 47 parts → ⊥
    by [] some all e = omega (arith, some)
    by ([] ∷ parts) some all e = false≢true (first_of_all [] parts all)
    by ((b ∷ bytes) ∷ []) some all e = absurd cc
    by ((b ∷ bytes) ∷ (second ∷ parts)) some all e = absurd cc

-- ---- the arrays of an instruction

-- those of primitives
of_a_code : (names : List (List ℕ)) (k : ℕ) → list_all is_array names ≡ true → (is_array (get_or names k []) ≡ true) ⊎ (get_or names k [] ≡ [])
of_a_code [] k all = inr refl
of_a_code (x ∷ xs) zero all = inl (and_parts (is_array x) (list_all is_array xs) all).0
of_a_code (x ∷ xs) (suc k) all = of_a_code xs k (and_parts (is_array x) (list_all is_array xs) all).1

primitive_named : (code : ℕ) → IsClassName (primitive_array code) → ⊥
primitive_named code class = elim (of_a_code (codes "[Z" ∷ codes "[C" ∷ codes "[F" ∷ codes "[D" ∷ codes "[B" ∷ codes "[S" ∷ codes "[I" ∷ codes "[J" ∷ []) (code - 4) refl) [
  | inl is ↦ array_no_class (primitive_array code) is class
  | inr none ↦ empty_no_class (subst IsClassName none class)
]

-- those that hold each other
nested_named : (count : ℕ) (array : List ℕ) → count ≤ brackets array → (name : List ℕ) → Contains (nested_arrays count array) name → is_array name ≡ true
nested_named zero array le name there = absurd (none_there name there)
nested_named (suc count) [] le name there = absurd (omega (arith, le))
nested_named (suc count) (b ∷ rest) le name there =
    by (λ fits later. nested_named count rest fits name later) (eqb b 91) refl le (where_there (b ∷ rest) name (nested_arrays count rest) there)
  where
    by : (count ≤ brackets rest → Contains (nested_arrays count rest) name → is_array name ≡ true) → (t : Bool) → eqb b 91 ≡ t → suc count ≤ cond t (suc (brackets rest)) 0
        → ((b ∷ rest) ≡ name) ⊎ Contains (nested_arrays count rest) name → is_array name ≡ true
    by deeper true e fits (inl same) = ap is_array (sym same) ∙ e
    by deeper true e fits (inr later) = deeper (omega (arith, fits)) later
    by deeper false e fits either = absurd (omega (arith, fits))

-- what is named is an array
shape_of : (o : Option (List ℕ)) (name : List ℕ) → o ≡ Some name → has_shape o an_array ≡ true → is_array name ≡ true
shape_of o name is e = subst (λ (x : Option (List ℕ)). has_shape x an_array ≡ true) is e

-- and has as many dimensions
dimensions_of : (o : Option (List ℕ)) (name : List ℕ) (count : ℕ) → o ≡ Some name → is_array name ≡ true
    → option_map_or (λ n. not (is_array n) || nat_le count (brackets n)) o true ≡ true → count ≤ brackets name
dimensions_of o name count is array e =
    let told : (not (is_array name) || nat_le count (brackets name)) ≡ true = subst (λ (x : Option (List ℕ)). option_map_or (λ n. not (is_array n) || nat_le count (brackets n)) x true ≡ true) is e in
    leb-true count (brackets name) (subst (λ (b : Bool). (not b || nat_le count (brackets name)) ≡ true) array told)

module _ (pool : List PoolEntry) (i : DecodedInstruction) (leads : leads_right pool i ≡ true) (within : within_dimensions pool i ≡ true) where
  leads_by : (o : Operands) → i.row.operands ≡ o → option_map_or (leads_there pool i.operand) (pool_target o) true ≡ true
  leads_by o is = subst (λ (x : Operands). option_map_or (leads_there pool i.operand) (pool_target x) true ≡ true) is leads

  pub arrays_no_class : (arrays : List (List ℕ)) → NamesArrays pool i arrays → (name : List ℕ) → Contains arrays name → IsClassName name → ⊥
  arrays_no_class arrays (of_primitives operands is) name there class =
      elim (where_there (primitive_array i.operand) name [] (subst (λ (names : List (List ℕ)). Contains names name) is there)) [
        | inl same ↦ primitive_named i.operand (subst IsClassName (sym same) class)
        | inr none ↦ none_there name none
      ]
  arrays_no_class arrays (of_references operands n is) name there class =
      elim (where_there (array_of n.class) name [] (subst (λ (names : List (List ℕ)). Contains names name) is there)) [
        | inl same ↦ array_no_class name (ap is_array (sym same)) class
        | inr none ↦ none_there name none
      ]
  arrays_no_class arrays (nested operands n is) name there class =
      let told = and_parts _ (has_shape (class_name_at pool i.operand) an_array) (leads_by pool_2_and_dimensions operands) in
      let array = shape_of (class_name_at pool i.operand) n.class n.named told.1 in
      let enough = dimensions_of (class_name_at pool i.operand) n.class i.dimensions n.named array within in
      array_no_class name (nested_named i.dimensions n.class enough name (subst (λ (names : List (List ℕ)). Contains names name) is there)) class
