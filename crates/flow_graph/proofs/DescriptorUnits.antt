-- The units of descriptors, by their kinds and as the constant pool has them (JVMS 4.3).
use Rattle.std.proofs.Common.{◌≡◌, ◌⊎◌, inl, inr, ℕ, zero, suc, ◌≤◌, Bool, true, false, ◌||◌, eqb, cond, List, [], ◌∷◌, ◌++◌, length, codes, sum_by, Option, Some, None, IfSome, IfNone, refl, sym, ap, ◌∙◌, subst, arith, length-append}
use Rattle.std.specs.List.{AllZip, AllByRecursion, flat_map}
use Rattle.std.proofs.lemmas.Bool.{eqb-true}
use Rattle.std.proofs.lemmas.List.Elements.{All-from_recursion}
use Rattle.std.proofs.lemmas.List.Sums.{sum_by-cons}
use Rattle.jvm_model.specs.declared.descriptor.Descriptor.{Descriptor}
use Rattle.jvm_model.specs.declared.descriptor.Descriptor.TheVariants.{Field, Method}
use Rattle.jvm_model.specs.declared.descriptor.Kind.{Kind as TypeKind}
use Rattle.jvm_model.specs.declared.descriptor.Kind.TheVariants.{Prim, Class, Array}
use Rattle.jvm_model.specs.Descriptors.{is_base_letter, IsFieldDescriptor, IsMethodDescriptor}
use Rattle.jvm_model.specs.DescriptorValues.{is_wide, IsKind, IsOutcome, IsMethodOf, IsDescriptorOf}
use Rattle.jvm_model.specs.Instructions.{kinds_of, kinds_by}
use Rattle.jvm_model.proofs.FieldKinds.{field_of_kind, no_field}
use Rattle.jvm_model.specs.DescriptorValues.{kind_units}
use Rattle.code_reader.proofs.ParameterUnits.{has_few}
use Rattle.flow_graph.specs.declared.units.MethodUnits.{MethodUnits}
use Rattle.flow_graph.specs.Reading.{HasCounts, outcome_units, spelled_units}

-- what holds at each letter of a primitive type
module _ (P : ℕ → Type 0) (c : ℕ) where
  pub by_letter : (a2 a3 a4 a5 a6 a7 a8 a9 : Bool) → P 66 → P 67 → P 68 → P 70 → P 73 → P 74 → P 83 → P 90
      → eqb c 66 ≡ a2 → eqb c 67 ≡ a3 → eqb c 68 ≡ a4 → eqb c 70 ≡ a5 → eqb c 73 ≡ a6 → eqb c 74 ≡ a7 → eqb c 83 ≡ a8 → eqb c 90 ≡ a9
      → (a2 || a3 || a4 || a5 || a6 || a7 || a8 || a9) ≡ true → P c
  by_letter true a3 a4 a5 a6 a7 a8 a9 p2 p3 p4 p5 p6 p7 p8 p9 e2 e3 e4 e5 e6 e7 e8 e9 e = subst P (sym (eqb-true c 66 e2)) p2
  by_letter false true a4 a5 a6 a7 a8 a9 p2 p3 p4 p5 p6 p7 p8 p9 e2 e3 e4 e5 e6 e7 e8 e9 e = subst P (sym (eqb-true c 67 e3)) p3
  by_letter false false true a5 a6 a7 a8 a9 p2 p3 p4 p5 p6 p7 p8 p9 e2 e3 e4 e5 e6 e7 e8 e9 e = subst P (sym (eqb-true c 68 e4)) p4
  by_letter false false false true a6 a7 a8 a9 p2 p3 p4 p5 p6 p7 p8 p9 e2 e3 e4 e5 e6 e7 e8 e9 e = subst P (sym (eqb-true c 70 e5)) p5
  by_letter false false false false true a7 a8 a9 p2 p3 p4 p5 p6 p7 p8 p9 e2 e3 e4 e5 e6 e7 e8 e9 e = subst P (sym (eqb-true c 73 e6)) p6
  by_letter false false false false false true a8 a9 p2 p3 p4 p5 p6 p7 p8 p9 e2 e3 e4 e5 e6 e7 e8 e9 e = subst P (sym (eqb-true c 74 e7)) p7
  by_letter false false false false false false true a9 p2 p3 p4 p5 p6 p7 p8 p9 e2 e3 e4 e5 e6 e7 e8 e9 e = subst P (sym (eqb-true c 83 e8)) p8
  by_letter false false false false false false false true p2 p3 p4 p5 p6 p7 p8 p9 e2 e3 e4 e5 e6 e7 e8 e9 e = subst P (sym (eqb-true c 90 e9)) p9
  by_letter false false false false false false false false p2 p3 p4 p5 p6 p7 p8 p9 e2 e3 e4 e5 e6 e7 e8 e9 e = absurd cc

abbrev HasLength : ℕ → Type 0
HasLength letter = (wide : Bool) → wide ≡ is_wide (letter ∷ []) → length (kinds_by letter) ≡ cond wide 2 1

abbrev width : Bool → ℕ
width wide = cond wide 2 1

by_width : (wide other : Bool) → wide ≡ other → width other ≡ width wide
by_width wide other is = ap width (sym is)

-- a primitive type has two units if it is wide
base_length : (letter : ℕ) → is_base_letter letter ≡ true → HasLength letter
base_length letter base =
    by_letter HasLength letter _ _ _ _ _ _ _ _ (λ w is. by_width w false is) (λ w is. by_width w false is) (λ w is. by_width w true is) (λ w is. by_width w false is)
    (λ w is. by_width w false is) (λ w is. by_width w true is) (λ w is. by_width w false is) (λ w is. by_width w false is) refl refl refl refl refl refl refl refl base

pub kind_length : (text : List ℕ) (k : TypeKind) → IsKind text k → length (kinds_of text) ≡ kind_units k
kind_length text (Prim wide) is =
    ap (λ (t : List ℕ). length (kinds_of t)) is.0.2 ∙ base_length is.0.0 is.0.1 wide (is.1 ∙ ap is_wide is.0.2)
kind_length text (Class name) is = ap (λ (t : List ℕ). length (kinds_of t)) is.1
kind_length text (Array zero element) is = absurd (omega (arith, is.0))
kind_length text (Array (suc n) element) is = ap (λ (t : List ℕ). length (kinds_of t)) is.3

pub kinds_length : (ps : List (List ℕ)) (kinds : List TypeKind) → AllZip IsKind ps kinds → length (flat_map kinds_of ps) ≡ sum_by kind_units kinds
kinds_length [] [] each = refl
kinds_length [] (k ∷ kinds) each = absurd each
kinds_length (p ∷ ps) [] each = absurd each
kinds_length (p ∷ ps) (k ∷ kinds) each =
    omega (arith, length-append (kinds_of p) (flat_map kinds_of ps), kind_length p k each.0, kinds_length ps kinds each.1, sum_by-cons kind_units k kinds)

pub outcome_length : (text : List ℕ) (outcome : Option TypeKind) → IsOutcome text outcome → length (kinds_of text) ≡ outcome_units outcome
outcome_length text None is = ap (λ (t : List ℕ). length (kinds_of t)) is
outcome_length text (Some kind) is = kind_length text kind is

fields_of_kinds : (ps : List (List ℕ)) (kinds : List TypeKind) → AllZip IsKind ps kinds → AllByRecursion IsFieldDescriptor ps
fields_of_kinds [] kinds each = tt
fields_of_kinds (p ∷ ps) [] each = absurd each
fields_of_kinds (p ∷ ps) (k ∷ kinds) each = (field_of_kind p k each.0, fields_of_kinds ps kinds each.1)

outcome_in_grammar : (text : List ℕ) (outcome : Option TypeKind) → IsOutcome text outcome → (text ≡ codes "V") ⊎ IsFieldDescriptor text
outcome_in_grammar text None is = inl is
outcome_in_grammar text (Some kind) is = inr (field_of_kind text kind is)

-- the units of a method descriptor, counted by its kinds
pub counts_of : (text : List ℕ) (kinds : List TypeKind) (outcome : Option TypeKind) (u : MethodUnits) → IsMethodOf text kinds outcome → u.parameters ≡ sum_by kind_units kinds → u.results ≡ outcome_units outcome → HasCounts text u
counts_of text kinds outcome u is parameters results = record {
  parameters = flat_map kinds_of is.parameters;
  results = kinds_of is.outcome;
  units = record {
    is = record {
      parameters = is.parameters;
      outcome = is.outcome;
      spelled = is.spelled;
      each = All-from_recursion IsFieldDescriptor is.parameters (fields_of_kinds is.parameters kinds is.each);
      units = is.units;
      outcome_is = outcome_in_grammar is.outcome outcome is.outcome_is;
    };
    parameters_are = refl;
    results_are = refl;
  };
  parameters_are = parameters ∙ sym (kinds_length is.parameters kinds is.each);
  results_are = results ∙ sym (outcome_length is.outcome outcome is.outcome_is);
}

-- what was counted of a descriptor that is a method's
pub counts_spelled : (text : List ℕ) (o : Option Descriptor) (u : MethodUnits) → IfSome o (IsDescriptorOf text) → IfNone o ((IsFieldDescriptor text → ⊥) × (IsMethodDescriptor text → ⊥))
    → u ≡ spelled_units o → IsMethodDescriptor text → HasCounts text u
counts_spelled text None u found none e is = absurd (none.1 is)
counts_spelled text (Some (Field kind)) u found none e is = absurd (no_field 40 text (flat_map (λ p. p) is.parameters ++ 41 ∷ is.outcome) refl is.spelled (field_of_kind text kind found))
counts_spelled text (Some (Method kinds outcome)) u found none e is =
    counts_of text kinds outcome u found (ap (λ (v : MethodUnits). v.parameters) e) (ap (λ (v : MethodUnits). v.results) e)

pub few_spelled : (text : List ℕ) (o : Option Descriptor) → IfSome o (IsDescriptorOf text) → (spelled_units o).parameters ≤ 255
few_spelled text None found = omega arith
few_spelled text (Some (Field kind)) found = omega arith
few_spelled text (Some (Method kinds outcome)) found = has_few text (Some (Method kinds outcome)) found
