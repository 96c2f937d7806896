-- Where an instruction goes on is among the successors of its step; and its row does not depend on its targets and its size.
use Rattle.std.proofs.Common.{◌≡◌, ◌⊎◌, inl, inr, ℕ, Bool, true, false, cond, ◌||◌, List, [], ◌∷◌, ◌++◌, Option, Some, None, refl, sym, ap, ◌∙◌, subst}
use Rattle.std.specs.Bool.{MatchBool}
use Rattle.std.specs.List.{Contains, list_any, find, AllByRecursion, AllZip}
use Rattle.std.specs.Prelude.{nat_eq}
use Rattle.std.proofs.lemmas.Bool.{eqb-true}
use Rattle.std.proofs.lemmas.List.Elements.{Contains-append_left, Contains-append_right}
use Rattle.std.proofs.lemmas.Option.{none-some, same_Some}
use Rattle.jvm_model.specs.declared.pool.PoolEntry.{PoolEntry}
use Rattle.jvm_model.specs.Instructions.{DecodedInstruction, IsCallRow, IsFieldRow, IsRowAt, RowBy, array_row, instruction}
use Rattle.jvm_model.specs.Table.{Row, UnitKind, UnitSource, Operands, pool_2_and_dimensions, Flow, onward, jump, branch, branch_if_null, branch_if_object, branch_if_same, branch_if_other, leave, subroutine, Action, plain, load_constant, load_element, store_element, probe_element, probe_array, probe_object, get_static, put_static, get_field, put_field, invoke_virtual, invoke_special, invoke_static, invoke_interface, make_object, make_array, throw_object, cast, leave_method, refused}
use Rattle.code_reader.specs.CodeReading.{known_targets}
use Rattle.machine_bytecode.specs.Machine.{Goes, is_null}
use Rattle.machine_bytecode.specs.States.{Value, World, slot_at}
use Rattle.flow_graph.specs.Flows.{each_once, may_go_next}
use Rattle.program_laws.proofs.Orders.{none_there, first_there, more_there, where_there}

-- ---- offsets that are met once

any_there : (o : ℕ) (met : List ℕ) → list_any (λ (m : ℕ). nat_eq m o) met ≡ true → Contains met o
any_there o [] e = absurd cc
any_there o (m ∷ met) e = by (nat_eq m o) refl e (any_there o met)
  where
    by : (b : Bool) → nat_eq m o ≡ b → (b || list_any (λ (n : ℕ). nat_eq n o) met) ≡ true → (list_any (λ (n : ℕ). nat_eq n o) met ≡ true → Contains met o) → Contains (m ∷ met) o
    by true is h deeper = subst (Contains (m ∷ met)) (eqb-true m o is) (first_there m met)
    by false is h deeper = more_there m o met (deeper h)

kept_once : (met offsets : List ℕ) (y : ℕ) → Contains met y → Contains (each_once met offsets) y
kept_once met [] y there = there
kept_once met (o ∷ offsets) y there = kept_once (cond (list_any (λ (m : ℕ). nat_eq m o) met) met (met ++ o ∷ [])) offsets y (by (list_any (λ (m : ℕ). nat_eq m o) met))
  where
    by : (b : Bool) → Contains (cond b met (met ++ o ∷ [])) y
    by true = there
    by false = Contains-append_left met (o ∷ []) y there

pub met_once : (met offsets : List ℕ) (y : ℕ) → Contains offsets y → Contains (each_once met offsets) y
met_once met [] y there = absurd (none_there y there)
met_once met (o ∷ offsets) y there = by (where_there o y offsets there) (met_once (cond (list_any (λ (m : ℕ). nat_eq m o) met) met (met ++ o ∷ [])) offsets y)
  where
    added : (b : Bool) → list_any (λ (m : ℕ). nat_eq m o) met ≡ b → Contains (cond b met (met ++ o ∷ [])) o
    added true e = any_there o met e
    added false e = Contains-append_right met (o ∷ []) o (first_there o [])

    by : (o ≡ y) ⊎ Contains offsets y → (Contains offsets y → Contains (each_once (cond (list_any (λ (m : ℕ). nat_eq m o) met) met (met ++ o ∷ [])) offsets) y) → Contains (each_once met (o ∷ offsets)) y
    by (inl e) deeper = kept_once (cond (list_any (λ (m : ℕ). nat_eq m o) met) met (met ++ o ∷ [])) offsets y (subst (Contains (cond (list_any (λ (m : ℕ). nat_eq m o) met) met (met ++ o ∷ []))) e (added (list_any (λ (m : ℕ). nat_eq m o) met) refl))
    by (inr later) deeper = deeper later

-- ---- targets

pub known_there : (targets : List (Option ℕ)) (y : ℕ) → Contains targets (Some y) → Contains (known_targets targets) y
known_there [] y there = absurd (none_there (Some y) there)
known_there (None ∷ targets) y there = by (where_there None (Some y) targets there) (known_there targets y)
  where
    by : (◌≡◌ {A = Option ℕ} None (Some y)) ⊎ Contains targets (Some y) → (Contains targets (Some y) → Contains (known_targets targets) y) → Contains (known_targets targets) y
    by (inl e) deeper = absurd (none-some y e)
    by (inr later) deeper = deeper later
known_there (Some o ∷ targets) y there = by (where_there (Some o) (Some y) targets there) (known_there targets y)
  where
    by : (◌≡◌ {A = Option ℕ} (Some o) (Some y)) ⊎ Contains targets (Some y) → (Contains targets (Some y) → Contains (known_targets targets) y) → Contains (o ∷ known_targets targets) y
    by (inl e) deeper = subst (Contains (o ∷ known_targets targets)) (same_Some o y e) (first_there o (known_targets targets))
    by (inr later) deeper = more_there o y (known_targets targets) (deeper later)

-- ---- where an instruction goes on

module _ (after next : ℕ) (targets : List (Option ℕ)) (successors : List ℕ) (to_target : (y : ℕ) → Contains targets (Some y) → Contains successors y) where
  on_true : (b : Bool) → Contains successors after → MatchBool b (Contains targets (Some next)) (next ≡ after) → Contains successors next
  on_true true there g = to_target next g
  on_true false there g = subst (Contains successors) (sym g) there

  on_false : (b : Bool) → Contains successors after → MatchBool b (next ≡ after) (Contains targets (Some next)) → Contains successors next
  on_false false there g = to_target next g
  on_false true there g = subst (Contains successors) (sym g) there

  pub goes_by : (flow : Flow) (w : World) (units : List Value) → (may_go_next flow ≡ true → Contains successors after) → Goes flow w after targets units next → Contains successors next
  goes_by onward w units there g = subst (Contains successors) (sym g) (there refl)
  goes_by jump w units there g = to_target next g
  goes_by branch w units there (inl e) = subst (Contains successors) (sym e) (there refl)
  goes_by branch w units there (inr t) = to_target next t
  goes_by branch_if_null w units there g = on_true (is_null (slot_at units 0)) (there refl) g
  goes_by branch_if_object w units there g = on_false (is_null (slot_at units 0)) (there refl) g
  goes_by branch_if_same w units there (same, is, g) = on_true same (there refl) g
  goes_by branch_if_other w units there (same, is, g) = on_false same (there refl) g
  goes_by leave w units there g = absurd g
  goes_by subroutine w units there g = absurd g

-- ---- the row of an instruction, without its targets and its size

abbrev pub without_targets : DecodedInstruction → DecodedInstruction
without_targets i = instruction i.opcode i.row i.operand i.dimensions [] 0

call_without : (pool : List PoolEntry) (i : DecodedInstruction) (receiver : List UnitKind) (r : Row) → IsCallRow pool i receiver r → IsCallRow pool (without_targets i) receiver r
call_without pool i receiver r c = record { method = c.method; named = c.named; parameters = c.parameters; results = c.results; units = c.units; row_is = c.row_is }

field_without : (pool : List PoolEntry) (i : DecodedInstruction) (pops : List UnitKind → List UnitKind) (pushes : List UnitKind → List UnitSource) (r : Row) → IsFieldRow pool i pops pushes r → IsFieldRow pool (without_targets i) pops pushes r
field_without pool i pops pushes r f = record { field = f.field; named = f.named; is = f.is; row_is = f.row_is }

array_without : (o : Operands) (i : DecodedInstruction) → array_row o (without_targets i) ≡ array_row o i
array_without pool_2_and_dimensions i = refl
array_without _ i = refl

by_action : (a : Action) (pool : List PoolEntry) (i : DecodedInstruction) (r : Row) → RowBy a pool i r → RowBy a pool (without_targets i) r
by_action plain pool i r is = is
by_action load_constant pool i r is = is
by_action load_element pool i r is = is
by_action store_element pool i r is = is
by_action probe_element pool i r is = is
by_action probe_array pool i r is = is
by_action probe_object pool i r is = is
by_action get_static pool i r is = field_without pool i _ _ r is
by_action put_static pool i r is = field_without pool i _ _ r is
by_action get_field pool i r is = field_without pool i _ _ r is
by_action put_field pool i r is = field_without pool i _ _ r is
by_action invoke_virtual pool i r is = call_without pool i _ r is
by_action invoke_special pool i r is = call_without pool i _ r is
by_action invoke_static pool i r is = call_without pool i _ r is
by_action invoke_interface pool i r is = call_without pool i _ r is
by_action make_object pool i r is = is
by_action make_array pool i r is = is ∙ sym (array_without i.row.operands i)
by_action throw_object pool i r is = is
by_action cast pool i r is = is
by_action leave_method pool i r is = is
by_action refused pool i r is = is

pub row_without : (pool : List PoolEntry) (i : DecodedInstruction) (r : Row) → IsRowAt pool i r → IsRowAt pool (without_targets i) r
row_without pool i r is = by_action i.row.action pool i r is

-- ---- what searches find

-- two lists of related elements, searched by tests that agree
pub find_zip : {A B : Type 0} (R : A → B → Type 0) (f : A → Bool) (g : B → Bool) → ((a : A) (b : B) → R a b → g b ≡ f a) → (xs : List A) (ys : List B) → AllZip R xs ys
    → (a : A) → find f xs ≡ Some a → (b : B) × (find g ys ≡ Some b) × R a b
find_zip R f g agree [] ys zip a is = absurd (none-some a is)
find_zip R f g agree (x ∷ xs) [] zip a is = absurd zip
find_zip {A} {B} R f g agree (x ∷ xs) (y ∷ ys) zip a is = go (f x) refl (λ found. find_zip R f g agree xs ys zip.1 a found)
  where
    go : (b : Bool) → f x ≡ b → (find f xs ≡ Some a → (b : B) × (find g ys ≡ Some b) × R a b) → (b : B) × (find g (y ∷ ys) ≡ Some b) × R a b
    go true e rest =
        let same : x ≡ a = same_Some x a (ap (λ b. cond b (Some x) (find f xs)) (sym e) ∙ is) in
        (y, ap (λ b. cond b (Some y) (find g ys)) (agree x y zip.0 ∙ e), subst (λ w. R w y) same zip.0)
    go false e rest =
        let found = rest (ap (λ b. cond b (Some x) (find f xs)) (sym e) ∙ is) in
        (found.0, ap (λ b. cond b (Some y) (find g ys)) (agree x y zip.0 ∙ e) ∙ found.1, found.2)

pub each_of : (P : ℕ → Type 0) (xs : List ℕ) (y : ℕ) → AllByRecursion P xs → Contains xs y → P y
each_of P [] y all there = absurd (none_there y there)
each_of P (x ∷ xs) y all there = by (where_there x y xs there) (each_of P xs y all.1)
  where
    by : (x ≡ y) ⊎ Contains xs y → (Contains xs y → P y) → P y
    by (inl e) deeper = subst P e all.0
    by (inr later) deeper = deeper later
