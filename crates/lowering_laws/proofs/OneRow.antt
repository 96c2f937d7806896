-- A method descriptor has one list of units for its parameters, and one for its result; so the row of an instruction is one.
use Rattle.std.proofs.Common.{◌≡◌, ℕ, List, [], ◌∷◌, ◌++◌, drop, map, refl, sym, ap, ◌∙◌, subst, append_assoc}
use Rattle.std.specs.List.{AllByRecursion, flat_map, sum_by}
use Rattle.std.proofs.lemmas.List.{append-nil}
use Rattle.std.proofs.lemmas.List.Elements.{recursion_from_All}
use Rattle.std.proofs.lemmas.Option.{same_Some}
use Rattle.jvm_model.specs.declared.pool.PoolEntry.{PoolEntry}
use Rattle.jvm_model.specs.Descriptors.{IsFieldDescriptor, IsMethodDescriptor, units_of}
use Rattle.jvm_model.specs.Fronts.{EndsParameters}
use Rattle.jvm_model.specs.Instructions.{DecodedInstruction, HasDescriptorUnits, IsCallRow, IsFieldRow, IsRowAt, RowBy, kinds_of, made_for, with_units}
use Rattle.jvm_model.specs.Lookups.{MemberReference}
use Rattle.jvm_model.specs.Table.{Row, UnitKind, UnitSource, Action, plain, load_constant, load_element, store_element, probe_element, probe_array, probe_object, get_static, put_static, get_field, put_field, invoke_virtual, invoke_special, invoke_static, invoke_interface, make_object, make_array, throw_object, cast, leave_method, refused}
use Rattle.jvm_model.proofs.Fields.{not_closing}
use Rattle.jvm_model.proofs.Parameters.{HasRead, joined, rest_of_parameters}

-- ---- the parts of a descriptor

-- behind all parameters none follows
no_more : (more : List (List ℕ)) (outcome other : List ℕ) → AllByRecursion IsFieldDescriptor more → 41 ∷ outcome ≡ joined more ++ 41 ∷ other → more ≡ []
no_more [] outcome other each e = refl
no_more (m ∷ more) outcome other each e = absurd (not_closing m (joined more ++ 41 ∷ other) outcome each.0 (sym (append_assoc m (joined more) (41 ∷ other)) ∙ sym e))

ends_with : (text tail : List ℕ) → text ≡ 40 ∷ tail → (d e : IsMethodDescriptor text) → tail ≡ joined d.parameters ++ 41 ∷ d.outcome → (d.parameters ≡ e.parameters) × (d.outcome ≡ e.outcome)
ends_with text tail opens d e spelled =
    let ends : EndsParameters tail e.outcome = record { parameters = e.parameters; spelled = ap (drop 1) (sym opens ∙ e.spelled); each = e.each; units = e.units } in
    let read : HasRead tail (41 ∷ d.outcome) (sum_by units_of d.parameters) = record {
      parameters = d.parameters;
      spelled = spelled;
      each = recursion_from_All IsFieldDescriptor d.parameters d.each;
      counted = refl;
    } in
    let more = rest_of_parameters tail (41 ∷ d.outcome) e.outcome (sum_by units_of d.parameters) read ends in
    let nothing = no_more more.more d.outcome e.outcome more.each more.spelled in (
      sym (more.all ∙ ap (λ (ps : List (List ℕ)). d.parameters ++ ps) nothing ∙ append-nil d.parameters),
      ap (drop 1) (more.spelled ∙ ap (λ (ps : List (List ℕ)). joined ps ++ 41 ∷ e.outcome) nothing),
    )

one_text : (text : List ℕ) (d e : IsMethodDescriptor text) → (d.parameters ≡ e.parameters) × (d.outcome ≡ e.outcome)
one_text text d e = ends_with text (joined d.parameters ++ 41 ∷ d.outcome) d.spelled d e refl

pub one_units : (text : List ℕ) (ps rs qs ss : List UnitKind) → HasDescriptorUnits text ps rs → HasDescriptorUnits text qs ss → (ps ≡ qs) × (rs ≡ ss)
one_units text ps rs qs ss x y =
    let same = one_text text x.is y.is in
    (x.parameters_are ∙ ap (flat_map kinds_of) same.0 ∙ sym y.parameters_are, x.results_are ∙ ap kinds_of same.1 ∙ sym y.results_are)

-- the same, of two descriptors that are equal
pub units_agree : (text other : List ℕ) (ps rs qs ss : List UnitKind) → text ≡ other → HasDescriptorUnits text ps rs → HasDescriptorUnits other qs ss → (ps ≡ qs) × (rs ≡ ss)
units_agree text other ps rs qs ss e x y = one_units other ps rs qs ss (subst (λ (t : List ℕ). HasDescriptorUnits t ps rs) e x) y

-- ---- rows

call_rows : (pool : List PoolEntry) (i : DecodedInstruction) (receiver : List UnitKind) (r s : Row) → IsCallRow pool i receiver r → IsCallRow pool i receiver s → r ≡ s
call_rows pool i receiver r s x y =
    let methods : x.method ≡ y.method = same_Some x.method y.method (sym x.named ∙ y.named) in
    let same = units_agree x.method.signature.descriptor y.method.signature.descriptor x.parameters x.results y.parameters y.results (ap (λ (m : MemberReference). m.signature.descriptor) methods) x.units y.units in
    x.row_is
    ∙ ap (λ (ps : List UnitKind). with_units i.row (receiver ++ ps) (map made_for x.results)) same.0
    ∙ ap (λ (rs : List UnitKind). with_units i.row (receiver ++ y.parameters) (map made_for rs)) same.1
    ∙ sym y.row_is

field_rows : (pool : List PoolEntry) (i : DecodedInstruction) (pops : List UnitKind → List UnitKind) (pushes : List UnitKind → List UnitSource) (r s : Row) → IsFieldRow pool i pops pushes r → IsFieldRow pool i pops pushes s → r ≡ s
field_rows pool i pops pushes r s x y =
    let fields : x.field ≡ y.field = same_Some x.field y.field (sym x.named ∙ y.named) in
    x.row_is ∙ ap (λ (m : MemberReference). with_units i.row (pops (kinds_of m.signature.descriptor)) (pushes (kinds_of m.signature.descriptor))) fields ∙ sym y.row_is

rows_by : (a : Action) (pool : List PoolEntry) (i : DecodedInstruction) (r s : Row) → RowBy a pool i r → RowBy a pool i s → r ≡ s
rows_by load_constant pool i r s x y = same_Some r s (sym x ∙ y)
rows_by get_static pool i r s x y = field_rows pool i _ _ r s x y
rows_by put_static pool i r s x y = field_rows pool i _ _ r s x y
rows_by get_field pool i r s x y = field_rows pool i _ _ r s x y
rows_by put_field pool i r s x y = field_rows pool i _ _ r s x y
rows_by invoke_virtual pool i r s x y = call_rows pool i _ r s x y
rows_by invoke_special pool i r s x y = call_rows pool i _ r s x y
rows_by invoke_static pool i r s x y = call_rows pool i _ r s x y
rows_by invoke_interface pool i r s x y = call_rows pool i _ r s x y
rows_by plain pool i r s x y = x ∙ sym y
rows_by load_element pool i r s x y = x ∙ sym y
rows_by store_element pool i r s x y = x ∙ sym y
rows_by probe_element pool i r s x y = x ∙ sym y
rows_by probe_array pool i r s x y = x ∙ sym y
rows_by probe_object pool i r s x y = x ∙ sym y
rows_by make_object pool i r s x y = x ∙ sym y
rows_by make_array pool i r s x y = x ∙ sym y
rows_by throw_object pool i r s x y = x ∙ sym y
rows_by cast pool i r s x y = x ∙ sym y
rows_by leave_method pool i r s x y = x ∙ sym y
rows_by refused pool i r s x y = x ∙ sym y

pub row_once : (pool : List PoolEntry) (i : DecodedInstruction) (r s : Row) → IsRowAt pool i r → IsRowAt pool i s → r ≡ s
row_once pool i r s x y = rows_by i.row.action pool i r s x y
