-- The kinds of field descriptors: each has exactly one.
use Rattle.std.proofs.Common.{◌≡◌, ℕ, zero, suc, ◌-◌, ◌≤◌, Bool, true, false, ◌||◌, ◌==◌, List, [], ◌∷◌, ◌++◌, length, take, drop, get_or, replicate, refl, ap, sym, ◌∙◌, subst, arith, inl, inr, length-append, Option, Some, None, IsSome}
use Rattle.std.specs.List.{position, position_or_len}
use Rattle.std.proofs.lemmas.Bool.{false≢true, eqb-true}
use Rattle.std.proofs.lemmas.List.{append-nil, take_at, append_cancel_left, append_cancel_right}
use Rattle.jvm_model.specs.declared.descriptor.Kind.{Kind}
use Rattle.jvm_model.specs.declared.descriptor.Kind.TheVariants.{Prim, Class, Array}
use Rattle.jvm_model.specs.Descriptors.{is_base_letter, IsFieldDescriptor, IsFieldType}
use Rattle.jvm_model.specs.DescriptorValues.{IsKind}
use Rattle.jvm_model.specs.Names.{IsClassName}
use Rattle.jvm_model.specs.Soundness.{is_array}
use Rattle.jvm_model.proofs.Fields.{field_found, field-component, field-position, found_none, is_component_byte}

-- So many [ before a field type without dimensions are a field type.
brackets : (d : ℕ) (element : List ℕ) → IsFieldType zero element → IsFieldType d (replicate d 91 ++ element)
brackets zero element is = is
brackets (suc d) element is = (replicate d 91 ++ element, refl, brackets d element is)

-- A field type is its [ before what stands behind them.
bracketed : (d : ℕ) (text : List ℕ) → IsFieldType d text → text ≡ replicate d 91 ++ drop d text
bracketed zero text is = refl
bracketed (suc d) text is =
    subst (λ s. s ≡ replicate (suc d) 91 ++ drop (suc d) s) (sym is.1) (ap (λ s. 91 ∷ s) (bracketed d is.0 is.2))

-- A text of a kind is a field descriptor.
pub field_of_kind : (text : List ℕ) (kind : Kind) → IsKind text kind → IsFieldDescriptor text
field_of_kind text (Prim wide) is = record { dimensions = 0; limit = omega arith; type_is = inl is.0 }
field_of_kind text (Class name) is = record { dimensions = 0; limit = omega arith; type_is = inr (name, is.0, is.1) }
field_of_kind text (Array d element) is =
    record { dimensions = d; limit = is.1; type_is = subst (IsFieldType d) (sym is.3) (brackets d element is.2) }

-- A search for the dimensions of a field descriptor finds them.
pub dimensions_some : (text : List ℕ) (found : Option ℕ) → IsFieldDescriptor text → found ≡ position is_component_byte text → IsSome found
dimensions_some text None is e =
    let at = field_found text text [] is (sym (append-nil text)) in
    absurd (found_none is_component_byte text is.dimensions None e refl at.at at.inside)
dimensions_some text (Some d) is e = refl

-- The bytes with which field descriptors begin.
abbrev begins_field : ℕ → Bool
begins_field b = is_base_letter b || b == 76 || b == 91

first_byte : (d : ℕ) (text : List ℕ) → IsFieldType d text → begins_field (get_or text 0 0) ≡ true
first_byte zero text (inl base) = subst (λ s. begins_field (get_or s 0 0) ≡ true) (sym base.2) (rw base.1 refl)
first_byte zero text (inr object) = subst (λ s. begins_field (get_or s 0 0) ≡ true) (sym object.2) refl
first_byte (suc d) text is = subst (λ s. begins_field (get_or s 0 0) ≡ true) (sym is.1) refl

-- A text that begins otherwise is no field descriptor.
pub no_field : (b : ℕ) (text rest : List ℕ) → begins_field b ≡ false → text ≡ b ∷ rest → IsFieldDescriptor text → ⊥
no_field b text rest other e is =
    false≢true (sym other ∙ ap (λ s. begins_field (get_or s 0 0)) (sym e) ∙ first_byte is.dimensions text is.type_is)

some_dimensions : (d : ℕ) (text : List ℕ) → IsFieldType d text → is_array text ≡ true → 1 ≤ d
some_dimensions zero text (inl base) array =
    let at : (base.0 == 91) ≡ true = sym (ap is_array base.2) ∙ array in
    absurd (false≢true (subst (λ x. is_base_letter x ≡ true) (eqb-true base.0 91 at) base.1))
some_dimensions zero text (inr object) array = absurd (false≢true (sym (ap is_array object.2) ∙ array))
some_dimensions (suc d) text is array = omega arith

-- A field descriptor that begins with [ is that of an array, of as many dimensions as [ stand at its front.
pub array_kind : (text : List ℕ) (d : ℕ) → IsFieldDescriptor text → is_array text ≡ true → position_or_len is_component_byte text ≡ d → IsKind text (Array d (drop d text))
array_kind text d is array at =
    let same : is.dimensions ≡ d = sym (field_found text text [] is (sym (append-nil text))).at ∙ at in
    subst (λ k. IsKind text (Array k (drop k text))) same (
      some_dimensions is.dimensions text is.type_is array,
      is.limit,
      field-component is.dimensions text is.type_is,
      bracketed is.dimensions text is.type_is,
    )

class_of : (d : ℕ) (text : List ℕ) → IsFieldType d text → is_array text ≡ false → 2 ≤ length text → IsKind text (Class (take (length text - 1 - 1) (drop 1 text)))
class_of zero text (inl base) array long = absurd (omega (arith, ap length base.2))
class_of zero text (inr object) array long =
    let len : length object.0 ≡ length text - 1 - 1 = omega (arith, ap length object.2, length-append object.0 (59 ∷ [])) in
    let name : take (length text - 1 - 1) (drop 1 text) ≡ object.0 =
    ap (λ s. take (length text - 1 - 1) (drop 1 s)) object.2 ∙ take_at object.0 (59 ∷ []) (length text - 1 - 1) len in
    (subst IsClassName (sym name) object.1, object.2 ∙ ap (λ n. 76 ∷ (n ++ 59 ∷ [])) (sym name))
class_of (suc d) text is array long = absurd (false≢true (sym array ∙ ap is_array is.1))

-- A field descriptor of more than one byte that does not begin with [ is that of a class.
pub class_kind : (text : List ℕ) → IsFieldDescriptor text → is_array text ≡ false → 2 ≤ length text → IsKind text (Class (take (length text - 1 - 1) (drop 1 text)))
class_kind text is = class_of is.dimensions text is.type_is

at_dimensions : (text : List ℕ) (d : ℕ) → IsFieldType d text → position_or_len is_component_byte text ≡ d
at_dimensions text d is = ap (position_or_len is_component_byte) (sym (append-nil text)) ∙ (field-position d text [] is).0

array_position : (text : List ℕ) (d : ℕ) (element : List ℕ) → IsKind text (Array d element) → position_or_len is_component_byte text ≡ d
array_position text d element is = at_dimensions text d (subst (IsFieldType d) (sym is.3) (brackets d element is.2))

-- A text is of at most one kind.
pub one_kind : (text : List ℕ) (k l : Kind) → IsKind text k → IsKind text l → k ≡ l
one_kind text (Prim v) (Prim w) is_k is_l = ap Prim (is_k.1 ∙ sym is_l.1)
one_kind text (Prim v) (Class name) is_k is_l = absurd (omega (arith, ap length is_k.0.2, ap length is_l.1, length-append name (59 ∷ [])))
one_kind text (Prim v) (Array d element) is_k is_l = absurd (omega (arith, at_dimensions text zero (inl is_k.0), array_position text d element is_l, is_l.0))
one_kind text (Class name) (Prim w) is_k is_l = absurd (omega (arith, ap length is_l.0.2, ap length is_k.1, length-append name (59 ∷ [])))
one_kind text (Class name) (Class other) is_k is_l =
    ap Class (append_cancel_right name other (59 ∷ []) (ap (drop 1) (sym is_k.1 ∙ is_l.1)))
one_kind text (Class name) (Array d element) is_k is_l = absurd (omega (arith, at_dimensions text zero (inr (name, is_k.0, is_k.1)), array_position text d element is_l, is_l.0))
one_kind text (Array d element) (Prim w) is_k is_l = absurd (omega (arith, at_dimensions text zero (inl is_l.0), array_position text d element is_k, is_k.0))
one_kind text (Array d element) (Class name) is_k is_l = absurd (omega (arith, at_dimensions text zero (inr (name, is_l.0, is_l.1)), array_position text d element is_k, is_k.0))
one_kind text (Array d x) (Array e y) is_k is_l =
    let same : d ≡ e = sym (array_position text d x is_k) ∙ array_position text e y is_l in
    let behind : x ≡ y = append_cancel_left (replicate d 91) x y (sym is_k.3 ∙ is_l.3 ∙ ap (λ k. replicate k 91 ++ y) (sym same)) in
    cc (same, behind)
