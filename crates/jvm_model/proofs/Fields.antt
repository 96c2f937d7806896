-- Field descriptors at the front of a text: none is a proper front of another one.
use Rattle.std.proofs.Common.{◌≡◌, ℕ, zero, suc, ◌+◌, ◌<◌, ◌≤◌, Bool, true, false, cond, not, ◌==◌, List, [], ◌∷◌, ◌++◌, length, take, drop, get_or, refl, ap, sym, ◌∙◌, subst, arith, inl, inr, append_assoc, length-append, ◌||◌, zero-add, length-drop, ltb, eqb, Option, Some, None}
use Rattle.std.specs.List.{AllByRecursion, position, position_or_len, join_with_byte}
use Rattle.std.proofs.lemmas.Bool.{or_parts, not-true, false_from_ne_true, false≢true, eqb-true, eq-eqb, ltb-true, lt-ltb, cond-true}
use Rattle.std.proofs.lemmas.Option.{cond_some, none-some}
use Rattle.std.proofs.lemmas.List.{append-nil, take_all, take_at, take-append-drop, drop_at, drop-append-le, length-take-le}
use Rattle.std.proofs.lemmas.List.Elements.{recursion_from_All}
use Rattle.std.specs.Option.{option_eq}
use Rattle.jvm_model.specs.Fronts.{IsFrontLength}
use Rattle.jvm_model.specs.Names.{is_name_byte, is_unqualified_name, IsClassName}
use Rattle.jvm_model.specs.Descriptors.{is_base_letter, IsObjectType, IsFieldType, IsFieldDescriptor}
use Rattle.jvm_model.proofs.ClassNames.{each_of, name_bytes}

abbrev pub is_semicolon : ℕ → Bool
is_semicolon b = b == 59

abbrev pub is_component_byte : ℕ → Bool
is_component_byte b = not (b == 91)

-- The first element that passes stands after those that do not.
pub position_after : (p : ℕ → Bool) (xs : List ℕ) (y : ℕ) (ys : List ℕ) → AllByRecursion (λ x. p x ≡ false) xs → p y ≡ true → position_or_len p (xs ++ y ∷ ys) ≡ length xs
position_after p [] y ys before here = rw here refl
position_after p (x ∷ xs) y ys before here = rw (before.0, position_after p xs y ys before.1 here) (omega arith)

pub append_each : {X : Type 0} (P : X → Type 0) (xs ys : List X) → AllByRecursion P xs → AllByRecursion P ys → AllByRecursion P (xs ++ ys)
append_each P [] ys h g = g
append_each P (x ∷ xs) ys h g = (h.0, append_each P xs ys h.1 g)

not_semicolon : (b : ℕ) → is_name_byte b ≡ true → is_semicolon b ≡ false
not_semicolon b e =
    let outer = or_parts (b == 46 || b == 59 || b == 91) (b == 47) (not-true (b == 46 || b == 59 || b == 91 || b == 47) e) in
    let middle = or_parts (b == 46 || b == 59) (b == 91) outer.0 in
    (or_parts (b == 46) (b == 59) middle.0).1

joined_bytes : (parts : List (List ℕ)) → AllByRecursion (λ part. is_unqualified_name part ≡ true) parts → AllByRecursion (λ b. is_semicolon b ≡ false) (join_with_byte 47 parts)
joined_bytes [] each = tt
joined_bytes (x ∷ []) each = each_of is_name_byte (λ b. is_semicolon b ≡ false) not_semicolon x (name_bytes x each.0)
joined_bytes (x ∷ y ∷ parts) each =
    append_each (λ b. is_semicolon b ≡ false) x (47 ∷ join_with_byte 47 (y ∷ parts))
    (each_of is_name_byte (λ b. is_semicolon b ≡ false) not_semicolon x (name_bytes x each.0))
    (refl, joined_bytes (y ∷ parts) each.1)

-- The name of a class has no semicolon.
pub no_semicolon : (name : List ℕ) → IsClassName name → AllByRecursion (λ b. is_semicolon b ≡ false) name
no_semicolon name is =
    let each : AllByRecursion (λ part. is_unqualified_name part ≡ true) is.parts = recursion_from_All (λ part. is_unqualified_name part ≡ true) is.parts is.each in
    subst (λ bytes. AllByRecursion (λ b. is_semicolon b ≡ false) bytes) (sym is.joined) (joined_bytes is.parts each)

-- An object type at the front of a text ends at the first semicolon.
pub object_end : (text name rest : List ℕ) → IsClassName name → text ≡ (76 ∷ name) ++ 59 ∷ rest → position_or_len is_semicolon text ≡ suc (length name)
object_end text name rest is e =
    ap (position_or_len is_semicolon) e ∙ position_after is_semicolon (76 ∷ name) 59 rest (refl, no_semicolon name is) refl

-- An object type, before what follows it.
pub object_spelled : (text front rest name : List ℕ) → front ≡ 76 ∷ (name ++ 59 ∷ []) → text ≡ front ++ rest → text ≡ (76 ∷ name) ++ 59 ∷ rest
object_spelled text front rest name is e = e ∙ ap (λ f. f ++ rest) is ∙ append_assoc (76 ∷ name) (59 ∷ []) rest

-- The length of the primitive type or the object type at the front of a text that begins with one.
component_length : List ℕ → ℕ
component_length text = cond (is_base_letter (get_or text 0 0)) 1 (position_or_len is_semicolon text + 1)

component-length : (t rest : List ℕ) → IsFieldType zero t → length t ≡ component_length (t ++ rest)
unfolding component_length
component-length t rest (inl base) = subst (λ s. length s ≡ component_length (s ++ rest)) (sym base.2) (rw base.1 refl)
component-length t rest (inr object) =
    let spelled = object_spelled (t ++ rest) t rest object.0 object.2 refl in
    let end = object_end (t ++ rest) object.0 rest object.1 spelled in
    let here : component_length (t ++ rest) ≡ position_or_len is_semicolon (t ++ rest) + 1 =
    ap (λ text. cond (is_base_letter (get_or text 0 0)) 1 (position_or_len is_semicolon (t ++ rest) + 1)) spelled in
    let len : length (76 ∷ (object.0 ++ 59 ∷ [])) ≡ position_or_len is_semicolon (t ++ rest) + 1 = omega (arith, end, length-append object.0 (59 ∷ [])) in
    ap length object.2 ∙ len ∙ sym here

base_letter_not : (b k : ℕ) → is_base_letter k ≡ false → is_base_letter b ≡ true → (b == k) ≡ false
base_letter_not b k other letter = false_from_ne_true (b == k) (λ e. false≢true (sym other ∙ subst (λ x. is_base_letter x ≡ true) (eqb-true b k e) letter))

-- The dimensions of a field type at the front of a text are where the first byte stands that is no [.
pub field-position : (d : ℕ) (t rest : List ℕ) → IsFieldType d t → (position_or_len is_component_byte (t ++ rest) ≡ d) × (d < length t)
field-position zero t rest (inl base) =
    subst (λ s. (position_or_len is_component_byte (s ++ rest) ≡ 0) × (0 < length s)) (sym base.2) (rw (base_letter_not base.0 91 refl base.1) refl, omega arith)
field-position zero t rest (inr object) =
    subst (λ s. (position_or_len is_component_byte (s ++ rest) ≡ 0) × (0 < length s)) (sym object.2) (refl, omega arith)
field-position (suc d) t rest is =
    let behind = field-position d is.0 rest is.2 in
    subst (λ s. (position_or_len is_component_byte (s ++ rest) ≡ suc d) × (suc d < length s)) (sym is.1) (omega (arith, behind.0), omega (arith, behind.1))

-- Behind its dimensions a field type is a primitive type or an object type.
pub field-component : (d : ℕ) (t : List ℕ) → IsFieldType d t → IsFieldType zero (drop d t)
field-component zero t is = is
field-component (suc d) t is = subst (λ s. IsFieldType zero (drop (suc d) s)) (sym is.1) (field-component d is.0 is.2)

-- A text that begins with a dimension is [ and a text with one dimension less.
one_dimension : (d b : ℕ) (text : List ℕ) (test : Bool) → (b == 91) ≡ test → position_or_len is_component_byte (b ∷ text) ≡ suc d → (b ≡ 91) × (position_or_len is_component_byte text ≡ d)
one_dimension d b text true here e =
    let more : 1 + position_or_len is_component_byte text ≡ suc d = rw here at e in
    (eqb-true b 91 here, omega (arith, more))
one_dimension d b text false here e =
    let none : 0 ≡ suc d = rw here at e in
    absurd (omega (arith, none))

-- So many [ before a primitive type or an object type are a field type.
pub with_dimensions : (d n : ℕ) (text : List ℕ) → position_or_len is_component_byte text ≡ d → d ≤ length text → IsFieldType zero (take n (drop d text)) → IsFieldType d (take (d + n) text)
with_dimensions zero n text e le is = subst (λ k. IsFieldType zero (take k text)) (sym (zero-add n)) is
with_dimensions (suc d) n [] e le is = absurd (omega arith)
with_dimensions (suc d) n (b ∷ text) e le is =
    let one = one_dimension d b text (b == 91) refl e in
    let more : suc d + n ≡ suc (d + n) = omega arith in
    (take (d + n) text, ap (λ k. take k (b ∷ text)) more ∙ ap (λ c. c ∷ take (d + n) text) one.0, with_dimensions d n text one.1 (omega arith) is)

-- The length of the field descriptor at the front of a text that begins with one.
field_length : List ℕ → ℕ
field_length text = position_or_len is_component_byte text + component_length (drop (position_or_len is_component_byte text) text)

field-length : (t rest : List ℕ) → IsFieldDescriptor t → length t ≡ field_length (t ++ rest)
unfolding field_length
field-length t rest is =
    let d = is.dimensions in
    let at = field-position d t rest is.type_is in
    let len = component-length (drop d t) rest (field-component d t is.type_is) in
    let whole : length t ≡ d + component_length (drop d t ++ rest) = omega (arith, length-drop d t, at.1, len) in
    let behind : drop d (t ++ rest) ≡ drop d t ++ rest = drop-append-le d t rest (omega (arith, at.1)) in
    whole ∙ ap (λ s. d + component_length s) (sym behind) ∙ ap (λ k. k + component_length (drop k (t ++ rest))) (sym at.0)

-- A field descriptor is no proper front of another one.
pub one_field : (a b x y : List ℕ) → IsFieldDescriptor a → IsFieldDescriptor b → a ++ x ≡ b ++ y → (a ≡ b) × (x ≡ y)
one_field a b x y is_a is_b e =
    let same : length b ≡ length a = field-length b y is_b ∙ ap field_length (sym e) ∙ sym (field-length a x is_a) in (
      sym (take_at a x (length a) refl) ∙ ap (take (length a)) e ∙ take_at b y (length a) same,
      sym (drop_at a x (length a) refl) ∙ ap (drop (length a)) e ∙ drop_at b y (length a) same,
    )

begins_otherwise : (d : ℕ) (t rest outcome : List ℕ) → IsFieldType d t → t ++ rest ≡ 41 ∷ outcome → ⊥
begins_otherwise zero t rest outcome (inl base) e =
    let at : base.0 ≡ 41 = ap (λ xs. get_or xs 0 0) (subst (λ s. s ++ rest ≡ 41 ∷ outcome) base.2 e) in
    false≢true (subst (λ x. is_base_letter x ≡ true) at base.1)
begins_otherwise zero t rest outcome (inr object) e =
    let at : 76 ≡ 41 = ap (λ xs. get_or xs 0 0) (subst (λ s. s ++ rest ≡ 41 ∷ outcome) object.2 e) in
    omega (arith, at)
begins_otherwise (suc d) t rest outcome is e =
    let at : 91 ≡ 41 = ap (λ xs. get_or xs 0 0) (subst (λ s. s ++ rest ≡ 41 ∷ outcome) is.1 e) in
    omega (arith, at)

-- No field descriptor begins with a closing parenthesis.
pub not_closing : (t rest outcome : List ℕ) → IsFieldDescriptor t → t ++ rest ≡ 41 ∷ outcome → ⊥
not_closing t rest outcome is e = begins_otherwise is.dimensions t rest outcome is.type_is e

-- A field descriptor has a byte.
pub field_some : (t : List ℕ) → IsFieldDescriptor t → 0 < length t
field_some t is = let at = field-position is.dimensions t [] is.type_is in omega (arith, at.1)

-- What a search for the first byte that passes says, where it found one.
pub record FoundAt (p : ℕ → Bool) (text : List ℕ) (k : ℕ) : Type 0 where
  pub at : position_or_len p text ≡ k
  pub inside : k < length text

pub found_some : (p : ℕ → Bool) (text : List ℕ) (k : ℕ) (found : Option ℕ) → found ≡ position p text → found ≡ Some k → FoundAt p text k
found_some p text k found is some =
    let parts = cond_some (ltb (position_or_len p text) (length text)) (position_or_len p text) k (sym is ∙ some) in
    let inside = ltb-true (position_or_len p text) (length text) parts.0 in
    record { at = parts.1; inside = subst (λ i. i < length text) parts.1 inside }

-- A search that found nothing has no such place.
pub found_none : (p : ℕ → Bool) (text : List ℕ) (k : ℕ) (found : Option ℕ) → found ≡ position p text → found ≡ None → position_or_len p text ≡ k → k < length text → ⊥
found_none p text k found is none at inside =
    let yes : ltb (position_or_len p text) (length text) ≡ true = lt-ltb (position_or_len p text) (length text) (subst (λ i. i < length text) (sym at) inside) in
    none-some (position_or_len p text) (sym none ∙ is ∙ cond-true (ltb (position_or_len p text) (length text)) (Some (position_or_len p text)) None yes)

-- A search for a semicolon finds the end of an object type.
pub object_found : (text front rest : List ℕ) → (is : IsObjectType front) → text ≡ front ++ rest → FoundAt is_semicolon text (suc (length is.0))
object_found text front rest is e =
    let spelled = object_spelled text front rest is.0 is.2 e in
    record {
      at = object_end text is.0 rest is.1 spelled;
      inside = omega (arith, ap length spelled, length-append (76 ∷ is.0) (59 ∷ rest));
    }

-- Before the semicolon stand L and the name.
pub object_name : (text front rest : List ℕ) (k : ℕ) → (is : IsObjectType front) → text ≡ front ++ rest → position_or_len is_semicolon text ≡ k → take k text ≡ 76 ∷ is.0
object_name text front rest k is e at =
    let spelled = object_spelled text front rest is.0 is.2 e in
    let len : length (76 ∷ is.0) ≡ k = sym (object_end text is.0 rest is.1 spelled) ∙ at in
    ap (take k) spelled ∙ take_at (76 ∷ is.0) (59 ∷ rest) k len

-- A search for the first byte that is no [ finds the dimensions of a field descriptor.
pub field_found : (text front rest : List ℕ) → (is : IsFieldDescriptor front) → text ≡ front ++ rest → FoundAt is_component_byte text is.dimensions
field_found text front rest is e =
    let here = field-position is.dimensions front rest is.type_is in
    record {
      at = ap (position_or_len is_component_byte) e ∙ here.0;
      inside = omega (arith, ap length e, length-append front rest, here.1);
    }

-- Behind its dimensions stands a primitive type or an object type.
pub field_behind : (text front rest : List ℕ) (k : ℕ) → (is : IsFieldDescriptor front) → text ≡ front ++ rest → position_or_len is_component_byte text ≡ k → IsFieldType zero (drop k front) × (drop k text ≡ drop k front ++ rest)
field_behind text front rest k is e at =
    let here = field-position is.dimensions front rest is.type_is in
    let same : is.dimensions ≡ k = sym (field_found text front rest is e).at ∙ at in (
      subst (λ i. IsFieldType zero (drop i front)) same (field-component is.dimensions front is.type_is),
      ap (drop k) e ∙ drop-append-le k front rest (omega (arith, here.1, same)),
    )

-- A front is in a grammar exactly if no shorter or longer one is, so a whole text is if its length is found.
pub whole_field : (text : List ℕ) (found : Option ℕ) (same : Bool) → IsFrontLength IsFieldDescriptor text found → same ≡ option_eq eqb found (Some (length text)) → (same ≡ true → IsFieldDescriptor text) × (IsFieldDescriptor text → same ≡ true)
whole_field text None same front is =
    (λ yes. absurd (false≢true (sym is ∙ yes)), λ field. absurd (front text [] field (sym (append-nil text))))
whole_field text (Some n) same front is = (
  (λ yes. let all : n ≡ length text = eqb-true n (length text) (sym is ∙ yes) in subst IsFieldDescriptor (take_all n text (omega arith)) front.1),
  (λ field.
      let one = one_field (take n text) text (drop n text) [] front.1 field (take-append-drop n text ∙ sym (append-nil text)) in
      let len : n ≡ length text = sym (length-take-le n text front.0) ∙ ap length one.0 in
      is ∙ eq-eqb n (length text) len),
)

-- No front is found.
pub none_found : (P : List ℕ → Type 0) (text : List ℕ) (found : Option ℕ) → found ≡ None → ((front rest : List ℕ) → P front → text ≡ front ++ rest → ⊥) → IsFrontLength P text found
none_found P text found is h = subst (IsFrontLength P text) (sym is) h
