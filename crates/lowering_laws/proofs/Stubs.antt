-- Whether what an instruction names is there is decided: classes, the classes of the elements of arrays, and native methods that no stub
-- describes.
use Rattle.std.proofs.Common.{codes, ◌≡◌, ◌≢◌, ◌⊎◌, inl, inr, ℕ, suc, ◌+◌, eqb, Bool, true, false, List, [], ◌∷◌, ◌++◌, replicate, Option, Some, None, Err, refl, sym, ap, ◌∙◌, arith}
use Rattle.std.specs.Prelude.{IsTrue, slice_get}
use Rattle.std.proofs.lemmas.Bool.{false≢true}
use Rattle.std.proofs.lemmas.Bool.Decides.{eqb_tells}
use Rattle.std.proofs.lemmas.List.{append_cancel_right}
use Rattle.std.proofs.lemmas.Option.{none-some}
use Rattle.jvm_model.specs.declared.access.AccessFlag.TheVariants.{Native}
use Rattle.jvm_model.specs.declared.class_file.ClassFile.{ClassFile}
use Rattle.jvm_model.specs.declared.class_file.Member.{Member}
use Rattle.jvm_model.specs.declared.reason.Reason.TheVariants as reasons
use Rattle.jvm_model.specs.Access.{has_flag}
use Rattle.jvm_model.specs.LinkedPrograms.{IsProgram}
use Rattle.jvm_model.specs.Lookups.{MemberReference}
use Rattle.jvm_model.specs.Programs.{Body, Class, Method, Program, in_file, described, IsUndescribed}
use Rattle.jvm_model.specs.Soundness.{is_array}
use Rattle.jvm_model.specs.Subtypes.{class_named}
use Rattle.lowering_reasons.specs.Looked.{HasSuch, IsBehindBrackets, IsClassDescriptor}
use Rattle.lowering_reasons.specs.Reasons.{Judged, Names, Calls, Accesses, IsElementClass, IsNotThere, a_class, an_array, HasTarget, LooksUpField, LooksUpMethod, LacksStub, of_class, of_array_field, of_array_method, of_field, of_method, of_target}
use Rattle.lowering_reasons.proofs.ArrayElements.{elements}
use Rattle.lowering_reasons.proofs.Only.{only_none, only_one}
use Rattle.lowering_reasons.proofs.Undescribed.{NamesArray}
use Rattle.program_laws.proofs.Choices.{OrNot, carried_over, either_or_not, both_or_not, true_or_not, held_or_not}
use Rattle.program_laws.proofs.Declaring.{false_or_not}
use Rattle.lowering_laws.proofs.Equality.{outcome_or_not}
use Rattle.lowering_laws.proofs.Looking.{named_class, called, accessed, field_looked_up, method_looked_up}
use Rattle.lowering_laws.proofs.Matching.{target}
use Rattle.lowering_laws.proofs.Only.{Known, such_or_not, this_or_not}

-- ---- classes

-- no class has the name, or one has
pub absent_or_not : (p : Program) (name : List ℕ) → OrNot (class_named p name ≡ None)
absent_or_not p name = by (class_named p name)
  where
    by : (o : Option Class) → OrNot (o ≡ None)
    by None = inl refl
    by (Some c) = inr (λ e. none-some c (sym e))

-- ---- elements of arrays

abbrev Ends : List ℕ → Type 0
Ends text = (front : List ℕ) × (text ≡ front ++ 59 ∷ [])

not_ended : (front : List ℕ) → [] ≡ front ++ 59 ∷ [] → ⊥
not_ended [] e = absurd cc
not_ended (b ∷ front) e = absurd cc

one_byte : (b : ℕ) → (b ≢ 59) → (front : List ℕ) → b ∷ [] ≡ front ++ 59 ∷ [] → ⊥
one_byte b differs [] e = differs cc
one_byte b differs (c ∷ front) e = let rest : [] ≡ front ++ 59 ∷ [] = cc in not_ended front rest

last_or_not : (b : ℕ) → OrNot (Ends (b ∷ []))
last_or_not b = by (eqb_tells b 59)
  where
    by : ((eqb b 59 ≡ true) × (b ≡ 59)) ⊎ ((eqb b 59 ≡ false) × (b ≢ 59)) → OrNot (Ends (b ∷ []))
    by (inl h) = inl ([], ap (λ (x : ℕ). x ∷ []) h.1)
    by (inr h) = inr (λ ends. one_byte b h.1 ends.0 ends.1)

more_bytes : (b c : ℕ) (text front : List ℕ) → b ∷ c ∷ text ≡ front ++ 59 ∷ [] → Ends (c ∷ text)
more_bytes b c text [] e = absurd cc
more_bytes b c text (d ∷ front) e = (front, cc)

ends_or_not : (text : List ℕ) → OrNot (Ends text)
ends_or_not [] = inr (λ h. not_ended h.0 h.1)
ends_or_not (b ∷ []) = last_or_not b
ends_or_not (b ∷ c ∷ text) = carried_over to (λ h. more_bytes b c text h.0 h.1) (ends_or_not (c ∷ text))
  where
    to : Ends (c ∷ text) → Ends (b ∷ c ∷ text)
    to h = (b ∷ h.0, ap (λ (xs : List ℕ). b ∷ xs) h.1)

-- the class of a descriptor
described_class : (text : List ℕ) → Known (IsClassDescriptor text)
described_class [] = (None, only_none (IsClassDescriptor []) (λ class e. absurd cc))
described_class (b ∷ text) = by (eqb_tells b 76) (ends_or_not text)
  where
    first : (class : List ℕ) → b ∷ text ≡ 76 ∷ (class ++ 59 ∷ []) → b ≡ 76
    first class e = cc

    rest : (class : List ℕ) → b ∷ text ≡ 76 ∷ (class ++ 59 ∷ []) → text ≡ class ++ 59 ∷ []
    rest class e = cc

    whole : (class : List ℕ) → b ≡ 76 → text ≡ class ++ 59 ∷ [] → b ∷ text ≡ 76 ∷ (class ++ 59 ∷ [])
    whole class e f = cc

    by : ((eqb b 76 ≡ true) × (b ≡ 76)) ⊎ ((eqb b 76 ≡ false) × (b ≢ 76)) → OrNot (Ends text) → Known (IsClassDescriptor (b ∷ text))
    by (inr h) ends = (None, only_none (IsClassDescriptor (b ∷ text)) (λ class e. h.1 (first class e)))
    by (inl h) (inr unended) = (None, only_none (IsClassDescriptor (b ∷ text)) (λ class e. unended (class, rest class e)))
    by (inl h) (inl ends) =
        (Some ends.0, only_one (IsClassDescriptor (b ∷ text)) ends.0 (whole ends.0 h.1 ends.1) (λ class e. append_cancel_right ends.0 class (59 ∷ []) (sym ends.1 ∙ rest class e)))

-- what stands behind the brackets
abbrev Behind : List ℕ → Type 0
Behind name = (rest : List ℕ) × IsBehindBrackets name rest

behind : (name : List ℕ) → Behind name
behind [] = ([], record { dimensions = 0; is = refl; no_array = refl })
behind (b ∷ name) = by (eqb_tells b 91) (behind name)
  where
    one_more : (n : ℕ) (rest : List ℕ) → b ≡ 91 → name ≡ replicate n 91 ++ rest → b ∷ name ≡ replicate (suc n) 91 ++ rest
    one_more n rest e f = cc

    by : ((eqb b 91 ≡ true) × (b ≡ 91)) ⊎ ((eqb b 91 ≡ false) × (b ≢ 91)) → Behind name → Behind (b ∷ name)
    by (inl h) inner = (inner.0, record { dimensions = suc inner.1.dimensions; is = one_more inner.1.dimensions inner.0 h.1 inner.1.is; no_array = inner.1.no_array })
    by (inr h) inner = (b ∷ name, record { dimensions = 0; is = refl; no_array = h.0 })

abbrev Missing : Program → List ℕ → Type 0
Missing p name = ((is_array name ≡ false) × (class_named p name ≡ None)) ⊎ HasSuch (IsElementClass name) (λ class. class_named p class ≡ None)

elements_or_not : (p : Program) (name : List ℕ) → IsTrue (is_array name) → OrNot (HasSuch (IsElementClass name) (λ class. class_named p class ≡ None))
elements_or_not p name array =
    let rest = behind name in
    let class = described_class rest.0 in
    such_or_not (IsElementClass name) (λ c. class_named p c ≡ None) (class.0, elements name rest.0 class.0 array rest.1 class.1) (absent_or_not p)

-- a name with elements is that of an array
with_elements : (name class : List ℕ) → IsElementClass name class → IsTrue (is_array name)
with_elements name class e =
    let more : e.dimensions + 1 ≡ suc e.dimensions = omega arith in
    ap is_array (e.is ∙ ap (λ (k : ℕ). replicate k 91 ++ codes "L" ++ class ++ codes ";") more)

pub missing_or_not : (p : Program) (name : List ℕ) → OrNot (IsNotThere p name)
missing_or_not p name = carried_over to back (by (is_array name) refl)
  where
    to : Missing p name → IsNotThere p name
    to (inl h) = a_class h.0 h.1
    to (inr s) = an_array s.one s.first s.second

    back : IsNotThere p name → Missing p name
    back (a_class plain none) = inl (plain, none)
    back (an_array class element none) = inr (record { one = class; first = element; second = none })

    by : (b : Bool) → is_array name ≡ b → OrNot (Missing p name)
    by true array = either_or_not (both_or_not (false_or_not (is_array name)) (λ e. absent_or_not p name)) (elements_or_not p name array)
    by false plain = either_or_not (both_or_not (false_or_not (is_array name)) (λ e. absent_or_not p name)) (inr (λ s. false≢true (sym plain ∙ with_elements name s.one s.first)))

-- ---- native methods

abbrev InFile : Body → Type 0
InFile body = (file : ClassFile) × ((place : ℕ) × ((member : Member) × (body ≡ in_file file place member)))

in_file_or_not : (body : Body) → OrNot (InFile body)
in_file_or_not (in_file file place member) = inl (file, (place, (member, refl)))
in_file_or_not (described d) = inr (λ h. let e : described d ≡ in_file h.0 h.1.0 h.1.1.0 = h.1.1.1 in absurd cc)

abbrev NativeAt : Program → ℕ → Type 0
NativeAt p n = (m : Method) × (slice_get p.methods n ≡ Some m) × (IsTrue (has_flag m.flags Native) × InFile m.body)

undescribed_or_not : (p : Program) (n : ℕ) → OrNot (IsUndescribed p n)
undescribed_or_not p n =
    carried_over to back
    (held_or_not (λ (m : Method). IsTrue (has_flag m.flags Native) × InFile m.body) (λ m. both_or_not (true_or_not (has_flag m.flags Native)) (λ t. in_file_or_not m.body)) (slice_get p.methods n))
  where
    to : NativeAt p n → IsUndescribed p n
    to h = record { method = h.0; stands = h.1; native = h.2.0; file = h.2.1.0; place = h.2.1.1.0; member = h.2.1.1.1.0; of_file = h.2.1.1.1.1 }

    back : IsUndescribed p n → NativeAt p n
    back u = (u.method, u.stands, (u.native, (u.file, (u.place, (u.member, u.of_file)))))

-- ---- the reason

abbrev Lacking : Judged → Type 0
Lacking j =
    HasSuch (Names j) (IsNotThere j.program) ⊎ (NamesArray (Accesses j) ⊎ (NamesArray (Calls j) ⊎ (LooksUpField j (Err reasons.NoStub)
    ⊎ (LooksUpMethod j (Err reasons.NoStub) ⊎ HasSuch (HasTarget j) (IsUndescribed j.program)))))

array_or_not : (P : MemberReference → Type 0) → Known P → OrNot (NamesArray P)
array_or_not P known = such_or_not P (λ (m : MemberReference). IsTrue (is_array m.class)) known (λ m. true_or_not (is_array m.class))

pub lacks_stub_or_not : (j : Judged) → IsProgram j.program → OrNot (LacksStub j)
lacks_stub_or_not j program =
    carried_over to back
    (either_or_not (such_or_not (Names j) (IsNotThere j.program) (named_class j) (missing_or_not j.program))
    (either_or_not (array_or_not (Accesses j) (accessed j))
    (either_or_not (array_or_not (Calls j) (called j))
    (either_or_not (this_or_not (LooksUpField j) outcome_or_not (field_looked_up j program) (Err reasons.NoStub))
    (either_or_not (this_or_not (LooksUpMethod j) outcome_or_not (method_looked_up j program) (Err reasons.NoStub))
    (such_or_not (HasTarget j) (IsUndescribed j.program) (target j program) (undescribed_or_not j.program)))))))
  where
    to : Lacking j → LacksStub j
    to (inl s) = of_class s.one s.first s.second
    to (inr (inl s)) = of_array_field s.one s.first s.second
    to (inr (inr (inl s))) = of_array_method s.one s.first s.second
    to (inr (inr (inr (inl l)))) = of_field l
    to (inr (inr (inr (inr (inl l))))) = of_method l
    to (inr (inr (inr (inr (inr s))))) = of_target s.one s.first s.second

    back : LacksStub j → Lacking j
    back (of_class class names missing) = inl (record { one = class; first = names; second = missing })
    back (of_array_field m accesses array) = inr (inl (record { one = m; first = accesses; second = array }))
    back (of_array_method m calls array) = inr (inr (inl (record { one = m; first = calls; second = array })))
    back (of_field l) = inr (inr (inr (inl l)))
    back (of_method l) = inr (inr (inr (inr (inl l))))
    back (of_target t has native) = inr (inr (inr (inr (inr (record { one = t; first = has; second = native })))))
