-- Whether a method has code, and whether a class has an initialiser, is decided in a program.
use Rattle.std.proofs.Common.{◌≡◌, ◌⊎◌, inl, inr, ℕ, zero, suc, ◌<◌, List, [], ◌∷◌, length, filter, Option, Some, None, refl, sym, ap, ◌∙◌, subst, arith}
use Rattle.std.specs.List.{slice_get, All}
use Rattle.std.specs.Prelude.{codes}
use Rattle.std.proofs.Math.Nat.{eq-or-lt_of_le}
use Rattle.std.proofs.lemmas.List.Elements.{All-contains, All-filter, All-from_recursion}
use Rattle.std.proofs.lemmas.Option.{none-some, same_Some, slice_get_within}
use Rattle.jvm_model.specs.declared.class_file.Attribute.{Attribute}
use Rattle.jvm_model.specs.declared.class_file.ClassFile.{ClassFile}
use Rattle.jvm_model.specs.declared.class_file.Member.{Member}
use Rattle.jvm_model.specs.Code.{CodeBody, IsCode, HasCode}
use Rattle.jvm_model.specs.LinkedPrograms.{IsProgram, IsBodyOf, IsMemberOf}
use Rattle.jvm_model.specs.Lookups.{Signature}
use Rattle.jvm_model.specs.Programs.{Program, Method, Body, in_file, described}
use Rattle.jvm_model.specs.Soundness.{is_code, plain_descriptor}
use Rattle.jvm_model.specs.Spelling.{AttributeFits, MemberFits}
use Rattle.jvm_model.specs.Subtypes.{IsSubtype}
use Rattle.machine_bytecode.specs.Machine.{MethodCode, IsInitialiser}
use Rattle.code_reader.proofs.SpelledBodies.{body_or_not}
use Rattle.code_reader.proofs.ToldCodes.{Contains-from_slice_get}
use Rattle.program_laws.proofs.Choices.{OrNot, carried_over, both_or_not, same_or_not}
use Rattle.program_laws.proofs.Decided.{subtype_or_not}
use Rattle.program_laws.proofs.Orders.{first_there}

-- ---- numbers below a limit

pub some_below : (P : ℕ → Type 0) → ((k : ℕ) → OrNot (P k)) → (n : ℕ) → OrNot ((k : ℕ) × (k < n) × P k)
some_below P choose zero = inr (λ h. let l = h.1 in absurd (omega arith))
some_below P choose (suc n) = by (choose n) (some_below P choose n)
  where
    by : OrNot (P n) → OrNot ((k : ℕ) × (k < n) × P k) → OrNot ((k : ℕ) × (k < suc n) × P k)
    by (inl h) below = inl (n, omega arith, h)
    by (inr not_so) (inl h) = let l = h.1 in inl (h.0, omega arith, h.2)
    by (inr not_so) (inr none) = inr (λ h. neither h.0 h.1 h.2 (which h.0 h.1))
      where
        which : (k : ℕ) → k < suc n → (k ≡ n) ⊎ (k < n)
        which k l = eq-or-lt_of_le (omega arith)

        neither : (k : ℕ) → k < suc n → P k → (k ≡ n) ⊎ (k < n) → ⊥
        neither k l h (inl e) = not_so (subst P e h)
        neither k l h (inr less) = none (k, less, h)

-- ---- a body of a member

abbrev SomeBody : ClassFile → Member → Type 0
SomeBody file member = (body : CodeBody) × HasCode file member body

one_listed : (a b : Attribute) → a ∷ [] ≡ b ∷ [] → a ≡ b
one_listed a b e = cc

code_or_not : (file : ClassFile) (member : Member) → All AttributeFits member.attributes → OrNot (SomeBody file member)
code_or_not file member fits = by (filter (is_code file.pool) member.attributes) refl
  where
    each : All AttributeFits (filter (is_code file.pool) member.attributes)
    each = All-filter (is_code file.pool) AttributeFits member.attributes fits

    of_one : (a : Attribute) → filter (is_code file.pool) member.attributes ≡ a ∷ [] → ((b : CodeBody) × IsCode a.body b) ⊎ ((b : CodeBody) → IsCode a.body b → ⊥) → OrNot (SomeBody file member)
    of_one a e (inl is) = inl (is.0, record { code = a; only = e; body = is.1 })
    of_one a e (inr none) = inr (λ h. none h.0 (subst (λ (c : Attribute). IsCode c.body h.0) (one_listed h.1.code a (sym h.1.only ∙ e)) h.1.body))

    by : (listed : List Attribute) → filter (is_code file.pool) member.attributes ≡ listed → OrNot (SomeBody file member)
    by [] e = inr (λ h. let both : [] ≡ h.1.code ∷ [] = sym e ∙ h.1.only in absurd cc)
    by (a ∷ []) e =
        let of_a : All AttributeFits (a ∷ []) = subst (All AttributeFits) e each in
        let a_fits = All-contains AttributeFits (a ∷ []) a of_a (first_there a []) in
        of_one a e (body_or_not a.body a_fits.bytes)
    by (a ∷ b ∷ more) e = inr (λ h. let both : a ∷ b ∷ more ≡ h.1.code ∷ [] = sym e ∙ h.1.only in absurd cc)

-- ---- the code of a method

attributes_fit : (m : Method) (file : ClassFile) (place : ℕ) (member : Member) → IsMemberOf m file place member → All AttributeFits member.attributes
attributes_fit m file place member is =
    let members : All MemberFits file.methods = All-from_recursion MemberFits file.methods is.checked.fits.methods in
    let fits = All-contains MemberFits file.methods member members (Contains-from_slice_get file.methods place member is.stands) in
    All-from_recursion AttributeFits member.attributes fits.attributes

-- what stands for the method of a number
body_of : (p : Program) (number : ℕ) (m : Method) (c : MethodCode p number) → slice_get p.methods number ≡ Some m → in_file c.file c.place c.member ≡ m.body
body_of p number m c stands = sym c.of_file ∙ ap (λ (n : Method). n.body) (same_Some c.method m (sym c.stands ∙ stands))

by_body : (p : Program) (number : ℕ) (m : Method) → slice_get p.methods number ≡ Some m → (b : Body) → m.body ≡ b → IsBodyOf m b → OrNot (MethodCode p number)
by_body p number m stands (described d) e of = inr (λ c. let both : in_file c.file c.place c.member ≡ described d = body_of p number m c stands ∙ e in absurd cc)
by_body p number m stands (in_file file place member) e of = carried_over to back (code_or_not file member (attributes_fit m file place member of))
  where
    to : SomeBody file member → MethodCode p number
    to h = record { method = m; stands = stands; file = file; place = place; member = member; of_file = e; body = h.0; has = h.1 }

    back : MethodCode p number → SomeBody file member
    back c =
        let both : in_file c.file c.place c.member ≡ in_file file place member = body_of p number m c stands ∙ e in
        let same_file : c.file ≡ file = cc in
        let same_member : c.member ≡ member = cc in
        (c.body, subst (λ (f : ClassFile). HasCode f member c.body) same_file (subst (λ (n : Member). HasCode c.file n c.body) same_member c.has))

pub method_code_or_not : (p : Program) → IsProgram p → (number : ℕ) → OrNot (MethodCode p number)
method_code_or_not p program number = by (slice_get p.methods number) refl
  where
    by : (o : Option Method) → slice_get p.methods number ≡ o → OrNot (MethodCode p number)
    by None none = inr (λ c. none-some c.method (sym none ∙ c.stands))
    by (Some m) stands =
        let of : IsBodyOf m m.body = All-contains (λ (n : Method). IsBodyOf n n.body) p.methods m program.bodies (Contains-from_slice_get p.methods number m stands) in
        by_body p number m stands m.body refl of

-- ---- initialisers

pub signature_or_not : (s t : Signature) → OrNot (s ≡ t)
signature_or_not s t = carried_over to back (both_or_not (same_or_not s.name t.name) (λ e. same_or_not s.descriptor t.descriptor))
  where
    to : (s.name ≡ t.name) × (s.descriptor ≡ t.descriptor) → s ≡ t
    to h = λ i. record { name = h.0 i; descriptor = h.1 i }

    back : s ≡ t → (s.name ≡ t.name) × (s.descriptor ≡ t.descriptor)
    back e = (ap (λ (u : Signature). u.name) e, ap (λ (u : Signature). u.descriptor) e)

abbrev initialiser_signature : Signature
initialiser_signature = record { name = codes "<clinit>"; descriptor = plain_descriptor }

of_code : (p : Program) (class : List ℕ) (number : ℕ) → OrNot (MethodCode p number) → OrNot (IsInitialiser p class number)
of_code p class number (inr none) = inr (λ i. none i.code)
of_code p class number (inl code) = carried_over to back (both_or_not (signature_or_not code.method.signature initialiser_signature) (λ e. subtype_or_not p code.method.class class))
  where
    to : (code.method.signature ≡ initialiser_signature) × IsSubtype p code.method.class class → IsInitialiser p class number
    to h = record { code = code; named = h.0; above = h.1 }

    back : IsInitialiser p class number → (code.method.signature ≡ initialiser_signature) × IsSubtype p code.method.class class
    back i =
        let same : i.code.method ≡ code.method = same_Some i.code.method code.method (sym i.code.stands ∙ code.stands) in (
          subst (λ (m : Method). m.signature ≡ initialiser_signature) same i.named,
          subst (λ (m : Method). IsSubtype p m.class class) same i.above,
        )

pub initialiser_or_not : (p : Program) → IsProgram p → (class : List ℕ) → OrNot ((number : ℕ) × IsInitialiser p class number)
initialiser_or_not p program class = carried_over to back (some_below (IsInitialiser p class) (λ number. of_code p class number (method_code_or_not p program number)) (length p.methods))
  where
    to : (number : ℕ) × (number < length p.methods) × IsInitialiser p class number → (number : ℕ) × IsInitialiser p class number
    to h = (h.0, h.2)

    back : (number : ℕ) × IsInitialiser p class number → (number : ℕ) × (number < length p.methods) × IsInitialiser p class number
    back h = (h.0, slice_get_within p.methods h.0 h.1.code.method h.1.code.stands, h.1)

pub some_initialiser_or_none : (p : Program) → IsProgram p → (class : List ℕ) → ((number : ℕ) × IsInitialiser p class number) ⊎ ((number : ℕ) → IsInitialiser p class number → ⊥)
some_initialiser_or_none p program class = by (initialiser_or_not p program class)
  where
    by : OrNot ((number : ℕ) × IsInitialiser p class number) → ((number : ℕ) × IsInitialiser p class number) ⊎ ((number : ℕ) → IsInitialiser p class number → ⊥)
    by (inl some) = inl some
    by (inr none) = inr (λ number is. none (number, is))
