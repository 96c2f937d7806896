-- Bytes are at most one stub file, are refused for at most one reason but for want of memory, and never both.
use Rattle.std.proofs.Common.{◌≡◌, ◌⊎◌, inl, inr, ℕ, ◌<◌, List, [], ◌∷◌, ◌++◌, length, All, Option, Some, None, arith, refl, sym, ap, ◌∙◌, subst}
use Rattle.std.proofs.lemmas.List.Elements.{All-head, All-tail}
use Rattle.toml.specs.Data.{Members}
use Rattle.jvm_model.specs.declared.stub.StubClass.{StubClass}
use Rattle.failure.specs.declared.Failure.{Failure}
use Rattle.stub_file.specs.declared.stub_failure.StubFault.{StubFault}
use Rattle.failure.specs.declared.Failure.TheVariants.{Cause, OutOfMemory}
use Rattle.stub_file.specs.declared.stub_failure.StubFault.TheVariants.{BadToml, BadStub}
use Rattle.toml_tables.proofs.OneDocument.{never_both, IsDocument-same}
use Rattle.stub_file.specs.StubFile.{GivesClass, IsFirstBreach, IsStubRefusal, IsStubFile, IsTableRefusal, SpellsFile}
use Rattle.stub_file.proofs.Whole.{for_memory, HasOuterKeys-unique, SpellsFile-unique}

pub IsStubFile-unique : (file bytes : List ℕ) (cs es : List StubClass) → IsStubFile file bytes cs → IsStubFile file bytes es → cs ≡ es
IsStubFile-unique file bytes cs es p q =
    let same : p.members ≡ q.members = IsDocument-same bytes p.members q.members p.document q.document in
    SpellsFile-unique file q.members cs es (subst (λ (ms : Members). SpellsFile file ms cs) same p.spells) q.spells

-- an item at a place is among those before a later place
held_before : {X : Type 0} (P : X → Type 0) (a b : List X) (x y : X) (left right : List X) → a ++ x ∷ left ≡ b ++ y ∷ right → length a < length b → All P b → P x
held_before P a [] x y left right e h all = absurd (omega arith)
held_before P [] (w ∷ b) x y left right e h all =
    let same : x ≡ w = cc in
    subst P (sym same) (All-head P w b all)
held_before P (v ∷ a) (w ∷ b) x y left right e h all = held_before P a b x y left right (cc) (omega arith) (All-tail P w b all)

not_before : (file : List ℕ) (ts : List Members) (n m : ℕ) → IsFirstBreach file ts n → IsFirstBreach file ts m → n < m → ⊥
not_before file ts n m p q h =
    let counted : n ≡ length p.before = p.counted in
    let later : m ≡ length q.before = q.counted in
    let gives = held_before (λ (ms : Members). (c : StubClass) × GivesClass file ms c) p.before q.before p.fault q.fault p.after q.after (sym p.stands ∙ q.stands) (omega arith) q.earlier in
    p.breaks gives.0 gives.1

one_number : (n m : ℕ) → (n < m → ⊥) → (m < n → ⊥) → n ≡ m
one_number n m below above = omega (arith, below, above)

first_unique : (file : List ℕ) (ts : List Members) (n m : ℕ) → IsFirstBreach file ts n → IsFirstBreach file ts m → n ≡ m
first_unique file ts n m p q = one_number n m (not_before file ts n m p q) (not_before file ts m n q p)

one_class : (file : List ℕ) (ms : Members) (a b : Option ℕ) → IsTableRefusal file ms (Cause (BadStub a)) → IsTableRefusal file ms (Cause (BadStub b)) → a ≡ b
one_class file ms None None p q = refl
one_class file ms None (Some m) p q = absurd (p q.0 q.1)
one_class file ms (Some n) None p q = absurd (q p.0 p.1)
one_class file ms (Some n) (Some m) p q =
    let same : p.0 ≡ q.0 = HasOuterKeys-unique ms p.0 q.0 p.1 q.1 in
    ap Some (first_unique file q.0 n m (subst (λ (ts : List Members). IsFirstBreach file ts n) same p.2) q.2)

pub one_reason : (file bytes : List ℕ) (r s : Failure StubFault) → IsStubRefusal file bytes r → IsStubRefusal file bytes s → ((r ≡ OutOfMemory) ⊎ (s ≡ OutOfMemory)) ⊎ (r ≡ s)
one_reason file bytes OutOfMemory s p q = inl (inl refl)
one_reason file bytes (Cause BadToml) (Cause BadToml) p q = inr refl
one_reason file bytes (Cause BadToml) (Cause (BadStub b)) p q = absurd (never_both bytes q.members q.document p)
one_reason file bytes (Cause BadToml) OutOfMemory p q = inl (inr refl)
one_reason file bytes (Cause (BadStub a)) (Cause BadToml) p q = absurd (never_both bytes p.members p.document q)
one_reason file bytes (Cause (BadStub a)) (Cause (BadStub b)) p q =
    let same : p.members ≡ q.members = IsDocument-same bytes p.members q.members p.document q.document in
    inr (ap (λ (class : Option ℕ). Cause (BadStub class)) (one_class file q.members a b (subst (λ (ms : Members). IsTableRefusal file ms (Cause (BadStub a))) same p.refused) q.refused))
one_reason file bytes (Cause (BadStub a)) OutOfMemory p q = inl (inr refl)

pub not_both : (file bytes : List ℕ) (cs : List StubClass) (r : Failure StubFault) → IsStubFile file bytes cs → IsStubRefusal file bytes r → r ≡ OutOfMemory
not_both file bytes cs (Cause BadToml) is refused = absurd (never_both bytes is.members is.document refused)
not_both file bytes cs (Cause (BadStub a)) is refused =
    let same : is.members ≡ refused.members = IsDocument-same bytes is.members refused.members is.document refused.document in
    for_memory file refused.members cs (Cause (BadStub a)) (subst (λ (ms : Members). SpellsFile file ms cs) same is.spells) refused.refused
not_both file bytes cs OutOfMemory is refused = refl
