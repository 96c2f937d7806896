use Rattle.std.proofs.Common.{codes, ◌≡◌, inl, ℕ, false, IsTrue, List, [], ◌∷◌, Some, refl, ap, sym, ◌∙◌, subst, arith}
use Rattle.std.proofs.lemmas.List.Elements.{All-nil, All-from_recursion}
use Rattle.jvm_model.specs.declared.grammar.Grammar.TheVariants as grammars
use Rattle.jvm_model.specs.declared.pool.PoolEntry.{PoolEntry}
use Rattle.jvm_model.specs.declared.pool.PoolEntry.TheVariants as entries
use Rattle.jvm_model.specs.declared.class_file.ClassFile.{ClassFile}
use Rattle.jvm_model.specs.declared.class_file.Member.{Member}
use Rattle.jvm_model.specs.declared.class_file.Attribute.{Attribute}
use Rattle.jvm_model.specs.Descriptors.{IsFieldDescriptor, IsMethodDescriptor}
use Rattle.jvm_model.specs.Names.{is_unqualified_name, IsClassName}
use Rattle.jvm_model.specs.Soundness.{PlacedUse, UseHolds, IsIn, IsSoundClass, TextIsIn, is_array, places_of}
use Rattle.unit_tests.proofs.one_method.class_of.Goals as goal

abbrev entries_are : List PoolEntry
entries_are = entries.Utf8 (codes "Code") ∷ entries.Utf8 (codes "A") ∷ entries.Utf8 (codes "m") ∷ entries.Utf8 (codes "()V") ∷ entries.Class 2 ∷ []

abbrev method_of : List ℕ → Member
method_of body = record { flags = 8; name = 3; descriptor = 4; attributes = record { name = 1; body = body } ∷ [] }

abbrev class_of : List PoolEntry → List ℕ → List Member → List Member → List Attribute → ClassFile
class_of pool interfaces fields methods attributes =
    record { minor = 0; major = 52; pool = pool; flags = 0; this_class = 5; super_class = 5; interfaces = interfaces; fields = fields; methods = methods; attributes = attributes }

some_is : {X : Type 0} (P : X → Type 0) (x y : X) → Some x ≡ Some y → P x → P y
some_is P x y e h =
    let is : x ≡ y = cc in
    subst P is h

class_A : IsClassName (codes "A")
class_A = record { parts = codes "A" ∷ []; some = omega arith; each = All-from_recursion (λ part. IsTrue (is_unqualified_name part)) (codes "A" ∷ []) (refl, tt); joined = refl }

plain : IsMethodDescriptor (codes "()V")
plain = record { parameters = []; outcome = codes "V"; spelled = refl; each = All-nil IsFieldDescriptor; units = omega arith; outcome_is = inl refl }

name_in : TextIsIn entries_are grammars.MethodName 3
name_in text e = some_is (IsIn grammars.MethodName) (codes "m") text e refl

descriptor_in : TextIsIn entries_are grammars.MethodDescriptor 4
descriptor_in text e = some_is (IsIn grammars.MethodDescriptor) (codes "()V") text e plain

sound : (body : List ℕ) → IsSoundClass (class_of entries_are [] [] (method_of body ∷ []) [])
sound body = All-from_recursion (λ (p : PlacedUse). UseHolds entries_are p.use_) (places_of (class_of entries_are [] [] (method_of body ∷ []) [])) (
  refl,
  (
    refl,
    (
      refl,
      (
        refl,
        (
          refl,
          (
            (λ text e. some_is (IsIn grammars.ClassOrArray) (codes "A") text e (inl class_A)),
            (
              refl,
              (
                (λ name e. some_is (λ n. is_array n ≡ false) (codes "A") name e refl),
                (
                  inl refl,
                  (
                    (λ name e. some_is (λ n. is_array n ≡ false) (codes "A") name e refl),
                    (
                      (λ _. refl),
                      (
                        refl,
                        (
                          name_in,
                          ((λ name descriptor e f m there. omega (arith, there.1)), (refl, (descriptor_in, (refl, ((λ _. (refl, refl)), tt))))),
                        ),
                      ),
                    ),
                  ),
                ),
              ),
            ),
          ),
        ),
      ),
    ),
  ),
)

sound_at : (pool : List PoolEntry) (interfaces : List ℕ) (fields methods : List Member) (attributes : List Attribute) (m : Member)
    → pool ≡ entries_are → interfaces ≡ [] → fields ≡ [] → methods ≡ m ∷ [] → attributes ≡ []
    → IsSoundClass (class_of entries_are [] [] (m ∷ []) []) → IsSoundClass (class_of pool interfaces fields methods attributes)
sound_at pool interfaces fields methods attributes m e f g h k is =
    let one = subst (λ (xs : List Attribute). IsSoundClass (class_of entries_are [] [] (m ∷ []) xs)) (sym k) is in
    let two = subst (λ (ms : List Member). IsSoundClass (class_of entries_are [] [] ms attributes)) (sym h) one in
    let three = subst (λ (fs : List Member). IsSoundClass (class_of entries_are [] fs methods attributes)) (sym g) two in
    let four = subst (λ (is : List ℕ). IsSoundClass (class_of entries_are is fields methods attributes)) (sym f) three in
    subst (λ (p : List PoolEntry). IsSoundClass (class_of p interfaces fields methods attributes)) (sym e) four

pub returns-clause-sound : goal.returns-clause-sound
returns-clause-sound c =
    let methods = c.from_vec-3.ensures ∙ c.in_ok-vec.ensures.items ∙ ap (λ (m : Member). m ∷ []) c.in_ok-method.ensures in
    sound_at _ _ _ _ _ _ (c.pool.view_is ∙ c.in_ok-pool.ensures) (c.from_vec.ensures ∙ c.new.ensures.items) (c.from_vec-2.ensures ∙ c.new-2.ensures.items) methods (c.from_vec-4.ensures ∙ c.new-3.ensures.items)
    (sound _)
