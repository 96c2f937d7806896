use Rattle.std.proofs.Common.{codes, ◌≡◌, ℕ, inl, true, false, List, [], ◌∷◌, IsTrue, None, refl, sym, ◌∙◌, ap, subst, arith}
use Rattle.std.proofs.lemmas.List.Elements.{All-nil, All-from_recursion}
use Rattle.jvm_model.specs.declared.descriptor.Kind.TheVariants.{Prim}
use Rattle.jvm_model.specs.declared.stub.StubArgument.{StubArgument}
use Rattle.jvm_model.specs.declared.stub.StubClass.{StubClass}
use Rattle.jvm_model.specs.declared.stub.StubField.{StubField}
use Rattle.jvm_model.specs.declared.stub.StubMethod.{StubMethod}
use Rattle.jvm_model.specs.declared.stub.StubResult.TheVariants.{Void}
use Rattle.jvm_model.specs.Names.{IsClassName}
use Rattle.jvm_model.specs.StubRules.{is_object_argument, IsSoundField, IsSoundMethod, IsSoundStub, MayReturn}
use Rattle.jvm_model.proofs.ClassNames.{class_name_from_parts}
use Rattle.unit_tests.proofs.linked.program.object_class.Goals as goal

abbrev constructor : StubMethod
constructor = record { name = codes "<init>"; descriptor = codes "()V"; is_static = false; is_abstract = false; returns = Void ∷ []; throws = []; keeps = [] }

abbrev held : StubField
held = record { name = codes "held"; descriptor = codes "I"; is_static = true; holds = None }

sound_constructor : IsSoundMethod constructor
sound_constructor = record {
  name = refl;
  parameters = [];
  outcome = None;
  descriptor = record { parameters = []; outcome = codes "V"; spelled = refl; each = tt; units = omega arith; outcome_is = refl };
  returns = All-from_recursion (MayReturn false [] None) (Void ∷ []) (refl, tt);
  throws = All-nil IsClassName;
  keeps = All-nil (λ (a : StubArgument). IsTrue (is_object_argument false [] a));
  lists = refl;
}

sound_field : IsSoundField held
sound_field = record { name = refl; kind = Prim false; descriptor = ((73, refl, refl), refl); holds = tt }

abbrev class_of : List ℕ → List ℕ → List ℕ → List (List ℕ) → List StubMethod → List StubField → StubClass
class_of file name super_class interfaces methods fields =
    record { file = file; name = name; super_class = super_class; interfaces = interfaces; is_interface = false; is_patch = false; methods = methods; fields = fields }

sound : (file : List ℕ) → IsSoundStub (class_of file (codes "java/lang/Object") [] [] (constructor ∷ []) (held ∷ []))
sound file = record {
  name = class_name_from_parts (codes "java/lang/Object") refl;
  super_class = inl (refl, refl);
  interfaces = All-nil IsClassName;
  methods = All-from_recursion IsSoundMethod (constructor ∷ []) (sound_constructor, tt);
  fields = All-from_recursion IsSoundField (held ∷ []) (sound_field, tt);
  methods_differ = refl;
  fields_differ = refl;
  patch = refl;
}

sound_as : (file name super_class : List ℕ) (interfaces : List (List ℕ)) (methods : List StubMethod) (fields : List StubField) → name ≡ codes "java/lang/Object" → super_class ≡ [] → interfaces ≡ []
    → methods ≡ constructor ∷ [] → fields ≡ held ∷ [] → IsSoundStub (class_of file name super_class interfaces methods fields)
sound_as file name super_class interfaces methods fields e f g h k =
    let all : class_of file name super_class interfaces methods fields ≡ class_of file (codes "java/lang/Object") [] [] (constructor ∷ []) (held ∷ []) =
    (λ i. class_of file (e i) (f i) (g i) (h i) (k i)) in
    subst IsSoundStub (sym all) (sound file)

pub returns-clause-sound : goal.returns-clause-sound
returns-clause-sound c =
    let methods = c.from_vec-3.ensures ∙ c.in_ok-methods.ensures.items ∙ ap (λ (m : StubMethod). m ∷ []) c.in_ok-constructor.ensures in
    let fields = c.from_vec-4.ensures ∙ c.in_ok-fields.ensures.items ∙ ap (λ (f : StubField). f ∷ []) c.in_ok-field.ensures in
    (sound_as _ _ _ _ _ _ c.in_ok-bytes.ensures (c.from_vec.ensures ∙ c.new.ensures.items) (c.from_vec-2.ensures ∙ c.new-2.ensures.items) methods fields, refl)
