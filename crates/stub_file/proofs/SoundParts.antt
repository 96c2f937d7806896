-- The rules of methods, by the kinds of their descriptors, of which there is one list.
use Rattle.std.proofs.Common.{◌≡◌, ℕ, List, Option, subst}
use Rattle.jvm_model.specs.declared.descriptor.Kind.{Kind}
use Rattle.jvm_model.specs.declared.descriptor.Descriptor.TheVariants.{Field, Method}
use Rattle.jvm_model.specs.declared.stub.StubMethod.{StubMethod}
use Rattle.jvm_model.specs.DescriptorValues.{IsKind, IsMethodOf}
use Rattle.jvm_model.proofs.MethodKinds.{one_value}
use Rattle.stub_file.specs.StubReading.{AreSoundParts}
use Rattle.jvm_model.specs.StubRules.{IsSoundMethod}

-- no text is a descriptor of a field and of a method
pub field_is_no_method : (text : List ℕ) (kind : Kind) (kinds : List Kind) (outcome : Option Kind) → IsKind text kind → IsMethodOf text kinds outcome → ⊥
field_is_no_method text kind kinds outcome k m =
    let same : Field kind ≡ Method kinds outcome = one_value text (Field kind) (Method kinds outcome) k m in
    cc

pub same_parameters : (text : List ℕ) (ks ls : List Kind) (k l : Option Kind) → IsMethodOf text ks k → IsMethodOf text ls l → ks ≡ ls
same_parameters text ks ls k l p q =
    let same : Method ks k ≡ Method ls l = one_value text (Method ks k) (Method ls l) p q in
    cc

pub same_outcome : (text : List ℕ) (ks ls : List Kind) (k l : Option Kind) → IsMethodOf text ks k → IsMethodOf text ls l → k ≡ l
same_outcome text ks ls k l p q =
    let same : Method ks k ≡ Method ls l = one_value text (Method ks k) (Method ls l) p q in
    cc

pub IsSoundMethod-from_parts : (m : StubMethod) (kinds : List Kind) (outcome : Option Kind) → IsMethodOf m.descriptor kinds outcome → AreSoundParts m kinds outcome → IsSoundMethod m
IsSoundMethod-from_parts m kinds outcome is parts = record {
  name = parts.name;
  parameters = kinds;
  outcome = outcome;
  descriptor = is;
  returns = parts.returns;
  throws = parts.throws;
  keeps = parts.keeps;
  lists = parts.lists;
}

own_parts : (m : StubMethod) (sound : IsSoundMethod m) → AreSoundParts m sound.parameters sound.outcome
own_parts m sound =
    record { name = sound.name; returns = sound.returns; throws = sound.throws; keeps = sound.keeps; lists = sound.lists }

pub AreSoundParts-from_method : (m : StubMethod) (kinds : List Kind) (outcome : Option Kind) → IsMethodOf m.descriptor kinds outcome → IsSoundMethod m → AreSoundParts m kinds outcome
AreSoundParts-from_method m kinds outcome is sound =
    let ks : sound.parameters ≡ kinds = same_parameters m.descriptor sound.parameters kinds sound.outcome outcome sound.descriptor is in
    let k : sound.outcome ≡ outcome = same_outcome m.descriptor sound.parameters kinds sound.outcome outcome sound.descriptor is in
    subst (λ (o : Option Kind). AreSoundParts m kinds o) k (subst (λ (ps : List Kind). AreSoundParts m ps sound.outcome) ks (own_parts m sound))
