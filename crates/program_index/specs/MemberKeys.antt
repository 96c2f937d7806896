-- Public contracts rest on this module.
-- What tells the members of a program apart: the number of the class, the name and the descriptor (JVMS 4.5, 4.6: no two
-- fields and no two methods of one class file have the same name and descriptor).
use Rattle.std.specs.Prelude.{ℕ, List, [], ◌∷◌, map}
use Rattle.std.specs.List.{flat_map}
use Rattle.jvm_model.specs.Lookups.{Signature, lent_signature}
use Rattle.program_index.specs.declared.member_key.MemberKey.{MemberKey}

pub record Key : Type 0 where
  pub class : ℕ
  pub signature : Signature

-- the key that is lent
abbrev pub key_of : MemberKey → Key
key_of key = record { class = key.class.0; signature = lent_signature key.signature }

-- the names and the descriptors, one after another
abbrev pub signature_texts : List Signature → List (List ℕ)
signature_texts signatures = flat_map (λ (s : Signature). s.name ∷ s.descriptor ∷ []) signatures

abbrev pub key_texts : List Key → List (List ℕ)
key_texts keys = signature_texts (map (λ (k : Key). k.signature) keys)
