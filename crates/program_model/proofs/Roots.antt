-- A class without a superclass is java/lang/Object, and each walk upward ends at one.
use Rattle.std.proofs.Common.{codes, ◌≡◌, ℕ, zero, suc, ◌<◌, Bool, true, false, ◌||◌, ◌⊎◌, inl, inr, List, [], ◌∷◌, length, Contains, All, Option, Some, None, unwrap_or, refl, sym, ap, ◌∙◌, subst, arith}
use Rattle.std.specs.Prelude.{IsTrue, ◌==◌, if◌then◌else◌}
use Rattle.std.specs.List.{join_with_byte}
use Rattle.std.specs.Str.{bytes_eq}
use Rattle.std.proofs.lemmas.Bool.{false≢true}
use Rattle.std.proofs.lemmas.Bool.Decides.{Decides-eqb}
use Rattle.std.proofs.lemmas.List.Elements.{All-contains, All-head}
use Rattle.std.proofs.lemmas.Slice.Eq.{bytes_eq-Decides}
use Rattle.jvm_model.specs.declared.program.Origin.{Origin}
use Rattle.jvm_model.specs.declared.program.Origin.TheVariants.{Folder, Stub}
use Rattle.jvm_model.specs.declared.stub.StubClass.{StubClass}
use Rattle.jvm_model.specs.LinkedPrograms.{HasSupers, IsProgram}
use Rattle.jvm_model.specs.Linking.{class_from, program_from}
use Rattle.jvm_model.specs.Names.{is_unqualified_name, IsClassName}
use Rattle.jvm_model.specs.Programs.{Class, Program, object_name}
use Rattle.jvm_model.specs.StubRules.{HasSuper, may_lack_super}
use Rattle.jvm_model.specs.Stubs.{super_of}
use Rattle.jvm_model.specs.Subtypes.{class_named}
use Rattle.jvm_model.proofs.SoundUses.{super_none}
use Rattle.program_index.proofs.ListPlaces.{map_at}
use Rattle.program_index.proofs.OrderPlaces.{all_at, contains_at, place_of}
use Rattle.program_model.specs.Origins.{IsSoundOrigin}
use Rattle.program_model.specs.Ranks.{IsRanked}
use Rattle.program_model.specs.Roots.{HasObject, HasRoot}
use Rattle.program_model.proofs.Bridges.{found_first, find_there}

-- only java/lang/Object has no superclass
abbrev IsRoot : Class → Type 0
IsRoot c = c.super_class ≡ None → c.name ≡ object_name

-- the empty text is not the name of a class
pub empty_no_class : IsClassName [] → ⊥
empty_no_class class = by class.parts class.some class.each class.joined
  where
    by : (parts : List (List ℕ)) → 0 < length parts → All (λ part. IsTrue (is_unqualified_name part)) parts → [] ≡ join_with_byte 47 parts → ⊥
    by [] some all e = omega (arith, some)
    by ([] ∷ parts) some all e = false≢true (All-head (λ part. IsTrue (is_unqualified_name part)) [] parts all)
    by ((b ∷ bytes) ∷ []) some all e = absurd cc
    by ((b ∷ bytes) ∷ (second ∷ parts)) some all e = absurd cc

-- a text of no bytes is empty
no_text : (text : List ℕ) → length text ≡ 0 → text ≡ []
no_text [] e = refl
no_text (b ∷ bytes) e = absurd (omega (arith, e))

-- a superclass that is named is one
super_named : (c : StubClass) → super_of c ≡ None → IsClassName c.super_class → ⊥
super_named c none name = by (length c.super_class == 0) refl none
  where
    by : (empty : Bool) → (length c.super_class == 0) ≡ empty → (if empty then None else Some c.super_class) ≡ None → ⊥
    by true is e = empty_no_class (subst IsClassName (no_text c.super_class ((Decides-eqb (length c.super_class) 0).0 is)) name)
    by false is e = let something : Some c.super_class ≡ None = e in absurd cc

stub_root : (c : StubClass) → c.is_patch ≡ false → HasSuper c → super_of c ≡ None → c.name ≡ object_name
stub_root c own (inl (may, lacks)) none =
    let is : bytes_eq c.name object_name ≡ true = sym (ap (λ (b : Bool). b || bytes_eq c.name object_name) own) ∙ may in
    (bytes_eq-Decides c.name object_name).0 is
stub_root c own (inr (is_class, name)) none = absurd (super_named c none name)

root_of : (o : Origin) → IsSoundOrigin o → IsRoot (class_from o)
root_of (Folder f natives) sound = λ none.
    let object = super_none (λ (name : List ℕ). name) f.class None sound.0.sound (sym none) in
    ap (λ (name : Option (List ℕ)). unwrap_or name []) object.1
root_of (Stub c) sound = λ none. stub_root c sound.1 sound.0.super_class none

module _ (order : List Origin) (sound : All IsSoundOrigin order) (supers : All (HasSupers (program_from order)) (program_from order).classes) (ranked : IsRanked (program_from order)) where
  abbrev p : Program
  p = program_from order

  root_at : (c : Class) → Contains p.classes c → IsRoot c
  root_at c among =
      let there = place_of p.classes c among in
      let from = map_at class_from order there.0 c there.1 in
      subst IsRoot from.2 (root_of from.0 (all_at IsSoundOrigin order there.0 from.0 sound from.1))

  -- a class of the name of an object's is found by it
  found_by : (c : Class) → Contains p.classes c → c.name ≡ object_name → HasObject p
  found_by c among is =
      let there = place_of p.classes c among in
      find_there (λ (d : Class). bytes_eq d.name object_name) p.classes there.0 c there.1 ((bytes_eq-Decides c.name object_name).1 is)

  object_within : (bound : ℕ) (c : Class) → Contains p.classes c → ranked.rank c.name < bound → HasObject p
  object_within zero c among less = absurd (omega (arith, less))
  object_within (suc bound) c among less = above (object_within bound) c.super_class refl
    where
      above : ((d : Class) → Contains p.classes d → ranked.rank d.name < bound → HasObject p) → (super : Option (List ℕ)) → c.super_class ≡ super → HasObject p
      above within None e = found_by c among (root_at c among e)
      above within (Some name) e =
          let super = (All-contains (HasSupers p) p.classes c supers among).superclass name e in
          let found = found_first (λ (d : Class). bytes_eq d.name name) p.classes super.0 super.1 in
          let named : super.0.name ≡ name = (bytes_eq-Decides super.0.name name).0 found.2 in
          let falls : ranked.rank super.0.name < ranked.rank c.name = subst (λ (n : List ℕ). ranked.rank n < ranked.rank c.name) (sym named) (ranked.falls c name among (inl e)) in
          within super.0 (contains_at p.classes found.0 super.0 found.1) (omega (arith, less, falls))

  pub has_root : HasRoot p
  has_root c among = object_within (length p.classes) c among (ranked.few c among)
