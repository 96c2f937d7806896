-- The superclass that the table of a class names.
use Rattle.std.proofs.Common.{codes, ◌≡◌, ℕ, Bool, true, false, List, Option, Some, None, option_map, refl, sym, ap, subst}
use Rattle.std.specs.Option.{option_map_or}
use Rattle.toml.specs.Data.{Data, string, Members, get_member}
use Rattle.jvm_model.specs.Names.{IsClassName}
use Rattle.jvm_model.proofs.ClassNames.{class_name_from_parts}
use Rattle.stub_file.specs.StubSpelling.{SpellsSuper}

no_text : (o : Option Data) (d : Data) (text : List ℕ) → ((n : Option (List ℕ)) → o ≡ option_map string n → ⊥) → option_map_or (λ value. value) o d ≡ string text → ⊥
no_text None d text none e = none None refl
no_text (Some v) d text none e = none (Some text) (ap Some e)

-- something else stands there
pub no_super : (ms : Members) (is_patch : Bool) (x : List ℕ) → ((n : Option (List ℕ)) → get_member (codes "super") ms ≡ option_map string n → ⊥) → SpellsSuper ms is_patch x → ⊥
no_super ms true x none p = none None p.0
no_super ms false x none p = no_text (get_member (codes "super") ms) (string (codes "java/lang/Object")) x none p.0

object_is_class_name : IsClassName (codes "java/lang/Object")
object_is_class_name = class_name_from_parts (codes "java/lang/Object") refl

by_default : (ms : Members) → get_member (codes "super") ms ≡ None → SpellsSuper ms false (codes "java/lang/Object")
by_default ms none = (ap (λ (o : Option Data). option_map_or (λ value. value) o (string (codes "java/lang/Object"))) none, object_is_class_name)

-- nothing stands there
pub SpellsSuper-by_default : (ms : Members) (is_patch : Bool) (x : List ℕ) → is_patch ≡ false → get_member (codes "super") ms ≡ None → x ≡ codes "java/lang/Object" → SpellsSuper ms is_patch x
SpellsSuper-by_default ms is_patch x unpatched none is =
    subst (λ (b : Bool). SpellsSuper ms b x) (sym unpatched) (subst (λ (y : List ℕ). SpellsSuper ms false y) (sym is) (by_default ms none))
