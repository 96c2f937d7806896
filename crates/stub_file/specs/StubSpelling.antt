-- Public contracts rest on this module.
-- How a table of TOML spells a class of a stub file: which keys it has, and what stands at each.
use Rattle.std.specs.Prelude.{codes, ◌≡◌, ℕ, ◌≤◌, Bool, true, false, List, [], ◌∷◌, ◌++◌, None, option_map}
use Rattle.std.specs.Fmt.{decimal}
use Rattle.toml.specs.Data.{Data, string, array, table, Items, no_items, item, Members, get_member}
use Rattle.jvm_model.specs.declared.stub.StubArgument.{StubArgument}
use Rattle.jvm_model.specs.declared.stub.StubArgument.TheVariants.{This, Argument}
use Rattle.jvm_model.specs.declared.stub.StubResult.{StubResult}
use Rattle.jvm_model.specs.declared.stub.StubResult.TheVariants.{Primitive, Void, Null, Given, New, Kept}
use Rattle.jvm_model.specs.declared.stub.StubMethod.{StubMethod}
use Rattle.jvm_model.specs.declared.stub.StubField.{StubField}
use Rattle.jvm_model.specs.declared.stub.StubClass.{StubClass}
use Rattle.jvm_model.specs.Names.{IsClassName}
use Rattle.toml_tables.specs.Tables.{value_or, HasOnly, IsFlagAt, IsTextAt}

-- A value that is a text, a table, or a list, which spells this.
abbrev pub SpellsText : {X : Type 0} → (List ℕ → X → Type 0) → Data → X → Type 0
SpellsText Spells (string text) x = Spells text x
SpellsText Spells _ x = ⊥

abbrev pub SpellsTable : {X : Type 0} → (Members → X → Type 0) → Data → X → Type 0
SpellsTable Spells (table members) x = Spells members x
SpellsTable Spells _ x = ⊥

-- The items spell these, one each, in order.
abbrev pub AllSpell : {X : Type 0} → (Data → X → Type 0) → Items → List X → Type 0
AllSpell Spells no_items [] = Unit {0}
AllSpell Spells no_items (x ∷ xs) = ⊥
AllSpell Spells (item value items) [] = ⊥
AllSpell Spells (item value items) (x ∷ xs) = Spells value x × AllSpell Spells items xs

abbrev pub SpellsList : {X : Type 0} → (Data → X → Type 0) → Data → List X → Type 0
SpellsList Spells (array items) xs = AllSpell Spells items xs
SpellsList Spells _ xs = ⊥

-- The values at a key spell these. Without the key there are none.
abbrev pub ListsAt : {X : Type 0} → List ℕ → (Data → X → Type 0) → Members → List X → Type 0
ListsAt key Spells members = SpellsList Spells (value_or (array no_items) key members)

-- The words of a stub. A number is decimal, with no zero in front, and at most 255.
abbrev pub SpellsName : List ℕ → List ℕ → Type 0
SpellsName text name = text ≡ name

abbrev pub SpellsArgument : List ℕ → StubArgument → Type 0
SpellsArgument text This = text ≡ codes "this"
SpellsArgument text (Argument number) = (1 ≤ number) × (number ≤ 255) × (text ≡ codes "arg" ++ decimal number)

abbrev pub SpellsResult : List ℕ → StubResult → Type 0
SpellsResult text Primitive = text ≡ codes "prim"
SpellsResult text Void = text ≡ codes "void"
SpellsResult text Null = text ≡ codes "null"
SpellsResult text (Given argument) = SpellsArgument text argument
SpellsResult text (New name) = text ≡ codes "new:" ++ name
SpellsResult text Kept = text ≡ codes "kept"

abbrev pub method_keys : List (List ℕ)
method_keys =
    codes "name" ∷ codes "descriptor" ∷ codes "static" ∷ codes "abstract" ∷ codes "returns" ∷ codes "throws" ∷ codes "keeps" ∷ []

-- The table of a method.
pub record SpellsMethod (members : Members) (m : StubMethod) : Type 0 where
  pub keys : HasOnly method_keys members
  pub name : IsTextAt (codes "name") members m.name
  pub descriptor : IsTextAt (codes "descriptor") members m.descriptor
  pub is_static : IsFlagAt (codes "static") members m.is_static
  pub is_abstract : IsFlagAt (codes "abstract") members m.is_abstract
  pub returns : ListsAt (codes "returns") (SpellsText SpellsResult) members m.returns
  pub throws : ListsAt (codes "throws") (SpellsText SpellsName) members m.throws
  pub keeps : ListsAt (codes "keeps") (SpellsText SpellsArgument) members m.keeps

abbrev pub field_keys : List (List ℕ)
field_keys = codes "name" ∷ codes "descriptor" ∷ codes "static" ∷ codes "holds" ∷ []

-- The table of a field.
pub record SpellsField (members : Members) (f : StubField) : Type 0 where
  pub keys : HasOnly field_keys members
  pub name : IsTextAt (codes "name") members f.name
  pub descriptor : IsTextAt (codes "descriptor") members f.descriptor
  pub is_static : IsFlagAt (codes "static") members f.is_static
  pub holds : get_member (codes "holds") members ≡ option_map string f.holds

abbrev pub class_keys : List (List ℕ)
class_keys =
    codes "name" ∷ codes "super" ∷ codes "interfaces" ∷ codes "interface" ∷ codes "patch" ∷ codes "method" ∷ codes "field" ∷ []

-- The superclass of a class: java/lang/Object, unless the table names another. A patch names none.
abbrev pub SpellsSuper : Members → Bool → List ℕ → Type 0
SpellsSuper members true super_class = (get_member (codes "super") members ≡ None) × (super_class ≡ [])
SpellsSuper members false super_class =
    (value_or (string (codes "java/lang/Object")) (codes "super") members ≡ string super_class) × IsClassName super_class

-- The table of a class, in a file of this name.
pub record SpellsClass (file : List ℕ) (members : Members) (c : StubClass) : Type 0 where
  pub keys : HasOnly class_keys members
  pub file_name : c.file ≡ file
  pub name : IsTextAt (codes "name") members c.name
  pub is_interface : IsFlagAt (codes "interface") members c.is_interface
  pub is_patch : IsFlagAt (codes "patch") members c.is_patch
  pub super_class : SpellsSuper members c.is_patch c.super_class
  pub interfaces : ListsAt (codes "interfaces") (SpellsText SpellsName) members c.interfaces
  pub methods : ListsAt (codes "method") (SpellsTable SpellsMethod) members c.methods
  pub fields : ListsAt (codes "field") (SpellsTable SpellsField) members c.fields
