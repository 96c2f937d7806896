-- What is spelled is one thing: of each value, list and table, and of a class.
use Rattle.std.proofs.Common.{codes, ◌≡◌, ℕ, Bool, true, false, List, [], ◌∷◌, Option, Some, None, option_map, refl, sym, ◌∙◌, subst}
use Rattle.std.specs.List.{AllZip}
use Rattle.toml.specs.declared.value.Value.{Value}
use Rattle.toml.specs.Data.{Data, string, integer, float, boolean, datetime, array, table, Items, no_items, item, Members}
use Rattle.toml.specs.View.{items_view}
use Rattle.jvm_model.specs.declared.stub.StubMethod.{StubMethod}
use Rattle.jvm_model.specs.declared.stub.StubField.{StubField}
use Rattle.jvm_model.specs.declared.stub.StubClass.{StubClass}
use Rattle.stub_file.specs.StubReading.{ValueSpells}
use Rattle.toml_tables.specs.Tables.{value_or}
use Rattle.toml_tables.proofs.Values.{text_same}
use Rattle.stub_file.specs.StubSpelling.{AllSpell, ListsAt, SpellsArgument, SpellsClass, SpellsField, SpellsList, SpellsMethod, SpellsName, SpellsResult, SpellsSuper, SpellsTable, SpellsText}
use Rattle.stub_file.proofs.OneWord.{SpellsArgument-unique, SpellsResult-unique}

-- items that spell a list, as values and as items
pub AllSpell-from_values : {X : Type 0} (S : Data → X → Type 0) (vs : List Value) (xs : List X) → AllZip (ValueSpells S) vs xs → AllSpell S (items_view vs) xs
AllSpell-from_values S [] [] z = tt
AllSpell-from_values S [] (x ∷ xs) z = z
AllSpell-from_values S (v ∷ vs) [] z = z
AllSpell-from_values S (v ∷ vs) (x ∷ xs) z = (z.0, AllSpell-from_values S vs xs z.1)

pub AllSpell-values : {X : Type 0} (S : Data → X → Type 0) (vs : List Value) (xs : List X) → AllSpell S (items_view vs) xs → AllZip (ValueSpells S) vs xs
AllSpell-values S [] [] z = tt
AllSpell-values S [] (x ∷ xs) z = z
AllSpell-values S (v ∷ vs) [] z = z
AllSpell-values S (v ∷ vs) (x ∷ xs) z = (z.0, AllSpell-values S vs xs z.1)

-- a value spells one thing
pub SpellsText-unique : {X : Type 0} (S : List ℕ → X → Type 0) → ((text : List ℕ) (x y : X) → S text x → S text y → x ≡ y) → (d : Data) (x y : X) → SpellsText S d x → SpellsText S d y → x ≡ y
SpellsText-unique S same (string text) x y p q = same text x y p q
SpellsText-unique S same (integer z) x y p q = absurd p
SpellsText-unique S same (float z) x y p q = absurd p
SpellsText-unique S same (boolean z) x y p q = absurd p
SpellsText-unique S same (datetime z) x y p q = absurd p
SpellsText-unique S same (array z) x y p q = absurd p
SpellsText-unique S same (table z) x y p q = absurd p

pub SpellsTable-unique : {X : Type 0} (S : Members → X → Type 0) → ((ms : Members) (x y : X) → S ms x → S ms y → x ≡ y) → (d : Data) (x y : X) → SpellsTable S d x → SpellsTable S d y → x ≡ y
SpellsTable-unique S same (string z) x y p q = absurd p
SpellsTable-unique S same (integer z) x y p q = absurd p
SpellsTable-unique S same (float z) x y p q = absurd p
SpellsTable-unique S same (boolean z) x y p q = absurd p
SpellsTable-unique S same (datetime z) x y p q = absurd p
SpellsTable-unique S same (array z) x y p q = absurd p
SpellsTable-unique S same (table ms) x y p q = same ms x y p q

AllSpell-unique : {X : Type 0} (S : Data → X → Type 0) → ((d : Data) (x y : X) → S d x → S d y → x ≡ y) → (items : Items) (xs ys : List X) → AllSpell S items xs → AllSpell S items ys → xs ≡ ys
AllSpell-unique S same no_items [] [] p q = refl
AllSpell-unique S same no_items [] (y ∷ ys) p q = absurd q
AllSpell-unique S same no_items (x ∷ xs) ys p q = absurd p
AllSpell-unique S same (item d items) [] ys p q = absurd p
AllSpell-unique S same (item d items) (x ∷ xs) [] p q = absurd q
AllSpell-unique S same (item d items) (x ∷ xs) (y ∷ ys) p q =
    let heads : x ≡ y = same d x y p.0 q.0 in
    let tails : xs ≡ ys = AllSpell-unique S same items xs ys p.1 q.1 in
    cc

SpellsList-unique : {X : Type 0} (S : Data → X → Type 0) → ((d : Data) (x y : X) → S d x → S d y → x ≡ y) → (d : Data) (xs ys : List X) → SpellsList S d xs → SpellsList S d ys → xs ≡ ys
SpellsList-unique S same (string z) xs ys p q = absurd p
SpellsList-unique S same (integer z) xs ys p q = absurd p
SpellsList-unique S same (float z) xs ys p q = absurd p
SpellsList-unique S same (boolean z) xs ys p q = absurd p
SpellsList-unique S same (datetime z) xs ys p q = absurd p
SpellsList-unique S same (array items) xs ys p q = AllSpell-unique S same items xs ys p q
SpellsList-unique S same (table z) xs ys p q = absurd p

ListsAt-unique : {X : Type 0} (key : List ℕ) (S : Data → X → Type 0) → ((d : Data) (x y : X) → S d x → S d y → x ≡ y) → (ms : Members) (xs ys : List X) → ListsAt key S ms xs → ListsAt key S ms ys → xs ≡ ys
ListsAt-unique key S same ms = SpellsList-unique S same (value_or (array no_items) key ms)

SpellsName-unique : (text x y : List ℕ) → SpellsName text x → SpellsName text y → x ≡ y
SpellsName-unique text x y p q = sym p ∙ q

names_unique : (d : Data) (x y : List ℕ) → SpellsText SpellsName d x → SpellsText SpellsName d y → x ≡ y
names_unique = SpellsText-unique SpellsName SpellsName-unique

flag_same : (d : Data) (flag other : Bool) → d ≡ boolean flag → d ≡ boolean other → flag ≡ other
flag_same d flag other e f = cc

method_same : (m n : StubMethod) → m.name ≡ n.name → m.descriptor ≡ n.descriptor → m.is_static ≡ n.is_static → m.is_abstract ≡ n.is_abstract → m.returns ≡ n.returns → m.throws ≡ n.throws → m.keeps ≡ n.keeps → m ≡ n
method_same m n a b c d e f g =
    λ i. record { name = a i; descriptor = b i; is_static = c i; is_abstract = d i; returns = e i; throws = f i; keeps = g i }

pub SpellsMethod-unique : (ms : Members) (m n : StubMethod) → SpellsMethod ms m → SpellsMethod ms n → m ≡ n
SpellsMethod-unique ms m n p q = method_same m n
    (text_same _ m.name n.name p.name q.name)
    (text_same _ m.descriptor n.descriptor p.descriptor q.descriptor)
    (flag_same _ m.is_static n.is_static p.is_static q.is_static)
    (flag_same _ m.is_abstract n.is_abstract p.is_abstract q.is_abstract)
    (ListsAt-unique (codes "returns") (SpellsText SpellsResult) (SpellsText-unique SpellsResult SpellsResult-unique) ms m.returns n.returns p.returns q.returns)
    (ListsAt-unique (codes "throws") (SpellsText SpellsName) names_unique ms m.throws n.throws p.throws q.throws)
    (ListsAt-unique (codes "keeps") (SpellsText SpellsArgument) (SpellsText-unique SpellsArgument SpellsArgument-unique) ms m.keeps n.keeps p.keeps q.keeps)

holds_same : (o : Option Data) (x y : Option (List ℕ)) → o ≡ option_map string x → o ≡ option_map string y → x ≡ y
holds_same o None None e f = refl
holds_same o None (Some y) e f = cc
holds_same o (Some x) None e f = cc
holds_same o (Some x) (Some y) e f = cc

field_same : (f g : StubField) → f.name ≡ g.name → f.descriptor ≡ g.descriptor → f.is_static ≡ g.is_static → f.holds ≡ g.holds → f ≡ g
field_same f g a b c d = λ i. record { name = a i; descriptor = b i; is_static = c i; holds = d i }

pub SpellsField-unique : (ms : Members) (f g : StubField) → SpellsField ms f → SpellsField ms g → f ≡ g
SpellsField-unique ms f g p q = field_same f g
    (text_same _ f.name g.name p.name q.name)
    (text_same _ f.descriptor g.descriptor p.descriptor q.descriptor)
    (flag_same _ f.is_static g.is_static p.is_static q.is_static)
    (holds_same _ f.holds g.holds p.holds q.holds)

string_same : (d : Data) (text other : List ℕ) → d ≡ string text → d ≡ string other → text ≡ other
string_same d text other e f = cc

SpellsSuper-unique : (ms : Members) (is_patch : Bool) (x y : List ℕ) → SpellsSuper ms is_patch x → SpellsSuper ms is_patch y → x ≡ y
SpellsSuper-unique ms true x y p q = p.1 ∙ sym q.1
SpellsSuper-unique ms false x y p q = string_same _ x y p.0 q.0

class_same : (c e : StubClass) → c.file ≡ e.file → c.name ≡ e.name → c.super_class ≡ e.super_class → c.interfaces ≡ e.interfaces → c.is_interface ≡ e.is_interface → c.is_patch ≡ e.is_patch → c.methods ≡ e.methods → c.fields ≡ e.fields → c ≡ e
class_same c e a b d f g h k j =
    λ i. record { file = a i; name = b i; super_class = d i; interfaces = f i; is_interface = g i; is_patch = h i; methods = k i; fields = j i }

pub SpellsClass-unique : (file : List ℕ) (ms : Members) (c e : StubClass) → SpellsClass file ms c → SpellsClass file ms e → c ≡ e
SpellsClass-unique file ms c e p q =
    let patch : c.is_patch ≡ e.is_patch = flag_same _ c.is_patch e.is_patch p.is_patch q.is_patch in
    class_same c e
    (p.file_name ∙ sym q.file_name)
    (text_same _ c.name e.name p.name q.name)
    (SpellsSuper-unique ms e.is_patch c.super_class e.super_class (subst (λ (b : Bool). SpellsSuper ms b c.super_class) patch p.super_class) q.super_class)
    (ListsAt-unique (codes "interfaces") (SpellsText SpellsName) names_unique ms c.interfaces e.interfaces p.interfaces q.interfaces)
    (flag_same _ c.is_interface e.is_interface p.is_interface q.is_interface)
    patch
    (ListsAt-unique (codes "method") (SpellsTable SpellsMethod) (SpellsTable-unique SpellsMethod SpellsMethod-unique) ms c.methods e.methods p.methods q.methods)
    (ListsAt-unique (codes "field") (SpellsTable SpellsField) (SpellsTable-unique SpellsField SpellsField-unique) ms c.fields e.fields p.fields q.fields)
