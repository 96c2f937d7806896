-- Where the code of a method stands: a part of a part of the file is a part of the file.
use Rattle.std.proofs.Common.{◌≡◌, ℕ, ◌+◌, ◌<◌, ◌≤◌, true, false, List, [], ◌∷◌, ◌++◌, length, take, drop, get_or, Some, refl, sym, ap, ◌∙◌, subst, append_assoc, length-append, add-one, arith}
use Rattle.std.specs.List.{flat_map, list_any, slice_get}
use Rattle.std.proofs.Math.Seq.{drop-cons}
use Rattle.std.proofs.lemmas.Bool.{false≢true}
use Rattle.std.proofs.lemmas.Grind.{flat_map-append}
use Rattle.std.proofs.lemmas.List.{append-nil, take-append-drop, take_all}
use Rattle.std.proofs.lemmas.List.Concat.{flat_map-cons}
use Rattle.std.proofs.lemmas.List.Folds.{list_any_more}
use Rattle.std.proofs.lemmas.Option.{slice_get_within, get_or_from_slice_get}
use Rattle.jvm_model.specs.declared.pool.PoolEntry.{PoolEntry}
use Rattle.jvm_model.specs.declared.class_file.ClassFile.{ClassFile}
use Rattle.jvm_model.specs.declared.class_file.Member.{Member}
use Rattle.jvm_model.specs.declared.class_file.Attribute.{Attribute}
use Rattle.jvm_model.specs.Spelling.{u2, u4, table, pool, attribute, member, spell}
use Rattle.jvm_model.specs.Soundness.{is_code, fields_offset, methods_offset}
use Rattle.jvm_model.specs.Layout.{HasCodeAttribute, IsBeforeCode, IsCodePlace}
use Rattle.jvm_model.proofs.Lengths.{two_each, spell_length}

-- ---- a part that stands in a whole

pub record StandsAt (whole part : List ℕ) (place : ℕ) : Type 0 where
  pub front : List ℕ
  pub rest : List ℕ
  pub spelled : whole ≡ front ++ (part ++ rest)
  pub front_length : length front ≡ place

StandsAt-then : (a b c : List ℕ) (m n : ℕ) → StandsAt a b m → StandsAt b c n → StandsAt a c (m + n)
StandsAt-then a b c m n p q = record {
  front = p.front ++ q.front;
  rest = q.rest ++ p.rest;
  spelled = p.spelled ∙ ap (λ (t : List ℕ). p.front ++ (t ++ p.rest)) q.spelled ∙ (simp append_assoc);
  front_length = omega (arith, length-append p.front q.front, p.front_length, q.front_length);
}

-- it ends in it
pub StandsAt-fits : (whole part : List ℕ) (place : ℕ) → StandsAt whole part place → place + length part ≤ length whole
StandsAt-fits whole part place p =
    omega (arith, ap length p.spelled, length-append p.front (part ++ p.rest), length-append part p.rest, p.front_length)

-- ---- one item among others

-- a list, cut around one of its items
pub cut_around : {X : Type 0} (xs : List X) (i : ℕ) (x : X) → i < length xs → x ≡ get_or xs i x → xs ≡ take i xs ++ x ∷ drop (i + 1) xs
cut_around {X} xs i x lt is =
    let at_x : drop i xs ≡ x ∷ drop (i + 1) xs = subst (λ (y : X). drop i xs ≡ y ∷ drop (i + 1) xs) (sym is) (rw add-one (drop-cons xs i x lt)) in
    sym (take-append-drop i xs) ∙ ap (λ (t : List X). take i xs ++ t) at_x

one_stands : {X : Type 0} (text : X → List ℕ) (before : List X) (x : X) (after : List X) → StandsAt (flat_map text (before ++ x ∷ after)) (text x) (length (flat_map text before))
one_stands text before x after = record {
  front = flat_map text before;
  rest = flat_map text after;
  spelled = flat_map-append text before (x ∷ after) ∙ ap (λ (t : List ℕ). flat_map text before ++ t) (flat_map-cons text x after);
  front_length = refl;
}

-- ---- the parts of a class file

attributes_stand : (m : Member) → StandsAt (member m) (flat_map attribute m.attributes) 8
attributes_stand m = record {
  front = u2 m.flags ++ u2 m.name ++ u2 m.descriptor ++ u2 (length m.attributes);
  rest = [];
  spelled = rw append-nil refl;
  front_length = refl;
}

body_stands : (a : Attribute) → StandsAt (attribute a) a.body 6
body_stands a = record {
  front = u2 a.name ++ u4 (length a.body);
  rest = [];
  spelled = rw append-nil refl;
  front_length = refl;
}

method_table_stands : (c : ClassFile) → StandsAt (spell c) (table member c.methods) (fields_offset c + length (flat_map member c.fields))
method_table_stands c =
    let before = u4 0xCAFEBABE ++ u2 c.minor ++ u2 c.major ++ pool c.pool ++ u2 c.flags ++ u2 c.this_class ++ u2 c.super_class ++ table u2 c.interfaces ++ table member c.fields in
    record {
      front = before;
      rest = table attribute c.attributes;
      spelled = append_assoc before (table member c.methods) (table attribute c.attributes);
      front_length = simp length-append (omega (arith, two_each c.interfaces));
    }

methods_stand : (c : ClassFile) → StandsAt (table member c.methods) (flat_map member c.methods) 2
methods_stand c = record { front = u2 (length c.methods); rest = []; spelled = rw append-nil refl; front_length = refl }

-- the attributes of a method
pub method_attributes_stand : (c : ClassFile) (method : ℕ) (owner : Member) → slice_get c.methods method ≡ Some owner
    → StandsAt (spell c) (flat_map attribute owner.attributes) (methods_offset c + length (flat_map member (take method c.methods)) + 8)
method_attributes_stand c method owner there =
    let before = take method c.methods in
    let lt = slice_get_within c.methods method owner there in
    let cut = cut_around c.methods method owner lt (sym (get_or_from_slice_get c.methods method owner owner there)) in
    let methods = StandsAt-then (spell c) (table member c.methods) (flat_map member c.methods) _ 2 (method_table_stands c) (methods_stand c) in
    let one : StandsAt (flat_map member c.methods) (member owner) (length (flat_map member before)) =
    subst (λ (ms : List Member). StandsAt (flat_map member ms) (member owner) (length (flat_map member before))) (sym cut) (one_stands member before owner (drop (method + 1) c.methods)) in
    let there_in_file = StandsAt-then (spell c) (flat_map member c.methods) (member owner) (methods_offset c) _ methods one in
    StandsAt-then (spell c) (member owner) (flat_map attribute owner.attributes) _ 8 there_in_file (attributes_stand owner)

-- the body of one of them
pub code_stands : (c : ClassFile) (method : ℕ) (owner : Member) (before : List Attribute) (code : Attribute) (after : List Attribute)
    → slice_get c.methods method ≡ Some owner → owner.attributes ≡ before ++ code ∷ after
    → StandsAt (spell c) code.body (methods_offset c + length (flat_map member (take method c.methods)) + 8 + length (flat_map attribute before) + 6)
code_stands c method owner before code after there parts =
    let one : StandsAt (flat_map attribute owner.attributes) (attribute code) (length (flat_map attribute before)) =
    subst (λ (all : List Attribute). StandsAt (flat_map attribute all) (attribute code) (length (flat_map attribute before))) (sym parts) (one_stands attribute before code after) in
    let there_in_file = StandsAt-then (spell c) (flat_map attribute owner.attributes) (attribute code) _ _ (method_attributes_stand c method owner there) one in
    StandsAt-then (spell c) (attribute code) code.body _ 6 there_in_file (body_stands code)

-- ---- the loop

pub first_code : (pool : List PoolEntry) (attributes : List Attribute) (i bytes : ℕ) (a : Attribute) → i < length attributes → a ≡ get_or attributes i a
    → bytes ≡ length (flat_map attribute (take i attributes)) → list_any (is_code pool) (take i attributes) ≡ false → is_code pool a ≡ true → IsBeforeCode pool attributes bytes
first_code pool attributes i bytes a lt is counted none code = record {
  before = take i attributes;
  code = a;
  after = drop (i + 1) attributes;
  first = record { parts = cut_around attributes i a lt is; none_before = none; named_code = code };
  counted = counted;
}

pub none_yet : (pool : List PoolEntry) (attributes : List Attribute) (i : ℕ) (a : Attribute) → i < length attributes → a ≡ get_or attributes i a
    → list_any (is_code pool) (take i attributes) ≡ false → is_code pool a ≡ false → list_any (is_code pool) (take (i + 1) attributes) ≡ false
none_yet pool attributes i a lt is none other =
    let more = list_any_more (is_code pool) attributes i a lt in
    more ∙ rw none (subst (λ (b : Attribute). is_code pool b ≡ false) is other)

pub some_code : (pool : List PoolEntry) (attributes : List Attribute) (i : ℕ) → length attributes ≤ i → list_any (is_code pool) attributes ≡ true → list_any (is_code pool) (take i attributes) ≡ false → ⊥
some_code pool attributes i le any none =
    false≢true (sym none ∙ ap (list_any (is_code pool)) (take_all i attributes le) ∙ any)

-- ---- the place

pub method_below : (c : ClassFile) (method : ℕ) → HasCodeAttribute c method → method < length c.methods
method_below c method has = slice_get_within c.methods method has.owner has.there

-- each method takes a byte at least
one_each : (ms : List Member) → length ms ≤ length (flat_map member ms)
one_each [] = omega arith
one_each (m ∷ ms) = omega (arith, one_each ms, ap length (flat_map-cons member m ms), length-append (member m) (flat_map member ms))

pub methods_fit : (c : ClassFile) → length c.methods ≤ length (spell c)
methods_fit c = omega (arith, spell_length c, one_each c.methods)

-- the methods before one, and its attributes, take no more than the file
pub before_fits : (c : ClassFile) (method : ℕ) (m : Member) → slice_get c.methods method ≡ Some m
    → methods_offset c + length (flat_map member (take method c.methods)) + 8 + length (flat_map attribute m.attributes) ≤ length (spell c)
before_fits c method m there = StandsAt-fits _ _ _ (method_attributes_stand c method m there)

-- its attributes, as they are read
pub attributes_read : (c : ClassFile) (method : ℕ) (owner : Member) (items : List Member) (d : Member) (attributes : List Attribute)
    → slice_get c.methods method ≡ Some owner → items ≡ c.methods → attributes ≡ (get_or items method d).attributes → attributes ≡ owner.attributes
attributes_read c method owner items d attributes there same read =
    read ∙ ap (λ (ms : List Member). (get_or ms method d).attributes) same ∙ ap (λ (m : Member). m.attributes) (get_or_from_slice_get c.methods method owner d there)

pub place_is : (c : ClassFile) (method : ℕ) (m : Member) (place bytes : ℕ) → slice_get c.methods method ≡ Some m → IsBeforeCode c.pool m.attributes bytes
    → place ≡ methods_offset c + length (flat_map member (take method c.methods)) + 8 + bytes + 6 → IsCodePlace c method place
place_is c method m place bytes there b e =
    let stands = code_stands c method m b.before b.code b.after there b.first.parts in
    let at_place : place ≡ methods_offset c + length (flat_map member (take method c.methods)) + 8 + length (flat_map attribute b.before) + 6 = omega (arith, e, b.counted) in
    record {
      owner = m;
      there = there;
      before = b.before;
      code = b.code;
      after = b.after;
      first = b.first;
      offset = at_place;
      front = stands.front;
      rest = stands.rest;
      spelled = stands.spelled;
      front_length = stands.front_length ∙ sym at_place;
    }

pub place_fits : (c : ClassFile) (method place : ℕ) → IsCodePlace c method place → place ≤ length (spell c)
place_fits c method place is = omega (arith, ap length is.spelled, length-append is.front (is.code.body ++ is.rest), is.front_length)
