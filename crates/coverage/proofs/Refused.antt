-- A set without a refusal has no refused call: the code of each method of a class file begins somewhere, so that each refused call has a refusal.
use Rattle.std.proofs.Common.{◌≡◌, ◌⊎◌, inl, inr, ℕ, ◌+◌, ◌||◌, Bool, true, false, cond, List, [], ◌∷◌, length, map, take, find, Some, Contains, refl, sym, ap, ◌∙◌}
use Rattle.std.specs.List.{list_any, flat_map}
use Rattle.std.specs.Str.{bytes_eq}
use Rattle.std.proofs.lemmas.Bool.{false≢true}
use Rattle.std.proofs.lemmas.List.Elements.{All-contains}
use Rattle.std.proofs.lemmas.Slice.Eq.{bytes_eq-Decides}
use Rattle.list_laws.proofs.Members.{contains_cases, contains_none}
use Rattle.list_laws.proofs.Places.{contains_at}
use Rattle.jvm_model.specs.declared.class_file.Attribute.{Attribute}
use Rattle.jvm_model.specs.declared.class_file.ClassFile.{ClassFile}
use Rattle.jvm_model.specs.declared.number.MethodNo.{MethodNo}
use Rattle.jvm_model.specs.declared.pool.PoolEntry.{PoolEntry}
use Rattle.jvm_model.specs.Layout.{HasCodeAttribute, IsBeforeCode, IsCodePlace}
use Rattle.jvm_model.specs.LinkedPrograms.{IsProgram, IsThere}
use Rattle.jvm_model.specs.Programs.{Program, Class, Method}
use Rattle.jvm_model.specs.Soundness.{is_code, methods_offset}
use Rattle.jvm_model.specs.Spelling.{attribute, member}
use Rattle.jvm_model.proofs.CodePlaces.{place_is}
use Rattle.op_model.specs.Supplies.{GivenAs, IsCodedMethod}
use Rattle.points_to_rules.specs.Facts.{Fact}
use Rattle.points_to_rules.specs.Refusals.{IsCodeStart, of_call, IsUnrefused}
use Rattle.points_to_rules.specs.WholeMethods.{AreWholeMethods}
use Rattle.coverage.proofs.RefusedCalls.{HasNoRefusedCall}

-- ---- the first that passes a test

first_code : (pool : List PoolEntry) (attributes : List Attribute) → list_any (is_code pool) attributes ≡ true → (bytes : ℕ) × IsBeforeCode pool attributes bytes
first_code pool [] any = absurd (false≢true any)
first_code pool (a ∷ rest) any = by (first_code pool rest) (is_code pool a) refl
  where
    by : (list_any (is_code pool) rest ≡ true → (bytes : ℕ) × IsBeforeCode pool rest bytes) → (b : Bool) → is_code pool a ≡ b → (bytes : ℕ) × IsBeforeCode pool (a ∷ rest) bytes
    by later true is = (0, record { before = []; code = a; after = rest; first = record { parts = refl; none_before = refl; named_code = is }; counted = refl })
    by later false is =
        let here : list_any (is_code pool) rest ≡ true = sym (ap (λ (b : Bool). b || list_any (is_code pool) rest) is) ∙ any in
        let found = later here in
        let l = found.1 in (
          length (flat_map attribute (a ∷ l.before)),
          record {
            before = a ∷ l.before;
            code = l.code;
            after = l.after;
            first = record {
              parts = ap (λ (as_is : List Attribute). a ∷ as_is) l.first.parts;
              none_before = ap (λ (b : Bool). b || list_any (is_code pool) l.before) is ∙ l.first.none_before;
              named_code = l.first.named_code;
            };
            counted = refl;
          },
        )

some_place : (file : ClassFile) (number : ℕ) → HasCodeAttribute file number → (place : ℕ) × IsCodePlace file number place
some_place file number h =
    let first = first_code file.pool h.owner.attributes h.has_code in
    let place = methods_offset file + length (flat_map member (take number file.methods)) + 8 + first.0 + 6 in
    (place, place_is file number h.owner place first.0 h.there first.1 refl)

-- ---- the class of a name

class_among : (classes : List Class) (name : List ℕ) → Contains (map (λ (c : Class). c.name) classes) name → (c : Class) × (find (λ (k : Class). bytes_eq k.name name) classes ≡ Some c)
class_among [] name there = absurd (contains_none name there)
class_among (c ∷ classes) name there = by (class_among classes name) (bytes_eq c.name name) refl (contains_cases c.name name (map (λ (k : Class). k.name) classes) there)
  where
    by : (Contains (map (λ (k : Class). k.name) classes) name → (k : Class) × (find (λ (j : Class). bytes_eq j.name name) classes ≡ Some k)) → (b : Bool) → bytes_eq c.name name ≡ b
        → (c.name ≡ name) ⊎ Contains (map (λ (k : Class). k.name) classes) name → (k : Class) × (find (λ (j : Class). bytes_eq j.name name) (c ∷ classes) ≡ Some k)
    by later true is where_it = (c, ap (λ (b : Bool). cond b (Some c) (find (λ (j : Class). bytes_eq j.name name) classes)) is)
    by later false is (inl same) = absurd (false≢true (sym is ∙ (bytes_eq-Decides c.name name).1 same))
    by later false is (inr rest) =
        let k = later rest in
        (k.0, ap (λ (b : Bool). cond b (Some c) (find (λ (j : Class). bytes_eq j.name name) classes)) is ∙ k.1)

-- ---- where the code of a method begins

some_start : (p : Program) → IsProgram p → (m : MethodNo) → IsCodedMethod p m.0 → (name : List ℕ) × (start : ℕ) × IsCodeStart p m name start
some_start p program m coded =
    let there = All-contains (λ (k : Method). IsThere p k.class) p.methods coded.method program.methods (contains_at p.methods m.0 coded.method coded.stands) in
    let class = class_among p.classes coded.method.class there in
    let place = some_place coded.file coded.place coded.code in (
      class.0.file,
      place.0 + 8,
      record {
        method = coded.method;
        stands = coded.stands;
        class = class.0;
        of_class = class.1;
        in_class_file = refl;
        file = coded.file;
        number = coded.place;
        member = coded.member;
        of_file = coded.of_file;
        place = place.0;
        is_place = place.1;
        is = refl;
      },
    )

pub calls_unrefused : (p : Program) (gives : GivenAs) (S : Fact → Type 0) → IsProgram p → AreWholeMethods p gives → IsUnrefused p gives S → HasNoRefusedCall p gives S
calls_unrefused p gives S program whole unrefused m offset reason refused =
    let begins = some_start p program m (whole m.0 refused.method refused.stands.given).coded in
    unrefused m (record { file = begins.0; offset = begins.1 + offset; reason = reason }) (of_call offset begins.1 begins.0 reason refused begins.2 refl)
