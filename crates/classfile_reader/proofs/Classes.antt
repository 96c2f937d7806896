-- The class file: what is read is spelled so, and what is spelled so is read.
use Rattle.std.proofs.Common.{◌≡◌, ℕ, ◌^◌, ◌<◌, ◌≤◌, Bool, true, false, eqb, ltb, List, [], ◌++◌, ◌||◌, length, take, Result, Ok, Err, refl, sym, ap, subst, ◌∙◌, append_assoc, lit<, arith}
use Rattle.std.specs.Int.{w16, w32}
use Rattle.std.proofs.lemmas.Bool.{eqb-true, ltb-true, ltb-false, lt-ltb, le-ltb}
use Rattle.std.proofs.lemmas.List.{append-nil, nil_from_length, take_all, length-take}
use Rattle.jvm_model.specs.declared.class_file.ClassFile.{ClassFile}
use Rattle.jvm_model.specs.declared.class_file.Member.{Member}
use Rattle.jvm_model.specs.declared.class_file.Attribute.{Attribute}
use Rattle.jvm_model.specs.declared.pool.PoolEntry.{PoolEntry}
use Rattle.jvm_model.specs.Spelling.{u2, u4, attribute, member, table, pool, spell, AttributeFits, MemberFits, ClassFits}
use Rattle.classfile_reader.specs.declared.limit.TheConstants.{CLASS_FILE_LIMIT}
use Rattle.std.specs.Prelude.{IfOk}
use Rattle.failure.specs.declared.Failure.{Failure}
use Rattle.jvm_model.specs.declared.reason.Fault.{Fault}
use Rattle.byte_reader.specs.Reading.{Place, ◌>>=◌, Tells, number_at, table_at}
use Rattle.classfile_reader.specs.PoolReading.{pool_at}
use Rattle.classfile_reader.specs.ClassReading.{magic_at, major_at, class_at, class_of, SpellsReadable}
use Rattle.byte_reader.specs.Structures.{attribute_at, member_at}
use Rattle.byte_reader.proofs.Fields.{IsBytes, bind_ok, ok_is, if_ok, unless_ok, goes_on_with, Takes, Takes-then, IsSpelledBy, ListFits, wide16, wide32, number_takes, number_again, table_takes, table_again}
use Rattle.byte_reader.proofs.Members.{attribute_takes, attribute_again, member_takes, member_again}
use Rattle.classfile_reader.proofs.Entries.{PoolFits, pool_takes, pool_again}

-- ---- magic and version

magic_takes : IsSpelledBy magic_at u4 (λ n. n ≡ 0xCAFEBABE)
unfolding magic_at
magic_takes place x fits e =
    let a = bind_ok _ _ x e in
    let n = number_takes w32 (2 ^ 32) wide32 place a.0 fits a.1 in
    let g = if_ok _ _ _ _ a.2 in
    subst (λ (y : ℕ × Place). Takes place (u4 y.0) y.1 × (y.0 ≡ 0xCAFEBABE)) (ok_is a.0 x g.1) (n.0, eqb-true _ _ g.0)

magic_again : (o : ℕ) (rest : List ℕ) → (end : ℕ) × (magic_at (record { offset = o; rest = u4 0xCAFEBABE ++ rest }) ≡ Ok (0xCAFEBABE, record { offset = end; rest = rest }))
unfolding magic_at
magic_again o rest =
    let n = number_again w32 (2 ^ 32) wide32 0xCAFEBABE o rest (lit< tt) in
    (n.0, goes_on_with _ _ _ _ n.1 refl)

-- a version that is read
abbrev IsReadable : ℕ → Type 0
IsReadable major = (45 ≤ major) × (major ≤ 52)

neither : (a b : Bool) → (a || b) ≡ false → (a ≡ false) × (b ≡ false)
neither true b e = absurd cc
neither false b e = (refl, e)

major_takes : IsSpelledBy major_at u2 (λ n. (n < 2 ^ 16) × IsReadable n)
unfolding major_at
major_takes place x fits e =
    let a = bind_ok _ _ x e in
    let n = number_takes w16 (2 ^ 16) wide16 place a.0 fits a.1 in
    let g = unless_ok _ _ _ _ a.2 in
    let both = neither _ _ g.0 in
    subst (λ (y : ℕ × Place). Takes place (u2 y.0) y.1 × ((y.0 < 2 ^ 16) × IsReadable y.0)) (ok_is a.0 x g.1) (n.0, (n.1, (ltb-false _ _ both.0, ltb-false _ _ both.1)))

major_again : (n : ℕ) (o : ℕ) (rest : List ℕ) → n < 2 ^ 16 → IsReadable n → (end : ℕ) × (major_at (record { offset = o; rest = u2 n ++ rest }) ≡ Ok (n, record { offset = end; rest = rest }))
unfolding major_at
major_again n o rest lt readable =
    let t = number_again w16 (2 ^ 16) wide16 n o rest lt in
    let low : ltb n 45 ≡ false = le-ltb _ _ readable.0 in
    let high : ltb 52 n ≡ false = le-ltb _ _ readable.1 in
    (t.0, goes_on_with _ _ _ _ t.1 (rw (low, high) refl))

-- ---- the class

abbrev IsReadableClass : ClassFile → Type 0
IsReadableClass c = ClassFits c × IsReadable c.major

-- what is read after the constant pool, after super_class, and after the last table
abbrev finished : ℕ → ℕ → List PoolEntry → ℕ → ℕ → ℕ → List ℕ → List Member → List Member → List Attribute → ClassFile
finished minor major entries flags this_class super_class interfaces fields methods attributes = record {
  minor = minor;
  major = major;
  pool = entries;
  flags = flags;
  this_class = this_class;
  super_class = super_class;
  interfaces = interfaces;
  fields = fields;
  methods = methods;
  attributes = attributes;
}

abbrev tables_at : ℕ → ℕ → List PoolEntry → ℕ → ℕ → ℕ → Place → Result (ClassFile × Place) Fault
tables_at minor major entries flags this_class super_class place = do
  interfaces ← table_at (number_at w16) place
  fields ← table_at member_at interfaces.1
  methods ← table_at member_at fields.1
  attributes ← table_at attribute_at methods.1
  Ok (finished minor major entries flags this_class super_class interfaces.0 fields.0 methods.0 attributes.0, attributes.1)

abbrev names_at : ℕ → ℕ → List PoolEntry → Place → Result (ClassFile × Place) Fault
names_at minor major entries place = do
  flags ← number_at w16 place
  this_class ← number_at w16 flags.1
  super_class ← number_at w16 this_class.1
  tables_at minor major entries flags.0 this_class.0 super_class.0 super_class.1

record TakesHead (place : Place) (x : ClassFile × Place) : Type 0 where
  minor : ℕ
  major : ℕ
  entries : List PoolEntry
  stopped : Place
  taken : Takes place (u4 0xCAFEBABE ++ u2 minor ++ u2 major ++ pool entries) stopped
  minor_fits : minor < 2 ^ 16
  major_fits : major < 2 ^ 16
  readable : IsReadable major
  entries_fit : PoolFits entries
  goes_on : names_at minor major entries stopped ≡ Ok x

head_takes : (place : Place) (x : ClassFile × Place) → IsBytes place.rest → class_at place ≡ Ok x → TakesHead place x
unfolding class_at
head_takes place x fits e =
    let e0 = bind_ok (magic_at place) (λ magic. number_at w16 magic.1 >>= λ minor. major_at minor.1 >>= λ major. pool_at major.1 >>= λ entries. names_at minor.0 major.0 entries.0 entries.1) x e in
    let e1 = bind_ok (number_at w16 e0.0.1) (λ minor. major_at minor.1 >>= λ major. pool_at major.1 >>= λ entries. names_at minor.0 major.0 entries.0 entries.1) x e0.2 in
    let e2 = bind_ok (major_at e1.0.1) (λ major. pool_at major.1 >>= λ entries. names_at e1.0.0 major.0 entries.0 entries.1) x e1.2 in
    let e3 = bind_ok (pool_at e2.0.1) (λ entries. names_at e1.0.0 e2.0.0 entries.0 entries.1) x e2.2 in
    let magic = magic_takes place e0.0 fits e0.1 in
    let minor = number_takes w16 (2 ^ 16) wide16 e0.0.1 e1.0 magic.0.rest_fits e1.1 in
    let major = major_takes e1.0.1 e2.0 minor.0.rest_fits e2.1 in
    let entries = pool_takes e2.0.1 e3.0 major.0.rest_fits e3.1 in
    let t1 = Takes-then place (u4 e0.0.0) e0.0.1 (u2 e1.0.0) e1.0.1 magic.0 minor.0 in
    let t2 = Takes-then place (u4 e0.0.0 ++ u2 e1.0.0) e1.0.1 (u2 e2.0.0) e2.0.1 t1 major.0 in
    let t3 = Takes-then place (u4 e0.0.0 ++ u2 e1.0.0 ++ u2 e2.0.0) e2.0.1 (pool e3.0.0) e3.0.1 t2 entries.0 in
    record {
      minor = e1.0.0;
      major = e2.0.0;
      entries = e3.0.0;
      stopped = e3.0.1;
      taken = subst (λ (n : ℕ). Takes place (u4 n ++ u2 e1.0.0 ++ u2 e2.0.0 ++ pool e3.0.0) e3.0.1) magic.1 t3;
      minor_fits = minor.1;
      major_fits = major.1.0;
      readable = major.1.1;
      entries_fit = entries.1;
      goes_on = e3.2;
    }

record TakesNames (start : Place) (front : List ℕ) (minor major : ℕ) (entries : List PoolEntry) (x : ClassFile × Place) : Type 0 where
  flags : ℕ
  this_class : ℕ
  super_class : ℕ
  stopped : Place
  taken : Takes start (front ++ u2 flags ++ u2 this_class ++ u2 super_class) stopped
  flags_fit : flags < 2 ^ 16
  this_class_fits : this_class < 2 ^ 16
  super_class_fits : super_class < 2 ^ 16
  goes_on : tables_at minor major entries flags this_class super_class stopped ≡ Ok x

names_take : (start : Place) (front : List ℕ) (minor major : ℕ) (entries : List PoolEntry) (place : Place) (x : ClassFile × Place) → Takes start front place → names_at minor major entries place ≡ Ok x → TakesNames start front minor major entries x
names_take start front minor major entries place x before e =
    let e4 = bind_ok (number_at w16 place) (λ flags. number_at w16 flags.1 >>= λ this_class. number_at w16 this_class.1 >>= λ super_class. tables_at minor major entries flags.0 this_class.0 super_class.0 super_class.1) x e in
    let e5 = bind_ok (number_at w16 e4.0.1) (λ this_class. number_at w16 this_class.1 >>= λ super_class. tables_at minor major entries e4.0.0 this_class.0 super_class.0 super_class.1) x e4.2 in
    let e6 = bind_ok (number_at w16 e5.0.1) (λ super_class. tables_at minor major entries e4.0.0 e5.0.0 super_class.0 super_class.1) x e5.2 in
    let flags = number_takes w16 (2 ^ 16) wide16 place e4.0 before.rest_fits e4.1 in
    let this_class = number_takes w16 (2 ^ 16) wide16 e4.0.1 e5.0 flags.0.rest_fits e5.1 in
    let super_class = number_takes w16 (2 ^ 16) wide16 e5.0.1 e6.0 this_class.0.rest_fits e6.1 in
    let t4 = Takes-then start front place (u2 e4.0.0) e4.0.1 before flags.0 in
    let t5 = Takes-then start (front ++ u2 e4.0.0) e4.0.1 (u2 e5.0.0) e5.0.1 t4 this_class.0 in
    let t6 = Takes-then start (front ++ u2 e4.0.0 ++ u2 e5.0.0) e5.0.1 (u2 e6.0.0) e6.0.1 t5 super_class.0 in
    record {
      flags = e4.0.0;
      this_class = e5.0.0;
      super_class = e6.0.0;
      stopped = e6.0.1;
      taken = t6;
      flags_fit = flags.1;
      this_class_fits = this_class.1;
      super_class_fits = super_class.1;
      goes_on = e6.2;
    }

record TakesTables (start : Place) (front : List ℕ) (minor major : ℕ) (entries : List PoolEntry) (flags this_class super_class : ℕ) (x : ClassFile × Place) : Type 0 where
  interfaces : List ℕ
  fields : List Member
  methods : List Member
  attributes : List Attribute
  stopped : Place
  taken : Takes start (front ++ table u2 interfaces ++ table member fields ++ table member methods ++ table attribute attributes) stopped
  interfaces_fit : ListFits (λ n. n < 2 ^ 16) interfaces
  fields_fit : ListFits MemberFits fields
  methods_fit : ListFits MemberFits methods
  attributes_fit : ListFits AttributeFits attributes
  is : (finished minor major entries flags this_class super_class interfaces fields methods attributes, stopped) ≡ x

tables_take : (start : Place) (front : List ℕ) (minor major : ℕ) (entries : List PoolEntry) (flags this_class super_class : ℕ) (place : Place) (x : ClassFile × Place) → Takes start front place
    → tables_at minor major entries flags this_class super_class place ≡ Ok x → TakesTables start front minor major entries flags this_class super_class x
tables_take start front minor major entries flags this_class super_class place x before e =
    let class = finished minor major entries flags this_class super_class in
    let e7 = bind_ok (table_at (number_at w16) place) (λ interfaces. table_at member_at interfaces.1 >>= λ fields. table_at member_at fields.1 >>= λ methods. table_at attribute_at methods.1 >>= λ attributes. Ok (class interfaces.0 fields.0 methods.0 attributes.0, attributes.1)) x e in
    let e8 = bind_ok (table_at member_at e7.0.1) (λ fields. table_at member_at fields.1 >>= λ methods. table_at attribute_at methods.1 >>= λ attributes. Ok (class e7.0.0 fields.0 methods.0 attributes.0, attributes.1)) x e7.2 in
    let e9 = bind_ok (table_at member_at e8.0.1) (λ methods. table_at attribute_at methods.1 >>= λ attributes. Ok (class e7.0.0 e8.0.0 methods.0 attributes.0, attributes.1)) x e8.2 in
    let e10 = bind_ok (table_at attribute_at e9.0.1) (λ attributes. Ok (class e7.0.0 e8.0.0 e9.0.0 attributes.0, attributes.1)) x e9.2 in
    let interfaces = table_takes (number_at w16) u2 (λ n. n < 2 ^ 16) (number_takes w16 (2 ^ 16) wide16) place e7.0 before.rest_fits e7.1 in
    let fields = table_takes member_at member MemberFits member_takes e7.0.1 e8.0 interfaces.0.rest_fits e8.1 in
    let methods = table_takes member_at member MemberFits member_takes e8.0.1 e9.0 fields.0.rest_fits e9.1 in
    let attributes = table_takes attribute_at attribute AttributeFits attribute_takes e9.0.1 e10.0 methods.0.rest_fits e10.1 in
    let t7 = Takes-then start front place (table u2 e7.0.0) e7.0.1 before interfaces.0 in
    let t8 = Takes-then start (front ++ table u2 e7.0.0) e7.0.1 (table member e8.0.0) e8.0.1 t7 fields.0 in
    let t9 = Takes-then start (front ++ table u2 e7.0.0 ++ table member e8.0.0) e8.0.1 (table member e9.0.0) e9.0.1 t8 methods.0 in
    let t10 = Takes-then start (front ++ table u2 e7.0.0 ++ table member e8.0.0 ++ table member e9.0.0) e9.0.1 (table attribute e10.0.0) e10.0.1 t9 attributes.0 in
    record {
      interfaces = e7.0.0;
      fields = e8.0.0;
      methods = e9.0.0;
      attributes = e10.0.0;
      stopped = e10.0.1;
      taken = t10;
      interfaces_fit = interfaces.1;
      fields_fit = fields.1;
      methods_fit = methods.1;
      attributes_fit = attributes.1;
      is = ok_is (class e7.0.0 e8.0.0 e9.0.0 e10.0.0, e10.0.1) x e10.2;
    }

pub class_takes : IsSpelledBy class_at spell IsReadableClass
class_takes place x fits e =
    let a = head_takes place x fits e in
    let b = names_take place (u4 0xCAFEBABE ++ u2 a.minor ++ u2 a.major ++ pool a.entries) a.minor a.major a.entries a.stopped x a.taken a.goes_on in
    let c = tables_take place (u4 0xCAFEBABE ++ u2 a.minor ++ u2 a.major ++ pool a.entries ++ u2 b.flags ++ u2 b.this_class ++ u2 b.super_class) a.minor a.major a.entries b.flags b.this_class b.super_class b.stopped x b.taken b.goes_on in
    let class = finished a.minor a.major a.entries b.flags b.this_class b.super_class c.interfaces c.fields c.methods c.attributes in
    let class_fits : ClassFits class = record {
      minor = a.minor_fits;
      major = a.major_fits;
      pool_count = a.entries_fit.count;
      pool = a.entries_fit.entries;
      pairs = a.entries_fit.pairs;
      flags = b.flags_fit;
      this_class = b.this_class_fits;
      super_class = b.super_class_fits;
      interface_count = c.interfaces_fit.0;
      interfaces = c.interfaces_fit.1;
      field_count = c.fields_fit.0;
      fields = c.fields_fit.1;
      method_count = c.methods_fit.0;
      methods = c.methods_fit.1;
      attribute_count = c.attributes_fit.0;
      attributes = c.attributes_fit.1;
    } in
    subst (λ (y : ClassFile × Place). Takes place (spell y.0) y.1 × IsReadableClass y.0) c.is (c.taken, (class_fits, a.readable))

regroup : (a b c d e f g h i j k rest : List ℕ) → ((((((((((a ++ b) ++ c) ++ d) ++ e) ++ f) ++ g) ++ h) ++ i) ++ j) ++ k) ++ rest ≡ a ++ (b ++ (c ++ (d ++ (e ++ (f ++ (g ++ (h ++ (i ++ (j ++ (k ++ rest))))))))))
regroup a b c d e f g h i j k rest = simp append_assoc

pub class_again : (c : ClassFile) (o : ℕ) (rest : List ℕ) → IsReadableClass c → (end : ℕ) × (class_at (record { offset = o; rest = spell c ++ rest }) ≡ Ok (c, record { offset = end; rest = rest }))
unfolding class_at
class_again c o rest (fits, readable) =
    let r10 = table attribute c.attributes ++ rest in
    let r9 = table member c.methods ++ r10 in
    let r8 = table member c.fields ++ r9 in
    let r7 = table u2 c.interfaces ++ r8 in
    let r6 = u2 c.super_class ++ r7 in
    let r5 = u2 c.this_class ++ r6 in
    let r4 = u2 c.flags ++ r5 in
    let r3 = pool c.pool ++ r4 in
    let r2 = u2 c.major ++ r3 in
    let r1 = u2 c.minor ++ r2 in
    let magic = magic_again o r1 in
    let minor = number_again w16 (2 ^ 16) wide16 c.minor magic.0 r2 fits.minor in
    let major = major_again c.major minor.0 r3 fits.major readable in
    let pool_ = pool_again c.pool major.0 r4 (record { count = fits.pool_count; entries = fits.pool; pairs = fits.pairs }) in
    let flags = number_again w16 (2 ^ 16) wide16 c.flags pool_.0 r5 fits.flags in
    let this_class = number_again w16 (2 ^ 16) wide16 c.this_class flags.0 r6 fits.this_class in
    let super_class = number_again w16 (2 ^ 16) wide16 c.super_class this_class.0 r7 fits.super_class in
    let interfaces = table_again (number_at w16) u2 (λ n. n < 2 ^ 16) (number_again w16 (2 ^ 16) wide16) c.interfaces super_class.0 r8 (fits.interface_count, fits.interfaces) in
    let fields = table_again member_at member MemberFits member_again c.fields interfaces.0 r9 (fits.field_count, fits.fields) in
    let methods = table_again member_at member MemberFits member_again c.methods fields.0 r10 (fits.method_count, fits.methods) in
    let attributes = table_again attribute_at attribute AttributeFits attribute_again c.attributes methods.0 rest (fits.attribute_count, fits.attributes) in
    let regrouped : spell c ++ rest ≡ u4 0xCAFEBABE ++ r1 = regroup (u4 0xCAFEBABE) (u2 c.minor) (u2 c.major) (pool c.pool) (u2 c.flags) (u2 c.this_class) (u2 c.super_class) (table u2 c.interfaces) (table member c.fields) (table member c.methods) (table attribute c.attributes) rest in (
      attributes.0,
      ap (λ (t : List ℕ). class_at (record { offset = o; rest = t })) regrouped
          ∙ goes_on_with _ _ _ _ magic.1 (goes_on_with _ _ _ _ minor.1 (goes_on_with _ _ _ _ major.1 (goes_on_with _ _ _ _ pool_.1 (goes_on_with _ _ _ _ flags.1 (goes_on_with _ _ _ _ this_class.1
          (goes_on_with _ _ _ _ super_class.1 (goes_on_with _ _ _ _ interfaces.1 (goes_on_with _ _ _ _ fields.1 (goes_on_with _ _ _ _ methods.1 (goes_on_with _ _ _ _ attributes.1 refl)))))))))),
    )

-- ---- all of the bytes

pub class_of_takes : (bytes : List ℕ) (c : ClassFile) → IsBytes bytes → class_of bytes ≡ Ok c → SpellsReadable bytes c
unfolding class_of
class_of_takes bytes c fits e =
    let start : Place = record { offset = 0; rest = bytes } in
    let small = unless_ok (ltb CLASS_FILE_LIMIT (length bytes)) _ _ c e in
    let a = bind_ok (class_at start) _ c small.1 in
    let ended = if_ok (eqb (length a.0.1.rest) 0) _ (Ok a.0.0) c a.2 in
    let t = class_takes start a.0 fits a.1 in
    let nothing : a.0.1.rest ≡ [] = nil_from_length a.0.1.rest (eqb-true _ _ ended.0) in
    let whole : bytes ≡ spell a.0.0 = t.0.parts ∙ ap (λ (r : List ℕ). spell a.0.0 ++ r) nothing ∙ append-nil (spell a.0.0) in
    subst (λ (y : ClassFile). SpellsReadable bytes y) (ok_is a.0.0 c ended.1)
    (record { spelling = record { fits = t.1.0; spelled = whole }; oldest = t.1.1.0; newest = t.1.1.1; size = ltb-false _ _ small.0 })

pub class_of_again : (bytes : List ℕ) (c : ClassFile) → SpellsReadable bytes c → class_of bytes ≡ Ok c
unfolding class_of
class_of_again bytes c h =
    let small : ltb CLASS_FILE_LIMIT (length bytes) ≡ false = le-ltb _ _ h.size in
    let t = class_again c 0 [] (h.spelling.fits, (h.oldest, h.newest)) in
    let regrouped : bytes ≡ spell c ++ [] = h.spelling.spelled ∙ sym (append-nil (spell c)) in
    let read : class_at (record { offset = 0; rest = bytes }) ≡ Ok (c, record { offset = t.0; rest = [] }) = ap (λ (b : List ℕ). class_at (record { offset = 0; rest = b })) regrouped ∙ t.1 in
    rw small (goes_on_with _ _ _ _ read refl)

pub is_found : (bytes : List ℕ) (r : Result ClassFile (Failure Fault)) → IsBytes bytes → Tells r (class_of bytes) → IfOk r (SpellsReadable bytes)
is_found bytes (Ok c) fits tells = class_of_takes bytes c fits tells
is_found bytes (Err e) fits tells = tt

-- of a file that is cut past the limit the same is told
pub class_of_cut : (n : ℕ) (bytes : List ℕ) → CLASS_FILE_LIMIT < n → class_of (take n bytes) ≡ class_of bytes
unfolding class_of
class_of_cut n bytes past = by (ltb CLASS_FILE_LIMIT (length bytes)) refl
  where
    by : (large : Bool) → ltb CLASS_FILE_LIMIT (length bytes) ≡ large → class_of (take n bytes) ≡ class_of bytes
    by true e =
        let long : CLASS_FILE_LIMIT < length bytes = ltb-true CLASS_FILE_LIMIT (length bytes) e in
        let cut : ltb CLASS_FILE_LIMIT (length (take n bytes)) ≡ true = lt-ltb CLASS_FILE_LIMIT (length (take n bytes)) (omega (arith, long, past, length-take n bytes)) in
        rw (e, cut) refl
    by false e =
        let short : length bytes ≤ CLASS_FILE_LIMIT = ltb-false CLASS_FILE_LIMIT (length bytes) e in
        ap class_of (take_all n bytes (omega (arith, short, past)))
