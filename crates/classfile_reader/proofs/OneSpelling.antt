-- Bytes spell one class file. Reading gives back the one that is spelled where its version is read; another one is
-- moved to a version that is read.
use Rattle.std.proofs.Common.{◌≡◌, ℕ, ◌^◌, ◌<◌, List, [], ◌++◌, take, drop, refl, sym, ap, ◌∙◌, append_assoc, arith}
use Rattle.std.specs.Int.{w16, from_be_bytes}
use Rattle.std.proofs.lemmas.List.{take_at, drop_at}
use Rattle.std.proofs.lemmas.Nat.{from_be_bytes-to_be_bytes_2}
use Rattle.jvm_model.specs.declared.class_file.ClassFile.{ClassFile}
use Rattle.jvm_model.specs.Spelling.{u2, u4, attribute, member, table, pool, spell, ClassFits, IsSpelling}
use Rattle.byte_reader.specs.Reading.{Place}
use Rattle.byte_reader.proofs.Fields.{one_ok}
use Rattle.classfile_reader.specs.ClassReading.{class_at}
use Rattle.classfile_reader.proofs.Classes.{class_again}

-- the same class file in another version
abbrev in_version : ℕ → ClassFile → ClassFile
in_version major c = record c { major = major }

-- what stands after the version
abbrev after_version : ClassFile → List ℕ
after_version c =
    pool c.pool ++ (u2 c.flags ++ (u2 c.this_class ++ (u2 c.super_class ++ (table u2 c.interfaces ++ (table member c.fields ++ (table member c.methods ++ table attribute c.attributes))))))

regroup : (a b c d e f g h i j k : List ℕ) → (((((((((a ++ b) ++ c) ++ d) ++ e) ++ f) ++ g) ++ h) ++ i) ++ j) ++ k ≡ a ++ (b ++ (c ++ (d ++ (e ++ (f ++ (g ++ (h ++ (i ++ (j ++ k)))))))))
regroup a b c d e f g h i j k = simp append_assoc

parts : (c : ClassFile) → spell c ≡ u4 0xCAFEBABE ++ (u2 c.minor ++ (u2 c.major ++ after_version c))
parts c = regroup (u4 0xCAFEBABE) (u2 c.minor) (u2 c.major) (pool c.pool) (u2 c.flags) (u2 c.this_class) (u2 c.super_class) (table u2 c.interfaces) (table member c.fields) (table member c.methods) (table attribute c.attributes)

-- two numbers of two bytes at the front are the same, and so is what follows
same_numbers : (n m : ℕ) (xs ys : List ℕ) → n < 2 ^ 16 → m < 2 ^ 16 → u2 n ++ xs ≡ u2 m ++ ys → (n ≡ m) × (xs ≡ ys)
same_numbers n m xs ys n_fits m_fits e =
    let front : u2 n ≡ u2 m = sym (take_at (u2 n) xs 2 refl) ∙ ap (take 2) e ∙ take_at (u2 m) ys 2 refl in
    let rest : xs ≡ ys = sym (drop_at (u2 n) xs 2 refl) ∙ ap (drop 2) e ∙ drop_at (u2 m) ys 2 refl in
    (sym (from_be_bytes-to_be_bytes_2 n n_fits) ∙ ap (from_be_bytes w16) front ∙ from_be_bytes-to_be_bytes_2 m m_fits, rest)

moved_fits : (c : ClassFile) → ClassFits c → ClassFits (in_version 52 c)
moved_fits c fits = record {
  minor = fits.minor;
  major = omega arith;
  pool_count = fits.pool_count;
  pool = fits.pool;
  pairs = fits.pairs;
  flags = fits.flags;
  this_class = fits.this_class;
  super_class = fits.super_class;
  interface_count = fits.interface_count;
  interfaces = fits.interfaces;
  field_count = fits.field_count;
  fields = fits.fields;
  method_count = fits.method_count;
  methods = fits.methods;
  attribute_count = fits.attribute_count;
  attributes = fits.attributes;
}

pub one_spelling : (bytes : List ℕ) (c d : ClassFile) → IsSpelling bytes c → IsSpelling bytes d → c ≡ d
one_spelling bytes c d is_c is_d =
    let whole : u4 0xCAFEBABE ++ (u2 c.minor ++ (u2 c.major ++ after_version c)) ≡ u4 0xCAFEBABE ++ (u2 d.minor ++ (u2 d.major ++ after_version d)) = sym (parts c) ∙ sym is_c.spelled ∙ is_d.spelled ∙ parts d in
    let one : u2 c.minor ++ (u2 c.major ++ after_version c) ≡ u2 d.minor ++ (u2 d.major ++ after_version d) = ap (drop 4) whole in
    let minors = same_numbers c.minor d.minor _ _ is_c.fits.minor is_d.fits.minor one in
    let majors = same_numbers c.major d.major _ _ is_c.fits.major is_d.fits.major minors.1 in
    let moved : spell (in_version 52 c) ≡ spell (in_version 52 d) =
    parts (in_version 52 c) ∙ ap (λ (n : ℕ). u4 0xCAFEBABE ++ (u2 n ++ (u2 52 ++ after_version c))) minors.0 ∙ ap (λ (t : List ℕ). u4 0xCAFEBABE ++ (u2 d.minor ++ (u2 52 ++ t))) majors.1 ∙ sym (parts (in_version 52 d)) in
    let read_c = class_again (in_version 52 c) 0 [] (moved_fits c is_c.fits, (omega arith, omega arith)) in
    let read_d = class_again (in_version 52 d) 0 [] (moved_fits d is_d.fits, (omega arith, omega arith)) in
    let same : in_version 52 c ≡ in_version 52 d =
    ap (λ (x : ClassFile × Place). x.0) (one_ok _ (in_version 52 c, record { offset = read_c.0; rest = [] }) (in_version 52 d, record { offset = read_d.0; rest = [] })
    (ap (λ (t : List ℕ). class_at (record { offset = 0; rest = t ++ [] })) (sym moved) ∙ read_c.1) read_d.1) in
    ap (in_version c.major) same ∙ ap (λ (n : ℕ). in_version n d) majors.0
