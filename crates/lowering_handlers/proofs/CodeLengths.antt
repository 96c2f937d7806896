-- The length of the code of a method, as its attribute says it, and where the table of handlers stands.
use Rattle.std.proofs.Common.{◌≡◌, ℕ, ◌+◌, ◌*◌, ◌^◌, ◌<◌, ◌≤◌, Bool, true, false, if◌then◌else◌, List, [], ◌∷◌, ◌++◌, length, filter, Some, Ok, refl, sym, ap, ◌∙◌, subst, arith, length-append}
use Rattle.std.specs.List.{slice_get, list_any, flat_map}
use Rattle.std.proofs.lemmas.Nat.{from_be_bytes-to_be_bytes_4}
use Rattle.std.proofs.lemmas.Option.{same_Some}
use Rattle.list_laws.proofs.Tests.{some_passes as some_first}
use Rattle.jvm_model.specs.declared.class_file.Attribute.{Attribute}
use Rattle.jvm_model.specs.declared.class_file.ClassFile.{ClassFile}
use Rattle.jvm_model.specs.declared.class_file.Member.{Member}
use Rattle.jvm_model.specs.declared.code.Code.{Code}
use Rattle.jvm_model.specs.declared.code.Handler.{Handler}
use Rattle.jvm_model.specs.declared.pool.PoolEntry.{PoolEntry}
use Rattle.jvm_model.specs.Code.{CodeBody, handler, IsCode, HasCode}
use Rattle.jvm_model.specs.Layout.{HasFirstCode}
use Rattle.jvm_model.specs.Soundness.{is_code, IsChecked}
use Rattle.jvm_model.specs.Spelling.{u2, table, attribute}
use Rattle.code_reader.specs.CodeReading.{ReadsCode}
use Rattle.code_reader.specs.MachineCode.{IsCodeOf}
use Rattle.code_reader.proofs.MachineBodies.{code_is_the_body, code_stands_at}
use Rattle.code_reader.proofs.ToldCodes.{body_fits, not_before, later}
use Rattle.lowering_handlers.specs.Entries.{fifth_to_eighth}

-- ---- the attribute

one_item : {X : Type 0} (a x : X) (more : List X) → a ∷ more ≡ x ∷ [] → a ≡ x
one_item a x more e = cc

first_filtered : {X : Type 0} (f : X → Bool) (before : List X) (a : X) (after : List X) (x : X) → list_any f before ≡ false → f a ≡ true → filter f (before ++ a ∷ after) ≡ x ∷ [] → a ≡ x
first_filtered {X} f [] a after x none is e = one_item a x (filter f after) (ap (λ (b : Bool). if b then a ∷ filter f after else filter f after) (sym is) ∙ e)
first_filtered {X} f (b ∷ before) a after x none is e = by (f b) refl e (λ h. first_filtered f before a after x (later f b before none) is h)
  where
    all : List X
    all = filter f (before ++ a ∷ after)

    by : (t : Bool) → f b ≡ t → (if f b then b ∷ all else all) ≡ x ∷ [] → (all ≡ x ∷ [] → a ≡ x) → a ≡ x
    by true passes h more = absurd (not_before f b before none passes)
    by false fails h more = more (ap (λ (t : Bool). if t then b ∷ all else all) (sym fails) ∙ h)

-- the first attribute named Code has the body of the method
pub first_is : (c : ClassFile) (m : Member) (a : Attribute) (body : CodeBody) → HasFirstCode c.pool m.attributes a → HasCode c m body → IsCode a.body body
first_is c m a body first has =
    let same : a ≡ has.code =
    first_filtered (is_code c.pool) first.before a first.after has.code first.first.none_before first.first.named_code
    (ap (λ (xs : List Attribute). filter (is_code c.pool) xs) (sym first.first.parts) ∙ has.only) in
    subst (λ (b : Attribute). IsCode b.body body) (sym same) has.body

some_code : (pool : List PoolEntry) (attributes : List Attribute) (a : Attribute) → HasFirstCode pool attributes a → list_any (is_code pool) attributes ≡ true
some_code pool attributes a first =
    ap (λ (xs : List Attribute). list_any (is_code pool) xs) first.first.parts ∙ some_first (is_code pool) first.before a first.after first.first.named_code

-- ---- its body

pub said_length : (bytes : List ℕ) (body : CodeBody) → IsCode bytes body → fifth_to_eighth bytes ≡ length body.bytes
said_length bytes body is = ap fifth_to_eighth is.spelled ∙ from_be_bytes-to_be_bytes_4 (length body.bytes) is.code_length

handlers_long : (hs : List Handler) → length (flat_map handler hs) ≡ 8 * length hs
handlers_long [] = refl
handlers_long (h ∷ hs) =
    let more = handlers_long hs in
    let both = length-append (handler h) (flat_map handler hs) in
    let one : length (handler h) ≡ 8 = refl in
    omega (arith, more, both, one)

-- it is at least as long as what stands before the attributes of the code
pub body_long : (bytes : List ℕ) (body : CodeBody) → IsCode bytes body → 8 + length body.bytes + 2 + 8 * length body.handlers ≤ length bytes
body_long bytes body is =
    let all = ap (λ (xs : List ℕ). length xs) is.spelled in
    let code = length-append body.bytes (table handler body.handlers) in
    let tables = length-append (body.bytes ++ table handler body.handlers) (table attribute body.attributes) in
    let count = length-append (u2 (length body.handlers)) (flat_map handler body.handlers) in
    let each = handlers_long body.handlers in
    omega (arith, all, code, tables, count, each)

-- ---- the method that was read

-- the code that was read is that of a body
pub record HasRead (c : ClassFile) (m : Member) (code : Code) : Type 0 where
  pub body : CodeBody
  pub has : HasCode c m body
  pub same : IsCodeOf body code

pub has_read : (c : ClassFile) → IsChecked c → (method : ℕ) (m : Member) (code : Code) → slice_get c.methods method ≡ Some m → ReadsCode c method (Ok code) → HasRead c m code
has_read c checked method m code there read =
    let b = code_is_the_body c method m code checked.fits checked.sound there read in
    record { body = b.0; has = b.1; same = b.2 }

pub first_in : (pool given : List PoolEntry) (attributes read : List Attribute) (a : Attribute) → given ≡ pool → read ≡ attributes → HasFirstCode given read a → HasFirstCode pool attributes a
first_in pool given attributes read a same_pool same first =
    subst (λ (p : List PoolEntry). HasFirstCode p attributes a) same_pool (subst (λ (all : List Attribute). HasFirstCode given all a) same first)

pub none_in : (pool given : List PoolEntry) (attributes read : List Attribute) → given ≡ pool → read ≡ attributes → list_any (is_code given) read ≡ false → list_any (is_code pool) attributes ≡ false
none_in pool given attributes read same_pool same none =
    subst (λ (p : List PoolEntry). list_any (is_code p) attributes ≡ false) same_pool (subst (λ (all : List Attribute). list_any (is_code given) all ≡ false) same none)

-- the method has code
pub not_none : (c : ClassFile) (method : ℕ) (m : Member) (code : Code) → slice_get c.methods method ≡ Some m → ReadsCode c method (Ok code) → list_any (is_code c.pool) m.attributes ≡ false → ⊥
not_none c method m code there read none =
    let owner : read.owner ≡ m = same_Some read.owner m (sym read.there ∙ there) in
    let some = some_code c.pool m.attributes read.code (subst (λ (n : Member). HasFirstCode c.pool n.attributes read.code) owner read.first) in
    let both : false ≡ true = sym none ∙ some in
    cc

-- the code and its handlers stand in the file
record Stands (c : ClassFile) (m : Member) (code : Code) : Type 0 where
  pub read : HasRead c m code
  pub few : length code.handlers < 2 ^ 16
  pub fits : code.at + length read.body.bytes + 2 + 8 * length code.handlers < 2 ^ 32

stands_in : (c : ClassFile) → IsChecked c → (method : ℕ) (m : Member) (code : Code) → slice_get c.methods method ≡ Some m → ReadsCode c method (Ok code) → Stands c m code
stands_in c checked method m code there read =
    let h = has_read c checked method m code there read in
    let owner : read.owner ≡ m = same_Some read.owner m (sym read.there ∙ there) in
    let first : HasFirstCode c.pool m.attributes read.code = subst (λ (n : Member). HasFirstCode c.pool n.attributes read.code) owner read.first in
    let is = first_is c m read.code h.body first h.has in
    let at = code_stands_at c method read.place code read.is_place read in
    let inside = body_fits c method read.place m read.code there first read.is_place in
    let long = body_long read.code.body h.body is in
    let handlers = ap (λ (hs : List Handler). length hs) h.same.handlers in
    let size = checked.size in
    let few = is.handler_count in
    record { read = h; few = omega (arith, few, handlers); fits = omega (arith, at, inside, long, handlers, size) }

-- whatever the length of the code is found to be
pub table_fits : (c : ClassFile) → IsChecked c → (method : ℕ) (code : Code) → ReadsCode c method (Ok code) → (long : ℕ)
    → ((m : Member) (body : CodeBody) → slice_get c.methods method ≡ Some m → HasCode c m body → long ≡ length body.bytes) → code.at + long + 2 + 8 * length code.handlers < 2 ^ 32
table_fits c checked method code read long said =
    let s = stands_in c checked method read.owner code read.there read in
    let is = said read.owner s.read.body read.there s.read.has in
    let fits = s.fits in
    omega (arith, is, fits)
