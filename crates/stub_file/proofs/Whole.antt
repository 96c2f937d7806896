-- The tables of the classes of a file, the first that breaks a rule, and the whole file.
use Rattle.std.proofs.Common.{◌≡◌, ℕ, zero, suc, ◌+◌, ◌<◌, List, [], ◌∷◌, ◌++◌, length, take, drop, get_or, All, Some, None, Result, Ok, Err, Vec, Global, MatchResult, IfOk, IfErr, IsTrue, arith, refl, sym, ap, ◌∙◌, subst}
use Rattle.std.specs.List.{AllZip}
use Rattle.std.specs.Option.{is_some}
use Rattle.std.proofs.lemmas.List.{length-take-le, take-append-drop, drop_more}
use Rattle.std.proofs.lemmas.List.Elements.{All-cons, All-head, All-nil, All-tail}
use Rattle.toml.specs.declared.value.Value.{Value}
use Rattle.toml.specs.Data.{Data, string, integer, float, boolean, datetime, array, table, as_table, Members}
use Rattle.toml.specs.View.{view, items_view}
use Rattle.jvm_model.specs.declared.stub.StubClass.{StubClass}
use Rattle.failure.specs.declared.Failure.{Failure}
use Rattle.stub_file.specs.declared.stub_failure.StubFault.{StubFault}
use Rattle.failure.specs.declared.Failure.TheVariants.{Cause, OutOfMemory}
use Rattle.stub_file.specs.declared.stub_failure.StubFault.TheVariants.{BadToml, BadStub}
use Rattle.toml_tables.specs.Documents.{tables, IsDocument}
use Rattle.toml_tables.proofs.Lists.{AllZip-more, AllZip-unique}
use Rattle.toml_tables.proofs.OneDocument.{IsDocument-same}
use Rattle.toml_tables.proofs.Values.{array_same, tables-unique}
use Rattle.stub_file.specs.StubFile.{GivesClass, HasOuterKeys, IsFirstBreach, IsStubFile, IsTableRefusal, SpellsFile}
use Rattle.stub_file.specs.StubReading.{AreTables, IsBreachAt, IsListRefusal}
use Rattle.stub_file.specs.StubSpelling.{SpellsTable}
use Rattle.stub_file.proofs.Spelling.{SpellsClass-unique}

-- the table that stands at a place of the list
pub record TableAt (class_tables : List Members) (i : ℕ) (d : Data) : Type 0 where
  pub members : Members
  pub is : d ≡ table members
  pub within : i < length class_tables
  pub stands : members ≡ get_or class_tables i members

pub table_at : (vs : List Value) (ts : List Members) (i : ℕ) (v : Value) → items_view vs ≡ tables ts → i < length vs → v ≡ get_or vs i v → TableAt ts i (view v)
table_at [] ts i v e h at = absurd (omega arith)
table_at (w ∷ vs) [] i v e h at = cc
table_at (w ∷ vs) (t ∷ ts) zero v e h at =
    let head : view w ≡ table t = cc in
    record { members = t; is = ap view at ∙ head; within = omega arith; stands = refl }
table_at (w ∷ vs) (t ∷ ts) (suc i) v e h at =
    let rest = table_at vs ts i v (cc) (omega arith) at in
    let inside : i < length ts = rest.within in
    record { members = rest.members; is = rest.is; within = omega arith; stands = rest.stands }

pub as_many : (vs : List Value) (ts : List Members) → items_view vs ≡ tables ts → length vs ≡ length ts
as_many [] [] e = refl
as_many [] (t ∷ ts) e = cc
as_many (v ∷ vs) [] e = cc
as_many (v ∷ vs) (t ∷ ts) e = ap suc (as_many vs ts cc)

each_gives : (file : List ℕ) (ts : List Members) (cs : List StubClass) → AllZip (GivesClass file) ts cs → All (λ members. (c : StubClass) × GivesClass file members c) ts
each_gives file [] cs z = All-nil (λ members. (c : StubClass) × GivesClass file members c)
each_gives file (t ∷ ts) [] z = absurd z
each_gives file (t ∷ ts) (c ∷ cs) z = All-cons (λ members. (c : StubClass) × GivesClass file members c) t ts (c, z.0) (each_gives file ts cs z.1)

-- the first that gives no class
pub IsFirstBreach-at : (file : List ℕ) (ts : List Members) (cs : List StubClass) (i : ℕ) (d : Data) → TableAt ts i d → AllZip (GivesClass file) (take i ts) cs → ((c : StubClass) → SpellsTable (GivesClass file) d c → ⊥) → IsFirstBreach file ts i
IsFirstBreach-at file ts cs i d here sofar none =
    let inside : i < length ts = here.within in
    let split : drop i ts ≡ here.members ∷ drop (i + 1) ts = drop_more ts i here.members inside ∙ ap (λ w. w ∷ drop (i + 1) ts) (sym here.stands) in
    record {
      before = take i ts;
      fault = here.members;
      after = drop (i + 1) ts;
      stands = sym (take-append-drop i ts) ∙ ap (λ w. take i ts ++ w) split;
      counted = sym (length-take-le i ts (omega arith));
      earlier = each_gives file (take i ts) cs sofar;
      breaks = λ c gives. none c (subst (λ (x : Data). SpellsTable (GivesClass file) x c) (sym here.is) gives);
    }

pub breach_told : (file : List ℕ) (ts : List Members) (n : ℕ) (r : Failure StubFault) → IsBreachAt n r → IsFirstBreach file ts n → IsListRefusal file ts r
breach_told file ts n (Cause BadToml) named first = named
breach_told file ts n (Cause (BadStub None)) named first = named
breach_told file ts n (Cause (BadStub (Some m))) named first = subst (λ (k : ℕ). IsFirstBreach file ts k) (sym named) first
breach_told file ts n OutOfMemory named first = tt

-- one more class
pub classes_more : (file : List ℕ) (ts : List Members) (cs : List StubClass) (i : ℕ) (d : Data) (c : StubClass) → TableAt ts i d → AllZip (GivesClass file) (take i ts) cs → SpellsTable (GivesClass file) d c → AllZip (GivesClass file) (take (i + 1) ts) (cs ++ c ∷ [])
classes_more file ts cs i d c here sofar gives =
    AllZip-more (GivesClass file) ts cs i here.members c here.within here.stands sofar
    (subst (λ (x : Data). SpellsTable (GivesClass file) x c) here.is gives)

-- values that are tables
table_of : (d : Data) → IsTrue (is_some (as_table d)) → (members : Members) × (d ≡ table members)
table_of (string x) h = cc
table_of (integer x) h = cc
table_of (float x) h = cc
table_of (boolean x) h = cc
table_of (datetime x) h = cc
table_of (array x) h = cc
table_of (table ms) h = (ms, refl)

pub AreTables-from_each : (vs : List Value) → All (λ v. IsTrue (is_some (as_table (view v)))) vs → AreTables vs
AreTables-from_each [] all = record { class_tables = []; spelled = refl }
AreTables-from_each (v ∷ vs) all =
    let P = λ (w : Value). IsTrue (is_some (as_table (view w))) in
    let more = AreTables-from_each vs (All-tail P v vs all) in
    let one = table_of (view v) (All-head P v vs all) in
    let head : view v ≡ table one.0 = one.1 in
    let tail : items_view vs ≡ tables more.class_tables = more.spelled in
    record { class_tables = one.0 ∷ more.class_tables; spelled = cc }

pub each_is_table : (vs : List Value) (ts : List Members) → items_view vs ≡ tables ts → All (λ v. IsTrue (is_some (as_table (view v)))) vs
each_is_table [] ts e = All-nil (λ v. IsTrue (is_some (as_table (view v))))
each_is_table (v ∷ vs) [] e = cc
each_is_table (v ∷ vs) (t ∷ ts) e =
    let head : view v ≡ table t = cc in
    All-cons (λ w. IsTrue (is_some (as_table (view w)))) v vs (ap (λ (d : Data). is_some (as_table d)) head) (each_is_table vs ts cc)

GivesClass-unique : (file : List ℕ) (ms : Members) (c e : StubClass) → GivesClass file ms c → GivesClass file ms e → c ≡ e
GivesClass-unique file ms c e p q = SpellsClass-unique file ms c e p.spells q.spells

pub HasOuterKeys-unique : (ms : Members) (ts us : List Members) → HasOuterKeys ms ts → HasOuterKeys ms us → ts ≡ us
HasOuterKeys-unique ms ts us p q = tables-unique ts us (array_same _ (tables ts) (tables us) p.class q.class)

pub SpellsFile-unique : (file : List ℕ) (ms : Members) (cs es : List StubClass) → SpellsFile file ms cs → SpellsFile file ms es → cs ≡ es
SpellsFile-unique file ms cs es p q =
    let same : p.class_tables ≡ q.class_tables = HasOuterKeys-unique ms p.class_tables q.class_tables p.outer q.outer in
    AllZip-unique (GivesClass file) (GivesClass-unique file) q.class_tables cs es
    (subst (λ (ts : List Members). AllZip (GivesClass file) ts cs) same p.each) q.each

-- a table that breaks a rule is none of those that give the classes
fault_gives : (file : List ℕ) (before after : List Members) (fault : Members) (cs : List StubClass) → AllZip (GivesClass file) (before ++ fault ∷ after) cs → (c : StubClass) × GivesClass file fault c
fault_gives file [] after fault [] z = absurd z
fault_gives file [] after fault (c ∷ cs) z = (c, z.0)
fault_gives file (b ∷ before) after fault [] z = absurd z
fault_gives file (b ∷ before) after fault (c ∷ cs) z = fault_gives file before after fault cs z.1

no_breach : (file : List ℕ) (ts : List Members) (n : ℕ) (cs : List StubClass) → IsFirstBreach file ts n → AllZip (GivesClass file) ts cs → ⊥
no_breach file ts n cs first each =
    let gives = fault_gives file first.before first.after first.fault cs (subst (λ (us : List Members). AllZip (GivesClass file) us cs) first.stands each) in
    first.breaks gives.0 gives.1

-- a table that spells a file is refused for memory alone
pub for_memory : (file : List ℕ) (ms : Members) (cs : List StubClass) (r : Failure StubFault) → SpellsFile file ms cs → IsTableRefusal file ms r → r ≡ OutOfMemory
for_memory file ms cs (Cause BadToml) spells told = absurd told
for_memory file ms cs (Cause (BadStub None)) spells told = absurd (told spells.class_tables spells.outer)
for_memory file ms cs (Cause (BadStub (Some n))) spells told =
    let same : spells.class_tables ≡ told.0 = HasOuterKeys-unique ms spells.class_tables told.0 spells.outer told.1 in
    absurd (no_breach file told.0 n cs told.2 (subst (λ (ts : List Members). AllZip (GivesClass file) ts cs) same spells.each))
for_memory file ms cs OutOfMemory spells told = refl

-- what a reader of the table answers, where it spells a file
pub read_only : (file bytes : List ℕ) (ms : Members) (r : Result (Vec StubClass Global) (Failure StubFault)) → IsDocument bytes ms → IfOk r (λ read. SpellsFile file ms read.items) → IfErr r (IsTableRefusal file ms)
    → (cs : List StubClass) → IsStubFile file bytes cs → MatchResult r (λ read. read.items ≡ cs) (λ refusal. refusal ≡ OutOfMemory)
read_only file bytes ms (Ok read) document found refused cs is =
    let same : is.members ≡ ms = IsDocument-same bytes is.members ms is.document document in
    SpellsFile-unique file ms read.items cs found (subst (λ (ns : Members). SpellsFile file ns cs) same is.spells)
read_only file bytes ms (Err refusal) document found refused cs is =
    let same : is.members ≡ ms = IsDocument-same bytes is.members ms is.document document in
    for_memory file ms cs refusal (subst (λ (ns : Members). SpellsFile file ns cs) same is.spells) refused
