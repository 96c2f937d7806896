-- The code that is read is that of the body in which the machine finds its instructions; and there is one such body.
use Rattle.std.proofs.Common.{◌≡◌, ℕ, suc, ◌+◌, Bool, false, cond, List, [], ◌∷◌, ◌++◌, length, filter, Contains, Some, slice_get, Ok, refl, sym, ap, ◌∙◌, subst, append_assoc, add-one, arith}
use Rattle.std.specs.List.{list_any}
use Rattle.std.proofs.lemmas.Bool.{false_from_ne_true}
use Rattle.std.proofs.lemmas.List.Elements.{All-contains, All-from_recursion, Contains-append_right, filter-append}
use Rattle.std.proofs.lemmas.Option.{same_Some}
use Rattle.list_laws.proofs.Places.{contains_at}
use Rattle.jvm_model.specs.declared.class_file.Attribute.{Attribute}
use Rattle.jvm_model.specs.declared.class_file.ClassFile.{ClassFile}
use Rattle.jvm_model.specs.declared.class_file.Member.{Member}
use Rattle.jvm_model.specs.declared.code.Code.{Code}
use Rattle.jvm_model.specs.declared.code.PlacedInstruction.{PlacedInstruction}
use Rattle.jvm_model.specs.declared.pool.PoolEntry.{PoolEntry}
use Rattle.jvm_model.specs.Code.{CodeBody as Body, handler, HandlerFits, IsCode, HasCode}
use Rattle.jvm_model.specs.Layout.{HasFirstCode, IsCodePlace, IsOnlyCode}
use Rattle.jvm_model.specs.Soundness.{IsSoundClass, is_code}
use Rattle.jvm_model.specs.Spelling.{u2, u4, table, attribute, AttributeFits, MemberFits, ClassFits}
use Rattle.jvm_model.proofs.SoundUses.{found_only}
use Rattle.byte_reader.specs.Reading.{Place}
use Rattle.byte_reader.proofs.Fields.{IsBytes, bytes_of_each}
use Rattle.code_reader.specs.CodeReading.{ReadsCode}
use Rattle.code_reader.specs.MachineCode.{ReadsSame, IsCodeOf}
use Rattle.code_reader.proofs.CodeParts.{HasParts, parts_of, Stands, stands, some_there}
use Rattle.code_reader.proofs.OneReading.{one_place}
use Rattle.code_reader.proofs.SpelledBodies.{head_stands, head_takes, tail_takes, one_spelled}
use Rattle.code_reader.proofs.ToldCodes.{not_before, later}

-- ---- the attribute

none_filtered : {X : Type 0} (p : X → Bool) (xs : List X) → list_any p xs ≡ false → filter p xs ≡ []
none_filtered p [] e = refl
none_filtered p (x ∷ xs) e =
    let other : p x ≡ false = false_from_ne_true (p x) (not_before p x xs e) in
    rw other (none_filtered p xs (later p x xs e))

only_filtered : (pool : List PoolEntry) (attributes : List Attribute) (a : Attribute) → IsOnlyCode pool attributes a → filter (is_code pool) attributes ≡ a ∷ []
only_filtered pool attributes a is =
    let p = is_code pool in
    let behind : filter p (a ∷ is.after) ≡ a ∷ [] = ap (λ (b : Bool). cond b (a ∷ filter p is.after) (filter p is.after)) is.named_code ∙ ap (λ (xs : List Attribute). a ∷ xs) (none_filtered p is.after is.none_after) in
    ap (filter p) is.parts ∙ filter-append p is.before (a ∷ is.after) ∙ ap (λ (xs : List Attribute). xs ++ filter p (a ∷ is.after)) (none_filtered p is.before is.none_before) ∙ behind

-- the first attribute named Code is the only one of a method of a sound class file
only_of_first : (c : ClassFile) (m : Member) (a : Attribute) → IsSoundClass c → Contains c.methods m → HasFirstCode c.pool m.attributes a → IsOnlyCode c.pool m.attributes a
only_of_first c m a sound there first = found_only c m c.pool m.attributes sound there refl refl (λ (x : Attribute). x) (Some a) first

attribute_fits : (c : ClassFile) (m : Member) (a : Attribute) → ClassFits c → Contains c.methods m → HasFirstCode c.pool m.attributes a → AttributeFits a
attribute_fits c m a fits there h =
    let member_fits : MemberFits m = All-contains MemberFits c.methods m (All-from_recursion MemberFits c.methods fits.methods) there in
    let inside : Contains m.attributes a = subst (λ (as_ : List Attribute). Contains as_ a) (sym h.first.parts) (Contains-append_right h.before (a ∷ h.after) a (0, omega arith, refl)) in
    All-contains AttributeFits m.attributes a (All-from_recursion AttributeFits m.attributes member_fits.attributes) inside

-- ---- the body

-- the code is that of a body which bytes spell
record Spells (bytes : List ℕ) (code : Code) : Type 0 where
  body : Body
  is : IsCode bytes body
  same : IsCodeOf body code

same_instructions : (body : Body) (code : Code) (placed : List PlacedInstruction) → code.instructions ≡ placed → ((k : ℕ) (p : PlacedInstruction) → slice_get placed k ≡ Some p → Stands body.bytes placed k p)
    → (k : ℕ) (p : PlacedInstruction) → slice_get code.instructions k ≡ Some p → ReadsSame body code k p
same_instructions body code placed are each k p e =
    let s = each k p (sym (ap (λ (ps : List PlacedInstruction). slice_get ps k) are) ∙ e) in
    let other : slice_get code.instructions (k + 1) ≡ slice_get placed (suc k) = ap (λ (ps : List PlacedInstruction). slice_get ps (k + 1)) are ∙ ap (slice_get placed) (add-one k) in
    record {
      i = s.i;
      is = s.is;
      same = s.same;
      next = λ q at. s.next q (sym other ∙ at);
      last = λ at. s.last (sym other ∙ at);
    }

spelled_body : (pool : List PoolEntry) (place : Place) (code : Code) → IsBytes place.rest → HasParts pool place code → Spells place.rest code
spelled_body pool place code fits parts =
    let head = head_takes place parts.head parts.after fits parts.begins in
    let tail = tail_takes pool (length parts.head.bytes) parts.spots parts.after code.handlers head.taken.rest_fits parts.tail in
    let body : Body = record {
      max_stack = parts.head.max_stack;
      max_locals = parts.head.max_locals;
      bytes = parts.head.bytes;
      handlers = code.handlers;
      attributes = tail.attributes;
    } in
    let front = u2 parts.head.max_stack ++ u2 parts.head.max_locals ++ u4 (length parts.head.bytes) ++ parts.head.bytes in
    let first = some_there pool parts.head.bytes parts.spots head.some parts.divided in
    record {
      body = body;
      is = record {
        max_stack = head.max_stack;
        max_locals = head.max_locals;
        code_length = head.long;
        handler_count = tail.handlers_fit.0;
        handlers = All-from_recursion HandlerFits code.handlers tail.handlers_fit.1;
        attribute_count = tail.attributes_fit.0;
        attributes = All-from_recursion AttributeFits tail.attributes tail.attributes_fit.1;
        spelled = head.taken.parts ∙ ap (λ (t : List ℕ). front ++ t) tail.spelled ∙ sym (append_assoc front (table handler code.handlers) (table attribute tail.attributes));
      };
      same = record {
        max_stack = parts.max_stack;
        max_locals = parts.max_locals;
        handlers = refl;
        begins = (first.0, ap (λ (ps : List PlacedInstruction). slice_get ps 0) parts.instructions ∙ first.1, first.2);
        each = same_instructions body code _ parts.instructions (stands pool parts.head.bytes 0 parts.spots parts.divided);
      };
    }

-- ---- the laws

pub code_is_the_body : (c : ClassFile) (method : ℕ) (m : Member) (code : Code) → ClassFits c → IsSoundClass c → slice_get c.methods method ≡ Some m → ReadsCode c method (Ok code)
    → (body : Body) × HasCode c m body × IsCodeOf body code
code_is_the_body c method m code fits sound there read =
    let owner : read.owner ≡ m = same_Some _ _ (sym read.there ∙ there) in
    let first : HasFirstCode c.pool m.attributes read.code = subst (λ (n : Member). HasFirstCode c.pool n.attributes read.code) owner read.first in
    let inside = contains_at c.methods method m there in
    let bytes_fit = bytes_of_each read.code.body (attribute_fits c m read.code fits inside first).bytes in
    let place : Place = record { offset = read.place; rest = read.code.body } in
    let s = spelled_body c.pool place code bytes_fit (parts_of c.pool read.parameters place code (Ok code) refl read.body) in
    (s.body, record { code = read.code; only = only_filtered c.pool m.attributes read.code (only_of_first c m read.code sound inside first); body = s.is }, s.same)

-- the code stands where the body of the attribute does, after its two limits and its length
pub code_stands_at : (c : ClassFile) (method place : ℕ) (code : Code) → IsCodePlace c method place → ReadsCode c method (Ok code) → code.at ≡ place + 8
code_stands_at c method place code is read =
    let here : Place = record { offset = read.place; rest = read.code.body } in
    let parts = parts_of c.pool read.parameters here code (Ok code) refl read.body in
    let same = one_place c method read.place place read.is_place is in
    omega (arith, parts.at, head_stands here parts.head parts.after parts.begins)

one_listed : (xs : List Attribute) (a b : Attribute) → xs ≡ a ∷ [] → xs ≡ b ∷ [] → a ≡ b
one_listed xs a b x y = let same : a ∷ [] ≡ b ∷ [] = sym x ∙ y in cc same

pub one_body : (c : ClassFile) (m : Member) (a b : Body) → HasCode c m a → HasCode c m b → a ≡ b
one_body c m a b x y =
    let same = one_listed (filter (is_code c.pool) m.attributes) x.code y.code x.only y.only in
    one_spelled y.code.body a b (subst (λ (d : Attribute). IsCode d.body a) same x.body) y.body
