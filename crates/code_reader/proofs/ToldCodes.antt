-- What is answered on the code of a method is what its first attribute named Code gives.
use Rattle.std.proofs.Common.{◌≡◌, ℕ, ◌+◌, ◌≤◌, Bool, true, false, ◌||◌, List, [], ◌∷◌, ◌++◌, length, get_or, Some, slice_get, Result, Ok, Err, refl, sym, ap, ◌∙◌, subst, arith}
use Rattle.std.specs.List.{list_any}
use Rattle.std.proofs.lemmas.Option.{same_Some, get_or_from_slice_get}
use Rattle.jvm_model.specs.declared.class_file.Attribute.{Attribute}
use Rattle.jvm_model.specs.declared.class_file.ClassFile.{ClassFile}
use Rattle.jvm_model.specs.declared.class_file.Member.{Member}
use Rattle.jvm_model.specs.declared.code.Code.{Code}
use Rattle.jvm_model.specs.declared.pool.PoolEntry.{PoolEntry}
use Rattle.failure.specs.declared.Failure.{Failure}
use Rattle.jvm_model.specs.declared.reason.Fault.{Fault}
use Rattle.failure.specs.declared.Failure.TheVariants.{Cause, OutOfMemory}
use Rattle.jvm_model.specs.Layout.{HasFirstCode, IsCodePlace}
use Rattle.jvm_model.specs.Soundness.{is_code}
use Rattle.jvm_model.specs.Spelling.{spell}
use Rattle.jvm_model.proofs.CodePlaces.{StandsAt-fits, place_is}
use Rattle.code_reader.specs.Bodies.{TellsBody}
use Rattle.code_reader.specs.Places.{method_offset, IsCodeAfter}
use Rattle.code_reader.specs.CodeReading.{TakesLocals, TellsCode}
pub use Rattle.list_laws.proofs.Places.{contains_at as Contains-from_slice_get}

-- the method that is read is the one at its place
pub stands_there : (c : ClassFile) (method : ℕ) (owner d read : Member) (items : List Member) → slice_get c.methods method ≡ Some owner → items ≡ c.methods → read ≡ get_or items method d
    → slice_get c.methods method ≡ Some read
stands_there c method owner d read items there same is =
    let one : owner ≡ read = sym (is ∙ ap (λ (ms : List Member). get_or ms method d) same ∙ get_or_from_slice_get c.methods method owner d there) in
    subst (λ (m : Member). slice_get c.methods method ≡ Some m) one there

pub not_before : {X : Type 0} (p : X → Bool) (x : X) (xs : List X) → list_any p (x ∷ xs) ≡ false → p x ≡ true → ⊥
not_before p x xs none is =
    let all : (true || list_any p xs) ≡ false = subst (λ (b : Bool). (b || list_any p xs) ≡ false) is none in
    absurd cc

pub later : {X : Type 0} (p : X → Bool) (x : X) (xs : List X) → list_any p (x ∷ xs) ≡ false → list_any p xs ≡ false
later p x xs none = rest (p x) (list_any p xs) none
  where
    rest : (a b : Bool) → (a || b) ≡ false → b ≡ false
    rest true b e = absurd cc
    rest false b e = e

-- the first item that passes is one, and what is before it too
pub one_front : {X : Type 0} (p : X → Bool) (front other : List X) (x y : X) (after behind : List X) → front ++ x ∷ after ≡ other ++ y ∷ behind
    → list_any p front ≡ false → list_any p other ≡ false → p x ≡ true → p y ≡ true → (front ≡ other) × (x ≡ y)
one_front p [] [] x y after behind e none_x none_y is_x is_y = (refl, cc e)
one_front p [] (z ∷ other) x y after behind e none_x none_y is_x is_y =
    let same : x ≡ z = cc e in absurd (not_before p z other none_y (ap p (sym same) ∙ is_x))
one_front p (z ∷ front) [] x y after behind e none_x none_y is_x is_y =
    let same : z ≡ y = cc e in absurd (not_before p z front none_x (ap p same ∙ is_y))
one_front p (z ∷ front) (w ∷ other) x y after behind e none_x none_y is_x is_y =
    let same : z ≡ w = cc e in
    let rest = one_front p front other x y after behind (cc e) (later p z front none_x) (later p w other none_y) is_x is_y in
    (cc (same, rest.0), rest.1)

-- a method has one first attribute named Code
pub one_first : (pool : List PoolEntry) (attributes : List Attribute) (a b : Attribute) → HasFirstCode pool attributes a → HasFirstCode pool attributes b → a ≡ b
one_first pool attributes a b x y =
    (one_front (is_code pool) x.before y.before a b x.after y.after (sym x.first.parts ∙ y.first.parts) x.first.none_before y.first.none_before x.first.named_code y.first.named_code).1

-- its body ends in the file
pub body_fits : (c : ClassFile) (method place : ℕ) (owner : Member) (code : Attribute) → slice_get c.methods method ≡ Some owner → HasFirstCode c.pool owner.attributes code → IsCodePlace c method place
    → place + length code.body ≤ length (spell c)
body_fits c method place owner code there first is =
    let same_owner : is.owner ≡ owner = same_Some _ _ (sym is.there ∙ there) in
    let placed : HasFirstCode c.pool owner.attributes is.code = subst (λ (m : Member). HasFirstCode c.pool m.attributes is.code) same_owner (record { before = is.before; after = is.after; first = is.first }) in
    let same : is.code ≡ code = one_first c.pool owner.attributes is.code code placed first in
    subst (λ (a : Attribute). place + length a.body ≤ length (spell c)) same
    (StandsAt-fits (spell c) is.code.body place (record { front = is.front; rest = is.rest; spelled = is.spelled; front_length = is.front_length }))

pub tells : (c : ClassFile) (method place parameters : ℕ) (owner : Member) (code : Attribute) (answer : Result Code (Failure Fault)) → slice_get c.methods method ≡ Some owner
    → HasFirstCode c.pool owner.attributes code → IsCodePlace c method place → TakesLocals c.pool owner parameters
    → TellsBody c.pool parameters (record { offset = place; rest = code.body }) answer → TellsCode c method answer
tells c method place parameters owner code (Ok read) there first is taken body =
    record { owner = owner; there = there; code = code; first = first; place = place; is_place = is; parameters = parameters; taken = taken; body = body }
tells c method place parameters owner code (Err OutOfMemory) there first is taken body = tt
tells c method place parameters owner code (Err (Cause fault)) there first is taken body =
    record { owner = owner; there = there; code = code; first = first; place = place; is_place = is; parameters = parameters; taken = taken; body = body }

-- ---- the code, found by where the method stands

-- a method at its place, its first attribute named Code, and where the body of that stands
pub record Found (c : ClassFile) (method place : ℕ) (owner : Member) (code : Attribute) : Type 0 where
  pub there : slice_get c.methods method ≡ Some owner
  pub first : HasFirstCode c.pool owner.attributes code
  pub is_place : IsCodePlace c method place

-- what was found in what was read is found in the method
found_there : (pool read_pool : List PoolEntry) (attributes read : List Attribute) (bytes : ℕ) (code : Attribute) → read_pool ≡ pool → read ≡ attributes
    → IsCodeAfter read_pool read bytes code → IsCodeAfter pool attributes bytes code
found_there pool read_pool attributes read bytes code same_pool same found =
    subst (λ (p : List PoolEntry). IsCodeAfter p attributes bytes code) same_pool (subst (λ (all : List Attribute). IsCodeAfter read_pool all bytes code) same found)

pub found_at : (c : ClassFile) (method offset bytes : ℕ) (owner : Member) (code : Attribute) (read_pool : List PoolEntry) (read : List Attribute) → slice_get c.methods method ≡ Some owner
    → read_pool ≡ c.pool → read ≡ owner.attributes → IsCodeAfter read_pool read bytes code → offset ≡ method_offset c method → Found c method (offset + 8 + bytes + 6) owner code
found_at c method offset bytes owner code read_pool read there same_pool same found is =
    let f = found_there c.pool read_pool owner.attributes read bytes code same_pool same found in
    record {
      there = there;
      first = record { before = f.before; after = f.after; first = f.first };
      is_place = place_is c method owner (offset + 8 + bytes + 6) bytes there (record { before = f.before; code = code; after = f.after; first = f.first; counted = f.counted }) (omega (arith, is));
    }
