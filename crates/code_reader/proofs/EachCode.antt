-- Each code of a method of a sound class file is told: it reads as a value, or has a first fault.
use Rattle.std.proofs.Common.{◌≡◌, ℕ, zero, suc, ◌+◌, ◌<◌, ◌≤◌, Bool, true, false, ◌||◌, List, [], ◌∷◌, length, take, inl, inr, ◌⊎◌, Contains, Option, Some, None, Result, Ok, Err, refl, sym, ap, ◌∙◌, sum_by, arith}
use Rattle.std.specs.List.{list_any, flat_map}
use Rattle.std.proofs.lemmas.Bool.{cases_lt}
use Rattle.list_laws.proofs.Places.{contains_at}
use Rattle.jvm_model.specs.declared.class_file.Attribute.{Attribute}
use Rattle.jvm_model.specs.declared.class_file.ClassFile.{ClassFile}
use Rattle.jvm_model.specs.declared.class_file.Member.{Member}
use Rattle.jvm_model.specs.declared.code.Code.{Code}
use Rattle.jvm_model.specs.declared.code.Handler.{Handler}
use Rattle.jvm_model.specs.declared.pool.PoolEntry.{PoolEntry}
use Rattle.jvm_model.specs.declared.reason.Reason.{Reason}
use Rattle.jvm_model.specs.Instructions.{DecodedInstruction}
use Rattle.jvm_model.specs.Layout.{HasCodeAttribute, HasFirstCode}
use Rattle.jvm_model.specs.Soundness.{is_code, methods_offset, IsSoundClass}
use Rattle.jvm_model.specs.Spelling.{attribute, member}
use Rattle.jvm_model.proofs.CodePlaces.{place_is}
use Rattle.jvm_model.proofs.SoundUses.{member_leads}
use Rattle.jvm_model.specs.declared.reason.Fault.{Fault}
use Rattle.byte_reader.specs.Reading.{Place}
use Rattle.code_reader.specs.CodeReading.{Head, head_at, tail_at, code_fault, receiver_units, by_kinds, TakesLocals, BeginsWith, ReadsBody, cut_before, wrong_code, wrong_after, reads, ReadsCode}
use Rattle.jvm_model.specs.DescriptorValues.{kind_units}
use Rattle.code_reader.specs.Division.{Spot, instruction_in, Divides, at_end, stops, goes_on}
use Rattle.code_reader.proofs.Sizes.{inside}
use Rattle.code_reader.proofs.SoundMethods.{text_there, is_method_descriptor, method_of}

-- ---- the division

record IsDivided (pool : List PoolEntry) (code : List ℕ) (offset : ℕ) : Type 0 where
  spots : List Spot
  stop : Option (ℕ × Reason)
  divided : Divides pool code stop offset spots

-- each instruction takes a byte, so that no more divisions are left than bytes
divide : (pool : List PoolEntry) (code : List ℕ) (left offset : ℕ) → offset ≤ length code → length code ≤ offset + left → IsDivided pool code offset
divide pool code zero offset le ge = record { spots = []; stop = None; divided = at_end offset [] (omega arith) refl refl }
divide pool code (suc left) offset le ge = by (divide pool code left) (cases_lt offset (length code))
  where
    there : ((next : ℕ) → next ≤ length code → length code ≤ next + left → IsDivided pool code next) → offset < length code
        → (r : Result DecodedInstruction Reason) → instruction_in pool code offset ≡ r → IsDivided pool code offset
    there more lt (Ok i) e =
        let size = inside pool code offset i lt e in
        let rest = more (offset + i.size) size.1 (omega (arith, size.0)) in
        record { spots = record { offset = offset; instruction = i } ∷ rest.spots; stop = rest.stop; divided = goes_on offset _ i rest.spots lt e refl rest.divided }
    there more lt (Err reason) e = record { spots = []; stop = Some (offset, reason); divided = stops offset [] reason lt e refl refl }

    by : ((next : ℕ) → next ≤ length code → length code ≤ next + left → IsDivided pool code next) → (offset < length code) ⊎ (length code ≤ offset) → IsDivided pool code offset
    by more (inl lt) = there more lt (instruction_in pool code offset) refl
    by more (inr end) = record { spots = []; stop = None; divided = at_end offset [] (omega arith) refl refl }

-- ---- the body

abbrev Told : List PoolEntry → ℕ → Place → Type 0
Told pool parameters place = (outcome : Result Code Fault) × ReadsBody pool parameters place outcome

module _ (pool : List PoolEntry) (parameters : ℕ) (place : Place) (head : Head) (after : Place) (spots : List Spot) (stop : Option (ℕ × Reason)) (b : BeginsWith pool place head after spots stop) where
  by_tail : code_fault pool parameters head spots stop ≡ None → (r : Result (List Handler) Fault) → tail_at pool (length head.bytes) spots after ≡ r → Told pool parameters place
  by_tail none (Ok handlers) e = (_, reads head after spots stop handlers b none e refl)
  by_tail none (Err f) e = (_, wrong_after head after spots stop f b none e refl)

  by_fault : (o : Option (ℕ × Reason)) → code_fault pool parameters head spots stop ≡ o → Told pool parameters place
  by_fault None e = by_tail e (tail_at pool (length head.bytes) spots after) refl
  by_fault (Some fault) e = (_, wrong_code head after spots stop fault.0 fault.1 b e refl)

body_is_told : (pool : List PoolEntry) (parameters : ℕ) (place : Place) → Told pool parameters place
body_is_told pool parameters place = by (head_at place) refl
  where
    by : (r : Result (Head × Place) Fault) → head_at place ≡ r → Told pool parameters place
    by (Err f) e = (_, cut_before f e refl)
    by (Ok (head, after)) e =
        let d = divide pool head.bytes (length head.bytes) 0 (omega arith) (omega arith) in
        by_fault pool parameters place head after d.spots d.stop (record { begins = e; divided = d.divided }) (code_fault pool parameters head d.spots d.stop) refl

-- ---- the method

-- of attributes of which one is named Code there is a first one
first_code : (pool : List PoolEntry) (attributes : List Attribute) → list_any (is_code pool) attributes ≡ true → (code : Attribute) × HasFirstCode pool attributes code
first_code pool [] e = absurd cc
first_code pool (a ∷ attributes) e = by (first_code pool attributes) (is_code pool a) refl e
  where
    by : (list_any (is_code pool) attributes ≡ true → (code : Attribute) × HasFirstCode pool attributes code) → (t : Bool) → is_code pool a ≡ t → (is_code pool a || list_any (is_code pool) attributes) ≡ true
        → (code : Attribute) × HasFirstCode pool (a ∷ attributes) code
    by more true is some = (a, record { before = []; after = attributes; first = record { parts = refl; none_before = refl; named_code = is } })
    by more false is some =
        let rest = more (sym (ap (λ (t : Bool). t || list_any (is_code pool) attributes) is) ∙ some) in (
          rest.0,
          record {
            before = a ∷ rest.1.before;
            after = rest.1.after;
            first = record {
              parts = ap (λ (xs : List Attribute). a ∷ xs) rest.1.first.parts;
              none_before = ap (λ (t : Bool). t || list_any (is_code pool) rest.1.before) is ∙ rest.1.first.none_before;
              named_code = rest.1.first.named_code;
            };
          },
        )

-- its receiver and its parameters take some local variables
locals_taken : (c : ClassFile) (m : Member) → IsSoundClass c → Contains c.methods m → (units : ℕ) × TakesLocals c.pool m units
locals_taken c m sound there =
    let leads = member_leads c m sound (inr there) in
    let name = text_there c.pool m.name leads.0 in
    let descriptor = text_there c.pool m.descriptor leads.1 in
    let method = method_of descriptor.0 (is_method_descriptor c m descriptor.0 sound there descriptor.1) in (
      receiver_units m (record { name = name.0; descriptor = descriptor.0 }) + sum_by kind_units method.0,
      record {
        name = name.0;
        descriptor = descriptor.0;
        named = name.1;
        described = descriptor.1;
        parameters = sum_by kind_units method.0;
        taken = by_kinds method.0 method.1 method.2 refl;
        units_are = refl;
      },
    )

pub each_code_is_told : (c : ClassFile) (method : ℕ) → IsSoundClass c → HasCodeAttribute c method → (outcome : Result Code Fault) × ReadsCode c method outcome
each_code_is_told c method sound has =
    let first = first_code c.pool has.owner.attributes has.has_code in
    let before = length (flat_map attribute first.1.before) in
    let place = methods_offset c + length (flat_map member (take method c.methods)) + 8 + before + 6 in
    let is = place_is c method has.owner place before has.there (record { before = first.1.before; code = first.0; after = first.1.after; first = first.1.first; counted = refl }) refl in
    let locals = locals_taken c has.owner sound (contains_at c.methods method has.owner has.there) in
    let told = body_is_told c.pool locals.0 (record { offset = place; rest = first.0.body }) in (
      told.0,
      record {
        owner = has.owner;
        there = has.there;
        code = first.0;
        first = first.1;
        place = place;
        is_place = is;
        parameters = locals.0;
        taken = locals.1;
        body = told.1;
      },
    )
