-- Lists that a loop builds, and descriptions that one adds one after the other.
use Rattle.std.proofs.Common.{◌≡◌, ℕ, zero, suc, ◌+◌, ◌<◌, ◌≤◌, Bool, true, false, cond, not, ◌&&◌, ◌||◌, List, [], ◌∷◌, ◌++◌, length, map, filter, get_or, drop, set, Some, refl, sym, ◌∙◌, ap, subst, arith, append_assoc}
use Rattle.std.specs.List.{slice_get, list_any}
use Rattle.std.specs.Str.{bytes_eq}
use Rattle.std.proofs.lemmas.List.{drop_all, append-nil}
use Rattle.std.proofs.lemmas.Option.{same_Some, none-some}
use Rattle.std.proofs.lemmas.Slice.Eq.{bytes_eq-Decides}
use Rattle.jvm_model.specs.declared.access.AccessFlag.TheVariants.{Native, Static}
use Rattle.jvm_model.specs.declared.class_file.ClassFile.{ClassFile}
use Rattle.jvm_model.specs.declared.class_file.Member.{Member}
use Rattle.jvm_model.specs.declared.pool.PoolEntry.{PoolEntry}
use Rattle.jvm_model.specs.declared.stub.StubClass.{StubClass}
use Rattle.jvm_model.specs.declared.stub.StubMethod.{StubMethod}
use Rattle.jvm_model.specs.Access.{has_flag}
use Rattle.jvm_model.specs.Linking.{Description, with_description, with_descriptions, describes}
use Rattle.jvm_model.specs.Stubs.{is_same_method}
use Rattle.program_index.specs.FirstPlaces.{IsFirstPlace, StandsNowhere}
use Rattle.program_index.specs.MemberKeys.{Key}
use Rattle.program_linking.specs.Patching.{method_key, patch_for, patches_for, member_key, native_key, native_keys, described_key, is_native_in, with_native}
use Rattle.program_linking.proofs.ClaimSteps.{from_item}

-- ---- a list that is built from the front of another, after a list that was there

module _ {X Y : Type 0} (f : List X → List Y) (whole : List Y) where
  pub build_on : (one : X → List Y) → ((x : X) (xs : List X) → f (x ∷ xs) ≡ one x ++ f xs) → (xs : List X) (i : ℕ) (x : X) → i < length xs → x ≡ get_or xs i x
      → (acc new : List Y) → new ≡ acc ++ one x → acc ++ f (drop i xs) ≡ whole → new ++ f (drop (i + 1) xs) ≡ whole
  build_on one split xs i x lt is acc new more so_far =
      ap (λ (ys : List Y). ys ++ f (drop (i + 1) xs)) more
      ∙ append_assoc acc (one x) (f (drop (i + 1) xs))
      ∙ ap (λ (ys : List Y). acc ++ ys) (sym (split x (drop (i + 1) xs)) ∙ ap f (sym (from_item xs i x lt is)))
      ∙ so_far

  pub build_done : f [] ≡ [] → (xs : List X) (i : ℕ) → length xs ≤ i → (acc : List Y) → acc ++ f (drop i xs) ≡ whole → acc ≡ whole
  build_done none xs i past acc so_far =
      sym (append-nil acc) ∙ ap (λ (ys : List Y). acc ++ ys) (sym (ap f (drop_all i xs past) ∙ none)) ∙ so_far

pub patches_split : (name : List ℕ) (s : StubClass) (stubs : List StubClass) → patches_for name (s ∷ stubs) ≡ patch_for name s ++ patches_for name stubs
patches_split name s stubs = by (s.is_patch && bytes_eq s.name name)
  where
    by : (b : Bool) → cond b (s ∷ patches_for name stubs) (patches_for name stubs) ≡ cond b (s ∷ []) [] ++ patches_for name stubs
    by true = refl
    by false = refl

pub natives_split : (pool : List PoolEntry) (m : Member) (ms : List Member) → native_keys pool (m ∷ ms) ≡ native_key pool m ++ native_keys pool ms
natives_split pool m ms = by (has_flag m.flags Native)
  where
    by : (b : Bool) → map (member_key pool) (cond b (m ∷ filter (λ (n : Member). has_flag n.flags Native) ms) (filter (λ (n : Member). has_flag n.flags Native) ms)) ≡ cond b (member_key pool m ∷ []) [] ++ native_keys pool ms
    by true = refl
    by false = refl

-- ---- truth values

pub and_true : (a b : Bool) → (a && b) ≡ true → (a ≡ true) × (b ≡ true)
and_true true b e = (refl, e)
and_true false b e = absurd cc

both_true : (a b : Bool) → a ≡ true → b ≡ true → (a && b) ≡ true
both_true a b e f = ap (λ (x : Bool). x && b) e ∙ f

-- a test that is not true is false
not_true : (b : Bool) → (b ≡ true → ⊥) → b ≡ false
not_true true none = absurd (none refl)
not_true false none = refl

same_text : (x y : List ℕ) → bytes_eq x y ≡ true → x ≡ y
same_text x y e = (bytes_eq-Decides x y).0 e

text_same : (x y : List ℕ) → x ≡ y → bytes_eq x y ≡ true
text_same x y e = (bytes_eq-Decides x y).1 e

-- ---- a description takes the place of an earlier one

pub same_key : (e d : Description) → is_same_method e.method d.method ≡ true → method_key e ≡ method_key d
same_key e d same =
    let parts = and_true (bytes_eq e.method.name d.method.name) (bytes_eq e.method.descriptor d.method.descriptor) same in
    let name = same_text _ _ parts.0 in
    let descriptor = same_text _ _ parts.1 in
    (λ i. record { class = 0; signature = record { name = name i; descriptor = descriptor i } })

key_same : (e d : Description) → method_key e ≡ method_key d → is_same_method e.method d.method ≡ true
key_same e d same =
    both_true _ _ (text_same _ _ (ap (λ (k : Key). k.signature.name) same)) (text_same _ _ (ap (λ (k : Key). k.signature.descriptor) same))

place_by : (e : Description) (held : List Description) (d : Description) (b : Bool) → is_same_method e.method d.method ≡ b
    → with_description (e ∷ held) d ≡ cond b (d ∷ held) (e ∷ with_description held d)
place_by e held d b is = ap (λ (x : Bool). cond x (d ∷ held) (e ∷ with_description held d)) is

pub replaced : (held : List Description) (d : Description) (place : ℕ) → IsFirstPlace (map method_key held) (method_key d) place → with_description held d ≡ set held place d
replaced [] d place is = absurd (none-some _ is.stands)
replaced (e ∷ held) d zero is = place_by e held d true (key_same e d (same_Some _ _ is.stands))
replaced (e ∷ held) d (suc place) is =
    let other = not_true (is_same_method e.method d.method) (λ same. is.before 0 (omega arith) (ap Some (same_key e d same))) in
    place_by e held d false other
    ∙ ap (λ (ds : List Description). e ∷ ds) (replaced held d place (record { stands = is.stands; before = λ i lt at. is.before (suc i) (omega (arith, lt)) at }))

pub added : (held : List Description) (d : Description) → StandsNowhere (map method_key held) (method_key d) → with_description held d ≡ held ++ d ∷ []
added [] d none = refl
added (e ∷ held) d none =
    let other = not_true (is_same_method e.method d.method) (λ same. none.nowhere 0 (ap Some (same_key e d same))) in
    place_by e held d false other
    ∙ ap (λ (ds : List Description). e ∷ ds) (added held d (record { nowhere = λ i at. none.nowhere (suc i) at }))

pub keys_kept : (held : List Description) (d : Description) (place : ℕ) → slice_get (map method_key held) place ≡ Some (method_key d) → map method_key (set held place d) ≡ map method_key held
keys_kept [] d place e = absurd (none-some _ e)
keys_kept (h ∷ held) d zero e = ap (λ (k : Key). k ∷ map method_key held) (sym (same_Some _ _ e))
keys_kept (h ∷ held) d (suc place) e = ap (λ (ks : List Key). method_key h ∷ ks) (keys_kept held d place e)

pub with_more : (held xs ys : List Description) → with_descriptions held (xs ++ ys) ≡ with_descriptions (with_descriptions held xs) ys
with_more held [] ys = refl
with_more held (d ∷ xs) ys = with_more (with_description held d) xs ys

-- ---- all of a list, one after the other

module _ {X : Type 0} (f : List X → List Description) (first : List Description) where
  pub with_step : (one : X → List Description) → ((x : X) (xs : List X) → f (x ∷ xs) ≡ one x ++ f xs) → (xs : List X) (i : ℕ) (x : X) → i < length xs → x ≡ get_or xs i x
      → (held new : List Description) → new ≡ with_descriptions held (one x) → with_descriptions held (f (drop i xs)) ≡ with_descriptions first (f xs)
      → with_descriptions new (f (drop (i + 1) xs)) ≡ with_descriptions first (f xs)
  with_step one split xs i x lt is held new more so_far =
      ap (λ (ds : List Description). with_descriptions ds (f (drop (i + 1) xs))) more
      ∙ sym (with_more held (one x) (f (drop (i + 1) xs)))
      ∙ ap (with_descriptions held) (sym (split x (drop (i + 1) xs)) ∙ ap f (sym (from_item xs i x lt is)))
      ∙ so_far

  pub with_end : f [] ≡ [] → (xs : List X) (i : ℕ) → length xs ≤ i → (held : List Description) → with_descriptions held (f (drop i xs)) ≡ with_descriptions first (f xs)
      → held ≡ with_descriptions first (f xs)
  with_end none xs i past held so_far = sym (ap (with_descriptions held) (ap f (drop_all i xs past) ∙ none)) ∙ so_far

-- one that is added if it passes
pub native_one : (c : ClassFile) (held : List Description) (d : Description) → with_native c held d ≡ with_descriptions held (filter (is_native_in c) (d ∷ []))
native_one c held d = by (is_native_in c d)
  where
    by : (b : Bool) → cond b (with_description held d) held ≡ with_descriptions held (cond b (d ∷ []) [])
    by true = refl
    by false = refl

-- ---- native methods by their keys

static_class : (a b : Bool) → cond a b (not b) ≡ true → ◌≡◌ {A = ℕ} (cond b 1 0) (cond a 1 0)
static_class true true e = refl
static_class false false e = refl
static_class true false e = absurd cc
static_class false true e = absurd cc

class_static : (a b : Bool) → ◌≡◌ {A = ℕ} (cond b 1 0) (cond a 1 0) → cond a b (not b) ≡ true
class_static true true e = refl
class_static false false e = refl
class_static true false e = absurd (omega (arith, e))
class_static false true e = absurd (omega (arith, e))

module _ (pool : List PoolEntry) (d : StubMethod) where
  described_is : (m : Member) → describes pool d m ≡ true → (has_flag m.flags Native ≡ true) × (member_key pool m ≡ described_key d)
  described_is m e =
      let last = and_true _ _ e in
      let at_descriptor = and_true _ _ last.0 in
      let at_name = and_true _ _ at_descriptor.0 in
      let at_native = and_true (not d.is_abstract) (has_flag m.flags Native) at_name.0 in
      let name = same_text _ _ at_name.1 in
      let descriptor = same_text _ _ at_descriptor.1 in
      let class = static_class d.is_static (has_flag m.flags Static) last.1 in
      (at_native.1, (λ i. record { class = class i; signature = record { name = name i; descriptor = descriptor i } }))

  is_described : (m : Member) → d.is_abstract ≡ false → has_flag m.flags Native ≡ true → member_key pool m ≡ described_key d → describes pool d m ≡ true
  is_described m concrete native same =
      both_true _ _
      (both_true _ _
      (both_true _ _ (both_true (not d.is_abstract) (has_flag m.flags Native) (ap not concrete) native) (text_same _ _ (ap (λ (k : Key). k.signature.name) same)))
      (text_same _ _ (ap (λ (k : Key). k.signature.descriptor) same)))
      (class_static d.is_static (has_flag m.flags Static) (ap (λ (k : Key). k.class) same))

  pub none_described : d.is_abstract ≡ true → (ms : List Member) → list_any (describes pool d) ms ≡ false
  none_described abstract' [] = refl
  none_described abstract' (m ∷ ms) =
      or_false (describes pool d m) _ (not_true (describes pool d m) (λ e.
      let last = and_true _ _ e in
      let at_descriptor = and_true _ _ last.0 in
      let at_name = and_true _ _ at_descriptor.0 in
      let at_native = and_true (not d.is_abstract) (has_flag m.flags Native) at_name.0 in
      let wrong : false ≡ true = sym (ap not abstract') ∙ at_native.0 in
      cc)) (none_described abstract' ms)
    where
      or_false : (a b : Bool) → a ≡ false → b ≡ false → (a || b) ≡ false
      or_false a b e f = ap (λ (x : Bool). x || b) e ∙ f

  pub some_described : d.is_abstract ≡ false → (ms : List Member) (k : ℕ) → slice_get (native_keys pool ms) k ≡ Some (described_key d) → list_any (describes pool d) ms ≡ true
  some_described concrete [] k e = absurd (none-some _ e)
  some_described concrete (m ∷ ms) k e = by (has_flag m.flags Native) refl k (subst (λ (ks : List Key). slice_get ks k ≡ Some (described_key d)) (natives_split pool m ms) e) (some_described concrete ms)
    where
      or_left : (a b : Bool) → a ≡ true → (a || b) ≡ true
      or_left a b h = ap (λ (x : Bool). x || b) h

      or_right : (a b : Bool) → b ≡ true → (a || b) ≡ true
      or_right true b h = refl
      or_right false b h = h

      by : (b : Bool) → has_flag m.flags Native ≡ b → (k : ℕ) → slice_get (cond b (member_key pool m ∷ []) [] ++ native_keys pool ms) k ≡ Some (described_key d)
          → ((j : ℕ) → slice_get (native_keys pool ms) j ≡ Some (described_key d) → list_any (describes pool d) ms ≡ true)
          → (describes pool d m || list_any (describes pool d) ms) ≡ true
      by true native zero at rest = or_left _ _ (is_described m concrete native (same_Some _ _ at))
      by true native (suc j) at rest = or_right _ _ (rest j at)
      by false native j at rest = or_right _ _ (rest j at)

  pub nowhere_described : (ms : List Member) → StandsNowhere (native_keys pool ms) (described_key d) → list_any (describes pool d) ms ≡ false
  nowhere_described [] none = refl
  nowhere_described (m ∷ ms) none =
      let here = not_true (describes pool d m) (λ e. let is = described_is m e in none.nowhere 0 (first_is is.0 is.1)) in
      ap (λ (x : Bool). x || list_any (describes pool d) ms) here
      ∙ nowhere_described ms (later (has_flag m.flags Native) refl)
    where
      first_is : has_flag m.flags Native ≡ true → member_key pool m ≡ described_key d → slice_get (native_keys pool (m ∷ ms)) 0 ≡ Some (described_key d)
      first_is native same = ap (λ (ks : List Key). slice_get ks 0) (natives_split pool m ms)
          ∙ ap (λ (b : Bool). slice_get (cond b (member_key pool m ∷ []) [] ++ native_keys pool ms) 0) native ∙ ap Some same

      later : (b : Bool) → has_flag m.flags Native ≡ b → StandsNowhere (native_keys pool ms) (described_key d)
      later true native = record {
        nowhere = λ i at. none.nowhere (suc i) (ap (λ (ks : List Key). slice_get ks (suc i)) (natives_split pool m ms)
            ∙ ap (λ (b : Bool). slice_get (cond b (member_key pool m ∷ []) [] ++ native_keys pool ms) (suc i)) native ∙ at);
      }
      later false native = record {
        nowhere = λ i at. none.nowhere i (ap (λ (ks : List Key). slice_get ks i) (natives_split pool m ms)
            ∙ ap (λ (b : Bool). slice_get (cond b (member_key pool m ∷ []) [] ++ native_keys pool ms) i) native ∙ at);
      }
