-- The classes of a program by number and by name.
use Rattle.std.proofs.Common.{◌≡◌, ◌≢◌, ℕ, zero, suc, ◌<◌, Bool, true, false, cond, List, [], ◌∷◌, length, Option, Some, None, refl, sym, ◌∙◌, ap, subst, arith, inl, inr, eqb}
use Rattle.std.specs.List.{slice_get, find, Contains}
use Rattle.std.specs.Option.{option_map, unwrap_or}
use Rattle.std.specs.Str.{bytes_eq}
use Rattle.std.proofs.lemmas.Bool.{cases_lt, eqb-false}
use Rattle.std.proofs.lemmas.List.Elements.{All-contains}
use Rattle.std.proofs.lemmas.Option.{slice_get_within, slice_get-get_or, get_or_from_slice_get, same_Some, none-some}
use Rattle.std.proofs.lemmas.Slice.Eq.{bytes_eq-Decides}
use Rattle.jvm_model.specs.LinkedPrograms.{IsProgram, IsThere, class_names, HasSupers}
use Rattle.jvm_model.specs.Programs.{Class, Method, Program}
use Rattle.jvm_model.specs.Subtypes.{class_named}
use Rattle.program_model.specs.Numbers.{name_at, IsClassNumber, IsMethodNumber}
use Rattle.program_index.proofs.ListPlaces.{at_map, map_at}

-- what is found stands in the list, and passes the test
pub find_some : {X : Type 0} (test : X → Bool) (xs : List X) (x : X) → find test xs ≡ Some x → (k : ℕ) × (slice_get xs k ≡ Some x) × (test x ≡ true)
find_some test [] x e = absurd (none-some x e)
find_some {X} test (y ∷ xs) x e =
    let Answer : Type 0 = (k : ℕ) × (slice_get (y ∷ xs) k ≡ Some x) × (test x ≡ true) in
    let later : find test xs ≡ Some x → Answer = λ h. (suc (find_some test xs x h).0, (find_some test xs x h).1, (find_some test xs x h).2) in
    let split : (b : Bool) → test y ≡ b → cond b (Some y) (find test xs) ≡ Some x → Answer =
    λ b. elim b as (λ v. test y ≡ v → cond v (Some y) (find test xs) ≡ Some x → Answer) [
      | true ↦ λ t h. (zero, h, ap test (sym (same_Some y x h)) ∙ t)
      | false ↦ λ t h. later h
    ] in
    split (test y) refl e

-- the first that passes the test is found
pub find_first : {X : Type 0} (test : X → Bool) (xs : List X) (k : ℕ) (x : X) → slice_get xs k ≡ Some x → test x ≡ true
    → ((i : ℕ) (y : X) → i < k → slice_get xs i ≡ Some y → test y ≡ false) → find test xs ≡ Some x
find_first test [] k x e t before = absurd (none-some x e)
find_first test (y ∷ xs) zero x e t before =
    let same = same_Some y x e in
    ap (λ (b : Bool). cond b (Some y) (find test xs)) (ap test same ∙ t) ∙ ap (λ v. Some v) same
find_first test (y ∷ xs) (suc k) x e t before =
    ap (λ (b : Bool). cond b (Some y) (find test xs)) (before zero y (omega arith) refl)
    ∙ find_first test xs k x e t (λ i z lt s. before (suc i) z (omega (arith, lt)) s)

-- ---- names

pub name_at-at : (p : Program) (n : ℕ) (c : Class) → slice_get p.classes n ≡ Some c → name_at p n ≡ c.name
name_at-at p n c e = ap (λ (o : Option Class). unwrap_or (option_map (λ (d : Class). d.name) o) []) e

-- names at two places differ
apart : (p : Program) → IsProgram p → (i j : ℕ) (c d : Class) → i < j → slice_get p.classes i ≡ Some c → slice_get p.classes j ≡ Some d → c.name ≢ d.name
apart p program i j c d lt at_i at_j same =
    let i_name = at_map (λ (x : Class). x.name) p.classes i c at_i in
    let j_name = at_map (λ (x : Class). x.name) p.classes j d at_j in
    let i_get = get_or_from_slice_get (class_names p) i c.name [] i_name in
    let j_get = get_or_from_slice_get (class_names p) j d.name [] j_name in
    program.differ i j [] lt (slice_get_within (class_names p) j d.name j_name) (i_get ∙ same ∙ sym j_get)

pub same_place : (p : Program) → IsProgram p → (i j : ℕ) (c d : Class) → slice_get p.classes i ≡ Some c → slice_get p.classes j ≡ Some d → c.name ≡ d.name → i ≡ j
same_place p program i j c d at_i at_j same =
    elim (cases_lt i j) [
      | inl lt ↦ absurd (apart p program i j c d lt at_i at_j same)
      | inr le ↦ elim (cases_lt j i) [ inl lt ↦ absurd (apart p program j i d c lt at_j at_i (sym same)) | inr ge ↦ omega (arith, le, ge) ]
    ]

-- A class of the program: its number, and its name.
pub record IsClassAt (p : Program) (n : ℕ) (c : Class) : Type 0 where
  pub stands : slice_get p.classes n ≡ Some c
  pub name : name_at p n ≡ c.name
  pub named : class_named p (name_at p n) ≡ Some c

-- what has a name stands at a number
pub number_named : (p : Program) (name : List ℕ) (c : Class) → class_named p name ≡ Some c → (n : ℕ) × (slice_get p.classes n ≡ Some c) × (c.name ≡ name)
number_named p name c e =
    let found = find_some (λ (d : Class). bytes_eq d.name name) p.classes c e in
    (found.0, found.1, (bytes_eq-Decides c.name name).0 found.2)

pub named_at : (p : Program) → IsProgram p → (n : ℕ) (c : Class) → slice_get p.classes n ≡ Some c → class_named p c.name ≡ Some c
named_at p program n c e =
    let differs : (b : Bool) (name : List ℕ) → bytes_eq name c.name ≡ b → name ≢ c.name → b ≡ false =
    λ b name. elim b as (λ v. bytes_eq name c.name ≡ v → name ≢ c.name → v ≡ false) [
      | true ↦ λ t ne. absurd (ne ((bytes_eq-Decides name c.name).0 t))
      | false ↦ λ t ne. refl
    ] in
    find_first (λ (d : Class). bytes_eq d.name c.name) p.classes n c e ((bytes_eq-Decides c.name c.name).1 refl)
    (λ i d lt s. differs (bytes_eq d.name c.name) d.name refl (apart p program i n d c lt s e))

pub class_at : (p : Program) → IsProgram p → (n : ℕ) (c : Class) → slice_get p.classes n ≡ Some c → IsClassAt p n c
class_at p program n c e =
    let name = name_at-at p n c e in
    record { stands = e; name = name; named = subst (λ (x : List ℕ). class_named p x ≡ Some c) (sym name) (named_at p program n c e) }

pub place_there : {X : Type 0} (xs : List X) (k : ℕ) → k < length xs → (x : X) × (slice_get xs k ≡ Some x)
place_there [] k lt = absurd (omega (arith, lt))
place_there (x ∷ xs) zero lt = (x, refl)
place_there (x ∷ xs) (suc k) lt = place_there xs k (omega (arith, lt))

pub class_there : (p : Program) (n : ℕ) → IsClassNumber p n → (c : Class) × (slice_get p.classes n ≡ Some c)
class_there p n within = place_there p.classes n within

pub method_there : (p : Program) (n : ℕ) → IsMethodNumber p n → (m : Method) × (slice_get p.methods n ≡ Some m)
method_there p n within = place_there p.methods n within

-- the class of a number, if it is one
pub class_of_number : (p : Program) → IsProgram p → (n : ℕ) → IsClassNumber p n → (c : Class) × IsClassAt p n c
class_of_number p program n within =
    let there = class_there p n within in
    (there.0, class_at p program n there.0 there.1)

pub class_within : (p : Program) (n : ℕ) (c : Class) → slice_get p.classes n ≡ Some c → IsClassNumber p n
class_within p n c e = slice_get_within p.classes n c e

-- No class of the program has the name.
abbrev pub IsNowhere : Program → List ℕ → Type 0
IsNowhere p name = (n : ℕ) → IsClassNumber p n → name_at p n ≡ name → ⊥

-- what has a name is not nowhere
pub somewhere : (p : Program) (name : List ℕ) (c : Class) → class_named p name ≡ Some c → IsNowhere p name → ⊥
somewhere p name c named nowhere =
    let at = number_named p name c named in
    nowhere at.0 (class_within p at.0 c at.1) (name_at-at p at.0 c at.1 ∙ at.2)

pub not_named : (p : Program) (name : List ℕ) → IsNowhere p name → class_named p name ≡ None
not_named p name nowhere = by (class_named p name) refl
  where
    by : (o : Option Class) → class_named p name ≡ o → o ≡ None
    by None e = refl
    by (Some c) e = absurd (somewhere p name c e nowhere)

-- two numbers of one name are the same
same_number : (p : Program) → IsProgram p → (i j : ℕ) → IsClassNumber p i → IsClassNumber p j → name_at p i ≡ name_at p j → i ≡ j
same_number p program i j lt_i lt_j same =
    let c = class_of_number p program i lt_i in
    let d = class_of_number p program j lt_j in
    same_place p program i j c.0 d.0 c.1.stands d.1.stands (sym c.1.name ∙ same ∙ d.1.name)

pub names_differ : (p : Program) → IsProgram p → (i j : ℕ) → IsClassNumber p i → IsClassNumber p j → eqb i j ≡ false → name_at p i ≢ name_at p j
names_differ p program i j within_i within_j other same = eqb-false i j other (same_number p program i j within_i within_j same)

pub contained : {X : Type 0} (xs : List X) (k : ℕ) (x : X) → slice_get xs k ≡ Some x → Contains xs x
contained xs k x e = (k, slice_get_within xs k x e, get_or_from_slice_get xs k x x e)

pub named_contained : (p : Program) (name : List ℕ) (c : Class) → class_named p name ≡ Some c → Contains p.classes c
named_contained p name c e = contained p.classes (number_named p name c e).0 c (number_named p name c e).1

-- a class that is there has its supertypes
pub supers_of : (p : Program) → IsProgram p → (name : List ℕ) (c : Class) → class_named p name ≡ Some c → HasSupers p c
supers_of p program name c e = All-contains (HasSupers p) p.classes c program.supers (named_contained p name c e)

-- the class of a method has a number
pub class_of_method : (p : Program) → IsProgram p → (n : ℕ) (m : Method) → slice_get p.methods n ≡ Some m → (k : ℕ) × IsClassNumber p k × (name_at p k ≡ m.class)
class_of_method p program n m stands =
    let there : Contains (class_names p) m.class = All-contains (λ (x : Method). IsThere p x.class) p.methods m program.methods (contained p.methods n m stands) in
    let at : slice_get (class_names p) there.0 ≡ Some m.class = slice_get-get_or (class_names p) there.0 m.class there.1 ∙ ap (λ v. Some v) there.2 in
    let class = map_at (λ (x : Class). x.name) p.classes there.0 m.class at in
    (there.0, class_within p there.0 class.0 class.1, name_at-at p there.0 class.0 class.1 ∙ class.2)
