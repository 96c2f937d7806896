-- Resolution: what a reference to a method gives by what the searches found; and where a special call goes.
use Rattle.std.proofs.Common.{◌≡◌, ◌≢◌, ℕ, Bool, true, false, List, Option, Some, refl, sym, ◌∙◌, subst}
use Rattle.std.specs.Bool.{MatchBool}
use Rattle.std.proofs.Math.Bool.{beq}
use Rattle.std.proofs.lemmas.Bool.{false≢true}
use Rattle.std.proofs.lemmas.Option.{same_Some, slice_get_within}
use Rattle.jvm_model.specs.Lookups.{Signature}
use Rattle.jvm_model.specs.Programs.{Class, Method, Program}
use Rattle.jvm_model.specs.Resolution.{HasSignature, IsInstanceWith, IsFound, IsFoundIn, IsFoundInInterface, declared_there, of_object, IsLeastInherited, IsOnlyDefault, ResolvesFrom, itself, by_default, by_name, Resolves}
use Rattle.jvm_model.specs.Selection.{SelectsFrom, upward, by_default as by_only_default, StartsSearch, SelectsSpecial}
use Rattle.jvm_model.specs.Subtypes.{class_named}
use Rattle.jvm_model.specs.declared.number.MethodNo.{MethodNo}
use Rattle.program_model.specs.Numbers.{IsMethodNumber}
use Rattle.hierarchy.specs.Searches.{Finds, SelectsInstance}
use Rattle.hierarchy.proofs.Declaring.{finds_same}
use Rattle.hierarchy.proofs.Hiding.{starts_same}
use Rattle.hierarchy.proofs.Selecting.{found_within, default_within}

-- ---- the kind of a class

pub same_kind : (a b : Bool) → beq a b ≡ true → a ≡ b
same_kind true true e = refl
same_kind true false e = absurd (false≢true e)
same_kind false true e = absurd (false≢true e)
same_kind false false e = refl

pub other_kind_of : (a b : Bool) → beq a b ≡ false → a ≢ b
other_kind_of true true e = λ s. false≢true (sym e)
other_kind_of true false e = λ s. false≢true (sym s)
other_kind_of false true e = λ s. false≢true s
other_kind_of false false e = λ s. false≢true (sym e)

-- ---- resolution

resolves_how : (p : Program) (name : List ℕ) (s : Signature) (n : ℕ) (c : Class) → class_named p name ≡ Some c → Resolves p (record { class = name; signature = s }) n
    → ResolvesFrom p name s (IsFoundIn p (HasSignature s) s c) n
resolves_how p name s n c named r = subst (λ (x : Class). ResolvesFrom p name s (IsFoundIn p (HasSignature s) s x) n) (same_Some r.class c (sym r.named ∙ named)) r.search

-- neither the search of the class itself nor the defaults give any
pub resolves_least : (p : Program) (name : List ℕ) (s : Signature) (c : Class) (found : Option MethodNo) → class_named p name ≡ Some c → ((other : ℕ) → IsFoundIn p (HasSignature s) s c other → ⊥)
    → ((other : ℕ) → IsOnlyDefault p name s other → ⊥) → Finds (IsLeastInherited p name s) found → Finds (Resolves p (record { class = name; signature = s })) found
resolves_least p name s c found named none no_default =
    finds_same (IsLeastInherited p name s) (Resolves p (record { class = name; signature = s })) found
    (λ n least. record { class = c; named = named; search = by_name none no_default least })
    (λ n r. elim (resolves_how p name s n c named r) [ itself own ↦ absurd (none n own) | by_default _ only ↦ absurd (no_default n only) | by_name _ _ least ↦ least ])

-- ---- special calls

instance_how : (p : Program) (start : List ℕ) (s : Signature) (n : ℕ) (c : Class) → class_named p start ≡ Some c → SelectsInstance p start s n
    → SelectsFrom p start s (IsFoundIn p (IsInstanceWith s) s c) n
instance_how p start s n c named r = subst (λ (x : Class). SelectsFrom p start s (IsFoundIn p (IsInstanceWith s) s x) n) (same_Some r.class c (sym r.named ∙ named)) r.chosen

pub instance_default : (p : Program) (start : List ℕ) (s : Signature) (c : Class) (found : Option MethodNo) → class_named p start ≡ Some c
    → ((other : ℕ) → IsFoundIn p (IsInstanceWith s) s c other → ⊥) → Finds (IsOnlyDefault p start s) found → Finds (SelectsInstance p start s) found
instance_default p start s c found named none =
    finds_same (IsOnlyDefault p start s) (SelectsInstance p start s) found (λ n only. record { class = c; named = named; chosen = by_only_default none only })
    (λ n r. elim (instance_how p start s n c named r) [ upward own ↦ absurd (none n own) | by_only_default _ only ↦ only ])

interface_within : (p : Program) (Is : ℕ → Method → Type 0) (s : Signature) (name : List ℕ) (n : ℕ) → IsFoundInInterface p Is s name n → IsMethodNumber p n
interface_within p Is s name n (declared_there d) = slice_get_within p.methods n d.method d.stands
interface_within p Is s name n (of_object _ d) = slice_get_within p.methods n d.method d.stands

found_in_within : (p : Program) (Is : ℕ → Method → Type 0) (s : Signature) (c : Class) (n : ℕ) → IsFoundIn p Is s c n → IsMethodNumber p n
found_in_within p Is s c n found =
    let split : (b : Bool) → MatchBool b (IsFoundInInterface p Is s c.name n) (IsFound p c.name Is n) → IsMethodNumber p n =
    λ b. elim b as (λ v. MatchBool v (IsFoundInInterface p Is s c.name n) (IsFound p c.name Is n) → IsMethodNumber p n) [
      | true ↦ λ h. interface_within p Is s c.name n h
      | false ↦ λ h. found_within p Is c.name n h
    ] in
    split c.is_interface found

from_within : (p : Program) (start : List ℕ) (s : Signature) (c : Class) (n : ℕ) → SelectsFrom p start s (IsFoundIn p (IsInstanceWith s) s c) n → IsMethodNumber p n
from_within p start s c n (upward own) = found_in_within p (IsInstanceWith s) s c n own
from_within p start s c n (by_only_default _ only) = default_within p start s n only

pub instance_within : (p : Program) (start : List ℕ) (s : Signature) (n : ℕ) → SelectsInstance p start s n → IsMethodNumber p n
instance_within p start s n r = from_within p start s r.class n r.chosen

how_resolved_within : (p : Program) (name : List ℕ) (s : Signature) (c : Class) (n : ℕ) → ResolvesFrom p name s (IsFoundIn p (HasSignature s) s c) n → IsMethodNumber p n
how_resolved_within p name s c n (itself own) = found_in_within p (HasSignature s) s c n own
how_resolved_within p name s c n (by_default _ only) = default_within p name s n only
how_resolved_within p name s c n (by_name _ _ least) = slice_get_within p.methods n least.inherited.method least.inherited.stands

pub resolves_within : (p : Program) (name : List ℕ) (s : Signature) (n : ℕ) → Resolves p (record { class = name; signature = s }) n → IsMethodNumber p n
resolves_within p name s n r = how_resolved_within p name s r.class n r.search

-- from the class at which the search begins
pub special_from : (p : Program) (current named : List ℕ) (s t : Signature) (start : List ℕ) (n : ℕ) → t ≡ s → StartsSearch p current (record { class = named; signature = s }) start
    → SelectsInstance p start s n → SelectsSpecial p current (record { class = named; signature = t }) n
special_from p current named s t start n same begins r =
    subst (λ (x : Signature). SelectsSpecial p current (record { class = named; signature = x }) n) (sym same)
    (record { start = start; begins = begins; class = r.class; named = r.named; chosen = r.chosen })

pub special_instance : (p : Program) (current named : List ℕ) (s t : Signature) (start : List ℕ) (n : ℕ) → t ≡ s → StartsSearch p current (record { class = named; signature = s }) start
    → SelectsSpecial p current (record { class = named; signature = t }) n → SelectsInstance p start s n
special_instance p current named s t start n same begins selects =
    let r : SelectsSpecial p current (record { class = named; signature = s }) n =
    subst (λ (x : Signature). SelectsSpecial p current (record { class = named; signature = x }) n) same selects in
    let start_is : r.start ≡ start = starts_same p current (record { class = named; signature = s }) r.start start r.begins begins in
    let here : SelectsInstance p r.start s n = record { class = r.class; named = r.named; chosen = r.chosen } in
    subst (λ (x : List ℕ). SelectsInstance p x s n) start_is here
