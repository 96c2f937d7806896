-- `==` on the keys of the tables tells each two apart.
use Rattle.std.proofs.Common.{◌≡◌, Bool, true, eqb, ◌&&◌}
use Rattle.std.proofs.lemmas.Bool.{and_parts}
use Rattle.std.proofs.lemmas.Map.Views.{exact_unsigned_eq}
use Rattle.jvm_model.specs.contracts.site.SiteKindPartialEq.TheImpl as kind_block
use Rattle.points_to_numbers.specs.declared.keys.SiteKey.{SiteKey}
use Rattle.points_to_numbers.specs.declared.keys.Constraint.{Constraint}
use Rattle.points_to_numbers.specs.declared.keys.Constraint.TheVariants as constraints
use Rattle.points_to_numbers.specs.contracts.keys.SiteKeyPartialEq.TheImpl as site_block
use Rattle.points_to_numbers.specs.contracts.keys.ConstraintPartialEq.TheImpl as constraint_block
use Rattle.points_to_numbers.specs.contracts.keys.SiteKeyEq.TheImpl.Laws as site_laws
use Rattle.points_to_numbers.specs.contracts.keys.ConstraintEq.TheImpl.Laws as constraint_laws
use Rattle.points_to_rules.proofs.ExactParts.{exact_kinds, same_maybe, exact_maybe}

abbrev pub same_sites : SiteKey → SiteKey → Bool
same_sites = (site_block.ghosts).eq

abbrev pub same_constraints : Constraint → Constraint → Bool
same_constraints = (constraint_block.ghosts).eq

-- ---- each key is the same as itself

pub site_itself : (a : SiteKey) → same_sites a a ≡ true
site_itself a = (site_laws.laws-law).refl a

pub constraint_itself : (a : Constraint) → same_constraints a a ≡ true
constraint_itself a = (constraint_laws.laws-law).refl a

-- ---- and as no other

pub exact_sites : (a b : SiteKey) → same_sites a b ≡ true → a ≡ b
exact_sites a b h =
    let first = and_parts ((kind_block.ghosts).eq a.kind b.kind) (same_maybe a.method b.method && (eqb a.offset b.offset && eqb a.class.0 b.class.0)) h in
    let second = and_parts (same_maybe a.method b.method) (eqb a.offset b.offset && eqb a.class.0 b.class.0) first.1 in
    let third = and_parts (eqb a.offset b.offset) (eqb a.class.0 b.class.0) second.1 in
    let kind = exact_kinds a.kind b.kind first.0 in
    let method = exact_maybe a.method b.method second.0 in
    let offset = exact_unsigned_eq a.offset b.offset third.0 in
    let class = exact_unsigned_eq a.class.0 b.class.0 third.1 in
    (λ i. record { kind = kind i; method = method i; offset = offset i; class = record { 0 = class i } })

pub exact_constraints : (a b : Constraint) → same_constraints a b ≡ true → a ≡ b
exact_constraints (constraints.CopyTo a) (constraints.CopyTo b) h = let to = exact_unsigned_eq a.0 b.0 h in (λ i. constraints.CopyTo (record { 0 = to i }))
exact_constraints (constraints.FilterTo a c) (constraints.FilterTo b d) h =
    let parts = and_parts (eqb a.0 b.0) (eqb c.0 d.0) h in
    let classes = exact_unsigned_eq a.0 b.0 parts.0 in
    let to = exact_unsigned_eq c.0 d.0 parts.1 in
    (λ i. constraints.FilterTo (record { 0 = classes i }) (record { 0 = to i }))
exact_constraints (constraints.LoadField a c) (constraints.LoadField b d) h =
    let parts = and_parts (eqb a.0 b.0) (eqb c.0 d.0) h in
    let fields = exact_unsigned_eq a.0 b.0 parts.0 in
    let to = exact_unsigned_eq c.0 d.0 parts.1 in
    (λ i. constraints.LoadField (record { 0 = fields i }) (record { 0 = to i }))
exact_constraints (constraints.StoreField a c) (constraints.StoreField b d) h =
    let parts = and_parts (eqb a.0 b.0) (eqb c.0 d.0) h in
    let fields = exact_unsigned_eq a.0 b.0 parts.0 in
    let from = exact_unsigned_eq c.0 d.0 parts.1 in
    (λ i. constraints.StoreField (record { 0 = fields i }) (record { 0 = from i }))
exact_constraints (constraints.LoadElements a) (constraints.LoadElements b) h = let to = exact_unsigned_eq a.0 b.0 h in (λ i. constraints.LoadElements (record { 0 = to i }))
exact_constraints (constraints.StoreElements a) (constraints.StoreElements b) h = let from = exact_unsigned_eq a.0 b.0 h in (λ i. constraints.StoreElements (record { 0 = from i }))
exact_constraints (constraints.ThrowTo a) (constraints.ThrowTo b) h = let catch_chains = exact_unsigned_eq a.0 b.0 h in (λ i. constraints.ThrowTo (record { 0 = catch_chains i }))
exact_constraints (constraints.RethrowTo a) (constraints.RethrowTo b) h = let catch_chains = exact_unsigned_eq a.0 b.0 h in (λ i. constraints.RethrowTo (record { 0 = catch_chains i }))
exact_constraints (constraints.Dispatch a) (constraints.Dispatch b) h = let calls = exact_unsigned_eq a.0 b.0 h in (λ i. constraints.Dispatch (record { 0 = calls i }))
exact_constraints _ _ h = cc
