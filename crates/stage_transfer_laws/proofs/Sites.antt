-- The test of sites tells whether they are one.
use Rattle.std.proofs.Common.{◌≡◌, nat_eq, true, ◌&&◌, [], ◌∷◌, Option, Some, None, refl}
use Rattle.std.specs.Option.{option_map_or}
use Rattle.std.specs.Str.{bytes_eq}
use Rattle.std.proofs.lemmas.Bool.{and_from, and_parts, eq-eqb, eqb-true}
use Rattle.jvm_model.specs.declared.number.MethodNo.{MethodNo}
use Rattle.jvm_model.specs.declared.site.Site.{Site}
use Rattle.jvm_model.specs.declared.site.SiteKind.{SiteKind}
use Rattle.jvm_model.specs.declared.site.SiteKind.TheVariants as kinds
use Rattle.stage_transfer.specs.Settings.{method_key, number_of_kind, same_site}
use Rattle.stage_transfer_laws.proofs.Paths.{bytes_same, same_bytes}

same_kind : (a b : SiteKind) → number_of_kind a ≡ number_of_kind b → a ≡ b
same_kind kinds.Boot kinds.Boot e = refl
same_kind kinds.Boot kinds.New e = absurd cc
same_kind kinds.Boot kinds.Result e = absurd cc
same_kind kinds.Boot kinds.Thrown e = absurd cc
same_kind kinds.New kinds.Boot e = absurd cc
same_kind kinds.New kinds.New e = refl
same_kind kinds.New kinds.Result e = absurd cc
same_kind kinds.New kinds.Thrown e = absurd cc
same_kind kinds.Result kinds.Boot e = absurd cc
same_kind kinds.Result kinds.New e = absurd cc
same_kind kinds.Result kinds.Result e = refl
same_kind kinds.Result kinds.Thrown e = absurd cc
same_kind kinds.Thrown kinds.Boot e = absurd cc
same_kind kinds.Thrown kinds.New e = absurd cc
same_kind kinds.Thrown kinds.Result e = absurd cc
same_kind kinds.Thrown kinds.Thrown e = refl

same_method : (o p : Option MethodNo) → option_map_or (λ (m : MethodNo). m.0 ∷ []) o [] ≡ option_map_or (λ (m : MethodNo). m.0 ∷ []) p [] → o ≡ p
same_method None None e = refl
same_method None (Some m) e = absurd cc
same_method (Some m) None e = absurd cc
same_method (Some m) (Some k) e = let first : m.0 ≡ k.0 = cc in λ i. Some (record { 0 = first i })

pub site_is : (s r : Site) → same_site s r ≡ true → s ≡ r
site_is s r is =
    let kinds_and = and_parts (nat_eq (number_of_kind s.kind) (number_of_kind r.kind))
    (bytes_eq (method_key s) (method_key r) && (nat_eq s.offset r.offset && bytes_eq s.class r.class)) is in
    let methods_and = and_parts (bytes_eq (method_key s) (method_key r)) (nat_eq s.offset r.offset && bytes_eq s.class r.class) kinds_and.1 in
    let offsets_and = and_parts (nat_eq s.offset r.offset) (bytes_eq s.class r.class) methods_and.1 in
    let kind = same_kind s.kind r.kind (eqb-true (number_of_kind s.kind) (number_of_kind r.kind) kinds_and.0) in
    let method = same_method s.method r.method (same_bytes (method_key s) (method_key r) methods_and.0) in
    let offset = eqb-true s.offset r.offset offsets_and.0 in
    let class = same_bytes s.class r.class offsets_and.1 in
    λ i. record { kind = kind i; method = method i; offset = offset i; class = class i }

pub is_site : (s : Site) → same_site s s ≡ true
is_site s =
    and_from (nat_eq (number_of_kind s.kind) (number_of_kind s.kind))
    (bytes_eq (method_key s) (method_key s) && (nat_eq s.offset s.offset && bytes_eq s.class s.class))
    (eq-eqb (number_of_kind s.kind) (number_of_kind s.kind) refl)
    (and_from (bytes_eq (method_key s) (method_key s)) (nat_eq s.offset s.offset && bytes_eq s.class s.class) (bytes_same (method_key s) (method_key s) refl)
    (and_from (nat_eq s.offset s.offset) (bytes_eq s.class s.class) (eq-eqb s.offset s.offset refl) (bytes_same s.class s.class refl)))
