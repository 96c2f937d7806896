-- The test of holders tells whether they are one.
use Rattle.std.proofs.Common.{◌≡◌, nat_eq, true, ◌&&◌, refl}
use Rattle.std.proofs.lemmas.Bool.{and_from, and_parts, eq-eqb, eqb-true, false≢true}
use Rattle.slot_names.specs.declared.variable.Variable.{Variable}
use Rattle.slot_names.specs.declared.variable.Variable.TheVariants.{Parameter, At}
use Rattle.points_to_rules.specs.Facts.{Holder, variable, field_of, elements_of, static_field, kept_objects, returned_by, thrown_by}
use Rattle.stage_transfer.specs.Settings.{same_field, same_site, same_variable}
use Rattle.stage_transfer_laws.proofs.Alike.{variable_is}
use Rattle.stage_transfer_laws.proofs.Sites.{is_site, site_is}
use Rattle.listed_answers.specs.ListedAnswers.{same_holder}

pub holder_is : (h g : Holder) → same_holder h g ≡ true → h ≡ g
holder_is (variable v) (variable u) is = let same = variable_is v u is in λ i. variable (same i)
holder_is (variable v) (field_of r g) is = absurd (false≢true is)
holder_is (variable v) (elements_of r) is = absurd (false≢true is)
holder_is (variable v) (static_field g) is = absurd (false≢true is)
holder_is (variable v) kept_objects is = absurd (false≢true is)
holder_is (variable v) (returned_by n) is = absurd (false≢true is)
holder_is (variable v) (thrown_by n) is = absurd (false≢true is)
holder_is (field_of s f) (variable u) is = absurd (false≢true is)
holder_is (field_of s f) (field_of r g) is =
    let parts = and_parts (same_site s r) (same_field f g) is in
    let site = site_is s r parts.0 in
    let field = eqb-true f.0 g.0 parts.1 in
    λ i. field_of (site i) (record { 0 = field i })
holder_is (field_of s f) (elements_of r) is = absurd (false≢true is)
holder_is (field_of s f) (static_field g) is = absurd (false≢true is)
holder_is (field_of s f) kept_objects is = absurd (false≢true is)
holder_is (field_of s f) (returned_by n) is = absurd (false≢true is)
holder_is (field_of s f) (thrown_by n) is = absurd (false≢true is)
holder_is (elements_of s) (variable u) is = absurd (false≢true is)
holder_is (elements_of s) (field_of r g) is = absurd (false≢true is)
holder_is (elements_of s) (elements_of r) is = let site = site_is s r is in λ i. elements_of (site i)
holder_is (elements_of s) (static_field g) is = absurd (false≢true is)
holder_is (elements_of s) kept_objects is = absurd (false≢true is)
holder_is (elements_of s) (returned_by n) is = absurd (false≢true is)
holder_is (elements_of s) (thrown_by n) is = absurd (false≢true is)
holder_is (static_field f) (variable u) is = absurd (false≢true is)
holder_is (static_field f) (field_of r g) is = absurd (false≢true is)
holder_is (static_field f) (elements_of r) is = absurd (false≢true is)
holder_is (static_field f) (static_field g) is = let field = eqb-true f.0 g.0 is in λ i. static_field (record { 0 = field i })
holder_is (static_field f) kept_objects is = absurd (false≢true is)
holder_is (static_field f) (returned_by n) is = absurd (false≢true is)
holder_is (static_field f) (thrown_by n) is = absurd (false≢true is)
holder_is kept_objects (variable u) is = absurd (false≢true is)
holder_is kept_objects (field_of r g) is = absurd (false≢true is)
holder_is kept_objects (elements_of r) is = absurd (false≢true is)
holder_is kept_objects (static_field g) is = absurd (false≢true is)
holder_is kept_objects kept_objects is = refl
holder_is kept_objects (returned_by n) is = absurd (false≢true is)
holder_is kept_objects (thrown_by n) is = absurd (false≢true is)
holder_is (returned_by m) (variable u) is = absurd (false≢true is)
holder_is (returned_by m) (field_of r g) is = absurd (false≢true is)
holder_is (returned_by m) (elements_of r) is = absurd (false≢true is)
holder_is (returned_by m) (static_field g) is = absurd (false≢true is)
holder_is (returned_by m) kept_objects is = absurd (false≢true is)
holder_is (returned_by m) (returned_by n) is = let method = eqb-true m.0 n.0 is in λ i. returned_by (record { 0 = method i })
holder_is (returned_by m) (thrown_by n) is = absurd (false≢true is)
holder_is (thrown_by m) (variable u) is = absurd (false≢true is)
holder_is (thrown_by m) (field_of r g) is = absurd (false≢true is)
holder_is (thrown_by m) (elements_of r) is = absurd (false≢true is)
holder_is (thrown_by m) (static_field g) is = absurd (false≢true is)
holder_is (thrown_by m) kept_objects is = absurd (false≢true is)
holder_is (thrown_by m) (returned_by n) is = absurd (false≢true is)
holder_is (thrown_by m) (thrown_by n) is = let method = eqb-true m.0 n.0 is in λ i. thrown_by (record { 0 = method i })

variable_itself : (v : Variable) → same_variable v v ≡ true
variable_itself (Parameter m y) = and_from (nat_eq m.0 m.0) (nat_eq y y) (eq-eqb m.0 m.0 refl) (eq-eqb y y refl)
variable_itself (At m offset y) =
    and_from (nat_eq m.0 m.0) (nat_eq offset offset && nat_eq y y) (eq-eqb m.0 m.0 refl)
    (and_from (nat_eq offset offset) (nat_eq y y) (eq-eqb offset offset refl) (eq-eqb y y refl))

pub is_holder : (h : Holder) → same_holder h h ≡ true
is_holder (variable v) = variable_itself v
is_holder (field_of s f) = and_from (same_site s s) (same_field f f) (is_site s) (eq-eqb f.0 f.0 refl)
is_holder (elements_of s) = is_site s
is_holder (static_field f) = eq-eqb f.0 f.0 refl
is_holder kept_objects = refl
is_holder (returned_by m) = eq-eqb m.0 m.0 refl
is_holder (thrown_by m) = eq-eqb m.0 m.0 refl
