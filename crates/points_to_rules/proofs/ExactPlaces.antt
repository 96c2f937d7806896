-- `==` on places tells each two apart.
use Rattle.std.proofs.Common.{◌≡◌, Bool, true, eqb, ◌&&◌, refl, ap}
use Rattle.std.proofs.lemmas.Bool.{and_parts}
use Rattle.std.proofs.lemmas.Map.Views.{exact_unsigned_eq}
use Rattle.slot_names.specs.declared.variable.Variable.{Variable}
use Rattle.slot_names.specs.declared.variable.Variable.TheVariants.{Parameter, At}
use Rattle.slot_names.specs.contracts.variable.VariablePartialEq.TheImpl as variable_block
use Rattle.points_to_rules.specs.declared.place.Place.{Place}
use Rattle.points_to_rules.specs.declared.place.Place.TheVariants as places
use Rattle.points_to_rules.specs.contracts.place.PlacePartialEq.TheImpl as place_block
use Rattle.points_to_rules.specs.contracts.place.PlaceEq.TheImpl.Laws as place_laws

abbrev pub same_places : Place → Place → Bool
same_places = (place_block.ghosts).eq

-- each place is the same as itself, and as no other
pub place_itself : (a : Place) → same_places a a ≡ true
place_itself a = (place_laws.laws-law).refl a

exact_variables : (a b : Variable) → (variable_block.ghosts).eq a b ≡ true → a ≡ b
exact_variables (Parameter a c) (Parameter b d) h =
    let parts = and_parts (eqb a.0 b.0) (eqb c d) h in
    let methods = exact_unsigned_eq a.0 b.0 parts.0 in
    let slots = exact_unsigned_eq c d parts.1 in
    (λ i. Parameter (record { 0 = methods i }) (slots i))
exact_variables (At a c e) (At b d f) h =
    let parts = and_parts (eqb a.0 b.0) (eqb c d && eqb e f) h in
    let rest = and_parts (eqb c d) (eqb e f) parts.1 in
    let methods = exact_unsigned_eq a.0 b.0 parts.0 in
    let offsets = exact_unsigned_eq c d rest.0 in
    let slots = exact_unsigned_eq e f rest.1 in
    (λ i. At (record { 0 = methods i }) (offsets i) (slots i))
exact_variables _ _ h = cc

pub exact_places : (a b : Place) → same_places a b ≡ true → a ≡ b
exact_places (places.Variable a) (places.Variable b) h = ap (λ (v : Variable). places.Variable v) (exact_variables a b h)
exact_places (places.Field a c) (places.Field b d) h =
    let parts = and_parts (eqb a.0 b.0) (eqb c.0 d.0) h in
    let sites = exact_unsigned_eq a.0 b.0 parts.0 in
    let fields = exact_unsigned_eq c.0 d.0 parts.1 in
    (λ i. places.Field (record { 0 = sites i }) (record { 0 = fields i }))
exact_places (places.Elements a) (places.Elements b) h = let sites = exact_unsigned_eq a.0 b.0 h in (λ i. places.Elements (record { 0 = sites i }))
exact_places (places.Static a) (places.Static b) h = let fields = exact_unsigned_eq a.0 b.0 h in (λ i. places.Static (record { 0 = fields i }))
exact_places places.Kept places.Kept h = refl
exact_places (places.Returned a) (places.Returned b) h = let methods = exact_unsigned_eq a.0 b.0 h in (λ i. places.Returned (record { 0 = methods i }))
exact_places (places.Thrown a) (places.Thrown b) h = let methods = exact_unsigned_eq a.0 b.0 h in (λ i. places.Thrown (record { 0 = methods i }))
exact_places _ _ h = cc
