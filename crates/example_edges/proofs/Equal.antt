-- Tests of facts and of edges tell whether they are one.
use Rattle.std.proofs.Common.{◌≡◌, nat_eq, Bool, true, false, not, ◌&&◌, List, [], ◌∷◌, Option, Some, None, refl}
use Rattle.std.proofs.lemmas.Bool.{and_from, and_parts, eq-eqb, eqb-true, false≢true}
use Rattle.jvm_model.specs.declared.number.MethodNo.{MethodNo}
use Rattle.op_model.specs.declared.node.Spot.{Spot}
use Rattle.op_model.specs.declared.node.Spot.TheVariants as spots
use Rattle.access_paths.specs.Paths.{Path, same_path}
use Rattle.access_paths.proofs.KeyOrders.{same_is_one}
use Rattle.stage_facts.specs.Facts.{SiteFact, Tuple, none_yet, some_yet, of_object}
use Rattle.stage_transfer_laws.proofs.Paths.{is_path}
use Rattle.stage_edges.specs.Rules.{Edge}

-- ---- parts

abbrev same_truth : Bool → Bool → Bool
same_truth true b = b
same_truth false b = not b

truth_is : (a b : Bool) → same_truth a b ≡ true → a ≡ b
truth_is true true e = refl
truth_is true false e = absurd (false≢true e)
truth_is false true e = absurd (false≢true e)
truth_is false false e = refl

truth_itself : (a : Bool) → same_truth a a ≡ true
truth_itself true = refl
truth_itself false = refl

abbrev same_paths : List Path → List Path → Bool
same_paths [] [] = true
same_paths [] (y ∷ ys) = false
same_paths (x ∷ xs) [] = false
same_paths (x ∷ xs) (y ∷ ys) = same_path x y && same_paths xs ys

paths_are : (xs ys : List Path) → same_paths xs ys ≡ true → xs ≡ ys
paths_are [] [] e = refl
paths_are [] (y ∷ ys) e = absurd (false≢true e)
paths_are (x ∷ xs) [] e = absurd (false≢true e)
paths_are (x ∷ xs) (y ∷ ys) e =
    let parts = and_parts (same_path x y) (same_paths xs ys) e in
    let first = same_is_one x y parts.0 in
    let rest = paths_are xs ys parts.1 in
    λ i. first i ∷ rest i

paths_themselves : (xs : List Path) → same_paths xs xs ≡ true
paths_themselves [] = refl
paths_themselves (x ∷ xs) = and_from (same_path x x) (same_paths xs xs) (is_path x x refl) (paths_themselves xs)

-- ---- facts

abbrev same_tuple : Tuple → Tuple → Bool
same_tuple s u =
    same_truth s.unique u.unique
    && (nat_eq s.state u.state && (same_paths s.must u.must && (same_truth s.may u.may && same_paths s.must_not u.must_not)))

tuple_is : (s u : Tuple) → same_tuple s u ≡ true → s ≡ u
tuple_is s u e =
    let one = and_parts (same_truth s.unique u.unique)
    (nat_eq s.state u.state && (same_paths s.must u.must && (same_truth s.may u.may && same_paths s.must_not u.must_not))) e in
    let two = and_parts (nat_eq s.state u.state) (same_paths s.must u.must && (same_truth s.may u.may && same_paths s.must_not u.must_not)) one.1 in
    let three = and_parts (same_paths s.must u.must) (same_truth s.may u.may && same_paths s.must_not u.must_not) two.1 in
    let four = and_parts (same_truth s.may u.may) (same_paths s.must_not u.must_not) three.1 in
    let unique = truth_is s.unique u.unique one.0 in
    let state = eqb-true s.state u.state two.0 in
    let must = paths_are s.must u.must three.0 in
    let may = truth_is s.may u.may four.0 in
    let must_not = paths_are s.must_not u.must_not four.1 in
    λ i. record { unique = unique i; state = state i; must = must i; may = may i; must_not = must_not i }

tuple_itself : (s : Tuple) → same_tuple s s ≡ true
tuple_itself s =
    and_from (same_truth s.unique s.unique)
    (nat_eq s.state s.state && (same_paths s.must s.must && (same_truth s.may s.may && same_paths s.must_not s.must_not)))
    (truth_itself s.unique)
    (and_from (nat_eq s.state s.state) (same_paths s.must s.must && (same_truth s.may s.may && same_paths s.must_not s.must_not))
    (eq-eqb s.state s.state refl)
    (and_from (same_paths s.must s.must) (same_truth s.may s.may && same_paths s.must_not s.must_not) (paths_themselves s.must)
    (and_from (same_truth s.may s.may) (same_paths s.must_not s.must_not) (truth_itself s.may) (paths_themselves s.must_not))))

abbrev pub same_fact : SiteFact → SiteFact → Bool
same_fact none_yet none_yet = true
same_fact none_yet some_yet = false
same_fact none_yet (of_object u) = false
same_fact some_yet none_yet = false
same_fact some_yet some_yet = true
same_fact some_yet (of_object u) = false
same_fact (of_object s) none_yet = false
same_fact (of_object s) some_yet = false
same_fact (of_object s) (of_object u) = same_tuple s u

pub fact_is : (f g : SiteFact) → same_fact f g ≡ true → f ≡ g
fact_is none_yet none_yet e = refl
fact_is none_yet some_yet e = absurd (false≢true e)
fact_is none_yet (of_object u) e = absurd (false≢true e)
fact_is some_yet none_yet e = absurd (false≢true e)
fact_is some_yet some_yet e = refl
fact_is some_yet (of_object u) e = absurd (false≢true e)
fact_is (of_object s) none_yet e = absurd (false≢true e)
fact_is (of_object s) some_yet e = absurd (false≢true e)
fact_is (of_object s) (of_object u) e = let same = tuple_is s u e in λ i. of_object (same i)

pub fact_itself : (f : SiteFact) → same_fact f f ≡ true
fact_itself none_yet = refl
fact_itself some_yet = refl
fact_itself (of_object s) = tuple_itself s

-- ---- methods and spots

abbrev pub same_method : Option MethodNo → Option MethodNo → Bool
same_method None None = true
same_method None (Some n) = false
same_method (Some m) None = false
same_method (Some m) (Some n) = nat_eq m.0 n.0

pub method_is : (m n : Option MethodNo) → same_method m n ≡ true → m ≡ n
method_is None None e = refl
method_is None (Some n) e = absurd (false≢true e)
method_is (Some m) None e = absurd (false≢true e)
method_is (Some m) (Some n) e = let same = eqb-true m.0 n.0 e in λ i. Some (record { 0 = same i })

pub method_itself : (m : Option MethodNo) → same_method m m ≡ true
method_itself None = refl
method_itself (Some m) = eq-eqb m.0 m.0 refl

abbrev pub same_spot : Spot → Spot → Bool
same_spot (spots.Node o) (spots.Node p) = nat_eq o p
same_spot (spots.Node o) spots.Returned = false
same_spot (spots.Node o) spots.Thrown = false
same_spot spots.Returned (spots.Node p) = false
same_spot spots.Returned spots.Returned = true
same_spot spots.Returned spots.Thrown = false
same_spot spots.Thrown (spots.Node p) = false
same_spot spots.Thrown spots.Returned = false
same_spot spots.Thrown spots.Thrown = true

pub spot_is : (s t : Spot) → same_spot s t ≡ true → s ≡ t
spot_is (spots.Node o) (spots.Node p) e = let same = eqb-true o p e in λ i. spots.Node (same i)
spot_is (spots.Node o) spots.Returned e = absurd (false≢true e)
spot_is (spots.Node o) spots.Thrown e = absurd (false≢true e)
spot_is spots.Returned (spots.Node p) e = absurd (false≢true e)
spot_is spots.Returned spots.Returned e = refl
spot_is spots.Returned spots.Thrown e = absurd (false≢true e)
spot_is spots.Thrown (spots.Node p) e = absurd (false≢true e)
spot_is spots.Thrown spots.Returned e = absurd (false≢true e)
spot_is spots.Thrown spots.Thrown e = refl

pub spot_itself : (s : Spot) → same_spot s s ≡ true
spot_itself (spots.Node o) = eq-eqb o o refl
spot_itself spots.Returned = refl
spot_itself spots.Thrown = refl

-- ---- edges

abbrev pub same_edge : Edge → Edge → Bool
same_edge d e = same_method d.method e.method && (same_spot d.spot e.spot && (same_fact d.entry e.entry && same_fact d.fact e.fact))

pub edge_is : (d e : Edge) → same_edge d e ≡ true → d ≡ e
edge_is d e is =
    let one = and_parts (same_method d.method e.method) (same_spot d.spot e.spot && (same_fact d.entry e.entry && same_fact d.fact e.fact)) is in
    let two = and_parts (same_spot d.spot e.spot) (same_fact d.entry e.entry && same_fact d.fact e.fact) one.1 in
    let three = and_parts (same_fact d.entry e.entry) (same_fact d.fact e.fact) two.1 in
    let method = method_is d.method e.method one.0 in
    let spot = spot_is d.spot e.spot two.0 in
    let entry = fact_is d.entry e.entry three.0 in
    let fact = fact_is d.fact e.fact three.1 in
    λ i. record { method = method i; entry = entry i; spot = spot i; fact = fact i }
