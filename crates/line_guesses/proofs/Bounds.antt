-- What is guessed fits the types in which a program holds it, whatever the bytes are.
use Rattle.std.proofs.Common.{ℕ, zero, suc, ◌+◌, ◌*◌, ◌%◌, ◌<◌, ◌≤◌, Bool, true, false, cond, eqb, nat_le, List, [], ◌∷◌, ◌++◌, length, drop, take, Option, Some, None, arith}
use Rattle.std.specs.List.{AllByRecursion}
use Rattle.std.proofs.lemmas.Bool.Decides.{nat_tests}
use Rattle.jvm_model.specs.declared.number.FieldNo.{FieldNo}
use Rattle.jvm_model.specs.declared.number.MethodNo.{MethodNo}
use Rattle.op_model.specs.declared.node.Spot.{Spot}
use Rattle.op_model.specs.declared.node.Spot.TheVariants as spots
use Rattle.access_paths.specs.declared.fields.Fields.{Fields}
use Rattle.access_paths.specs.declared.fields.Fields.TheVariants.{Zero, One, Two, Three}
use Rattle.access_paths.specs.declared.root.Root.{Root}
use Rattle.access_paths.specs.declared.root.Root.TheVariants as roots
use Rattle.access_paths.specs.Followed.{listed}
use Rattle.access_paths.specs.Paths.{Path, comes_before, path_key, same_path, with_path}
use Rattle.access_paths.proofs.SetMembers.{front_ordered, with_ordered}
use Rattle.stage_facts.specs.declared.plain.PlainFact.{PlainFact}
use Rattle.stage_facts.specs.declared.plain.PlainFact.TheVariants as plain
use Rattle.certificate_lines.specs.declared.line.Holder.{Holder}
use Rattle.certificate_lines.specs.declared.line.Holder.TheVariants as holders
use Rattle.certificate_lines.specs.declared.line.Line.{Line}
use Rattle.certificate_lines.specs.declared.line.Line.TheVariants as lines
use Rattle.line_guesses.specs.Guess.{by_second, byte_at, claim_or_class, content_at, digit_count, edge_at, entry_or_end, event_at, fact_at, field_at, fields_at, first_byte, hex_value, holder_at, line_at, method_at, modifies_at, more_at, name_at, name_on, number_at, parameter_at, path_at, paths_at, plain_at, plain_holder_at, points_to_at, read_on, root_at, second_at, site_at, site_field_at, slot_at, small_at, spot_at, states_on, tuple_at, within}
use Rattle.line_guesses.specs.Fits.{AreBytes, Fits, FitsEdge, FitsEvent, FitsFact, FitsField, FitsHolder, FitsMethod, FitsPath, FitsRoot, FitsSet, FitsSite, FitsSpot}

either : {X : Type 0} (P : X → Type 0) (b : Bool) (x y : X) → P x → P y → P (cond b x y)
either P true x y p q = p
either P false x y p q = q

-- ---- numbers and names

within_below : (limit n : ℕ) → 0 < limit → within limit n < limit
within_below limit n l = grind (arith, nat_tests, l)

number_below : (bytes : List ℕ) → (number_at bytes).0 < 4294967296
unfolding number_at
number_below bytes =
    either (λ (p : ℕ × List ℕ). p.0 < 4294967296) (nat_le (digit_count bytes) 10) (within 4294967296 (read_on 0 (take (digit_count bytes) bytes)), drop (digit_count bytes) bytes) (0, bytes)
    (within_below 4294967296 (read_on 0 (take (digit_count bytes) bytes)) (omega arith)) (omega arith)

small_below : (bytes : List ℕ) → (small_at bytes).0 < 256
unfolding small_at
small_below bytes = within_below 256 (number_at bytes).0 (omega arith)

rest_below : (n : ℕ) → n % 256 < 256
rest_below n = omega arith

byte_below : (bytes : List ℕ) → (byte_at bytes).0 < 256
unfolding byte_at
byte_below bytes =
    let n = 16 * hex_value (first_byte (drop 2 bytes)) + hex_value (first_byte (drop 3 bytes)) in
    either (λ (p : ℕ × List ℕ). p.0 < 256) (eqb (first_byte bytes) 92) (n % 256, drop 4 bytes) (within 256 (first_byte bytes), drop 1 bytes) (rest_below n)
    (within_below 256 (first_byte bytes) (omega arith))

push_byte : (name : List ℕ) (b : ℕ) → AreBytes name → b < 256 → AreBytes (name ++ b ∷ [])
push_byte [] b is l = (l, tt)
push_byte (c ∷ name) b is l = (is.0, push_byte name b is.1 l)

names_below : (k : ℕ) (name bytes : List ℕ) → AreBytes name → AreBytes (name_on k name bytes).0
unfolding name_on
names_below zero name bytes is = is
names_below (suc k) name bytes is =
    let b = byte_at bytes in
    either (λ (p : List ℕ × List ℕ). AreBytes p.0) (nat_le (first_byte bytes) 32) (name, bytes) (name_on k (name ++ b.0 ∷ []) b.1) is
    (names_below k (name ++ b.0 ∷ []) b.1 (push_byte name b.0 is (byte_below bytes)))

name_below : (bytes : List ℕ) → AreBytes (name_at bytes).0
unfolding name_at
name_below bytes = names_below (length bytes) [] bytes tt

-- ---- sites

method_below : (bytes : List ℕ) → FitsMethod (method_at bytes).0
unfolding method_at
method_below bytes =
    let n = number_at bytes in
    either (λ (p : Option MethodNo × List ℕ). FitsMethod p.0) (eqb (first_byte bytes) 98) (None, drop 4 bytes) (Some (record { 0 = n.0 }), n.1) tt (number_below bytes)

site_below : (bytes : List ℕ) → FitsSite (site_at bytes).0
unfolding site_at
site_below bytes =
    let method = method_at (drop 2 bytes) in
    let offset = number_at (drop 1 method.1) in
    record { method = method_below (drop 2 bytes); offset = number_below (drop 1 method.1); class = name_below (drop 1 offset.1) }

-- ---- paths

root_below : (bytes : List ℕ) → FitsRoot (root_at bytes).0
unfolding root_at
root_below bytes =
    let P : Root × List ℕ → Type 0 = λ p. FitsRoot p.0 in
    let n = number_at (drop 1 bytes) in
    let l = number_below (drop 1 bytes) in
    let thrown : Root × List ℕ = cond (eqb (first_byte bytes) 114) (roots.Returned, drop 3 bytes) (roots.Thrown, drop 3 bytes) in
    let static : Root × List ℕ = cond (eqb (first_byte bytes) 115) (roots.Static (record { 0 = n.0 }), n.1) thrown in
    either P (eqb (first_byte bytes) 118) (roots.Slot n.0, n.1) static l
    (either P (eqb (first_byte bytes) 115) (roots.Static (record { 0 = n.0 }), n.1) thrown l
    (either P (eqb (first_byte bytes) 114) (roots.Returned, drop 3 bytes) (roots.Thrown, drop 3 bytes) tt tt))

field_below : (bytes : List ℕ) → FitsField (field_at bytes).0
unfolding field_at
field_below bytes = number_below (drop 1 bytes)

abbrev FitFields : Fields → Type 0
FitFields fs = AllByRecursion FitsField (listed fs)

second_below : (f : FieldNo) (bytes : List ℕ) → FitsField f → FitFields (second_at f bytes).0
unfolding second_at
second_below f bytes l =
    let P : Fields × List ℕ → Type 0 = λ p. FitFields p.0 in
    let g = field_at bytes in
    let h = field_at g.1 in
    let more : Fields × List ℕ = cond (eqb (first_byte g.1) 46) (Three f g.0 h.0, h.1) (Two f g.0, g.1) in
    either P (eqb (first_byte bytes) 46) more (One f, bytes)
    (either P (eqb (first_byte g.1) 46) (Three f g.0 h.0, h.1) (Two f g.0, g.1) (l, (field_below bytes, (field_below g.1, tt))) (l, (field_below bytes, tt))) (l, tt)

fields_below : (bytes : List ℕ) → FitFields (fields_at bytes).0
unfolding fields_at
fields_below bytes =
    let f = field_at bytes in
    either (λ (p : Fields × List ℕ). FitFields p.0) (eqb (first_byte bytes) 46) (second_at f.0 f.1) (Zero, bytes) (second_below f.0 f.1 (field_below bytes)) tt

few_fields : (fs : Fields) → length (listed fs) ≤ 3
few_fields Zero = omega arith
few_fields (One f) = omega arith
few_fields (Two f g) = omega arith
few_fields (Three f g h) = omega arith

path_below : (bytes : List ℕ) → FitsPath (path_at bytes).0
unfolding path_at
path_below bytes =
    let root = root_at bytes in
    record { root = root_below bytes; fields = fields_below root.1; few = few_fields (fields_at root.1).0 }

with_below : (x : Path) (set : List Path) → FitsPath x → AllByRecursion FitsPath set → AllByRecursion FitsPath (with_path x set)
with_below x [] p is = (p, tt)
with_below x (y ∷ ys) p is =
    let P : List Path → Type 0 = AllByRecursion FitsPath in
    either P (comes_before (path_key x) (path_key y)) (x ∷ y ∷ ys) (cond (same_path x y) (y ∷ ys) (y ∷ with_path x ys)) (p, is)
    (either P (same_path x y) (y ∷ ys) (y ∷ with_path x ys) is (is.0, with_below x ys p is.1))

front_below : (n : ℕ) (set : List Path) → AllByRecursion FitsPath set → AllByRecursion FitsPath (take n set)
front_below zero [] is = tt
front_below zero (x ∷ xs) is = tt
front_below (suc n) [] is = tt
front_below (suc n) (x ∷ xs) is = (is.0, front_below n xs is.1)

front_few : (n : ℕ) (set : List Path) → length (take n set) ≤ n
front_few zero [] = omega arith
front_few zero (x ∷ xs) = omega arith
front_few (suc n) [] = omega arith
front_few (suc n) (x ∷ xs) = let l = front_few n xs in omega (arith, l)

grown : (x : Path) (set : List Path) → FitsPath x → FitsSet set → FitsSet (take 6 (with_path x set))
grown x set p is = record {
  each = front_below 6 (with_path x set) (with_below x set p is.each);
  ordered = record { ordered = front_ordered 6 (with_path x set) (with_ordered x set is.ordered.ordered); few = front_few 6 (with_path x set) };
}

more_below : (k : ℕ) (set : List Path) (bytes : List ℕ) → FitsSet set → FitsSet (more_at k set bytes).0
unfolding more_at
more_below zero set bytes is = is
more_below (suc k) set bytes is =
    let p = path_at (drop 1 bytes) in
    let next = take 6 (with_path p.0 set) in
    either (λ (q : List Path × List ℕ). FitsSet q.0) (eqb (first_byte bytes) 44) (more_at k next p.1) (set, bytes)
    (more_below k next p.1 (grown p.0 set (path_below (drop 1 bytes)) is)) is

no_paths : FitsSet []
no_paths = record { each = tt; ordered = record { ordered = tt; few = omega arith } }

paths_below : (bytes : List ℕ) → FitsSet (paths_at bytes).0
unfolding paths_at
paths_below bytes =
    let p = path_at bytes in
    let one : FitsSet (p.0 ∷ []) = grown p.0 [] (path_below bytes) no_paths in
    either (λ (q : List Path × List ℕ). FitsSet q.0) (eqb (first_byte bytes) 45) ([], drop 1 bytes) (more_at 5 (p.0 ∷ []) p.1) no_paths (more_below 5 (p.0 ∷ []) p.1 one)

-- ---- facts and edges

tuple_below : (bytes : List ℕ) → FitsFact (tuple_at bytes).0
unfolding tuple_at
tuple_below bytes =
    let state = small_at (drop 4 bytes) in
    let must = paths_at (drop 3 state.1) in
    record { state = small_below (drop 4 bytes); must = paths_below (drop 3 state.1); must_not = paths_below (drop 1 must.1) }

fact_below : (bytes : List ℕ) → FitsFact (fact_at bytes).0
unfolding fact_at
fact_below bytes =
    let P : PlainFact × List ℕ → Type 0 = λ p. FitsFact p.0 in
    either P (eqb (first_byte bytes) 110) (plain.NoneYet, drop 4 bytes) (cond (eqb (first_byte bytes) 115) (plain.SomeYet, drop 4 bytes) (tuple_at bytes)) tt
    (either P (eqb (first_byte bytes) 115) (plain.SomeYet, drop 4 bytes) (tuple_at bytes) tt (tuple_below bytes))

spot_below : (bytes : List ℕ) → FitsSpot (spot_at bytes).0
unfolding spot_at
spot_below bytes =
    let P : Spot × List ℕ → Type 0 = λ p. FitsSpot p.0 in
    let n = number_at bytes in
    either P (eqb (first_byte bytes) 114) (spots.Returned, drop 3 bytes) (cond (eqb (first_byte bytes) 101) (spots.Thrown, drop 3 bytes) (spots.Node n.0, n.1)) tt
    (either P (eqb (first_byte bytes) 101) (spots.Thrown, drop 3 bytes) (spots.Node n.0, n.1) tt (number_below bytes))

edge_below : (bytes : List ℕ) → FitsEdge (edge_at bytes).0
unfolding edge_at
edge_below bytes =
    let stage = small_at bytes in
    let site = site_at (drop 1 stage.1) in
    let method = method_at (drop 1 site.1) in
    let entry = fact_at (drop 1 method.1) in
    let spot = spot_at (drop 1 entry.1) in
    record {
      stage = small_below bytes;
      site = site_below (drop 1 stage.1);
      method = method_below (drop 1 site.1);
      entry = fact_below (drop 1 method.1);
      spot = spot_below (drop 1 entry.1);
      fact = fact_below (drop 1 spot.1);
    }

-- ---- holders

slot_below : (bytes : List ℕ) → FitsHolder (slot_at bytes).0
unfolding slot_at
slot_below bytes =
    let method = number_at bytes in
    let offset = number_at (drop 1 method.1) in
    (number_below bytes, (number_below (drop 1 method.1), number_below (drop 1 offset.1)))

parameter_below : (bytes : List ℕ) → FitsHolder (parameter_at bytes).0
unfolding parameter_at
parameter_below bytes = (number_below bytes, number_below (drop 1 (number_at bytes).1))

site_field_below : (bytes : List ℕ) → FitsHolder (site_field_at bytes).0
unfolding site_field_at
site_field_below bytes = (site_below bytes, number_below (drop 1 (site_at bytes).1))

plain_holder_below : (bytes : List ℕ) → FitsHolder (plain_holder_at bytes).0
unfolding plain_holder_at
plain_holder_below bytes =
    let P : Holder × List ℕ → Type 0 = λ p. FitsHolder p.0 in
    let n = number_at (drop 2 bytes) in
    let l = number_below (drop 2 bytes) in
    let thrown : Holder × List ℕ = (holders.Thrown (record { 0 = n.0 }), n.1) in
    let returned : Holder × List ℕ = (holders.Returned (record { 0 = n.0 }), n.1) in
    let static : Holder × List ℕ = (holders.Static (record { 0 = n.0 }), n.1) in
    let by_return : Holder × List ℕ = cond (eqb (first_byte bytes) 114) returned thrown in
    let by_static : Holder × List ℕ = cond (eqb (first_byte bytes) 115) static by_return in
    either P (eqb (first_byte bytes) 107) (holders.Kept, drop 1 bytes) by_static tt
    (either P (eqb (first_byte bytes) 115) static by_return l (either P (eqb (first_byte bytes) 114) returned thrown l l))

holder_below : (bytes : List ℕ) → FitsHolder (holder_at bytes).0
unfolding holder_at
holder_below bytes =
    let P : Holder × List ℕ → Type 0 = λ p. FitsHolder p.0 in
    let b = drop 2 bytes in
    let elements : Holder × List ℕ = (holders.Elements (site_at b).0, (site_at b).1) in
    let by_elements : Holder × List ℕ = cond (eqb (first_byte bytes) 97) elements (plain_holder_at bytes) in
    let by_field : Holder × List ℕ = cond (eqb (first_byte bytes) 102) (site_field_at b) by_elements in
    let by_parameter : Holder × List ℕ = cond (eqb (first_byte bytes) 112) (parameter_at b) by_field in
    either P (eqb (first_byte bytes) 118) (slot_at b) by_parameter (slot_below b)
    (either P (eqb (first_byte bytes) 112) (parameter_at b) by_field (parameter_below b)
    (either P (eqb (first_byte bytes) 102) (site_field_at b) by_elements (site_field_below b)
    (either P (eqb (first_byte bytes) 97) elements (plain_holder_at bytes) (site_below b) (plain_holder_below bytes))))

-- ---- lines

states_below : (k : ℕ) (states bytes : List ℕ) → AreBytes states → AreBytes (states_on k states bytes).0
unfolding states_on
states_below zero states bytes is = is
states_below (suc k) states bytes is =
    let q = small_at (drop 1 bytes) in
    either (λ (p : List ℕ × List ℕ). AreBytes p.0) (eqb (first_byte bytes) 32) (states_on k (states ++ q.0 ∷ []) q.1) (states, bytes)
    (states_below k (states ++ q.0 ∷ []) q.1 (push_byte states q.0 is (small_below (drop 1 bytes)))) is

event_below : (bytes : List ℕ) → FitsEvent (event_at bytes).0
unfolding event_at
event_below bytes =
    let name = name_at bytes in
    let descriptor = name_at (drop 1 name.1) in
    record { name = name_below bytes; descriptor = name_below (drop 1 name.1); next = states_below (length descriptor.1) [] descriptor.1 tt }

abbrev FitsFront : Line × List ℕ → Type 0
FitsFront p = Fits p.0

claim_or_class_below : (bytes : List ℕ) → FitsFront (claim_or_class bytes)
unfolding claim_or_class
claim_or_class_below bytes =
    let stage = small_at (drop 6 bytes) in
    let site = site_at (drop 1 stage.1) in
    let name = name_at (drop 6 bytes) in
    either FitsFront (eqb (first_byte (drop 3 bytes)) 105) (lines.Claim stage.0 site.0, site.1) (lines.Class name.0, name.1)
    (small_below (drop 6 bytes), site_below (drop 1 stage.1)) (name_below (drop 6 bytes))

entry_or_end_below : (bytes : List ℕ) → FitsFront (entry_or_end bytes)
unfolding entry_or_end
entry_or_end_below bytes =
    let n = number_at (drop 6 bytes) in
    either FitsFront (eqb (first_byte (drop 2 bytes)) 116) (lines.Entry (record { 0 = n.0 }), n.1) (lines.End, drop 3 bytes) (number_below (drop 6 bytes)) tt

by_second_below : (bytes : List ℕ) → FitsFront (by_second bytes)
unfolding by_second
by_second_below bytes =
    let edge = edge_at (drop 5 bytes) in
    let event = event_at (drop 6 bytes) in
    let q = small_at (drop 6 bytes) in
    let second = first_byte (drop 1 bytes) in
    let by_error : Line × List ℕ = cond (eqb second 114) (lines.Error q.0, q.1) (entry_or_end bytes) in
    let by_event : Line × List ℕ = cond (eqb second 118) (lines.Event event.0, event.1) by_error in
    either FitsFront (eqb second 100) (lines.PathEdge edge.0, edge.1) by_event (edge_below (drop 5 bytes))
    (either FitsFront (eqb second 118) (lines.Event event.0, event.1) by_error (event_below (drop 6 bytes))
    (either FitsFront (eqb second 114) (lines.Error q.0, q.1) (entry_or_end bytes) (small_below (drop 6 bytes)) (entry_or_end_below bytes)))

points_to_below : (bytes : List ℕ) → FitsFront (points_to_at bytes)
unfolding points_to_at
points_to_below bytes = (holder_below bytes, site_below (drop 1 (holder_at bytes).1))

modifies_below : (bytes : List ℕ) → FitsFront (modifies_at bytes)
unfolding modifies_at
modifies_below bytes = (number_below bytes, number_below (drop 1 (number_at bytes).1))

plain_below : (bytes : List ℕ) → FitsFront (plain_at bytes)
unfolding plain_at
plain_below bytes =
    let first = first_byte bytes in
    let q = small_at (drop 8 bytes) in
    let k = small_at (drop 6 bytes) in
    let n = number_at (drop 8 bytes) in
    let by_reached : Line × List ℕ = cond (eqb first 114) (lines.Reached (record { 0 = n.0 }), n.1) (modifies_at (drop 5 bytes)) in
    let by_depth : Line × List ℕ = cond (eqb first 100) (lines.Depth k.0, k.1) by_reached in
    let by_initial : Line × List ℕ = cond (eqb first 105) (lines.Initial q.0, q.1) by_depth in
    either FitsFront (eqb first 116) (lines.Version, drop 23 bytes) by_initial tt
    (either FitsFront (eqb first 105) (lines.Initial q.0, q.1) by_depth (small_below (drop 8 bytes))
    (either FitsFront (eqb first 100) (lines.Depth k.0, k.1) by_reached (small_below (drop 6 bytes))
    (either FitsFront (eqb first 114) (lines.Reached (record { 0 = n.0 }), n.1) (modifies_at (drop 5 bytes)) (number_below (drop 8 bytes)) (modifies_below (drop 5 bytes)))))

content_below : (bytes : List ℕ) → FitsFront (content_at bytes)
unfolding content_at
content_below bytes =
    let first = first_byte bytes in
    let name = name_at (drop 6 bytes) in
    let by_state : Line × List ℕ = cond (eqb first 115) (lines.State name.0, name.1) (plain_at bytes) in
    let by_points : Line × List ℕ = cond (eqb first 112) (points_to_at (drop 4 bytes)) by_state in
    let by_claim : Line × List ℕ = cond (eqb first 99) (claim_or_class bytes) by_points in
    either FitsFront (eqb first 101) (by_second bytes) by_claim (by_second_below bytes)
    (either FitsFront (eqb first 99) (claim_or_class bytes) by_points (claim_or_class_below bytes)
    (either FitsFront (eqb first 112) (points_to_at (drop 4 bytes)) by_state (points_to_below (drop 4 bytes))
    (either FitsFront (eqb first 115) (lines.State name.0, name.1) (plain_at bytes) (name_below (drop 6 bytes)) (plain_below bytes))))

pub line_below : (bytes : List ℕ) → Fits (line_at bytes).0
unfolding line_at
line_below bytes = content_below bytes
