-- What holds of the parts of a program when it is put together.
use Rattle.std.proofs.Common.{◌≡◌, ◌≢◌, ℕ, zero, suc, ◌<◌, ◌+◌, false, List, [], ◌∷◌, length, map, get_or, Contains, All, AllPairs, Option, Some, None, Err, unwrap_or, refl, sym, ap, ◌∙◌, subst, inl, inr, arith}
use Rattle.std.specs.List.{slice_get}
use Rattle.std.specs.List.Sorted.{IsSorted}
use Rattle.std.specs.Option.{option_to_list}
use Rattle.std.specs.Ordering.{nat_cmp, is_lt, is_eq, ordering_reverse}
use Rattle.std.specs.Cmp.Lexicographic.{slice_cmp}
use Rattle.std.specs.declared.cmp.Ordering.{Ordering}
use Rattle.std.specs.declared.cmp.Ordering.TheVariants.{Less, Equal, Greater}
use Rattle.std.proofs.lemmas.Bool.{false≢true}
use Rattle.std.proofs.lemmas.Cmp.{nat_list_cmp_total}
use Rattle.std.proofs.lemmas.List.Elements.{All-contains, All-cons, All-nil}
use Rattle.std.proofs.lemmas.List.{length-map}
use Rattle.std.proofs.lemmas.Map.Text.{is_eq-slice_cmp}
use Rattle.std.proofs.lemmas.Option.{same_Some, none-some, slice_get_within, slice_get-get_or}
use Rattle.std.proofs.lemmas.Slice.Eq.{bytes_eq-Decides}
use Rattle.jvm_model.specs.declared.program.Origin.{Origin}
use Rattle.jvm_model.specs.declared.program.Origin.TheVariants.{Folder, Stub}
use Rattle.jvm_model.specs.declared.reason.Refusal.{Refusal}
use Rattle.jvm_model.specs.declared.reason.Reason.TheVariants.{Cycle}
use Rattle.jvm_model.specs.Linking.{AreMet, IsFirstUnmet, Meets, Claim, Demand, no_cycle, reason_of, class_from, cycle_claim, names, program_from}
use Rattle.jvm_model.specs.LinkedPrograms.{class_names, HasSupers, IsProgram}
use Rattle.jvm_model.specs.Programs.{Class, Program}
use Rattle.jvm_model.specs.Subtypes.{class_named, IsCyclic}
use Rattle.failure.specs.declared.Failure.{Failure}
use Rattle.program_model.specs.declared.link_failure.LinkFault.{LinkFault}
use Rattle.failure.specs.declared.Failure.TheVariants.{Cause, OutOfMemory}
use Rattle.program_model.specs.declared.link_failure.LinkFault.TheVariants.{Refused, TooMany}
use Rattle.program_index.specs.declared.parents.Parents.{Parents}
use Rattle.program_model.specs.Assembling.{Assembles, IsCycleFailure}
use Rattle.program_model.specs.ByteOrder.{IsAscending}
use Rattle.program_model.specs.Numbering.{name_in, AreParents, HasNames, IsParents}
use Rattle.program_model.specs.Origins.{IsSoundOrigin}
use Rattle.program_index.specs.Supertypes.{AreInRange, IsAbove, direct_of}
use Rattle.program_index.specs.UpwardOrder.{HasNoCycle, IsLeastOnCycle}
use Rattle.program_model.specs.Whole.{IsLinkable}
use Rattle.program_model.proofs.Bridges.{names_are, named_number, cyclic_to_names, cyclic_to_numbers, zip_from, zip_length}
use Rattle.program_index.proofs.ListPlaces.{at_map, map_at}
use Rattle.program_index.proofs.OrderPlaces.{place_of, contains_at, stands_below}
use Rattle.program_model.proofs.Ordered.{ascending_by_neighbours}
use Rattle.program_model.proofs.SoundBodies.{names_sound, bodies_sound, entries_sound}
use Rattle.program_model.proofs.SoundMembers.{members_differ, methods_there, fields_there}

cmp : List ℕ → List ℕ → Ordering
cmp = slice_cmp nat_cmp

-- names that do not fall and differ ascend
less_from : (x y : List ℕ) → is_lt (slice_cmp nat_cmp y x) ≡ false → x ≢ y → slice_cmp nat_cmp x y ≡ Less
less_from x y not_less differ = by (slice_cmp nat_cmp y x) refl
  where
    by : (o : Ordering) → slice_cmp nat_cmp y x ≡ o → slice_cmp nat_cmp x y ≡ Less
    by Less e = absurd (false≢true (sym not_less ∙ ap is_lt e))
    by Equal e = absurd (differ (sym ((bytes_eq-Decides y x).0 (sym (is_eq-slice_cmp y x) ∙ ap is_eq e))))
    by Greater e = nat_list_cmp_total.antisymm x y ∙ ap ordering_reverse e

pub ascending : (order : List Origin) → IsLinkable order → IsAscending (names order)
ascending order l = ascending_by_neighbours (names order)
    (λ k d within. less_from (get_or (names order) k d) (get_or (names order) (k + 1) d) (l.sorted k d (omega arith) within) (l.differ k (k + 1) d (omega arith) within))

-- each supertype is named
there_named : (order : List Origin) (name : List ℕ) (c : Class) → class_named (program_from order) name ≡ Some c → Contains (names order) name
there_named order name c e =
    let k = named_number order name c e in
    let p = stands_below (names order) k.0 k.1.below in
    subst (λ (n : List ℕ). Contains (names order) n) (ap (λ (o : Option (List ℕ)). unwrap_or o []) (sym p.1) ∙ k.1.name ∙ k.2) (contains_at (names order) k.0 p.0 p.1)

pub all_from : {X : Type 0} (P : X → Type 0) (xs : List X) → ((x : X) → Contains xs x → P x) → All P xs
all_from P xs h k d lt = h (get_or xs k d) (contains_at xs k (get_or xs k d) (slice_get-get_or xs k d lt))

pub supers_named : (order : List Origin) → IsLinkable order → (o : Origin) → Contains order o → HasNames (names order) (class_from o)
supers_named order l o among =
    let p = place_of order o among in
    let there : Contains (program_from order).classes (class_from o) = contains_at (program_from order).classes p.0 (class_from o) (at_map class_from order p.0 o p.1) in
    let has = All-contains (HasSupers (program_from order)) (program_from order).classes (class_from o) l.supers there in
    record {
      super_class = of_super (class_from o).super_class refl has;
      interfaces = all_from (Contains (names order)) (class_from o).interfaces (λ name h. let above = has.interfaces name h in there_named order name above.0 above.1);
    }
  where
    of_super : (s : Option (List ℕ)) → (class_from o).super_class ≡ s → HasSupers (program_from order) (class_from o) → All (Contains (names order)) (option_to_list s)
    of_super None e has = All-nil (Contains (names order))
    of_super (Some name) e has = let above = has.superclass name e in All-cons (Contains (names order)) name [] (there_named order name above.0 above.1) (All-nil (Contains (names order)))

-- there are as many names as classes
pub size_of_names : (order : List Origin) (parents : List Parents) → AreParents order parents → length (names order) ≡ length parents
size_of_names order parents are = let first = length-map order (λ (o : Origin). (class_from o).name) in let second = zip_length _ order parents are in omega (arith, first, second)

-- the numbers are those of classes
pub in_range : (order : List Origin) (parents : List Parents) → AreParents order parents → AreInRange parents
in_range order parents are = record {
  below = all_from (λ (q : Parents). All (λ (y : ℕ). y < length parents) (direct_of q)) parents (λ q among.
      let p = place_of parents q among in
      let o = zip_from (λ (o : Origin) (r : Parents). IsParents (names order) (class_from o) r) order parents p.0 q are p.1 in
      subst (λ (n : ℕ). All (λ (y : ℕ). y < n) (direct_of q)) (size_of_names order parents are) o.2.below);
}

-- ---- classes that are above themselves

named_demand : (o : Origin) → (cycle_claim o).demand ≡ no_cycle (class_from o).name
named_demand (Folder f natives) = refl
named_demand (Stub c) = refl

first_unmet_at : (p : Program) (all : List Claim) (k : ℕ) (c : Claim) → slice_get all k ≡ Some c → ((j : ℕ) (d : Claim) → j < k → slice_get all j ≡ Some d → Meets p d.demand) → (Meets p c.demand → ⊥)
    → (refusal : Refusal) → refusal ≡ record { file = c.file; offset = c.offset; reason = reason_of c.demand } → IsFirstUnmet p refusal all
first_unmet_at p [] k c e before unmet refusal is = absurd (none-some c e)
first_unmet_at p (d ∷ all) zero c e before unmet refusal is =
    let same : d ≡ c = same_Some d c e in
    inl (subst (λ (x : Claim). Meets p x.demand → ⊥) (sym same) unmet, is ∙ ap (λ (x : Claim). record { file = x.file; offset = x.offset; reason = reason_of x.demand }) (sym same))
first_unmet_at p (d ∷ all) (suc k) c e before unmet refusal is =
    inr (before 0 d (omega arith) refl, first_unmet_at p all k c e (λ j x lt f. before (suc j) x (omega (arith, lt)) f) unmet refusal is)

name_at_place : (order : List Origin) (k : ℕ) (o : Origin) → slice_get order k ≡ Some o → name_in (names order) k ≡ (class_from o).name
name_at_place order k o e = ap (λ (x : Option (List ℕ)). unwrap_or x []) (at_map (λ (q : Origin). (class_from q).name) order k o e)

below_names : (order : List Origin) (k : ℕ) (o : Origin) → slice_get order k ≡ Some o → k < length (names order)
below_names order k o e = slice_get_within (names order) k (class_from o).name (at_map (λ (q : Origin). (class_from q).name) order k o e)

module _ (order : List Origin) (parents : List Parents) (differ : AllPairs (λ x y. x ≢ y) (names order)) (are : AreParents order parents) where
  abbrev p : Program
  p = program_from order

  met_where : (k : ℕ) (o : Origin) → slice_get order k ≡ Some o → (IsAbove parents k k → ⊥) → Meets p (cycle_claim o).demand
  met_where k o e none =
      subst (Meets p) (sym (named_demand o))
      (λ (c : IsCyclic p (class_from o).name). none (cyclic_to_numbers order parents differ are k (below_names order k o e) (subst (IsCyclic p) (sym (name_at_place order k o e)) c)))

  pub first_cycle : (k : ℕ) (o : Origin) → slice_get order k ≡ Some o → IsLeastOnCycle parents k → (refusal : Refusal)
      → refusal ≡ record { file = (cycle_claim o).file; offset = (cycle_claim o).offset; reason = Cycle } → IsFirstUnmet p refusal (map cycle_claim order)
  first_cycle k o e least refusal is =
      first_unmet_at p (map cycle_claim order) k (cycle_claim o) (at_map cycle_claim order k o e) before unmet refusal (is ∙ ap (λ (d : Demand). record { file = (cycle_claim o).file; offset = (cycle_claim o).offset; reason = reason_of d }) (sym (named_demand o)))
    where
      before : (j : ℕ) (d : Claim) → j < k → slice_get (map cycle_claim order) j ≡ Some d → Meets p d.demand
      before j d lt f =
          let q = map_at cycle_claim order j d f in
          subst (λ (x : Claim). Meets p x.demand) q.2 (met_where j q.0 q.1 (λ (a : IsAbove parents j j). let more = least.least j a in absurd (omega (arith, more, lt))))

      unmet : Meets p (cycle_claim o).demand → ⊥
      unmet m = subst (Meets p) (named_demand o) m (subst (IsCyclic p) (name_at_place order k o e) (cyclic_to_names order parents differ are k least.cyclic))

  pub all_met : HasNoCycle parents → AreMet p (map cycle_claim order)
  all_met none = all_from (λ (c : Claim). Meets p c.demand) (map cycle_claim order) (λ c among.
      let place = place_of (map cycle_claim order) c among in
      let o = map_at cycle_claim order place.0 c place.1 in
      subst (λ (x : Claim). Meets p x.demand) o.2 (met_where place.0 o.0 o.1 (none.none place.0)))

  pub acyclic : HasNoCycle parents → (name : List ℕ) → Contains (class_names p) name → IsCyclic p name → ⊥
  acyclic none name among c =
      let place = place_of (names order) name (subst (λ (ns : List (List ℕ)). Contains ns name) (names_are order) among) in
      let here : name_in (names order) place.0 ≡ name = ap (λ (x : Option (List ℕ)). unwrap_or x []) place.1 in
      none.none place.0 (cyclic_to_numbers order parents differ are place.0 (slice_get_within (names order) place.0 name place.1) (subst (IsCyclic p) (sym here) c))

  names_differ : AllPairs (λ x y. x ≢ y) (class_names p)
  names_differ = subst (λ (ns : List (List ℕ)). AllPairs (λ x y. x ≢ y) ns) (sym (names_are order)) differ

  pub is_program : All IsSoundOrigin order → IsLinkable order → HasNoCycle parents → IsProgram p
  is_program sound l none = record {
    sorted = subst (IsSorted (slice_cmp nat_cmp)) (sym (names_are order)) l.sorted;
    named = names_sound order sound;
    differ = names_differ;
    supers = l.supers;
    acyclic = acyclic none;
    methods = methods_there order;
    fields = fields_there order;
    members = members_differ order sound names_differ;
    bodies = bodies_sound order sound;
    entries = entries_sound order sound;
    mentioned = l.mentioned;
    holds = l.holds;
  }

  -- the refusal of the least class on a cycle is the first
  pub cycle_told : (k : ℕ) (o : Origin) → slice_get order k ≡ Some o → IsLeastOnCycle parents k → (end : Failure LinkFault) → IsCycleFailure o end → Assembles order (Err end)
  cycle_told k o e least (Cause (Refused refusal)) is = first_cycle k o e least refusal is
  cycle_told k o e least (Cause TooMany) is = absurd is
  cycle_told k o e least OutOfMemory is = tt

pub supers_all : (order : List Origin) → IsLinkable order → All (λ (o : Origin). HasNames (names order) (class_from o)) order
supers_all order l = all_from (λ (o : Origin). HasNames (names order) (class_from o)) order (supers_named order l)

-- what a sound list has
pub sound_at : (order : List Origin) (k : ℕ) (o : Origin) → All IsSoundOrigin order → k < length order → o ≡ get_or order k o → IsSoundOrigin o
sound_at order k o sound lt e = subst IsSoundOrigin (sym e) (sound k o lt)
