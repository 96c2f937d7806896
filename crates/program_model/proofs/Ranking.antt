-- The ranks of names: the places of their classes in an upward order.
use Rattle.std.proofs.Common.{◌≡◌, ◌≢◌, ℕ, ◌<◌, ◌≤◌, List, [], length, get_or, AllPairs, inl, inr, sym, ap, ◌∙◌, subst, arith}
use Rattle.std.specs.List.{position_or_len}
use Rattle.std.specs.Str.{bytes_eq}
use Rattle.std.proofs.lemmas.Bool.{cases_lt, false≢true}
use Rattle.std.proofs.lemmas.List.Sums.{fails_before_first, passes_at_first}
use Rattle.std.proofs.lemmas.Option.{slice_get_within, unwrap_or-slice_get}
use Rattle.std.proofs.lemmas.Slice.Eq.{bytes_eq-Decides}
use Rattle.jvm_model.specs.declared.program.Origin.{Origin}
use Rattle.jvm_model.specs.Linking.{names, program_from}
use Rattle.program_index.specs.declared.parents.Parents.{Parents}
use Rattle.program_model.specs.Numbering.{name_in, AreParents}
use Rattle.program_model.specs.Ranks.{IsRanked}
use Rattle.program_index.specs.UpwardOrder.{HasOrder}
use Rattle.program_model.proofs.Bridges.{one_name, at_number, numbered, number_of_super}
use Rattle.program_index.proofs.ClassLists.{at_most_size}
use Rattle.program_index.proofs.Gathering.{place_in, first_place, place_falls}
use Rattle.program_index.proofs.OrderPlaces.{place_of}

-- the first place of a name
abbrev number_in : List (List ℕ) → List ℕ → ℕ
number_in all name = position_or_len (bytes_eq name) all

-- names that differ stand at their first place
number_is : (all : List (List ℕ)) → AllPairs (λ x y. x ≢ y) all → (k : ℕ) → k < length all → number_in all (name_in all k) ≡ k
number_is all differ k below =
    let read : get_or all k [] ≡ name_in all k = sym (unwrap_or-slice_get all k []) in
    let first : number_in all (name_in all k) ≤ k = elim (cases_lt k (number_in all (name_in all k))) [
      | inl l ↦ absurd (false≢true (sym (fails_before_first (bytes_eq (name_in all k)) all k [] l) ∙ (bytes_eq-Decides (name_in all k) (get_or all k [])).1 (sym read)))
      | inr l ↦ l
    ] in
    let within : number_in all (name_in all k) < length all = omega (arith, first, below) in
    let same = (bytes_eq-Decides (name_in all k) (get_or all (number_in all (name_in all k)) [])).0 (passes_at_first (bytes_eq (name_in all k)) all [] within) in
    one_name all differ (number_in all (name_in all k)) k within below (unwrap_or-slice_get all (number_in all (name_in all k)) [] ∙ sym same)

pub ranked : (order : List Origin) (parents : List Parents) (differ : AllPairs (λ x y. x ≢ y) (names order)) (are : AreParents order parents) → HasOrder parents
    → length (program_from order).classes ≡ length parents → IsRanked (program_from order)
ranked order parents differ are up size = record {
  rank = λ name. place_in up.0 (number_in (names order) name);
  falls = λ c name among direct.
      let there = place_of (program_from order).classes c among in
      let class = at_number order there.0 c there.1 in
      let is = numbered order parents differ are there.0 c class in
      let z = number_of_super order parents differ are there.0 c is.0 is.1 name direct in
      let lower : number_in (names order) c.name ≡ there.0 = ap (number_in (names order)) (sym class.name) ∙ number_is (names order) differ there.0 class.below in
      let upper : number_in (names order) name ≡ z.0 = ap (number_in (names order)) (sym z.3) ∙ number_is (names order) differ z.0 z.2 in
      let falls = place_falls parents up.0 there.0 z.0 up.1 z.1 in
      subst (λ (k : ℕ). place_in up.0 k < place_in up.0 (number_in (names order) c.name)) (sym upper) (subst (λ (k : ℕ). place_in up.0 z.0 < place_in up.0 k) (sym lower) falls);
  few = λ c among.
      let there = place_of (program_from order).classes c among in
      let class = at_number order there.0 c there.1 in
      let is = numbered order parents differ are there.0 c class in
      let lower : number_in (names order) c.name ≡ there.0 = ap (number_in (names order)) (sym class.name) ∙ number_is (names order) differ there.0 class.below in
      let within = slice_get_within parents there.0 is.0 is.1.stands in
      let p = place_of up.0 there.0 (up.1.each there.0 within) in
      let first = first_place up.0 p.0 there.0 p.1 in
      let inside = slice_get_within up.0 p.0 there.0 p.1 in
      let most = at_most_size up.0 (length parents) up.1.below up.1.distinct in
      subst (λ (k : ℕ). place_in up.0 k < length (program_from order).classes) (sym lower) (omega (arith, first, inside, most, size));
}
