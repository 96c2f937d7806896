-- What the searches by halving answer over a list of edges that is in order.
use Rattle.std.proofs.Common.{◌≡◌, ◌≢◌, ℕ, ◌+◌, ◌<◌, ◌≤◌, Bool, true, false, IsTrue, List, length, get_or, Some, Result, Ok, Err, refl, sym, ap, subst, ◌∙◌, arith, inl, inr}
use mathlib.Core.Bool.{true≢false, false≢true}
use Rattle.std.specs.Result.{is_ok}
use Rattle.std.specs.List.{slice_get, HoldsAt}
use Rattle.std.specs.List.Sorted.{IsBinarySearchResult, IsSearchInRange, IsNonDecreasingBy, IsPartitionedBy, IsPartitionPoint, IsSortedBy}
use Rattle.std.specs.declared.cmp.Ordering.{Ordering}
use Rattle.std.specs.declared.cmp.Ordering.TheVariants.{Less, Equal, Greater}
use Rattle.std.specs.Ordering.{is_lt, is_le, nat_cmp, ordering_index, ordering_reverse, ordering_then}
use Rattle.std.specs.Cmp.{IsTotalOrder}
use Rattle.std.proofs.lemmas.Cmp.{nat_cmp_total, on_total, then_total, tied_itself}
use Rattle.std.proofs.lemmas.Bool.{cases_lt}
use Rattle.std.proofs.lemmas.List.Sorted.{searchable_from_sorted}
use Rattle.std.proofs.lemmas.Map.Lookups.{exact_unsigned}
use Rattle.std.proofs.lemmas.Option.{slice_get_within, slice_get-get_or, get_or_from_slice_get}
use Rattle.list_laws.proofs.Places.{stands_below}
use Rattle.jvm_model.specs.declared.number.MethodNo.{MethodNo}
use Rattle.op_model.specs.declared.node.Spot.{Spot}
use Rattle.op_model.specs.declared.node.Spot.TheVariants as spots
use Rattle.site_report.specs.Sites.{method_rank}
use Rattle.stage_facts.specs.Facts.{SiteFact, none_yet, some_yet, of_object}
use Rattle.stage_edges.specs.Rules.{Edge, IsExit, edge}
use Rattle.certificate_lines.specs.LineOrder.{edge_cmp, fact_cmp, spot_cmp}
use Rattle.certificate_lines.proofs.LineOrders.{both, edge_exact, edge_total, fact_exact, fact_total, method_exact}
use Rattle.edge_checker.specs.declared.numbered_edge.NumberedEdge.{NumberedEdge}
use Rattle.edge_checker.specs.Conditions.{AreInOrder, HasEdge, edge_in}
use Rattle.edge_checker.specs.Spans.{IsExitOf, IsExitSpan, entry_cmp}

-- ---- answers of a comparison

-- the other way round, what is not greater is not less
not_less : (o : Ordering) → o ≢ Greater → is_lt (ordering_reverse o) ≡ false
not_less Less ne = refl
not_less Equal ne = refl
not_less Greater ne = absurd (ne refl)

lt_of_zero : (o : Ordering) → ordering_index o ≡ 0 → is_lt o ≡ true
lt_of_zero Less e = refl
lt_of_zero Equal e = absurd (omega (arith, e))
lt_of_zero Greater e = absurd (omega (arith, e))

less_is : (o : Ordering) → is_lt o ≡ true → o ≡ Less
less_is Less e = refl
less_is Equal e = absurd (false≢true e)
less_is Greater e = absurd (false≢true e)

le_index : (o : Ordering) → is_le o ≡ true → ordering_index o ≤ 1
le_index Less e = omega arith
le_index Equal e = omega arith
le_index Greater e = absurd (false≢true e)

index_le : (o : Ordering) → ordering_index o ≤ 1 → is_le o ≡ true
index_le Less e = refl
index_le Equal e = refl
index_le Greater e = absurd (omega (arith, e))

first_not_greater : (o r : Ordering) → ordering_then o r ≢ Greater → o ≢ Greater
first_not_greater Less r ne e = absurd (cc e)
first_not_greater Equal r ne e = absurd (cc e)
first_not_greater Greater r ne e = ne refl

-- where the first comparison does not put it after, and the whole does not put it before, the first says that they are equal
level : (o r : Ordering) → is_le o ≡ true → is_lt (ordering_then o r) ≡ false → o ≡ Equal
level Less r le not = absurd (false≢true (sym not))
level Equal r le not = refl
level Greater r le not = absurd (false≢true le)

not_both : (o r : Ordering) → is_lt (ordering_then o r) ≡ true → is_le o ≡ false → ⊥
not_both Less r lt not = false≢true (sym not)
not_both Equal r lt not = false≢true (sym not)
not_both Greater r lt not = false≢true lt

rest_of : (o r : Ordering) → o ≡ Equal → ordering_then o r ≡ r
rest_of Less r e = absurd (cc e)
rest_of Equal r e = refl
rest_of Greater r e = absurd (cc e)

equal_le : (o : Ordering) → o ≡ Equal → is_le o ≡ false → ⊥
equal_le Less e n = cc e
equal_le Equal e n = false≢true (sym n)
equal_le Greater e n = cc e

then_then : (o r s : Ordering) → ordering_then (ordering_then o r) s ≡ ordering_then o (ordering_then r s)
then_then Less r s = refl
then_then Equal r s = refl
then_then Greater r s = refl

-- no edge to an exit comes before the return with the least fact, and all others do
at_exit : (s : Spot) (f : SiteFact) → IsExit s → is_lt (ordering_then (spot_cmp s spots.Returned) (fact_cmp f none_yet)) ≡ true → ⊥
at_exit (spots.Node n) f l e = l
at_exit spots.Returned none_yet l e = false≢true e
at_exit spots.Returned some_yet l e = false≢true e
at_exit spots.Returned (of_object t) l e = false≢true e
at_exit spots.Thrown f l e = false≢true e

exit_of : (s : Spot) (f : SiteFact) → is_lt (ordering_then (spot_cmp s spots.Returned) (fact_cmp f none_yet)) ≡ false → IsExit s
exit_of (spots.Node n) f e = absurd (false≢true (sym e))
exit_of spots.Returned f e = tt
exit_of spots.Thrown f e = tt

-- ---- by method and entry

entry_total : IsTotalOrder entry_cmp
entry_total = then_total (on_total (λ (e : Edge). method_rank e.method) nat_cmp_total) (on_total (λ (e : Edge). e.entry) fact_total)

rest_cmp : Edge → Edge → Ordering
rest_cmp a b = ordering_then (spot_cmp a.spot b.spot) (fact_cmp a.fact b.fact)

by_entry : (a b : Edge) → edge_cmp a b ≡ ordering_then (entry_cmp a b) (rest_cmp a b)
unfolding rest_cmp
by_entry a b = sym (then_then (nat_cmp (method_rank a.method) (method_rank b.method)) (fact_cmp a.entry b.entry) (rest_cmp a b))

entry_exact : (a b : Edge) → entry_cmp a b ≡ Equal → (a.method ≡ b.method) × (a.entry ≡ b.entry)
entry_exact a b e =
    let p = both (nat_cmp (method_rank a.method) (method_rank b.method)) (fact_cmp a.entry b.entry) e in
    (method_exact a.method b.method (exact_unsigned _ _ p.0), fact_exact a.entry b.entry p.1)

entry_equal : (a b : Edge) → a.method ≡ b.method → a.entry ≡ b.entry → entry_cmp a b ≡ Equal
entry_equal a b method entry =
    let c : Edge = record { method = b.method; entry = b.entry; spot = a.spot; fact = a.fact } in
    let is : c ≡ a = λ i. record { method = sym method i; entry = sym entry i; spot = a.spot; fact = a.fact } in
    subst (λ (d : Edge). entry_cmp d b ≡ Equal) is (tied_itself entry_total b)

-- ---- lists in order

-- the comparisons with an edge rise along the list, by each total order of edges by which the list is in order
module _ (R : Edge → Edge → Ordering) (total : IsTotalOrder R) (listed : List NumberedEdge)
    (order : (i j : ℕ) (a b : NumberedEdge) → i ≤ j → slice_get listed i ≡ Some a → slice_get listed j ≡ Some b → R (edge_in a) (edge_in b) ≢ Greater) (e : Edge) where
  sorted : IsSortedBy (λ (a b : NumberedEdge). is_lt (R (edge_in a) (edge_in b))) listed
  sorted k d low high =
      let l : k < length listed = omega (arith, high) in
      let a = get_or listed k d in
      let b = get_or listed (k + 1) d in
      let ne = order k (k + 1) a b (omega arith) (slice_get-get_or listed k d l) (slice_get-get_or listed (k + 1) d high) in
      ap is_lt (total.antisymm (edge_in b) (edge_in a)) ∙ not_less (R (edge_in a) (edge_in b)) ne

  rises : IsNonDecreasingBy (λ (a : NumberedEdge). ordering_index (R (edge_in a) e)) listed
  rises = searchable_from_sorted total edge_in listed e sorted

  less_parted : IsPartitionedBy (λ (a : NumberedEdge). is_lt (R (edge_in a) e)) listed
  less_parted i j d le l lt =
      let up = rises i j d le l in
      let last : ordering_index (R (edge_in (get_or listed j d)) e) ≡ 0 = ap ordering_index (less_is (R (edge_in (get_or listed j d)) e) lt) in
      lt_of_zero (R (edge_in (get_or listed i d)) e) (omega (arith, up, last))

  le_parted : IsPartitionedBy (λ (a : NumberedEdge). is_le (R (edge_in a) e)) listed
  le_parted i j d le l lt =
      let up = rises i j d le l in
      let last = le_index (R (edge_in (get_or listed j d)) e) lt in
      index_le (R (edge_in (get_or listed i d)) e) (omega (arith, up, last))

-- ---- what is found

module _ (listed : List NumberedEdge) (order : AreInOrder listed) (e : Edge) where
  -- the place that was found has the edge
  found : (i : ℕ) → i < length listed → HoldsAt (λ (a : NumberedEdge). edge_cmp (edge_in a) e ≡ Equal) listed i → HasEdge listed e
  found i l h =
      let at = stands_below listed i l in
      let is = get_or_from_slice_get listed i at.0 at.0 at.1 in
      record {
        line = at.0;
        stands = (i, l, is);
        is = edge_exact (edge_in at.0) e (subst (λ (b : NumberedEdge). edge_cmp (edge_in b) e ≡ Equal) is (h at.0));
      }

  -- no place has it
  absent : (i : ℕ) → IsPartitionPoint (λ (a : NumberedEdge). edge_cmp (edge_in a) e ≡ Less) (λ (a : NumberedEdge). edge_cmp (edge_in a) e ≡ Greater) listed i
      → HasEdge listed e → ⊥
  absent i parted has =
      let a = has.line in
      let k = has.stands.0 in
      let own : edge_cmp (edge_in a) e ≡ Equal = subst (λ (x : Edge). edge_cmp x e ≡ Equal) (sym has.is) (tied_itself edge_total e) in
      let same : edge_cmp (edge_in (get_or listed k a)) e ≡ Equal = subst (λ (b : NumberedEdge). edge_cmp (edge_in b) e ≡ Equal) (sym has.stands.2) own in
      elim (cases_lt k i) [
        | inl before ↦ (let two : Equal ≡ Less = sym same ∙ parted.0 k a (omega arith) before in cc two)
        | inr from ↦ (let two : Equal ≡ Greater = sym same ∙ parted.1 k a from has.stands.1 in cc two)
      ]

  pub searched : (r : Result ℕ ℕ) (b : Bool) → b ≡ is_ok r → IsSearchInRange r (length listed)
      → IsBinarySearchResult (λ (a : NumberedEdge). edge_cmp (edge_in a) e) listed r → (IsTrue b → HasEdge listed e) × (HasEdge listed e → IsTrue b)
  searched (Ok i) b is within h = ((λ _. found i within h), (λ _. is))
  searched (Err i) b is within h =
      ((λ yes. absurd (true≢false (sym yes ∙ is))), (λ has. absurd (absent i (h (rises edge_cmp edge_total listed order.ascend e)) has)))

-- ---- exits

module _ (listed : List NumberedEdge) (order : AreInOrder listed) (m : MethodNo) (f : SiteFact) where
  abbrev least : Edge
  least = edge (Some m) f spots.Returned none_yet

  ascend : (i j : ℕ) (a b : NumberedEdge) → i ≤ j → slice_get listed i ≡ Some a → slice_get listed j ≡ Some b → entry_cmp (edge_in a) (edge_in b) ≢ Greater
  ascend i j a b le s t =
      first_not_greater (entry_cmp (edge_in a) (edge_in b)) (rest_cmp (edge_in a) (edge_in b))
      (subst (λ (o : Ordering). o ≢ Greater) (by_entry (edge_in a) (edge_in b)) (order.ascend i j a b le s t))

  exit_not_before : (a : Edge) → IsExitOf a m f → is_lt (edge_cmp a least) ≡ true → ⊥
  unfolding rest_cmp
  exit_not_before a is lt =
      let same = entry_equal a least is.method is.entry in
      let rest : edge_cmp a least ≡ rest_cmp a least = by_entry a least ∙ rest_of (entry_cmp a least) (rest_cmp a least) same in
      at_exit a.spot a.fact is.exit (ap is_lt (sym rest) ∙ lt)

  is_exit : (a : Edge) → is_le (entry_cmp a least) ≡ true → is_lt (edge_cmp a least) ≡ false → IsExitOf a m f
  unfolding rest_cmp
  is_exit a le not =
      let whole = ap is_lt (sym (by_entry a least)) ∙ not in
      let same = level (entry_cmp a least) (rest_cmp a least) le whole in
      let parts = entry_exact a least same in
      let rest = ap is_lt (sym (rest_of (entry_cmp a least) (rest_cmp a least) same)) ∙ whole in
      record { method = parts.0; entry = parts.1; exit = exit_of a.spot a.fact rest }

  pub exit_span : (from to : ℕ) → from ≤ length listed → to ≤ length listed
      → (IsPartitionedBy (λ (a : NumberedEdge). is_lt (edge_cmp (edge_in a) least)) listed
      → IsPartitionPoint (λ (a : NumberedEdge). is_lt (edge_cmp (edge_in a) least) ≡ true) (λ (a : NumberedEdge). is_lt (edge_cmp (edge_in a) least) ≡ false) listed from)
      → (IsPartitionedBy (λ (a : NumberedEdge). is_le (entry_cmp (edge_in a) least)) listed
      → IsPartitionPoint (λ (a : NumberedEdge). is_le (entry_cmp (edge_in a) least) ≡ true) (λ (a : NumberedEdge). is_le (entry_cmp (edge_in a) least) ≡ false) listed to)
      → IsExitSpan listed m f from to
  exit_span from to from_within within at_from at_to =
      let before = at_from (less_parted edge_cmp edge_total listed order.ascend least) in
      let through = at_to (le_parted entry_cmp entry_total listed ascend least) in
      record {
        within = within;
        ordered = elim (cases_lt to from) [
          | inl less ↦ (
              let l : to < length listed = omega (arith, less, from_within) in
              let at = stands_below listed to l in
              let is = get_or_from_slice_get listed to at.0 at.0 at.1 in
              let lt : is_lt (edge_cmp (edge_in at.0) least) ≡ true =
              subst (λ (b : NumberedEdge). is_lt (edge_cmp (edge_in b) least) ≡ true) is (before.0 to at.0 (omega arith) less) in
              absurd (not_both (entry_cmp (edge_in at.0) least) (rest_cmp (edge_in at.0) least) (ap is_lt (sym (by_entry (edge_in at.0) least)) ∙ lt)
              (subst (λ (b : NumberedEdge). is_le (entry_cmp (edge_in b) least) ≡ false) is (through.1 to at.0 (omega arith) l)))
              )
          | inr l ↦ l
        ];
        those = λ k a l high s.
            let is = get_or_from_slice_get listed k a a s in
            is_exit (edge_in a) (subst (λ (b : NumberedEdge). is_le (entry_cmp (edge_in b) least) ≡ true) is (through.0 k a (omega arith) high))
            (subst (λ (b : NumberedEdge). is_lt (edge_cmp (edge_in b) least) ≡ false) is (before.1 k a l (slice_get_within listed k a s)));
        all = λ k a s exit.
            let is = get_or_from_slice_get listed k a a s in
            let short = slice_get_within listed k a s in (
              elim (cases_lt k from) [
                | inl l ↦ absurd (exit_not_before (edge_in a) exit
                    (subst (λ (b : NumberedEdge). is_lt (edge_cmp (edge_in b) least) ≡ true) is (before.0 k a (omega arith) l)))
                | inr l ↦ l
              ],
              elim (cases_lt k to) [
                | inl l ↦ l
                | inr l ↦ absurd (equal_le (entry_cmp (edge_in a) least) (entry_equal (edge_in a) least exit.method exit.entry)
                    (subst (λ (b : NumberedEdge). is_le (entry_cmp (edge_in b) least) ≡ false) is (through.1 k a l short)))
              ],
            );
      }
