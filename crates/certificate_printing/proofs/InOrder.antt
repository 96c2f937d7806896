-- Lines that are sorted and cut to one of each are the same lines, in order.
use Rattle.std.proofs.Common.{◌≡◌, ◌↔◌, ◌∙◌, Bool, true, List, get_or, Some, refl, sym, ap, subst}
use Rattle.std.specs.declared.cmp.Ordering.{Ordering}
use Rattle.std.specs.declared.cmp.Ordering.TheVariants.{Less, Equal, Greater}
use Rattle.std.specs.List.{slice_get, Contains, dedup}
use Rattle.std.specs.List.Sorted.{IsPermutation, IsSorted, IsStrictlySortedBy}
use Rattle.std.specs.Cmp.{eq_by_cmp_equiv}
use Rattle.std.specs.Ordering.{eq_by_cmp, is_eq, is_lt}
use Rattle.std.proofs.lemmas.Bool.{false≢true}
use Rattle.std.proofs.lemmas.List.Kept.{Contains-dedup, Contains-from_dedup, IsStrictlySortedBy-dedup}
use Rattle.std.proofs.lemmas.List.Sorted.{Contains-permutation, IsPermutation-sym}
use Rattle.std.proofs.lemmas.Map.Keys.{Less-from_sorted}
use Rattle.std.proofs.lemmas.Option.{slice_get_within, get_or_from_slice_get}
use Rattle.certificate_lines.specs.declared.line.Line.{Line}
use Rattle.certificate_lines.specs.LineOrder.{line_cmp}
use Rattle.certificate_lines.proofs.LineOrders.{line_exact, line_total}
use Rattle.certificate_spec.specs.Certificates.{DoAscend}

-- the test by which doubles are found
abbrev pub same_line : Line → Line → Bool
same_line = eq_by_cmp line_cmp

is_equal : (o : Ordering) → is_eq o ≡ true → o ≡ Equal
is_equal Less e = absurd (false≢true e)
is_equal Equal e = refl
is_equal Greater e = absurd (false≢true e)

exact_line : (k l : Line) → same_line k l ≡ true → k ≡ l
exact_line k l e = line_exact k l (is_equal (line_cmp k l) e)

module _ (xs sorted ys : List Line) (moved : IsPermutation xs sorted) (ascend : IsSorted line_cmp sorted) (is : ys ≡ dedup same_line sorted) where
  pub have_same : (line : Line) → Contains ys line ↔ Contains xs line
  have_same line = (
    λ there. Contains-permutation sorted xs line (IsPermutation-sym xs sorted moved)
        (Contains-from_dedup same_line sorted line (subst (λ (list : List Line). Contains list line) is there)),
    λ there. subst (λ (list : List Line). Contains list line) (sym is)
        (Contains-dedup (eq_by_cmp_equiv line_total) exact_line sorted line (Contains-permutation xs sorted line moved there)),
  )

  strictly : IsStrictlySortedBy line_cmp (dedup same_line sorted)
  strictly = IsStrictlySortedBy-dedup line_total (λ k l. refl) sorted ascend

  pub ascending : DoAscend ys
  ascending = record {
    each = λ i j k l lt at_i at_j.
        let list = dedup same_line sorted in
        let there_i : slice_get list i ≡ Some k = ap (λ (ls : List Line). slice_get ls i) (sym is) ∙ at_i in
        let there_j : slice_get list j ≡ Some l = ap (λ (ls : List Line). slice_get ls j) (sym is) ∙ at_j in
        let less = Less-from_sorted line_cmp list i j k strictly lt (slice_get_within list j l there_j) in
        let first = get_or_from_slice_get list i k k there_i in
        let second = get_or_from_slice_get list j l k there_j in
        ap is_lt
        (subst (λ (y : Line). line_cmp k y ≡ Less) second (subst (λ (x : Line). line_cmp x (get_or list j k) ≡ Less) first less));
  }
