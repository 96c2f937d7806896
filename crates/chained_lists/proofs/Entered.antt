-- The entries of heads and links are the only ones of which these are the chains.
use Rattle.std.proofs.Common.{◌≡◌, ◌==◌, ◌∙◌, ℕ, zero, suc, ◌+◌, ◌-◌, Bool, true, false, List, [], ◌∷◌, length, Some, refl, sym, ap, subst, arith, eq-eqb}
use Rattle.std.specs.List.{slice_get}
use Rattle.std.specs.Prelude.{if◌then◌else◌}
use Rattle.std.proofs.lemmas.Bool.{eqb-true}
use Rattle.std.proofs.lemmas.Option.{get_or_from_slice_get}
use Rattle.chained_lists.specs.declared.links.Head.{Head}
use Rattle.chained_lists.specs.declared.links.Link.{Link}
use Rattle.chained_lists.specs.Entries.{Entry, entry}
use Rattle.chained_lists.specs.Chained.{AreChained, IsLinked, ended_by, entries_from, entries_of, head_at, later_name, number_of}
use Rattle.chained_lists.proofs.Growing.{is_place, named_last, one_number}

-- a list that alone ends with a link is found by it
ended_is : (heads : List Head) (number place : ℕ) → (head_at heads number).last ≡ suc place → ((q : ℕ) → (head_at heads q).last ≡ suc place → q ≡ number) → ended_by heads (suc place) ≡ number
ended_is [] number place is only = absurd (omega (arith, is))
ended_is (head ∷ heads) number place is only = by (head.last == suc place) refl number is only (λ n. ended_is heads n place)
  where
    by : (b : Bool) → (head.last == suc place) ≡ b → (n : ℕ) → (head_at (head ∷ heads) n).last ≡ suc place → ((q : ℕ) → (head_at (head ∷ heads) q).last ≡ suc place → q ≡ n)
        → ((m : ℕ) → (head_at heads m).last ≡ suc place → ((q : ℕ) → (head_at heads q).last ≡ suc place → q ≡ m) → ended_by heads (suc place) ≡ m)
        → (if b then 0 else suc (ended_by heads (suc place))) ≡ n
    by true e n named alone later = alone 0 (eqb-true head.last (suc place) e)
    by false e zero named alone later = absurd (false_true (sym e ∙ eq-eqb head.last (suc place) named))
      where
        false_true : false ≡ true → ⊥
        false_true h = cc
    by false e (suc n) named alone later = ap suc (later n named (λ q also. omega (arith, alone (suc q) also)))

module _ (es : List Entry) (heads : List Head) (all : List Link) (chained : AreChained es heads all) where
  -- the number of the list of a link
  number_is : (k : ℕ) (link : Link) (e : Entry) (later : List Entry) → slice_get es k ≡ Some e → IsLinked es k link e → ((j : ℕ) → slice_get later j ≡ slice_get es (suc k + j))
      → number_of heads k (later_name k link.next) later ≡ e.number
  number_is k link e later at linked same = by (later_name k link.next) refl
    where
      by : (next : ℕ) → later_name k link.next ≡ next → number_of heads k next later ≡ e.number
      by zero is =
          ended_is heads e.number k (named_last es e.number (head_at heads e.number).last k (chained.lasts e.number) (is_place es k e at) (linked.next.end is))
          (λ q named. sym (one_number es k e q at ((chained.lasts q).there k named)))
      by (suc next) is =
          let named = linked.next.next next is in
          let place : suc k + (next - suc k) ≡ next = omega (arith, named.from) in
          let stands : slice_get later (next - suc k) ≡ Some (entry e.number named.there.value) = same (next - suc k) ∙ ap (λ (j : ℕ). slice_get es j) place ∙ named.there.at in
          ap (λ (a : Entry). a.number) (get_or_from_slice_get later (next - suc k) (entry e.number named.there.value) (entry 0 0) stands)

  -- those of the links from a place on
  from_is : (k : ℕ) (links : List Link) (later : List Entry) → length links ≡ length later → ((j : ℕ) → slice_get links j ≡ slice_get all (k + j))
      → ((j : ℕ) → slice_get later j ≡ slice_get es (k + j)) → entries_from heads k links ≡ later
  from_is k [] [] count links_are same = refl
  from_is k [] (e ∷ later) count links_are same = absurd (omega (arith, count))
  from_is k (link ∷ links) [] count links_are same = absurd (omega (arith, count))
  from_is k (link ∷ links) (e ∷ later) count links_are same =
      let rest : entries_from heads (suc k) links ≡ later =
      from_is (suc k) links later (omega (arith, count)) (λ j. links_are (suc j) ∙ ap (λ (i : ℕ). slice_get all i) (omega arith)) (λ j. same (suc j) ∙ ap (λ (i : ℕ). slice_get es i) (omega arith)) in
      let here : k + 0 ≡ k = omega arith in
      let at : slice_get es k ≡ Some e = ap (λ (i : ℕ). slice_get es i) (sym here) ∙ sym (same 0) in
      let link_at : slice_get all k ≡ Some link = ap (λ (i : ℕ). slice_get all i) (sym here) ∙ sym (links_are 0) in
      let linked = chained.linked k link e link_at at in
      let number : number_of heads k (later_name k link.next) (entries_from heads (suc k) links) ≡ e.number =
      ap (λ (xs : List Entry). number_of heads k (later_name k link.next) xs) rest ∙ number_is k link e later at linked (λ j. same (suc j) ∙ ap (λ (i : ℕ). slice_get es i) (omega arith)) in
      let first : entry (number_of heads k (later_name k link.next) (entries_from heads (suc k) links)) link.value ≡ e = λ i. record { number = number i; value = linked.value i } in
      ap (λ (a : Entry). a ∷ entries_from heads (suc k) links) first ∙ ap (λ (xs : List Entry). e ∷ xs) rest

  pub entries_are : entries_of heads all ≡ es
  entries_are = from_is 0 all es chained.count (λ j. ap (λ (i : ℕ). slice_get all i) (omega arith)) (λ j. ap (λ (i : ℕ). slice_get es i) (omega arith))

-- so whatever entries these are the chains of, they are those
pub chained_of : (es : List Entry) (heads : List Head) (links : List Link) → AreChained es heads links → AreChained (entries_of heads links) heads links
chained_of es heads links is = subst (λ (xs : List Entry). AreChained xs heads links) (sym (entries_are es heads links is)) is
