-- `==` on items tells each two apart, so that the items of a set are all different.
use Rattle.std.proofs.Common.{◌≡◌, ℕ, ◌<◌, inl, inr, Bool, true, false, eqb, List, get_or, Some, sym, ◌∙◌, subst, arith}
use Rattle.std.specs.List.{slice_get, IsDistinct}
use Rattle.std.proofs.lemmas.Bool.{and_parts, cases_lt}
use Rattle.std.proofs.lemmas.Option.{slice_get_within, get_or_from_slice_get}
use Rattle.std.proofs.lemmas.Map.Keys.{apart_from_distinct}
use Rattle.std.proofs.lemmas.Map.Views.{exact_unsigned_eq}
use Rattle.least_sets.specs.Rules.{IsWithoutDoubles}
use Rattle.points_to_numbers.specs.declared.item.Item.{Item}
use Rattle.points_to_numbers.specs.declared.item.Item.TheVariants.{Holds, Runs, Calls, Constrains}
use Rattle.points_to_numbers.specs.contracts.item.ItemPartialEq.TheImpl as item_block
use Rattle.points_to_numbers.specs.contracts.item.ItemEq.TheImpl.Laws as item_laws

abbrev pub same_items : Item → Item → Bool
same_items = (item_block.ghosts).eq

item_itself : (a : Item) → same_items a a ≡ true
item_itself a = (item_laws.laws-law).refl a

pub exact_items : (a b : Item) → same_items a b ≡ true → a ≡ b
exact_items (Holds a c) (Holds b d) h =
    let parts = and_parts (eqb a.0 b.0) (eqb c.0 d.0) h in
    let places = exact_unsigned_eq a.0 b.0 parts.0 in
    let sites = exact_unsigned_eq c.0 d.0 parts.1 in
    (λ i. Holds (record { 0 = places i }) (record { 0 = sites i }))
exact_items (Runs a) (Runs b) h = let methods = exact_unsigned_eq a.0 b.0 h in (λ i. Runs (record { 0 = methods i }))
exact_items (Calls a c) (Calls b d) h =
    let parts = and_parts (eqb a.0 b.0) (eqb c.0 d.0) h in
    let calls = exact_unsigned_eq a.0 b.0 parts.0 in
    let targets = exact_unsigned_eq c.0 d.0 parts.1 in
    (λ i. Calls (record { 0 = calls i }) (record { 0 = targets i }))
exact_items (Constrains a c) (Constrains b d) h =
    let parts = and_parts (eqb a.0 b.0) (eqb c.0 d.0) h in
    let places = exact_unsigned_eq a.0 b.0 parts.0 in
    let constraints = exact_unsigned_eq c.0 d.0 parts.1 in
    (λ i. Constrains (record { 0 = places i }) (record { 0 = constraints i }))
exact_items _ _ h = cc

-- the first of two places of one item cannot come before the other
not_before : (keys : List Item) → IsDistinct same_items keys → (x : Item) (i j : ℕ) → slice_get keys i ≡ Some x → slice_get keys j ≡ Some x → i < j → ⊥
not_before keys distinct x i j p q l =
    let apart = apart_from_distinct same_items keys i j x distinct l (slice_get_within keys j x q) in
    let first : get_or keys i x ≡ x = get_or_from_slice_get keys i x x p in
    let second : get_or keys j x ≡ x = get_or_from_slice_get keys j x x q in
    let itself = item_itself x in
    let both : same_items x x ≡ false = subst (λ (y : Item). same_items y x ≡ false) first (subst (λ (y : Item). same_items (get_or keys i x) y ≡ false) second apart) in
    let wrong : true ≡ false = sym itself ∙ both in cc

pub apart_from_unique : (keys : List Item) → IsDistinct same_items keys → IsWithoutDoubles keys
apart_from_unique keys distinct x i j p q = elim (cases_lt i j) [
  | inl less ↦ absurd (not_before keys distinct x i j p q less)
  | inr more ↦ elim (cases_lt j i) [
    | inl less ↦ absurd (not_before keys distinct x j i q p less)
    | inr same ↦ omega arith
  ]
]
