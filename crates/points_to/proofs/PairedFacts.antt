-- The facts among the items: each stands there once, and so many of them are pairs.
use Rattle.std.proofs.Common.{◌≡◌, ℕ, zero, suc, ◌+◌, List, [], ◌∷◌, Some, refl, sym, ◌∙◌, ap, arith, zero-add}
use Rattle.std.specs.List.{slice_get, AllZip, Contains}
use Rattle.std.proofs.lemmas.Option.{none-some, same_Some}
use Rattle.std.proofs.lemmas.List.Sums.{sum_by-cons}
use Rattle.jvm_model.specs.declared.number.MethodNo.{MethodNo}
use Rattle.jvm_model.specs.declared.site.Site.{Site}
use Rattle.jvm_model.specs.Programs.{Program}
use Rattle.op_model.specs.Supplies.{GivenAs}
use Rattle.least_sets.specs.Parts.{parts_of, HasAtLeast}
use Rattle.least_sets.specs.Rules.{IsDerivable, IsWithoutDoubles}
use Rattle.least_sets.proofs.Places.{place_of, contains_at, All-from_contains}
use Rattle.points_to_rules.specs.Facts.{Holder, Fact, may_hold, may_run, may_call, may_write}
use Rattle.points_to_rules.specs.Rules.{Instance}
use Rattle.points_to_constraints.specs.Items.{CallSite, Item as RuleItem, known, constrained, facts_of}
use Rattle.points_to_constraints.specs.ItemRules.{ItemInstance}
use Rattle.points_to_constraints.proofs.MeantItems.{derivable_fact}
use Rattle.points_to_numbers.specs.declared.item.Item.{Item}
use Rattle.points_to_numbers.specs.declared.item.Item.TheVariants.{Holds, Runs, Calls, Constrains}
use Rattle.points_to_numbers.specs.Numbered.{Numbered, AreApart}
use Rattle.points_to_numbers.specs.Steps.{IsItemAt}
use Rattle.points_to.specs.Queues.{weight_of, pairs_among}
use Rattle.points_to_rules.proofs.CountedPairs.{count_pairs}
use Rattle.points_to_rules.specs.Solutions.{pair_of, pairs_in}
use Rattle.points_to.proofs.ItemPlaces.{holding, running, calling, zip_back}

-- ---- the facts among items

-- a fact among the facts stands among the items
known_place : (xs : List RuleItem) (k : ℕ) (fact : Fact) → slice_get (facts_of xs) k ≡ Some fact → (j : ℕ) × (slice_get xs j ≡ Some (known fact))
known_place [] k fact e = absurd (none-some fact e)
known_place (known f ∷ xs) zero fact e = (0, ap (λ (g : Fact). Some (known g)) (same_Some f fact e))
known_place (known f ∷ xs) (suc k) fact e = let h = known_place xs k fact e in (suc h.0, h.1)
known_place (constrained h u ∷ xs) k fact e = let there = known_place xs k fact e in (suc there.0, there.1)

pub known_there : (xs : List RuleItem) (fact : Fact) → Contains (facts_of xs) fact → Contains xs (known fact)
known_there xs fact c = let at = place_of (facts_of xs) fact c in let h = known_place xs at.0 fact at.1 in contains_at xs h.0 (known fact) h.1

-- and the other way round
fact_place : (xs : List RuleItem) (k : ℕ) (fact : Fact) → slice_get xs k ≡ Some (known fact) → (j : ℕ) × (slice_get (facts_of xs) j ≡ Some fact)
fact_place [] k fact e = absurd (none-some (known fact) e)
fact_place (known f ∷ xs) zero fact e = let same : f ≡ fact = (let items = same_Some (known f) (known fact) e in cc) in (0, ap Some same)
fact_place (known f ∷ xs) (suc k) fact e = let h = fact_place xs k fact e in (suc h.0, h.1)
fact_place (constrained h u ∷ xs) zero fact e = absurd (let items = same_Some (constrained h u) (known fact) e in cc)
fact_place (constrained h u ∷ xs) (suc k) fact e = fact_place xs k fact e

pub fact_there : (xs : List RuleItem) (fact : Fact) → Contains xs (known fact) → Contains (facts_of xs) fact
fact_there xs fact c = let at = place_of xs (known fact) c in let h = fact_place xs at.0 fact at.1 in contains_at (facts_of xs) h.0 fact h.1

-- ---- each once

-- No fact stands at two places among the items.
abbrev AreFactsApart : List RuleItem → Type 0
AreFactsApart xs = (fact : Fact) (i j : ℕ) → slice_get xs i ≡ Some (known fact) → slice_get xs j ≡ Some (known fact) → i ≡ j

apart_tail : (x : RuleItem) (xs : List RuleItem) → AreFactsApart (x ∷ xs) → AreFactsApart xs
apart_tail x xs apart fact i j p q = let same = apart fact (suc i) (suc j) p q in omega arith

apart_facts : (xs : List RuleItem) → AreFactsApart xs → IsWithoutDoubles (facts_of xs)
apart_facts [] apart fact i j p q = absurd (none-some fact p)
apart_facts (constrained h u ∷ xs) apart fact i j p q = apart_facts xs (apart_tail (constrained h u) xs apart) fact i j p q
apart_facts (known f ∷ xs) apart fact zero zero p q = refl
apart_facts (known f ∷ xs) apart fact zero (suc j) p q =
    let there = known_place xs j fact q in
    absurd (let same = apart fact 0 (suc there.0) (ap (λ (g : Fact). Some (known g)) (same_Some f fact p)) there.1 in omega arith)
apart_facts (known f ∷ xs) apart fact (suc i) zero p q =
    let there = known_place xs i fact p in
    absurd (let same = apart fact (suc there.0) 0 there.1 (ap (λ (g : Fact). Some (known g)) (same_Some f fact q)) in omega arith)
apart_facts (known f ∷ xs) apart fact (suc i) (suc j) p q = ap suc (apart_facts xs (apart_tail (known f) xs apart) fact i j p q)

-- no item stands for what a method may write
no_writing : (n : Numbered) (i : Item) (m : MethodNo) (field : _) → IsItemAt n i (known (may_write m field)) → ⊥
no_writing n (Holds place site) m field (h, s, holder, there, e) = cc
no_writing n (Runs k) m field e = cc
no_writing n (Calls call target) m field (c, at, e) = cc
no_writing n (Constrains place constraint) m field (h, u, holder, there, e) = cc

-- Two numbers of calls of one node are one.
abbrev pub AreCallsApart : List CallSite → Type 0
AreCallsApart calls = (i j : ℕ) (a b : CallSite) → slice_get calls i ≡ Some a → slice_get calls j ≡ Some b → a.at ≡ b.at → i ≡ j

module _ (n : Numbered) (apart : AreApart n) (calls : AreCallsApart n.calls) where
  -- what stands for a fact is one item
  one_item : (fact : Fact) (a b : Item) → IsItemAt n a (known fact) → IsItemAt n b (known fact) → a ≡ b
  one_item (may_hold h s) a b at_a at_b =
      let x = holding n a h s at_a in
      let y = holding n b h s at_b in
      let places = apart.holders h x.place.0 y.place.0 x.holder y.holder in
      let sites = apart.sites s x.site.0 y.site.0 x.of_site y.of_site in
      x.is ∙ (λ i. Holds (record { 0 = places i }) (record { 0 = sites i })) ∙ sym y.is
  one_item (may_run m) a b at_a at_b = running n a m at_a ∙ sym (running n b m at_b)
  one_item (may_call at target) a b at_a at_b =
      let x = calling n a at target at_a in
      let y = calling n b at target at_b in
      let numbers = calls x.number.0 y.number.0 x.call y.call x.stands y.stands (x.of_node ∙ sym y.of_node) in
      x.is ∙ (λ i. Calls (record { 0 = numbers i }) target) ∙ sym y.is
  one_item (may_write m field) a b at_a at_b = absurd (no_writing n a m field at_a)

  pub facts_apart : (items : List Item) (xs : List RuleItem) → AllZip (IsItemAt n) items xs → IsWithoutDoubles items → IsWithoutDoubles (facts_of xs)
  facts_apart items xs stand items_apart = apart_facts xs (λ fact i j p q.
      let a = zip_back (IsItemAt n) items xs stand i (known fact) p in
      let b = zip_back (IsItemAt n) items xs stand j (known fact) q in
      items_apart a.0 i j a.1 (b.1 ∙ ap Some (sym (one_item fact a.0 b.0 a.2 b.2))))

-- ---- pairs

-- the holder and the site of a pair tell the fact
pair_is : (fact : Fact) (pair : Holder × Site) → pair_of fact ≡ Some pair → fact ≡ may_hold pair.0 pair.1
pair_is (may_hold h s) pair e = ap (λ (q : Holder × Site). may_hold q.0 q.1) (same_Some (h, s) pair e)
pair_is (may_run m) pair e = absurd (none-some pair e)
pair_is (may_call at m) pair e = absurd (none-some pair e)
pair_is (may_write m field) pair e = absurd (none-some pair e)

-- a pair among the pairs is that of a fact
pair_place : (facts : List Fact) (k : ℕ) (pair : Holder × Site) → slice_get (parts_of pair_of facts) k ≡ Some pair → (j : ℕ) × (slice_get facts j ≡ Some (may_hold pair.0 pair.1))
pair_place [] k pair e = absurd (none-some pair e)
pair_place (may_hold h s ∷ facts) zero pair e = (0, ap (λ (q : Holder × Site). Some (may_hold q.0 q.1)) (same_Some (h, s) pair e))
pair_place (may_hold h s ∷ facts) (suc k) pair e = let there = pair_place facts k pair e in (suc there.0, there.1)
pair_place (may_run m ∷ facts) k pair e = let there = pair_place facts k pair e in (suc there.0, there.1)
pair_place (may_call at m ∷ facts) k pair e = let there = pair_place facts k pair e in (suc there.0, there.1)
pair_place (may_write m field ∷ facts) k pair e = let there = pair_place facts k pair e in (suc there.0, there.1)

tail_apart : (f : Fact) (facts : List Fact) → IsWithoutDoubles (f ∷ facts) → IsWithoutDoubles facts
tail_apart f facts apart fact i j p q = let same = apart fact (suc i) (suc j) p q in omega arith

pairs_apart : (facts : List Fact) → IsWithoutDoubles facts → IsWithoutDoubles (parts_of pair_of facts)
pairs_apart [] apart pair i j p q = absurd (none-some pair p)
pairs_apart (may_hold h s ∷ facts) apart pair zero zero p q = refl
pairs_apart (may_hold h s ∷ facts) apart pair zero (suc j) p q =
    let there = pair_place facts j pair q in
    absurd (let same = apart (may_hold pair.0 pair.1) 0 (suc there.0) (ap (λ (r : Holder × Site). Some (may_hold r.0 r.1)) (same_Some (h, s) pair p)) there.1 in omega arith)
pairs_apart (may_hold h s ∷ facts) apart pair (suc i) zero p q =
    let there = pair_place facts i pair p in
    absurd (let same = apart (may_hold pair.0 pair.1) (suc there.0) 0 there.1 (ap (λ (r : Holder × Site). Some (may_hold r.0 r.1)) (same_Some (h, s) pair q)) in omega arith)
pairs_apart (may_hold h s ∷ facts) apart pair (suc i) (suc j) p q = ap suc (pairs_apart facts (tail_apart (may_hold h s) facts apart) pair i j p q)
pairs_apart (may_run m ∷ facts) apart pair i j p q = pairs_apart facts (tail_apart (may_run m) facts apart) pair i j p q
pairs_apart (may_call at m ∷ facts) apart pair i j p q = pairs_apart facts (tail_apart (may_call at m) facts apart) pair i j p q
pairs_apart (may_write m field ∷ facts) apart pair i j p q = pairs_apart facts (tail_apart (may_write m field) facts apart) pair i j p q

-- how many pairs are among the facts of an item
weight : RuleItem → ℕ
weight (known (may_hold h s)) = 1
weight (known (may_run m)) = 0
weight (known (may_call at m)) = 0
weight (known (may_write m field)) = 0
weight (constrained h u) = 0

weight_is : (n : Numbered) (i : Item) (x : RuleItem) → IsItemAt n i x → weight_of i ≡ weight x
unfolding weight
weight_is n (Holds place site) x (h, s, holder, there, e) = sym (ap weight e)
weight_is n (Runs m) x e = sym (ap weight e)
weight_is n (Calls call target) x (c, at, e) = sym (ap weight e)
weight_is n (Constrains place constraint) x (h, u, holder, there, e) = sym (ap weight e)

weigh : (x : RuleItem) (xs : List RuleItem) → pairs_in (facts_of (x ∷ xs)) ≡ weight x + pairs_in (facts_of xs)
unfolding weight
weigh (known (may_hold h s)) xs = omega arith
weigh (known (may_run m)) xs = sym (zero-add (pairs_in (facts_of xs)))
weigh (known (may_call at m)) xs = sym (zero-add (pairs_in (facts_of xs)))
weigh (known (may_write m field)) xs = sym (zero-add (pairs_in (facts_of xs)))
weigh (constrained h u) xs = sym (zero-add (pairs_in (facts_of xs)))

pub pairs_counted : (n : Numbered) (items : List Item) (xs : List RuleItem) → AllZip (IsItemAt n) items xs → pairs_in (facts_of xs) ≡ pairs_among items
pairs_counted n [] [] stand = refl
pairs_counted n [] (x ∷ xs) stand = absurd stand
pairs_counted n (i ∷ items) [] stand = absurd stand
pairs_counted n (i ∷ items) (x ∷ xs) stand =
    let rest = pairs_counted n items xs stand.1 in
    weigh x xs ∙ ap (λ (k : ℕ). k + pairs_in (facts_of xs)) (sym (weight_is n i x stand.0)) ∙ ap (λ (k : ℕ). weight_of i + k) rest ∙ sym (sum_by-cons weight_of i items)

-- ---- so many are derivable

pub many_derivable : (p : Program) (gives : GivenAs) (entry : MethodNo) (n : Numbered) (items : List Item) (xs : List RuleItem) (limit : ℕ) → AreApart n → AreCallsApart n.calls
    → AllZip (IsItemAt n) items xs → IsWithoutDoubles items → ((x : RuleItem) → Contains xs x → IsDerivable (ItemInstance p gives entry) x) → pairs_among items ≡ limit → HasAtLeast (Instance p gives entry) pair_of limit
many_derivable p gives entry n items xs limit apart calls stand items_apart derived reached = record {
  facts = facts_of xs;
  derivable = All-from_contains (IsDerivable (Instance p gives entry)) (facts_of xs) (λ fact c. derivable_fact p gives entry fact (derived (known fact) (known_there xs fact c)));
  apart = pairs_apart (facts_of xs) (facts_apart n apart calls items xs stand items_apart);
  count = count_pairs (facts_of xs) ∙ pairs_counted n items xs stand ∙ reached;
}
