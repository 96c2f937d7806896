-- What is added to a list of items, step by step: nothing, one item, what several steps add, and what the turns of a loop add.
use Rattle.std.proofs.Common.{◌≡◌, ◌↔◌, ℕ, ◌+◌, ◌<◌, ◌≤◌, List, [], ◌∷◌, ◌++◌, length, take, get_or, refl, sym, ◌∙◌, ap, subst, append_assoc, arith, inl, inr, ◌⊎◌}
use Rattle.std.specs.List.{Contains}
use Rattle.std.proofs.lemmas.Bool.{cases_lt}
use Rattle.std.proofs.lemmas.List.{append-nil, take_more, take_all}
use Rattle.std.proofs.lemmas.List.Elements.{All-nil, All-push, All-append, All-weaker, Contains-push, Contains-push_cases, Contains-append_left, Contains-append_right}
use Rattle.points_to_constraints.specs.Items.{Item as RuleItem}
use Rattle.points_to_numbers.specs.declared.item.Item.{Item}
use Rattle.points_to_numbers.specs.Numbered.{Numbered, Grows}
use Rattle.points_to_numbers.specs.Steps.{IsItemAt, Adds}
use Rattle.points_to_numbers.proofs.Growing.{grown_item}

-- what a sound item stands for
abbrev StandsFor : Numbered → (RuleItem → Type 0) → Item → Type 0
StandsFor n P i = (x : RuleItem) × IsItemAt n i x × P x

-- nothing has the property, and nothing is added
pub adds_none : (n : Numbered) (P : RuleItem → Type 0) (xs : List Item) → ((x : RuleItem) → P x → ⊥) → Adds n P xs xs
adds_none n P xs none = record {
  more = [];
  is = sym (append-nil xs);
  sound = All-nil (StandsFor n P);
  complete = λ x p. absurd (none x p);
}

-- one item is added, which stands for all that has the property
pub adds_one : (n : Numbered) (P : RuleItem → Type 0) (xs : List Item) (i : Item) (x : RuleItem) → IsItemAt n i x → P x → ((y : RuleItem) → P y → IsItemAt n i y) → Adds n P xs (xs ++ i ∷ [])
adds_one n P xs i x at p only = record {
  more = i ∷ [];
  is = refl;
  sound = All-push (StandsFor n P) [] i (All-nil (StandsFor n P)) (x, at, p);
  complete = λ y q. (i, Contains-push [] i, only y q);
}

-- the same where one thing has the property
pub adds_only : (n : Numbered) (P : RuleItem → Type 0) (xs : List Item) (i : Item) (x : RuleItem) → IsItemAt n i x → P x → ((y : RuleItem) → P y → y ≡ x) → Adds n P xs (xs ++ i ∷ [])
adds_only n P xs i x at p one = adds_one n P xs i x at p (λ y q. subst (IsItemAt n i) (sym (one y q)) at)

-- the same property, said otherwise
pub adds_same : (n : Numbered) (P Q : RuleItem → Type 0) (a b : List Item) → ((x : RuleItem) → P x ↔ Q x) → Adds n P a b → Adds n Q a b
adds_same n P Q a b same adds = record {
  more = adds.more;
  is = adds.is;
  sound = All-weaker (StandsFor n P) (StandsFor n Q) (λ i (x, at, p). (x, at, (same x).0 p)) adds.more adds.sound;
  complete = λ x q. adds.complete x ((same x).1 q);
}

-- what was added stands when the tables have grown
pub adds_grown : (n m : Numbered) (P : RuleItem → Type 0) (a b : List Item) → Grows n m → Adds n P a b → Adds m P a b
adds_grown n m P a b grows adds = record {
  more = adds.more;
  is = adds.is;
  sound = All-weaker (StandsFor n P) (StandsFor m P) (λ i (x, at, p). (x, grown_item n m grows i x at, p)) adds.more adds.sound;
  complete = λ x p. let (i, there, at) = adds.complete x p in (i, there, grown_item n m grows i x at);
}

-- two steps
pub adds_both : (n m : Numbered) (P Q : RuleItem → Type 0) (a b c : List Item) → Adds n P a b → Grows n m → Adds m Q b c → Adds m (λ x. P x ⊎ Q x) a c
adds_both n m P Q a b c first grows second =
    let Either : RuleItem → Type 0 = λ x. P x ⊎ Q x in
    let before = adds_grown n m P a b grows first in
    record {
      more = before.more ++ second.more;
      is = second.is ∙ ap (λ (xs : List Item). xs ++ second.more) before.is ∙ append_assoc a before.more second.more;
      sound = All-append (StandsFor m Either) before.more second.more
          (All-weaker (StandsFor m P) (StandsFor m Either) (λ i (x, at, p). (x, at, inl p)) before.more before.sound)
          (All-weaker (StandsFor m Q) (StandsFor m Either) (λ i (x, at, q). (x, at, inr q)) second.more second.sound);
      complete = λ x e. elim e [
        | inl p ↦ let (i, there, at) = before.complete x p in (i, Contains-append_left before.more second.more i there, at)
        | inr q ↦ let (i, there, at) = second.complete x q in (i, Contains-append_right before.more second.more i there, at)
      ];
    }

-- ---- loops over a list, of which each element adds what has a property

-- It has the property of one of the elements.
abbrev pub OfOne : {E : Type 0} → (E → RuleItem → Type 0) → List E → RuleItem → Type 0
OfOne {E} P es x = (e : E) × Contains es e × P e x

module _ {E : Type 0} (P : E → RuleItem → Type 0) where
  -- no element yet
  pub adds_start : (n : Numbered) (es : List E) (xs : List Item) → Adds n (OfOne P (take 0 es)) xs xs
  adds_start n es xs = adds_none n (OfOne P (take 0 es)) xs (λ x (e, (k, within, at), p). absurd (omega (arith, within)))

  -- one element more
  pub adds_next : (n m : Numbered) (es : List E) (i : ℕ) (e : E) (a b c : List Item) → i < length es → e ≡ get_or es i e
      → Adds n (OfOne P (take i es)) a b → Grows n m → Adds m (P e) b c → Adds m (OfOne P (take (i + 1) es)) a c
  adds_next n m es i e a b c within is first grows second =
      let longer = take_more es i e within ∙ ap (λ (last : E). take i es ++ last ∷ []) (sym is) in
      let same : (x : RuleItem) → (OfOne P (take i es) x ⊎ P e x) ↔ OfOne P (take i es ++ e ∷ []) x = λ x. (
        (λ h. elim h [
          | inl (f, there, p) ↦ (f, Contains-append_left (take i es) (e ∷ []) f there, p)
          | inr p ↦ (e, Contains-push (take i es) e, p)
        ]),
        (λ (f, there, p). elim (Contains-push_cases (take i es) e f there) [
          | inl old ↦ inl (f, old, p)
          | inr last ↦ inr (subst (λ (g : E). P g x) (sym last) p)
        ]),
      ) in
      subst (λ (all : List E). Adds m (OfOne P all) a c) (sym longer)
      (adds_same m (λ x. OfOne P (take i es) x ⊎ P e x) (OfOne P (take i es ++ e ∷ [])) a c same (adds_both n m (OfOne P (take i es)) (P e) a b c first grows second))

  -- all of them
  pub adds_all : (n : Numbered) (es : List E) (i : ℕ) (a b : List Item) → length es ≤ i → Adds n (OfOne P (take i es)) a b → Adds n (OfOne P es) a b
  adds_all n es i a b past adds = subst (λ (all : List E). Adds n (OfOne P all) a b) (take_all i es past) adds

-- ---- loops over the numbers below a limit, each of which adds what has a property

-- It has the property of one of the numbers.
abbrev pub OfOneBelow : (ℕ → RuleItem → Type 0) → ℕ → RuleItem → Type 0
OfOneBelow P limit x = (k : ℕ) × (k < limit) × P k x

module _ (P : ℕ → RuleItem → Type 0) where
  -- no number yet
  pub adds_below_start : (n : Numbered) (xs : List Item) → Adds n (OfOneBelow P 0) xs xs
  adds_below_start n xs = adds_none n (OfOneBelow P 0) xs (λ x (k, below, p). absurd (omega (arith, below)))

  -- one number more
  pub adds_below_next : (n m : Numbered) (i : ℕ) (a b c : List Item) → Adds n (OfOneBelow P i) a b → Grows n m → Adds m (P i) b c → Adds m (OfOneBelow P (i + 1)) a c
  adds_below_next n m i a b c first grows second =
      adds_same m (λ x. OfOneBelow P i x ⊎ P i x) (OfOneBelow P (i + 1)) a c
      (λ x. (
        (λ h. elim h [
          | inl (k, below, p) ↦ (k, omega (arith, below), p)
          | inr p ↦ (i, omega arith, p)
        ]),
        (λ (k, below, p). elim (cases_lt k i) [
          | inl lt ↦ inl (k, lt, p)
          | inr le ↦ let last : k ≡ i = omega (arith, below, le) in inr (subst (λ (j : ℕ). P j x) last p)
        ]),
      ))
      (adds_both n m (OfOneBelow P i) (P i) a b c first grows second)
