-- The least of the methods that the superinterfaces offer, along a list of them and along a chain of classes.
use Rattle.std.proofs.Common.{◌≡◌, ◌⊎◌, ℕ, ◌+◌, ◌<◌, ◌≤◌, List, [], ◌∷◌, length, get_or, Option, Some, None, refl, sym, ◌∙◌, ap, subst, arith, inl, inr}
use Rattle.std.specs.List.{Contains}
use Rattle.std.proofs.lemmas.Bool.{cases_lt}
use Rattle.std.proofs.lemmas.Option.{same_Some, slice_get-get_or, get_or_from_slice_get}
use Rattle.jvm_model.specs.LinkedPrograms.{IsProgram, MembersDiffer}
use Rattle.jvm_model.specs.Lookups.{Signature}
use Rattle.jvm_model.specs.Programs.{Class, Program}
use Rattle.jvm_model.specs.Resolution.{IsLeastInherited}
use Rattle.jvm_model.specs.declared.number.MethodNo.{MethodNo}
use Rattle.program_model.specs.Numbers.{IsClassNumber}
use Rattle.program_model.specs.Ranks.{IsRanked}
use Rattle.program_model.specs.Whole.{IsThroughInterface}
use Rattle.hierarchy.specs.Searches.{Finds, IsLeast, IsNumberOf, IsOffered, OffersThrough}
use Rattle.hierarchy.specs.Upward.{MakesAlong, IsFoldedUpward}
use Rattle.hierarchy.proofs.ClassPlaces.{class_within}
use Rattle.hierarchy.proofs.Inheriting.{through_here, inherited_along, along_inherited}
use Rattle.hierarchy.proofs.Walks.{HasAlong}

-- ---- the least of which a fact holds

least_same : (Q R : ℕ → Type 0) (found : Option MethodNo) → ((n : ℕ) → Q n → R n) → ((n : ℕ) → R n → Q n) → IsLeast Q found → IsLeast R found
least_same Q R None to back least = λ n h. least n (back n h)
least_same Q R (Some method) to back least = (to method.0 least.0, λ n h. least.1 n (back n h))

-- the least of some stands for all of them
least_join : (Q R : ℕ → Type 0) (x y : Option MethodNo) → IsLeast Q x → IsLeast (λ n. IsNumberOf x n ⊎ R n) y → IsLeast (λ n. Q n ⊎ R n) y
least_join Q R None None none least = λ n h. elim h [ inl q ↦ none n q | inr r ↦ least n (inr r) ]
least_join Q R None (Some y) none least = (
  elim least.0 [ inl gone ↦ absurd gone | inr r ↦ inr r ],
  λ n h. elim h [ inl q ↦ absurd (none n q) | inr r ↦ least.1 n (inr r) ],
)
least_join Q R (Some x) None some least = absurd (least x.0 (inl refl))
least_join Q R (Some x) (Some y) some least = (
  elim least.0 [ inl same ↦ inl (subst Q same some.0) | inr r ↦ inr r ],
  λ n h. elim h [
    | inl q ↦
        let lower = least.1 x.0 (inl refl) in
        let more = some.1 n q in
        omega (arith, lower, more)
    | inr r ↦ least.1 n (inr r)
  ],
)

swapped : (Q R : ℕ → Type 0) (n : ℕ) → Q n ⊎ R n → R n ⊎ Q n
swapped Q R n (inl q) = inr q
swapped Q R n (inr r) = inl r

least_swapped : (Q R : ℕ → Type 0) (found : Option MethodNo) → IsLeast (λ n. Q n ⊎ R n) found → IsLeast (λ n. R n ⊎ Q n) found
least_swapped Q R found = least_same (λ n. Q n ⊎ R n) (λ n. R n ⊎ Q n) found (swapped Q R) (swapped R Q)

grouped : (Q R S : ℕ → Type 0) (n : ℕ) → (Q n ⊎ R n) ⊎ S n → Q n ⊎ (R n ⊎ S n)
grouped Q R S n (inl (inl q)) = inl q
grouped Q R S n (inl (inr r)) = inr (inl r)
grouped Q R S n (inr s) = inr (inr s)

ungrouped : (Q R S : ℕ → Type 0) (n : ℕ) → Q n ⊎ (R n ⊎ S n) → (Q n ⊎ R n) ⊎ S n
ungrouped Q R S n (inl q) = inl (inl q)
ungrouped Q R S n (inr (inl r)) = inl (inr r)
ungrouped Q R S n (inr (inr s)) = inr s

-- a method and nothing else
least_self : (found : Option MethodNo) (Never : ℕ → Type 0) → ((n : ℕ) → Never n → ⊥) → IsLeast (λ n. IsNumberOf found n ⊎ Never n) found
least_self None Never none = λ n h. elim h [ inl gone ↦ absurd gone | inr q ↦ none n q ]
least_self (Some method) Never none = (inl refl, λ n h. elim h [ inl same ↦ omega (arith, same) | inr q ↦ absurd (none n q) ])

-- what is found of one number at most is the least
least_only : (Q : ℕ → Type 0) (found : Option MethodNo) → ((a b : ℕ) → Q a → Q b → a ≡ b) → Finds Q found → IsLeast Q found
least_only Q None only finds = finds
least_only Q (Some method) only finds = (finds, λ n q. let same = only method.0 n finds q in omega (arith, same))

-- ---- along the superinterfaces of a class

-- Each method of the signature is looked for.
abbrev Offers : Program → Signature → ℕ → ℕ → Type 0
Offers p s interface number = IsOffered p s (λ k m. Unit {0}) interface number

-- An interface before a place offers the method.
pub record OffersBefore (p : Program) (s : Signature) (interfaces : List ℕ) (count number : ℕ) : Type 0 where
  pub place : ℕ
  pub before : place < count
  pub offered : Offers p s (get_or interfaces place 0) number

-- The method that is the least of one that was there before and of those that the interfaces before a place offer.
abbrev pub IsLeastBefore : Program → Signature → List ℕ → ℕ → Option MethodNo → Option MethodNo → Type 0
IsLeastBefore p s interfaces count start least = IsLeast (λ n. IsNumberOf start n ⊎ OffersBefore p s interfaces count n) least

pub least_start : (p : Program) (s : Signature) (interfaces : List ℕ) (start : Option MethodNo) → IsLeastBefore p s interfaces 0 start start
least_start p s interfaces start = least_self start (OffersBefore p s interfaces 0) (λ n h. let lt = h.before in absurd (omega (arith, lt)))

-- an interface offers one method of a signature at most
offers_one : (p : Program) → MembersDiffer p → (s : Signature) (interface a b : ℕ) → Offers p s interface a → Offers p s interface b → a ≡ b
offers_one p members s interface a b x y =
    let class = ap (λ (c : Class). c.name) (same_Some x.class y.class (sym x.at ∙ y.at)) in
    members.methods a b x.declares.method y.declares.method x.declares.stands y.declares.stands (x.declares.of_class ∙ class ∙ sym y.declares.of_class)
    (x.declares.is.0 ∙ sym y.declares.is.0)

offers_more : (p : Program) (s : Signature) (interfaces : List ℕ) (count n : ℕ) → OffersBefore p s interfaces count n ⊎ Offers p s (get_or interfaces count 0) n
    → OffersBefore p s interfaces (count + 1) n
offers_more p s interfaces count n (inl h) = record { place = h.place; before = let lt = h.before in omega (arith, lt); offered = h.offered }
offers_more p s interfaces count n (inr here) = record { place = count; before = omega arith; offered = here }

offers_fewer : (p : Program) (s : Signature) (interfaces : List ℕ) (count n : ℕ) → OffersBefore p s interfaces (count + 1) n
    → OffersBefore p s interfaces count n ⊎ Offers p s (get_or interfaces count 0) n
offers_fewer p s interfaces count n h =
    let lt = h.before in
    elim (cases_lt h.place count) [
      | inl less ↦ inl (record { place = h.place; before = less; offered = h.offered })
      | inr le ↦
          let same : h.place ≡ count = omega (arith, lt, le) in
          inr (subst (λ (k : ℕ). Offers p s (get_or interfaces k 0) n) same h.offered)
    ]

pub least_more : (p : Program) → IsProgram p → (s : Signature) (interfaces : List ℕ) (count : ℕ) (start least offered lower : Option MethodNo)
    → IsLeastBefore p s interfaces count start least → Finds (Offers p s (get_or interfaces count 0)) offered → IsLeast (λ n. IsNumberOf least n ⊎ IsNumberOf offered n) lower
    → IsLeastBefore p s interfaces (count + 1) start lower
least_more p program s interfaces count start least offered lower before finds both =
    let Start = IsNumberOf start in
    let Before = OffersBefore p s interfaces count in
    let Here = Offers p s (get_or interfaces count 0) in
    let here = least_only Here offered (offers_one p program.members s (get_or interfaces count 0)) finds in
    let second = least_join Here (IsNumberOf least) offered lower here (least_swapped (IsNumberOf least) (IsNumberOf offered) lower both) in
    let all = least_join (λ n. Start n ⊎ Before n) Here least lower before (least_swapped Here (IsNumberOf least) lower second) in
    least_same (λ n. (Start n ⊎ Before n) ⊎ Here n) (λ n. Start n ⊎ OffersBefore p s interfaces (count + 1) n) lower
    (λ n h. elim (grouped Start Before Here n h) [ inl q ↦ inl q | inr r ↦ inr (offers_more p s interfaces count n r) ])
    (λ n h. ungrouped Start Before Here n (elim h as (λ _. Start n ⊎ (Before n ⊎ Here n)) [ inl q ↦ inl q | inr r ↦ inr (offers_fewer p s interfaces count n r) ])) all

pub least_through : (p : Program) (s : Signature) (c : Class) (interfaces : List ℕ) (count : ℕ) (start least : Option MethodNo) → count ≤ length interfaces → length interfaces ≤ count
    → ((k : ℕ) → IsClassNumber p k → (Contains interfaces k → IsThroughInterface p c k) × (IsThroughInterface p c k → Contains interfaces k))
    → IsLeastBefore p s interfaces count start least → IsLeast (λ n. IsNumberOf start n ⊎ OffersThrough p s (λ k m. Unit {0}) c n) least
least_through p s c interfaces count start least few all exact =
    least_same (λ n. IsNumberOf start n ⊎ OffersBefore p s interfaces count n) (λ n. IsNumberOf start n ⊎ OffersThrough p s (λ k m. Unit {0}) c n) least
    (λ n h. elim h [
      | inl q ↦ inl q
      | inr before ↦
          let lt = before.before in
          inr (through_here p s (λ k m. Unit {0}) c interfaces before.place n (omega (arith, lt, few)) exact before.offered)
    ])
    (λ n h. elim h [
      | inl q ↦ inl q
      | inr through ↦
          let i = through.interface in
          let among = (exact i (class_within p i through.offered.class through.offered.at)).1 through.through in
          let lt = among.1 in
          let is : get_or interfaces among.0 0 ≡ i = get_or_from_slice_get interfaces among.0 i 0 (slice_get-get_or interfaces among.0 i among.1 ∙ ap (λ v. Some v) among.2) in
          inr (record { place = among.0; before = omega (arith, lt, all); offered = subst (λ (x : ℕ). Offers p s x n) (sym is) through.offered })
    ])

-- ---- along a chain

least_along : (Q : Class → ℕ → Type 0) (chain : List Class) (start value : Option MethodNo) → MakesAlong (λ c v. IsLeast (λ n. IsNumberOf v n ⊎ Q c n)) chain start value
    → IsLeast (λ n. IsNumberOf start n ⊎ HasAlong Q chain n) value
least_along Q [] start value same = subst (λ (v : Option MethodNo). IsLeast (λ n. IsNumberOf start n ⊎ ⊥) v) same (least_self start (λ n. ⊥) (λ n gone. gone))
least_along Q (c ∷ chain) start value makes =
    let next = makes.0 in
    let Start = IsNumberOf start in
    let all = least_join (λ n. Start n ⊎ Q c n) (HasAlong Q chain) next value makes.1 (least_along Q chain next value makes.2) in
    least_same (λ n. (Start n ⊎ Q c n) ⊎ HasAlong Q chain n) (λ n. Start n ⊎ (Q c n ⊎ HasAlong Q chain n)) value (grouped Start (Q c) (HasAlong Q chain))
    (ungrouped Start (Q c) (HasAlong Q chain)) all

-- what a walk makes that looks for the least
pub least_found : (p : Program) → IsProgram p → IsRanked p → (s : Signature) (class : List ℕ) (found : Option MethodNo)
    → IsFoldedUpward p (λ c v. IsLeast (λ n. IsNumberOf v n ⊎ OffersThrough p s (λ k m. Unit {0}) c n)) class None found → Finds (IsLeastInherited p class s) found
least_found p program ranked s class found fold = inherited found (least_along Q fold.chain None found fold.makes)
  where
    Q : Class → ℕ → Type 0
    Q = OffersThrough p s (λ k m. Unit {0})

    inherited : (r : Option MethodNo) → IsLeast (λ n. IsNumberOf None n ⊎ HasAlong Q fold.chain n) r → Finds (IsLeastInherited p class s) r
    inherited None none = λ n least.
        none n (inr (inherited_along p program s (λ k m. Unit {0}) class fold.chain n fold.of_class (record { inherited = least.inherited; taken = tt })))
    inherited (Some method) least =
        let along : HasAlong Q fold.chain method.0 = elim least.0 [ inl gone ↦ absurd gone | inr h ↦ h ] in
        record {
          inherited = (along_inherited p program ranked s (λ k m. Unit {0}) class fold.chain method.0 fold.of_class along).inherited;
          least = λ other o.
              least.1 other (inr (inherited_along p program s (λ k m. Unit {0}) class fold.chain other fold.of_class (record { inherited = o; taken = tt })));
        }
