-- The analysis of a program ends in one way: with too many pairs, with one first refusal, or with sets in which nothing is refused.
use Rattle.std.proofs.Common.{◌≡◌, ◌∙◌, ℕ, ◌≤◌, List, Result, Ok, Err, Contains, slice_get, sym, ap, subst, arith}
use Rattle.std.proofs.lemmas.Option.{same_Some}
use Rattle.jvm_model.specs.declared.number.MethodNo.{MethodNo}
use Rattle.jvm_model.specs.declared.reason.Reason.{Reason}
use Rattle.jvm_model.specs.declared.reason.Refusal.{Refusal}
use Rattle.jvm_model.specs.Programs.{Class, Method, Program}
use Rattle.jvm_model.specs.Subtypes.{class_named}
use Rattle.op_model.specs.declared.lowered.LoweredMethod.{LoweredMethod}
use Rattle.op_model.specs.Supplies.{GivenAs}
use Rattle.least_sets.specs.Parts.{HasAtLeast}
use Rattle.least_sets.proofs.Least.{least_is_one}
use Rattle.least_sets.proofs.Parts.{at_least_parts}
use Rattle.points_to_rules.specs.Facts.{Fact, may_hold, may_run}
use Rattle.points_to_rules.specs.Refusals.{IsRefusedIn, of_method, of_call, IsRefusedCall, IsCodeStart, IsNoLater, call_reasons, ComesFirst, IsFirstRefusal}
use Rattle.points_to_rules.specs.Refusals as refusals
use Rattle.points_to_rules.specs.Rules.{Instance}
use Rattle.points_to_rules.proofs.CountedPairs.{count_pairs}
use Rattle.points_to_rules.specs.Solutions.{AreLeastBelow, EndsRefused, IsSolution, pair_of}

-- ---- facts of a larger set

module _ (p : Program) (gives : GivenAs) (S T : Fact → Type 0) (more : (x : Fact) → S x → T x) where
  call_more : (m : MethodNo) (offset : ℕ) (reason : Reason) → IsRefusedCall p gives S m offset reason → IsRefusedCall p gives T m offset reason
  call_more m offset reason c = record {
    runs = more (may_run m) c.runs;
    method = c.method;
    node = c.node;
    stands = c.stands;
    at = c.at;
    call = c.call;
    is_call = c.is_call;
    z = c.z;
    receiver = c.receiver;
    holder = c.holder;
    slot = c.slot;
    site = c.site;
    held = more (may_hold c.holder c.site) c.held;
    lacks = c.lacks;
  }

  refused_more : (m : MethodNo) (r : Refusal) → IsRefusedIn p gives S m r → IsRefusedIn p gives T m r
  refused_more m r (of_method runs refused) = of_method (more (may_run m) runs) refused
  refused_more m r (of_call offset start name reason refused begins is) = of_call offset start name reason (call_more m offset reason refused) begins is

-- ---- refusals of a method, where each method is given as one thing

code_file : (p : Program) (m : MethodNo) (name also : List ℕ) (start other : ℕ) → IsCodeStart p m name start → IsCodeStart p m also other → name ≡ also
code_file p m name also start other x y =
    let method : x.method ≡ y.method = same_Some x.method y.method (sym x.stands ∙ y.stands) in
    let class : x.class ≡ y.class = same_Some x.class y.class (sym x.of_class ∙ ap (λ (k : Method). class_named p k.class) method ∙ y.of_class) in
    x.in_class_file ∙ ap (λ (c : Class). c.file) class ∙ sym y.in_class_file

-- of two reasons of which neither is later both are one
reason_same : (a b : Reason) → IsNoLater a b → IsNoLater b a → a ≡ b
reason_same a b x y =
    let up : x.place ≤ y.place = x.first y.place y.stands in
    let down : y.place ≤ x.place = y.first x.place x.stands in
    let places : x.place ≡ y.place = omega arith in
    same_Some a b (sym x.stands ∙ ap (λ (k : ℕ). slice_get call_reasons k) places ∙ y.stands)

module _ (p : Program) (gives : GivenAs) (one : (number : ℕ) (a b : Result LoweredMethod Refusal) → gives number a → gives number b → a ≡ b) where
  module _ (S : Fact → Type 0) where
    -- they are all of its file
    file_same : (m : MethodNo) (r q : Refusal) → IsRefusedIn p gives S m r → IsRefusedIn p gives S m q → r.file ≡ q.file
    file_same m r q (of_method runs x) (of_method runs2 y) =
        let both = one m.0 (Err r) (Err q) x y in
        let same : r ≡ q = cc in
        ap (λ (k : Refusal). k.file) same
    file_same m r q (of_method runs x) (of_call offset start name reason y begins is) = absurd (let both = one m.0 (Err r) (Ok y.method) x y.stands.given in cc)
    file_same m r q (of_call offset start name reason x begins is) (of_method runs y) = absurd (let both = one m.0 (Err q) (Ok x.method) y x.stands.given in cc)
    file_same m r q (of_call offset start name reason x begins is) (of_call offset2 start2 name2 reason2 y begins2 is2) =
        ap (λ (k : Refusal). k.file) is ∙ code_file p m name name2 start start2 begins begins2 ∙ sym (ap (λ (k : Refusal). k.file) is2)

    -- two of which neither comes after the other are one
    ordered_same : (m k : MethodNo) (r q : Refusal) → IsRefusedIn p gives S m r → IsRefusedIn p gives S k q → ComesFirst m r k q → ComesFirst k q m r → r ≡ q
    ordered_same m k r q x y (refusals.by_method l) (refusals.by_method l2) = absurd (omega arith)
    ordered_same m k r q x y (refusals.by_method l) (refusals.by_offset e l2) = absurd (let numbers = ap (λ (n : MethodNo). n.0) e in omega arith)
    ordered_same m k r q x y (refusals.by_method l) (refusals.by_reason e o n) = absurd (let numbers = ap (λ (n : MethodNo). n.0) e in omega arith)
    ordered_same m k r q x y (refusals.by_method l) (refusals.same e is) = sym is
    ordered_same m k r q x y (refusals.by_offset e l) (refusals.by_method l2) = absurd (let numbers = ap (λ (n : MethodNo). n.0) e in omega arith)
    ordered_same m k r q x y (refusals.by_offset e l) (refusals.by_offset e2 l2) = absurd (omega arith)
    ordered_same m k r q x y (refusals.by_offset e l) (refusals.by_reason e2 o n) = absurd (omega arith)
    ordered_same m k r q x y (refusals.by_offset e l) (refusals.same e2 is) = sym is
    ordered_same m k r q x y (refusals.by_reason e o n) (refusals.by_method l) = absurd (let numbers = ap (λ (n : MethodNo). n.0) e in omega arith)
    ordered_same m k r q x y (refusals.by_reason e o n) (refusals.by_offset e2 l) = absurd (omega arith)
    ordered_same m k r q x y (refusals.by_reason e o n) (refusals.by_reason e2 o2 n2) =
        let file = file_same k r q (subst (λ (j : MethodNo). IsRefusedIn p gives S j r) e x) y in
        let reason = reason_same r.reason q.reason n n2 in
        (λ i. record { file = file i; offset = o i; reason = reason i })
    ordered_same m k r q x y (refusals.by_reason e o n) (refusals.same e2 is) = sym is
    ordered_same m k r q x y (refusals.same e is) other = is

    first_same : (r q : Refusal) → IsFirstRefusal p gives S r → IsFirstRefusal p gives S q → r ≡ q
    first_same r q x y = ordered_same x.method y.method r q x.refused y.refused (x.first y.method q y.refused) (y.first x.method r x.refused)

  module _ (entry : MethodNo) (limit : ℕ) where
    module _ (facts others : List Fact) (x : AreLeastBelow p gives entry limit facts) (y : AreLeastBelow p gives entry limit others) where
      pub to_other : (fact : Fact) → Contains facts fact → Contains others fact
      to_other = least_is_one (Instance p gives entry) facts others x.least y.least

      pub to_this : (fact : Fact) → Contains others fact → Contains facts fact
      to_this = least_is_one (Instance p gives entry) others facts y.least x.least

    -- there are not both as many pairs as the limit and fewer
    pub many_or_few : (facts : List Fact) → HasAtLeast (Instance p gives entry) pair_of limit → AreLeastBelow p gives entry limit facts → ⊥
    many_or_few facts many x =
        let least = at_least_parts (Instance p gives entry) pair_of facts limit x.least many in
        let count = count_pairs facts in
        let room = x.room in
        omega arith

    pub refusal_same : (r q : Refusal) → EndsRefused p gives entry limit r → EndsRefused p gives entry limit q → r ≡ q
    refusal_same r q x y = first_same (Contains y.facts) r q moved y.first
      where
        to : (fact : Fact) → Contains x.facts fact → Contains y.facts fact
        to = to_other x.facts y.facts x.least y.least

        back : (fact : Fact) → Contains y.facts fact → Contains x.facts fact
        back = to_this x.facts y.facts x.least y.least

        moved : IsFirstRefusal p gives (Contains y.facts) r
        moved = record {
          method = x.first.method;
          refused = refused_more p gives (Contains x.facts) (Contains y.facts) to x.first.method r x.first.refused;
          first = λ k s h. x.first.first k s (refused_more p gives (Contains y.facts) (Contains x.facts) back k s h);
        }

    pub refused_or_solved : (r : Refusal) (facts : List Fact) → EndsRefused p gives entry limit r → IsSolution p gives entry limit facts → ⊥
    refused_or_solved r facts x y =
        y.unrefused x.first.method r
        (refused_more p gives (Contains x.facts) (Contains facts) (to_other x.facts facts x.least y.least) x.first.method r x.first.refused)
