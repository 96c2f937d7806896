-- The refusal that is named is the first among the facts; and where none is named, none is there.
use Rattle.std.proofs.Common.{◌≡◌, ℕ, ◌+◌, ◌≤◌, inl, inr, List, Option, Some, None, Ok, Err, refl, sym, ◌∙◌, ap, subst, arith}
use Rattle.std.specs.List.{Contains}
use Rattle.std.proofs.lemmas.Bool.{cases_lt}
use Rattle.std.proofs.lemmas.Option.{same_Some, none-some}
use Rattle.std.proofs.lemmas.List.Elements.{All-contains}
use Rattle.jvm_model.specs.declared.number.MethodNo.{MethodNo}
use Rattle.jvm_model.specs.declared.reason.Reason.{Reason}
use Rattle.jvm_model.specs.declared.reason.Refusal.{Refusal}
use Rattle.jvm_model.specs.Programs.{Program}
use Rattle.op_model.specs.Supplies.{GivenAs}
use Rattle.least_sets.proofs.Places.{nothing_in}
use Rattle.points_to_rules.specs.Facts.{Fact, may_run}
use Rattle.points_to_rules.specs.Refusals.{IsRefusedIn, of_method, of_call, IsRefusedCall, IsCodeStart, IsNoLater, ComesFirst, by_method, by_offset, by_reason, same, IsFirstRefusal, IsUnrefused}
use Rattle.points_to_constraints.specs.Items.{facts_of}
use Rattle.points_to_constraints.proofs.ClosedFacts.{least_facts}
use Rattle.points_to_constraints.proofs.MeantItems.{derivable_fact}
use Rattle.points_to_numbers.specs.declared.item.Item.{Item}
use Rattle.points_to_numbers.specs.Numbered.{Numbered}
use Rattle.points_to.specs.declared.refusals.RefusedCall.{RefusedCall}
use Rattle.points_to.specs.declared.refusals.RefusedMethod.{RefusedMethod}
use Rattle.points_to_rules.specs.declared.running_method.RunningMethod.{RunningMethod}
use Rattle.points_to.specs.Closing.{IsLackIn, IsRefusedAmong, HasFirstCall, HasFirstMethod, IsClosed}
use Rattle.points_to.specs.Firsts.{IsNoLaterCall, LeadsMethod, TrailsMethod}
use Rattle.points_to.specs.Firsts as firsts
use Rattle.points_to.specs.Refusing.{IsCallRefusal, IsNamed, IsOfCoded, refusal_of}
use Rattle.points_to_rules.specs.Solutions.{IsSupplyOf, AreLeastBelow}
use Rattle.points_to.proofs.CodeStarts.{one_start, lack_reason, no_later}
use Rattle.points_to.proofs.GivenMethods.{GivesOne}
use Rattle.points_to.proofs.PairedFacts.{known_there, fact_there, pairs_counted}
use Rattle.points_to.proofs.RefusedNodes.{lack_is_refused, refused_is_lack}

method_no : (a b : MethodNo) → a.0 ≡ b.0 → a ≡ b
method_no a b e = (λ i. record { 0 = e i })

module _ (p : Program) (gives : GivenAs) (supply : IsSupplyOf p gives) (one : GivesOne gives) (entry : MethodNo) (limit : ℕ) (n : Numbered) (items : List Item) (call : Option RefusedCall) (method : Option RefusedMethod)
    (listed : List RunningMethod) (closed : IsClosed p gives entry limit n items call method listed) where
  abbrev facts : List Fact
  facts = facts_of closed.xs

  abbrev Among : Fact → Type 0
  Among = Contains (facts_of closed.xs)

  -- ---- the facts

  pub least_below : AreLeastBelow p gives entry limit facts
  least_below = record {
    least = least_facts p gives entry closed.xs supply.methods (derivable_fact p gives entry) closed.least;
    apart = closed.apart;
    room = (let count = pairs_counted n items closed.xs closed.stand in let room = closed.room in omega arith);
  }

  -- ---- what is noted and what is refused

  refused_method : (k : MethodNo) (q : Refusal) → Among (may_run k) → gives k.0 (Err q) → IsRefusedAmong gives (Contains closed.xs) (record { method = k; refusal = q })
  refused_method k q runs refused = record { runs = known_there closed.xs (may_run k) runs; refused = refused }

  lacking : (k : MethodNo) (offset : ℕ) (reason : Reason) → IsRefusedCall p gives Among k offset reason → IsLackIn p (Contains closed.xs) (record { method = k; offset = offset; reason = reason })
  lacking = refused_is_lack p gives entry closed.xs closed.least supply.methods

  -- a method that is refused has no calls
  refused_or_called : (k : MethodNo) (q : Refusal) (offset : ℕ) (reason : Reason) → gives k.0 (Err q) → IsRefusedCall p gives Among k offset reason → ⊥
  refused_or_called k q offset reason refused h = let both = one k.0 (Err q) (Ok h.method) refused h.stands.given in cc

  -- ---- the first of them

  method_there : (m : RefusedMethod) → IsRefusedAmong gives (Contains closed.xs) m → (first : RefusedMethod) × (method ≡ Some first) × (first.method.0 ≤ m.method.0)
  method_there m h = by method refl closed.methods
    where
      by : (o : Option RefusedMethod) → method ≡ o → HasFirstMethod (IsRefusedAmong gives (Contains closed.xs)) o → (first : RefusedMethod) × (method ≡ Some first) × (first.method.0 ≤ m.method.0)
      by None e noted = absurd (nothing_in m (subst (λ (xs : List RefusedMethod). Contains xs m) noted.is_first (noted.those.complete m h)))
      by (Some first) e noted = (first, e, All-contains (λ (x : RefusedMethod). first.method.0 ≤ x.method.0) noted.noted m noted.is_first.1 (noted.those.complete m h))

  call_there : (c : RefusedCall) → IsLackIn p (Contains closed.xs) c → (first : RefusedCall) × (call ≡ Some first) × IsNoLaterCall first c
  call_there c h = by call refl closed.calls
    where
      by : (o : Option RefusedCall) → call ≡ o → HasFirstCall (IsLackIn p (Contains closed.xs)) o → (first : RefusedCall) × (call ≡ Some first) × IsNoLaterCall first c
      by None e noted = absurd (nothing_in c (subst (λ (xs : List RefusedCall). Contains xs c) noted.is_first (noted.those.complete c h)))
      by (Some first) e noted = (first, e, All-contains (IsNoLaterCall first) noted.noted c noted.is_first.1 (noted.those.complete c h))

  first_method : (first : RefusedMethod) → method ≡ Some first → IsRefusedAmong gives (Contains closed.xs) first
  first_method first e =
      let h = subst (λ (o : Option RefusedMethod). HasFirstMethod (IsRefusedAmong gives (Contains closed.xs)) o) e closed.methods in
      All-contains (IsRefusedAmong gives (Contains closed.xs)) h.noted first h.those.sound h.is_first.0

  first_call : (first : RefusedCall) → call ≡ Some first → IsLackIn p (Contains closed.xs) first
  first_call first e =
      let h = subst (λ (o : Option RefusedCall). HasFirstCall (IsLackIn p (Contains closed.xs)) o) e closed.calls in
      All-contains (IsLackIn p (Contains closed.xs)) h.noted first h.those.sound h.is_first.0

  methods_by : (a b : RefusedCall) → IsNoLaterCall a b → a.method.0 ≤ b.method.0
  methods_by a b (firsts.by_method l) = omega arith
  methods_by a b (firsts.by_offset e l) = omega arith
  methods_by a b (firsts.by_reason e f l) = omega arith

  -- ---- where none is named

  pub unrefused : refusal_of method ≡ None → call ≡ None → IsUnrefused p gives Among
  unrefused none no_call k q (of_method runs refused) =
      let there = method_there (record { method = k; refusal = q }) (refused_method k q runs refused) in
      none-some there.0.refusal (sym none ∙ ap refusal_of there.1)
  unrefused none no_call k q (of_call offset start name reason refused begins is) =
      let there = call_there (record { method = k; offset = offset; reason = reason }) (lacking k offset reason refused) in
      none-some there.0 (sym no_call ∙ there.1)

  -- ---- where that of a call is

  module _ (c : RefusedCall) (is_call : call ≡ Some c) (leads : LeadsMethod c.method.0 method) (r : Refusal) (made : IsCallRefusal p c r) where
    call_refused : IsRefusedCall p gives Among c.method c.offset c.reason
    call_refused = lack_is_refused p gives entry closed.xs closed.least c (first_call c is_call)

    -- before another call
    before_call : (k : MethodNo) (q : Refusal) (offset start : ℕ) (name : List ℕ) (reason : Reason) → IsCodeStart p k name start → q ≡ record { file = name; offset = start + offset; reason = reason }
        → IsNoLaterCall c (record { method = k; offset = offset; reason = reason }) → ComesFirst c.method r k q
    before_call k q offset start name reason begins is (firsts.by_method l) = by_method l
    before_call k q offset start name reason begins is (firsts.by_offset e l) =
        let methods = method_no c.method k e in
        let starts = one_start p k made.name name made.start start (subst (λ (m : MethodNo). IsCodeStart p m made.name made.start) methods made.begins) begins in
        let own = ap (λ (x : Refusal). x.offset) made.is in
        let its = ap (λ (x : Refusal). x.offset) is in
        by_offset methods (omega arith)
    before_call k q offset start name reason begins is (firsts.by_reason e f l) =
        let methods = method_no c.method k e in
        let starts = one_start p k made.name name made.start start (subst (λ (m : MethodNo). IsCodeStart p m made.name made.start) methods made.begins) begins in
        let own = ap (λ (x : Refusal). x.offset) made.is in
        let its = ap (λ (x : Refusal). x.offset) is in
        let lack = first_call c is_call in
        let ordered = no_later c.reason reason (lack_reason p lack.call.kind lack.call.resolved lack.s c.reason lack.lacks) l in
        by_reason methods (omega arith) (subst (λ (a : Reason). IsNoLater a q.reason) (sym (ap (λ (x : Refusal). x.reason) made.is))
        (subst (λ (b : Reason). IsNoLater c.reason b) (sym (ap (λ (x : Refusal). x.reason) is)) ordered))

    call_first : (k : MethodNo) (q : Refusal) → IsRefusedIn p gives Among k q → ComesFirst c.method r k q
    call_first k q (of_method runs refused) =
        let there = method_there (record { method = k; refusal = q }) (refused_method k q runs refused) in
        let least : c.method.0 ≤ there.0.method.0 = subst (λ (o : Option RefusedMethod). LeadsMethod c.method.0 o) there.1 leads in
        elim (cases_lt c.method.0 k.0) [
          | inl less ↦ by_method less
          | inr more ↦
              let numbers : k.0 ≡ c.method.0 = (let l = there.2 in omega arith) in
              absurd (refused_or_called c.method q c.offset c.reason (subst (λ (m : MethodNo). gives m.0 (Err q)) (method_no k c.method numbers) refused) call_refused)
        ]
    call_first k q (of_call offset start name reason refused begins is) =
        let there = call_there (record { method = k; offset = offset; reason = reason }) (lacking k offset reason refused) in
        let firsts_same : there.0 ≡ c = same_Some there.0 c (sym there.1 ∙ is_call) in
        before_call k q offset start name reason begins is (subst (λ (f : RefusedCall). IsNoLaterCall f (record { method = k; offset = offset; reason = reason })) firsts_same there.2)

    call_ends : IsFirstRefusal p gives Among r
    call_ends = record { method = c.method; refused = of_call c.offset made.start made.name c.reason call_refused made.begins made.is; first = call_first }

  -- ---- where that of a method is

  module _ (m : RefusedMethod) (is_method : method ≡ Some m) (trails : (c : RefusedCall) → call ≡ Some c → m.method.0 ≤ c.method.0) where
    method_first : (k : MethodNo) (q : Refusal) → IsRefusedIn p gives Among k q → ComesFirst m.method m.refusal k q
    method_first k q (of_method runs refused) =
        let there = method_there (record { method = k; refusal = q }) (refused_method k q runs refused) in
        let firsts_same : there.0 ≡ m = same_Some there.0 m (sym there.1 ∙ is_method) in
        let least : m.method.0 ≤ k.0 = subst (λ (f : RefusedMethod). f.method.0 ≤ k.0) firsts_same there.2 in
        elim (cases_lt m.method.0 k.0) [
          | inl less ↦ by_method less
          | inr more ↦
              let methods = method_no m.method k (omega arith) in
              let own = subst (λ (j : MethodNo). gives j.0 (Err m.refusal)) methods (first_method m is_method).refused in
              let both = one k.0 (Err m.refusal) (Err q) own refused in
              let refusals : m.refusal ≡ q = cc in
              same methods refusals
        ]
    method_first k q (of_call offset start name reason refused begins is) =
        let there = call_there (record { method = k; offset = offset; reason = reason }) (lacking k offset reason refused) in
        let first = methods_by there.0 (record { method = k; offset = offset; reason = reason }) there.2 in
        let behind = trails there.0 there.1 in
        elim (cases_lt m.method.0 k.0) [
          | inl less ↦ by_method less
          | inr more ↦
              let methods = method_no m.method k (omega arith) in
              let own = subst (λ (j : MethodNo). gives j.0 (Err m.refusal)) methods (first_method m is_method).refused in
              absurd (refused_or_called k m.refusal offset reason own refused)
        ]

    method_ends : IsFirstRefusal p gives Among m.refusal
    method_ends =
        let h = first_method m is_method in
        record { method = m.method; refused = of_method (fact_there closed.xs (may_run m.method) h.runs) h.refused; first = method_first }

  -- ---- the whole

  -- the method of a call that lacks a target has code
  pub call_coded : IsOfCoded p call
  call_coded = by call refl
    where
      by : (o : Option RefusedCall) → call ≡ o → IsOfCoded p o
      by None e = tt
      by (Some c) e =
          let h = lack_is_refused p gives entry closed.xs closed.least c (first_call c e) in
          supply.coded c.method.0 (Ok h.method) h.stands.given

  pub named_none : IsNamed p call method None → IsUnrefused p gives Among
  named_none named = by call refl named
    where
      by : (o : Option RefusedCall) → call ≡ o → IsNamed p o method None → IsUnrefused p gives Among
      by None e none = unrefused (sym none) e
      by (Some c) e (inl first) = absurd first.1
      by (Some c) e (inr behind) = absurd (no_trail method behind.0 (sym behind.1))
        where
          no_trail : (o : Option RefusedMethod) → TrailsMethod c.method.0 o → refusal_of o ≡ None → ⊥
          no_trail None trails none = trails
          no_trail (Some m) trails none = none-some m.refusal (sym none)

  pub named_some : (r : Refusal) → IsNamed p call method (Some r) → IsFirstRefusal p gives Among r
  named_some r named = by call refl named
    where
      of_own : (o : Option RefusedMethod) → method ≡ o → Some r ≡ refusal_of o → ((m : RefusedMethod) → method ≡ Some m → (c : RefusedCall) → call ≡ Some c → m.method.0 ≤ c.method.0) → IsFirstRefusal p gives Among r
      of_own None e is trails = absurd (none-some r (sym is))
      of_own (Some m) e is trails = subst (λ (q : Refusal). IsFirstRefusal p gives Among q) (same_Some m.refusal r (sym is)) (method_ends m e (trails m e))

      by : (o : Option RefusedCall) → call ≡ o → IsNamed p o method (Some r) → IsFirstRefusal p gives Among r
      by None e is = of_own method refl is (λ m at c there. absurd (none-some c (sym e ∙ there)))
      by (Some c) e (inl first) = call_ends c e first.0 r first.1
      by (Some c) e (inr behind) = of_own method refl behind.1 (λ m at d there.
          let calls : c ≡ d = same_Some c d (sym e ∙ there) in
          let trails : m.method.0 ≤ c.method.0 = subst (λ (o : Option RefusedMethod). TrailsMethod c.method.0 o) at behind.0 in
          subst (λ (x : RefusedCall). m.method.0 ≤ x.method.0) calls trails)
