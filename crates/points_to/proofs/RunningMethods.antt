-- The methods that may run and are given as nodes: none, those of the same facts, and those when one more item is done.
use Rattle.std.proofs.Common.{◌≡◌, ◌↔◌, ℕ, zero, suc, ◌<◌, ◌≤◌, ◌⊎◌, inl, inr, List, [], ◌∷◌, ◌++◌, Some, Ok, length, refl, sym, ◌∙◌, ap, subst, arith}
use Rattle.std.specs.List.{slice_get, Contains}
use Rattle.std.proofs.lemmas.Bool.{cases_lt}
use Rattle.std.proofs.lemmas.Option.{none-some, same_Some}
use Rattle.std.proofs.lemmas.List.Elements.{Contains-append_left, Contains-push, Contains-push_cases}
use Rattle.jvm_model.specs.declared.number.MethodNo.{MethodNo}
use Rattle.jvm_model.specs.Programs.{Program}
use Rattle.op_model.specs.declared.lowered.LoweredMethod.{LoweredMethod}
use Rattle.op_model.specs.Supplies.{GivenAs}
use Rattle.slot_names.specs.KeptNames.{name_table}
use Rattle.slot_names.specs.Tables.{AreNames}
use Rattle.least_sets.proofs.Growing.{back_to}
use Rattle.least_sets.proofs.Places.{contains_at, in_longer, nothing_in}
use Rattle.points_to_rules.specs.Facts.{Fact, may_run}
use Rattle.points_to_rules.specs.WholeMethods.{AreWholeMethods}
use Rattle.points_to_numbers.specs.declared.item.Item.{Item}
use Rattle.points_to_numbers.specs.declared.item.Item.TheVariants.{Holds, Runs, Calls, Constrains}
use Rattle.points_to_rules.specs.declared.running_method.RunningMethod.{RunningMethod}
use Rattle.points_to.specs.Concluding.{AddsMethodsBy, IsRunningAs}
use Rattle.points_to_rules.specs.Solutions.{AreRunning}
use Rattle.points_to.proofs.GivenMethods.{GivesOne}

-- what stands past the others is the last
past_is_last : {X : Type 0} (xs : List X) (last x : X) (i : ℕ) → length xs ≤ i → slice_get (xs ++ last ∷ []) i ≡ Some x → (i ≡ length xs) × (last ≡ x)
past_is_last [] last x zero past e = (refl, same_Some last x e)
past_is_last [] last x (suc i) past e = absurd (none-some x e)
past_is_last (y ∷ xs) last x zero past e = absurd (omega (arith, past))
past_is_last (y ∷ xs) last x (suc i) past e = let rest = past_is_last xs last x i (omega (arith, past)) e in (ap suc rest.0, rest.1)

-- nothing runs
pub running_none : (gives : GivenAs) (S : Fact → Type 0) → ((m : MethodNo) → S (may_run m) → ⊥) → AreRunning gives S []
running_none gives S none = record {
  only = λ m c. absurd (nothing_in m c);
  all = λ number l runs given. absurd (none number runs);
  named = λ m c. absurd (nothing_in m c);
  apart = λ i j a b at_i at_j same. absurd (none-some a at_i);
}

-- the same facts, said otherwise
pub running_same : (gives : GivenAs) (S T : Fact → Type 0) (listed : List RunningMethod) → ((fact : Fact) → S fact ↔ T fact) → AreRunning gives S listed → AreRunning gives T listed
running_same gives S T listed same h = record {
  only = λ m c. (let is = h.only m c in ((same (may_run m.method.method)).0 is.0, is.1));
  all = λ number l runs given. h.all number l ((same (may_run number)).1 runs) given;
  named = h.named;
  apart = h.apart;
}

-- ---- one more item

module _ {p : Program} (gives : GivenAs) (methods : AreWholeMethods p gives) (one : GivesOne gives) (S T : Fact → Type 0) (more : (fact : Fact) → S fact → T fact) where
  -- no method more
  running_stays : (old new : List RunningMethod) → new ≡ old → ((number : MethodNo) (l : LoweredMethod) → T (may_run number) → gives number.0 (Ok l) → S (may_run number))
      → AreRunning gives S old → AreRunning gives T new
  running_stays old new e back h = subst (λ (listed : List RunningMethod). AreRunning gives T listed) (sym e) (record {
    only = λ m c. (let is = h.only m c in (more (may_run m.method.method) is.0, is.1));
    all = λ number l runs given. h.all number l (back number l runs given) given;
    named = h.named;
    apart = h.apart;
  })

  module _ (k : MethodNo) (fresh : S (may_run k) → ⊥) (runs : T (may_run k)) (split : (number : MethodNo) → T (may_run number) → S (may_run number) ⊎ (k ≡ number)) (old : List RunningMethod) (m : RunningMethod)
      (is : IsRunningAs gives k.0 m) (h : AreRunning gives S old) where
    abbrev longer : List RunningMethod
    longer = old ++ m ∷ []

    number_is : m.method.method ≡ k
    number_is = (methods k.0 m.method is.given).number_is

    only_more : (x : RunningMethod) → Contains longer x → T (may_run x.method.method) × gives x.method.method.0 (Ok x.method)
    only_more x c = elim (Contains-push_cases old m x c) [
      | inl before ↦ (let was = h.only x before in (more (may_run x.method.method) was.0, was.1))
      | inr last ↦ subst (λ (r : RunningMethod). T (may_run r.method.method) × gives r.method.method.0 (Ok r.method)) last
          (subst (λ (j : MethodNo). T (may_run j) × gives j.0 (Ok m.method)) (sym number_is) (runs, is.given))
    ]

    all_more : (number : MethodNo) (l : LoweredMethod) → T (may_run number) → gives number.0 (Ok l) → (r : RunningMethod) × Contains longer r × (r.method ≡ l)
    all_more number l now given = elim (split number now) [
      | inl before ↦ (let (r, there, same) = h.all number l before given in (r, Contains-append_left old (m ∷ []) r there, same))
      | inr here ↦
          let both = one number.0 (Ok m.method) (Ok l) (subst (λ (j : MethodNo). gives j.0 (Ok m.method)) here is.given) given in
          let same : m.method ≡ l = cc in
          (m, Contains-push old m, same)
    ]

    named_more : (x : RunningMethod) → Contains longer x → AreNames x.method (name_table x.names)
    named_more x c = elim (Contains-push_cases old m x c) [
      | inl before ↦ h.named x before
      | inr last ↦ subst (λ (r : RunningMethod). AreNames r.method (name_table r.names)) last is.named
    ]

    -- the new one has a number that none had
    no_old : (i : ℕ) (a b : RunningMethod) → slice_get old i ≡ Some a → m ≡ b → a.method.method ≡ b.method.method → ⊥
    no_old i a b at last same =
        let number : a.method.method ≡ k = same ∙ ap (λ (r : RunningMethod). r.method.method) (sym last) ∙ number_is in
        fresh (subst (λ (j : MethodNo). S (may_run j)) number (h.only a (contains_at old i a at)).0)

    stood : (i : ℕ) (a : RunningMethod) → i < length old → slice_get longer i ≡ Some a → slice_get old i ≡ Some a
    stood i a inside e = back_to old longer (in_longer old (m ∷ [])) i a inside e

    apart_more : (i j : ℕ) (a b : RunningMethod) → slice_get longer i ≡ Some a → slice_get longer j ≡ Some b → a.method.method ≡ b.method.method → i ≡ j
    apart_more i j a b at_i at_j same = elim (cases_lt i (length old)) [
      | inl i_old ↦ elim (cases_lt j (length old)) [
        | inl j_old ↦ h.apart i j a b (stood i a i_old at_i) (stood j b j_old at_j) same
        | inr j_new ↦ absurd (no_old i a b (stood i a i_old at_i) (past_is_last old m b j j_new at_j).1 same)
      ]
      | inr i_new ↦ elim (cases_lt j (length old)) [
        | inl j_old ↦ absurd (no_old j b a (stood j b j_old at_j) (past_is_last old m a i i_new at_i).1 (sym same))
        | inr j_new ↦ (past_is_last old m a i i_new at_i).0 ∙ sym (past_is_last old m b j j_new at_j).0
      ]
    ]

    -- one method more
    running_added : AreRunning gives T longer
    running_added = record { only = only_more; all = all_more; named = named_more; apart = apart_more }

  -- by an item
  pub running_by : (item : Item) (old new : List RunningMethod) → ((number : MethodNo) → T (may_run number) → S (may_run number) ⊎ (item ≡ Runs number))
      → ((k : MethodNo) → item ≡ Runs k → (S (may_run k) → ⊥) × T (may_run k)) → AddsMethodsBy gives item old new → AreRunning gives S old → AreRunning gives T new
  running_by (Holds place site) old new split fresh same h =
      running_stays old new same (λ number l runs given. elim (split number runs) [ inl before ↦ before | inr other ↦ absurd cc ]) h
  running_by (Calls call target) old new split fresh same h =
      running_stays old new same (λ number l runs given. elim (split number runs) [ inl before ↦ before | inr other ↦ absurd cc ]) h
  running_by (Constrains place constraint) old new split fresh same h =
      running_stays old new same (λ number l runs given. elim (split number runs) [ inl before ↦ before | inr other ↦ absurd cc ]) h
  running_by (Runs k) old new split fresh adds h = elim adds [
    | inl (m, is, e) ↦
        let f = fresh k refl in
        subst (λ (listed : List RunningMethod). AreRunning gives T listed) (sym e) (running_added k f.0 f.1 own old m is h)
    | inr (none, e) ↦ running_stays old new e (λ number l runs given. elim (own number runs) [
      | inl before ↦ before
      | inr here ↦ absurd (none l (subst (λ (j : MethodNo). gives j.0 (Ok l)) (sym here) given))
    ]) h
  ]
    where
      own : (number : MethodNo) → T (may_run number) → S (may_run number) ⊎ (k ≡ number)
      own number runs = elim (split number runs) [ inl before ↦ inl before | inr here ↦ inr cc ]
