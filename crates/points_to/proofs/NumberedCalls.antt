-- The calls that are numbered: that of the start, and those of methods that may run and are given, each of a node of its own, and resolved to
-- a method of the program.
use Rattle.std.proofs.Common.{◌≡◌, ℕ, ◌≤◌, inl, inr, List, Some, Ok, length, refl, sym, ◌∙◌, ap, subst, arith}
use Rattle.std.specs.List.{slice_get}
use Rattle.std.proofs.lemmas.Bool.{cases_lt}
use Rattle.std.proofs.lemmas.List.Elements.{All-contains}
use Rattle.std.proofs.lemmas.Option.{same_Some, none-some, slice_get_within}
use Rattle.jvm_model.specs.declared.number.MethodNo.{MethodNo}
use Rattle.jvm_model.specs.Programs.{Program}
use Rattle.program_model.specs.Numbers.{IsMethodNumber}
use Rattle.op_model.specs.declared.lowered.LoweredMethod.{LoweredMethod}
use Rattle.op_model.specs.declared.node.NodeRef.{NodeRef}
use Rattle.op_model.specs.Supplies.{GivenAs}
use Rattle.least_sets.proofs.Growing.{back_to}
use Rattle.points_to_rules.specs.Facts.{may_run}
use Rattle.points_to_rules.specs.Rules.{start_call, node_of}
use Rattle.points_to_rules.specs.WholeMethods.{AreWholeMethods, NamesNumbers}
use Rattle.points_to_constraints.specs.Items.{CallSite, Item as RuleItem, known}
use Rattle.points_to_constraints.specs.NodeItems.{IsCallOf}
use Rattle.points_to_methods.specs.NewCalls.{AddsCalls}
use Rattle.points_to_numbers.specs.declared.item.Item.{Item}
use Rattle.points_to_numbers.specs.declared.item.Item.TheVariants.{Holds, Runs, Calls, Constrains}
use Rattle.points_to_numbers.specs.Numbered.{Numbered, Extends}
use Rattle.points_to.specs.Concluding.{AddsCallsBy, ResolvesIn}
use Rattle.points_to_rules.specs.Solutions.{IsSupplyOf}
use Rattle.points_to.proofs.GivenMethods.{GivesOne}
use Rattle.points_to.proofs.OneSite.{IsGivenCall, of_given}

-- It is the call of the start, or that of a node of a method that may run.
pub data IsNumberedCall (gives : GivenAs) (T : RuleItem → Type 0) (site : CallSite) : Type 0 where
  of_start : site.at ≡ start_call → IsNumberedCall gives T site
  of_method : (m : MethodNo) → IsGivenCall gives m site → T (known (may_run m)) → IsNumberedCall gives T site

-- Each call is one of these, and no node has two.
pub record AreNumberedCalls (gives : GivenAs) (T : RuleItem → Type 0) (calls : List CallSite) : Type 0 where
  pub each : (number : ℕ) (site : CallSite) → slice_get calls number ≡ Some site → IsNumberedCall gives T site
  pub apart : (i j : ℕ) (a b : CallSite) → slice_get calls i ≡ Some a → slice_get calls j ≡ Some b → a.at ≡ b.at → i ≡ j

module _ {p : Program} (gives : GivenAs) (methods : AreWholeMethods p gives) (one : GivesOne gives) (T U : RuleItem → Type 0) (more : (x : RuleItem) → T x → U x) where
  later : (site : CallSite) → IsNumberedCall gives T site → IsNumberedCall gives U site
  later site (of_start e) = of_start e
  later site (of_method m given runs) = of_method m given (more (known (may_run m)) runs)

  -- no call more
  calls_stay : (old new : List CallSite) → Extends old new → length new ≡ length old → AreNumberedCalls gives T old → AreNumberedCalls gives U new
  calls_stay old new grown same h =
      let back : (number : ℕ) (site : CallSite) → slice_get new number ≡ Some site → slice_get old number ≡ Some site =
      λ number site e. back_to old new grown number site (omega (arith, slice_get_within new number site e)) e in
      record {
        each = λ number site e. later site (h.each number site (back number site e));
        apart = λ i j a b at_i at_j. h.apart i j a b (back i a at_i) (back j b at_j);
      }

  module _ (m : MethodNo) (fresh : T (known (may_run m)) → ⊥) (runs : U (known (may_run m))) (l : LoweredMethod) (given : gives m.0 (Ok l)) where
    -- a call of the method is not that of a call that was there
    no_old_call : (a b : CallSite) → IsNumberedCall gives T a → IsCallOf l b → a.at ≡ b.at → ⊥
    no_old_call a b (of_start e) is same =
        let given_call = of_given gives methods one m l given b is in
        none-some m (ap (λ (at : NodeRef). at.method) (sym e ∙ same ∙ given_call.is_site.at))
    no_old_call a b (of_method k old ran) is same =
        let given_call = of_given gives methods one m l given b is in
        let ats : node_of k old.n ≡ node_of m given_call.n = sym old.is_site.at ∙ same ∙ given_call.is_site.at in
        fresh (subst (λ (j : MethodNo). T (known (may_run j))) (same_Some k m (ap (λ (at : NodeRef). at.method) ats)) ran)

    -- those of a method more
    calls_added : (old new : List CallSite) → Extends old new → AddsCalls l old new → AreNumberedCalls gives T old → AreNumberedCalls gives U new
    calls_added old new grown adds h = record {
      each = λ number site e. elim (adds.only number site e) [
        | inl before ↦ later site (h.each number site before)
        | inr is ↦ of_method m (of_given gives methods one m l given site is) runs
      ];
      apart = λ i j a b at_i at_j same. elim (cases_lt i (length old)) [
        | inl i_old ↦ elim (cases_lt j (length old)) [
          | inl j_old ↦ h.apart i j a b (back_to old new grown i a i_old at_i) (back_to old new grown j b j_old at_j) same
          | inr j_new ↦ absurd (no_old_call a b (h.each i a (back_to old new grown i a i_old at_i)) (new_is j b at_j j_new) same)
        ]
        | inr i_new ↦ elim (cases_lt j (length old)) [
          | inl j_old ↦ absurd (no_old_call b a (h.each j b (back_to old new grown j b j_old at_j)) (new_is i a at_i i_new) (sym same))
          | inr j_new ↦ adds.apart i j a b (record { stands = at_i; fresh = i_new }) (record { stands = at_j; fresh = j_new }) same
        ]
      ];
    }
      where
        new_is : (k : ℕ) (c : CallSite) → slice_get new k ≡ Some c → length old ≤ k → IsCallOf l c
        new_is k c e past = elim (adds.only k c e) [ inl before ↦ absurd (let within = slice_get_within old k c before in omega arith) | inr is ↦ is ]

  -- by an item
  pub calls_by : (item : Item) (old new : List CallSite) → Extends old new → ((m : MethodNo) → item ≡ Runs m → (T (known (may_run m)) → ⊥) × U (known (may_run m)))
      → AddsCallsBy gives item old new → AreNumberedCalls gives T old → AreNumberedCalls gives U new
  calls_by (Holds place site) old new grown fresh same h = calls_stay old new grown same h
  calls_by (Runs m) old new grown fresh adds h = elim adds [
    | inl given ↦ (let f = fresh m refl in calls_added m f.0 f.1 given.method given.given old new grown given.adds h)
    | inr same ↦ calls_stay old new grown same h
  ]
  calls_by (Calls call target) old new grown fresh same h = calls_stay old new grown same h
  calls_by (Constrains place constraint) old new grown fresh same h = calls_stay old new grown same h

-- ---- what they are resolved to

pub resolved_in : (p : Program) (gives : GivenAs) (T : RuleItem → Type 0) (n : Numbered) → IsSupplyOf p gives
    → ((number : ℕ) (site : CallSite) → slice_get n.calls number ≡ Some site → IsNumberedCall gives T site) → (number : ℕ) → ResolvesIn p n number
resolved_in p gives T n supply each number call stands caller = by (each number call stands)
  where
    by : IsNumberedCall gives T call → IsMethodNumber p call.resolved.0
    by (of_start e) = absurd (none-some caller.0 (ap (λ (at : NodeRef). at.method) (sym e) ∙ caller.1))
    by (of_method m given runs) =
        let names = All-contains (NamesNumbers p) given.l.nodes given.n (supply.methods m.0 given.l given.stands.given).numbers given.stands.stands in
        subst (λ (k : MethodNo). IsMethodNumber p k.0) (sym given.is_site.resolved) (names.resolved given.call given.is_call)
