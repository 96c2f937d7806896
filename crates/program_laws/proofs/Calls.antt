-- A call goes to one target, or has one reason why to none.
use Rattle.std.proofs.Common.{◌≡◌, ℕ, Bool, true, false, List, Some, Result, sym, ap, ◌∙◌, subst, inl, inr, ◌⊎◌}
use Rattle.std.specs.Bool.{MatchBool, IsTrue}
use Rattle.std.specs.List.{slice_get}
use Rattle.std.proofs.lemmas.Bool.{both_ways}
use Rattle.std.proofs.lemmas.Option.{same_Some}
use Rattle.jvm_model.specs.declared.reason.Reason.{Reason}
use Rattle.jvm_model.specs.Programs.{Method, Program, is_abstract}
use Rattle.jvm_model.specs.Resolution.{IsFound}
use Rattle.jvm_model.specs.Selection.{Overrides, IsSelectable, SelectsFrom, upward, by_default, is_direct, Selects, Clashes, Selection, selected, no_code, nothing, several, hidden}
use Rattle.jvm_model.specs.LinkedPrograms.{IsProgram}
use Rattle.program_laws.proofs.Defaults.{FindsOne, one_selected}
use Rattle.program_laws.proofs.Outcomes.{given}
use Rattle.program_laws.proofs.Members.{HasCall, IsAlone, alone, one_found}

-- ---- what may be the target has the name and descriptor of the resolved method

one_method : (p : Program) (i j : ℕ) (m n : Method) → i ≡ j → slice_get p.methods i ≡ Some m → slice_get p.methods j ≡ Some n → m ≡ n
one_method p i j m n e stands stands2 = same_Some m n (sym stands ∙ ap (slice_get p.methods) e ∙ stands2)

same_call : (p : Program) (resolved number : ℕ) (method m : Method) → slice_get p.methods resolved ≡ Some method → slice_get p.methods number ≡ Some m
    → (number ≡ resolved) ⊎ Overrides p m method → m.signature ≡ method.signature
same_call p resolved number method m stands at (inl e) = ap (λ (x : Method). x.signature) (one_method p number resolved m method e at stands)
same_call p resolved number method m stands at (inr overrides) = overrides.same_call

selectable_call : (p : Program) (by_interface : Bool) (resolved : ℕ) (method : Method) → slice_get p.methods resolved ≡ Some method
    → HasCall p (IsSelectable p by_interface resolved method) method.signature
selectable_call p true resolved method stands = record { call = λ number m at is. is.0 }
selectable_call p false resolved method stands = record { call = λ number m at is. same_call p resolved number method m stands at is.1 }

finds_one : (p : Program) (by_interface : Bool) (class : List ℕ) (resolved : ℕ) (method : Method) → IsProgram p → slice_get p.methods resolved ≡ Some method
    → FindsOne (IsFound p class (IsSelectable p by_interface resolved method))
finds_one p by_interface class resolved method program stands =
    let only : IsAlone p (IsSelectable p by_interface resolved method) =
    alone p (IsSelectable p by_interface resolved method) method.signature program (selectable_call p by_interface resolved method stands) in
    record { one = λ i j. one_found p class (IsSelectable p by_interface resolved method) i j only }

-- ---- a call selects one method

-- how the target of a call of a method is chosen
abbrev Searched : Program → Bool → List ℕ → ℕ → Method → ℕ → Type 0
Searched p by_interface class resolved method target = SelectsFrom p class method.signature (IsFound p class (IsSelectable p by_interface resolved method)) target

abbrev Chosen : Program → Bool → List ℕ → ℕ → Method → Bool → ℕ → Type 0
Chosen p by_interface class resolved method direct target = MatchBool direct (target ≡ resolved) (Searched p by_interface class resolved method target)

-- a selected method is chosen for whatever method is the resolved one
chosen_for : (p : Program) (by_interface : Bool) (class : List ℕ) (resolved target : ℕ) (method : Method) → slice_get p.methods resolved ≡ Some method
    → Selects p by_interface class resolved target → Chosen p by_interface class resolved method (is_direct by_interface method) target
chosen_for p by_interface class resolved target method stands selects =
    subst (λ (m : Method). Chosen p by_interface class resolved m (is_direct by_interface m) target) (same_Some selects.method method (sym selects.stands ∙ stands)) selects.chosen

one_chosen : (p : Program) (by_interface : Bool) (class : List ℕ) (resolved : ℕ) (method : Method) (direct : Bool) (i j : ℕ) → IsProgram p → slice_get p.methods resolved ≡ Some method
    → Chosen p by_interface class resolved method direct i → Chosen p by_interface class resolved method direct j → i ≡ j
one_chosen p by_interface class resolved method true i j program stands x y = x ∙ sym y
one_chosen p by_interface class resolved method false i j program stands x y =
    one_selected p class method.signature (IsFound p class (IsSelectable p by_interface resolved method)) i j (finds_one p by_interface class resolved method program stands) x y

one_target : (p : Program) (by_interface : Bool) (class : List ℕ) (resolved i j : ℕ) → IsProgram p → Selects p by_interface class resolved i → Selects p by_interface class resolved j → i ≡ j
one_target p by_interface class resolved i j program x y =
    one_chosen p by_interface class resolved x.method (is_direct by_interface x.method) i j program x.stands x.chosen (chosen_for p by_interface class resolved j x.method x.stands y)

-- where several methods clash, none is selected
no_choice : (p : Program) (by_interface : Bool) (class : List ℕ) (resolved target : ℕ) (clash : Clashes p by_interface class resolved)
    → Searched p by_interface class resolved clash.method target → ⊥
no_choice p by_interface class resolved target clash (upward own) = clash.none_upward target own
no_choice p by_interface class resolved target clash (by_default none only) =
    clash.differ (only.only clash.first clash.first_default ∙ sym (only.only clash.second clash.second_default))

no_target : (p : Program) (by_interface : Bool) (class : List ℕ) (resolved target : ℕ) → Clashes p by_interface class resolved → Selects p by_interface class resolved target → ⊥
no_target p by_interface class resolved target clash selects =
    let chosen = chosen_for p by_interface class resolved target clash.method clash.stands selects in
    no_choice p by_interface class resolved target clash (subst (λ (b : Bool). Chosen p by_interface class resolved clash.method b target) clash.searched chosen)

-- ---- what a call gives

-- one target is abstract, or it is not
pub one_kind : (p : Program) (i j : ℕ) (m n : Method) → i ≡ j → slice_get p.methods i ≡ Some m → slice_get p.methods j ≡ Some n → is_abstract m ≡ false → IsTrue (is_abstract n) → ⊥
one_kind p i j m n e stands stands2 concrete abstract =
    both_ways (is_abstract m) concrete (ap is_abstract (one_method p i j m n e stands stands2) ∙ abstract)

pub one_call_outcome : (p : Program) (by_interface : Bool) (class : List ℕ) (resolved : ℕ) (a b : Result ℕ Reason) → IsProgram p
    → Selection p by_interface class resolved a → Selection p by_interface class resolved b → a ≡ b
one_call_outcome p v class r a b program (selected i m x at kind plain is) (selected j n y at2 kind2 plain2 is2) = is ∙ ap given (one_target p v class r i j program x y) ∙ sym is2
one_call_outcome p v class r a b program (selected i m x at kind plain is) (no_code j n y at2 kind2 is2) = absurd (one_kind p i j m n (one_target p v class r i j program x y) at at2 kind kind2)
one_call_outcome p v class r a b program (selected i m x at kind plain is) (nothing none no_clash is2) = absurd (none i x)
one_call_outcome p v class r a b program (selected i m x at kind plain is) (several clash is2) = absurd (no_target p v class r i clash x)
one_call_outcome p v class r a b program (selected i m x at kind plain is) (hidden j n y at2 kind2 over is2) = absurd (plain over)
one_call_outcome p v class r a b program (no_code i m x at kind is) (selected j n y at2 kind2 plain2 is2) = absurd (one_kind p j i n m (one_target p v class r j i program y x) at2 at kind2 kind)
one_call_outcome p v class r a b program (no_code i m x at kind is) (no_code j n y at2 kind2 is2) = is ∙ sym is2
one_call_outcome p v class r a b program (no_code i m x at kind is) (nothing none no_clash is2) = absurd (none i x)
one_call_outcome p v class r a b program (no_code i m x at kind is) (several clash is2) = absurd (no_target p v class r i clash x)
one_call_outcome p v class r a b program (no_code i m x at kind is) (hidden j n y at2 kind2 over is2) = absurd (one_kind p j i n m (one_target p v class r j i program y x) at2 at kind2 kind)
one_call_outcome p v class r a b program (nothing none no_clash is) (selected j n y at2 kind2 plain2 is2) = absurd (none j y)
one_call_outcome p v class r a b program (nothing none no_clash is) (no_code j n y at2 kind2 is2) = absurd (none j y)
one_call_outcome p v class r a b program (nothing none no_clash is) (nothing none2 no_clash2 is2) = is ∙ sym is2
one_call_outcome p v class r a b program (nothing none no_clash is) (several clash is2) = absurd (no_clash clash)
one_call_outcome p v class r a b program (nothing none no_clash is) (hidden j n y at2 kind2 over is2) = absurd (none j y)
one_call_outcome p v class r a b program (several clash is) (selected j n y at2 kind2 plain2 is2) = absurd (no_target p v class r j clash y)
one_call_outcome p v class r a b program (several clash is) (no_code j n y at2 kind2 is2) = absurd (no_target p v class r j clash y)
one_call_outcome p v class r a b program (several clash is) (nothing none no_clash is2) = absurd (no_clash clash)
one_call_outcome p v class r a b program (several clash is) (several clash2 is2) = is ∙ sym is2
one_call_outcome p v class r a b program (several clash is) (hidden j n y at2 kind2 over is2) = absurd (no_target p v class r j clash y)
one_call_outcome p v class r a b program (hidden i m x at kind over is) (selected j n y at2 kind2 plain2 is2) = absurd (plain2 over)
one_call_outcome p v class r a b program (hidden i m x at kind over is) (no_code j n y at2 kind2 is2) = absurd (one_kind p i j m n (one_target p v class r i j program x y) at at2 kind kind2)
one_call_outcome p v class r a b program (hidden i m x at kind over is) (nothing none no_clash is2) = absurd (none i x)
one_call_outcome p v class r a b program (hidden i m x at kind over is) (several clash is2) = absurd (no_target p v class r i clash x)
one_call_outcome p v class r a b program (hidden i m x at kind over is) (hidden j n y at2 kind2 over2 is2) = is ∙ sym is2
