-- Which call lacks a target when an object is passed to a constraint: it is one, since a call gives one answer for an object.
use Rattle.std.proofs.Common.{◌≡◌, ◌↔◌, ℕ, Option, Some, None, Result, Ok, Err, true, false, refl, sym, ◌∙◌, ap, subst}
use Rattle.std.specs.List.{slice_get}
use Rattle.std.proofs.lemmas.Option.{same_Some, none-some}
use Rattle.jvm_model.specs.declared.number.MethodNo.{MethodNo}
use Rattle.jvm_model.specs.declared.number.SiteNo.{SiteNo}
use Rattle.jvm_model.specs.declared.reason.Reason.{Reason}
use Rattle.jvm_model.specs.declared.site.Site.{Site}
use Rattle.jvm_model.specs.Programs.{Program}
use Rattle.jvm_model.specs.LinkedPrograms.{IsProgram}
use Rattle.machine_bytecode.specs.Machine.{selecting_class}
use Rattle.program_laws.proofs.Calls.{one_call_outcome}
use Rattle.op_model.specs.declared.node.NodeRef.{NodeRef}
use Rattle.op_model.specs.declared.op.CallKind.{CallKind}
use Rattle.op_model.specs.declared.op.CallKind.TheVariants.{Virtual, Special, Static, Interface}
use Rattle.points_to_rules.specs.Calls.{SelectsFor}
use Rattle.points_to_rules.specs.Refusals.{LacksTarget, not_selected, not_described}
use Rattle.points_to_calls.specs.Lacks.{ConstraintLacks}
use Rattle.points_to_constraints.specs.Items.{CallSite, Constraint as ItemConstraint, dispatch}
use Rattle.points_to_numbers.specs.declared.entries.CallSite.{CallSite as Entry}
use Rattle.points_to_numbers.specs.declared.keys.CallNo.{CallNo}
use Rattle.points_to_numbers.specs.declared.keys.Constraint.{Constraint}
use Rattle.points_to_numbers.specs.declared.keys.Constraint.TheVariants as constraints
use Rattle.points_to_numbers.specs.declared.keys.ConstraintNo.{ConstraintNo}
use Rattle.points_to_numbers.specs.Numbered.{Numbered, IsNumbered, IsConstraintAt, IsCallAt}
use Rattle.points_to.specs.declared.refusals.RefusedCall.{RefusedCall}
use Rattle.points_to.specs.Passing.{SelectsAt, IsLackOf, NotesReason}

-- ---- constraints that select

-- a constraint that selects is kept as one
pub selecting : (n : Numbered) (constraint : Constraint) (call : CallSite) → IsConstraintAt n constraint (dispatch call) → (k : CallNo) × (constraint ≡ constraints.Dispatch k) × (slice_get n.calls k.0 ≡ Some call)
selecting n (constraints.CopyTo to) call (h, at, is) = absurd cc
selecting n (constraints.FilterTo class to) call (name, h, named, at, is) = absurd cc
selecting n (constraints.LoadField field to) call (h, at, is) = absurd cc
selecting n (constraints.StoreField field from) call (h, at, is) = absurd cc
selecting n (constraints.LoadElements to) call (h, at, is) = absurd cc
selecting n (constraints.StoreElements from) call (h, at, is) = absurd cc
selecting n (constraints.ThrowTo catch_chain) call (l, at, is) = absurd cc
selecting n (constraints.RethrowTo catch_chain) call (l, at, is) = absurd cc
selecting n (constraints.Dispatch k) call (c, at, is) = let same : c ≡ call = cc in (k, refl, at ∙ ap Some same)

-- the call that a constraint selects at is that of its number
pub selected_call : (n : Numbered) (constraint : ConstraintNo) (kept : Constraint) (k : CallNo) (c : RefusedCall) (call : CallSite) → SelectsAt n constraint c call
    → ((u : ItemConstraint) → slice_get n.constraints constraint.0 ≡ Some u → IsConstraintAt n kept u) → kept ≡ constraints.Dispatch k → slice_get n.calls k.0 ≡ Some call
selected_call n constraint kept k c call selects shows is =
    let s = selecting n kept call (shows (dispatch call) selects.selects) in
    let same : s.0 ≡ k = (let both = sym s.1 ∙ is in cc) in
    subst (λ (j : CallNo). slice_get n.calls j.0 ≡ Some call) same s.2

-- ---- one reason

-- the node of a refused call
abbrev refused_at : RefusedCall → NodeRef
refused_at c = record { method = Some c.method; offset = c.offset }

-- a constraint that selects a call lacks a target as the call does
lacks_for : (p : Program) (call : CallSite) (s : Site) (lacks : Option Reason) (reason : Reason) → ConstraintLacks p (dispatch call) s lacks → lacks ≡ Some reason
    → LacksTarget p call.kind call.resolved s reason
lacks_for p call s None reason h e = absurd (none-some reason e)
lacks_for p call s (Some told) reason h e = subst (λ (r : Reason). LacksTarget p call.kind call.resolved s r) (same_Some told reason e) h

module _ (p : Program) (program : IsProgram p) where
  one_selects : (kind : CallKind) (resolved : MethodNo) (s : Site) (a b : Result ℕ Reason) → SelectsFor kind p resolved s a → SelectsFor kind p resolved s b → a ≡ b
  one_selects Virtual resolved s a b (receiver, first) (also, second) = one_call_outcome p false (selecting_class s.class) resolved.0 a b program first second
  one_selects Special resolved s a b first second = absurd first
  one_selects Static resolved s a b first second = absurd first
  one_selects Interface resolved s a b (receiver, first) (also, second) = one_call_outcome p true (selecting_class s.class) resolved.0 a b program first second

  -- a call lacks its target for one reason
  one_lack : (kind : CallKind) (resolved : MethodNo) (s : Site) (a b : Reason) → LacksTarget p kind resolved s a → LacksTarget p kind resolved s b → a ≡ b
  one_lack kind resolved s a b (not_selected first) (not_selected second) = let same = one_selects kind resolved s (Err a) (Err b) first second in cc
  one_lack kind resolved s a b (not_selected first) (not_described target second undescribed is) = let same = one_selects kind resolved s (Err a) (Ok target) first second in absurd (cc)
  one_lack kind resolved s a b (not_described target first undescribed is) (not_selected second) = let same = one_selects kind resolved s (Ok target) (Err b) first second in absurd (cc)
  one_lack kind resolved s a b (not_described target first undescribed is) (not_described other second also as_well) = is ∙ sym as_well

  -- what is noted where the reason is told is what lacks a target
  pub lacks_are : (n : Numbered) (constraint : ConstraintNo) (site : SiteNo) (u : ItemConstraint) (s : Site) (lacks : Option Reason) → slice_get n.constraints constraint.0 ≡ Some u → slice_get n.sites site.0 ≡ Some s
      → ConstraintLacks p u s lacks → (c : RefusedCall) → NotesReason n constraint lacks c ↔ IsLackOf p n constraint site c
  lacks_are n constraint site u s lacks at there h c = (
    (λ noted.
        let same : u ≡ dispatch noted.call = same_Some u (dispatch noted.call) (sym at ∙ noted.selects.selects) in
        let h_call = subst (λ (x : ItemConstraint). ConstraintLacks p x s lacks) same h in
        record { call = noted.call; selects = noted.selects; s = s; is_site = there; lacks = lacks_for p noted.call s lacks c.reason h_call noted.reason }),
    (λ lack.
        let same : u ≡ dispatch lack.call = same_Some u (dispatch lack.call) (sym at ∙ lack.selects.selects) in
        let here : lack.s ≡ s = same_Some lack.s s (sym lack.is_site ∙ there) in
        let lack_here = subst (λ (x : Site). LacksTarget p lack.call.kind lack.call.resolved x c.reason) here lack.lacks in
        record { call = lack.call; selects = lack.selects; reason = told lack.call s lacks c.reason (subst (λ (x : ItemConstraint). ConstraintLacks p x s lacks) same h) lack_here }),
  )
    where
      told : (call : CallSite) (s : Site) (lacks : Option Reason) (reason : Reason) → ConstraintLacks p (dispatch call) s lacks → LacksTarget p call.kind call.resolved s reason → lacks ≡ Some reason
      told call s None reason none lack = absurd (none reason lack)
      told call s (Some first) reason is lack = ap Some (one_lack call.kind call.resolved s first reason is lack)

-- one call is noted for one reason
pub one_noted : (n : Numbered) (constraint : ConstraintNo) (lacks : Option Reason) (a b : RefusedCall) → NotesReason n constraint lacks a → NotesReason n constraint lacks b → a ≡ b
one_noted n constraint lacks a b first second =
    let constraints : dispatch first.call ≡ dispatch second.call = same_Some (dispatch first.call) (dispatch second.call) (sym first.selects.selects ∙ second.selects.selects) in
    let calls : first.call ≡ second.call = cc in
    let ats : refused_at a ≡ refused_at b = sym first.selects.at ∙ ap (λ (c : CallSite). c.at) calls ∙ second.selects.at in
    let method : a.method ≡ b.method = same_Some a.method b.method (ap (λ (at : NodeRef). at.method) ats) in
    let offset : a.offset ≡ b.offset = ap (λ (at : NodeRef). at.offset) ats in
    let reason : a.reason ≡ b.reason = same_Some a.reason b.reason (sym first.reason ∙ second.reason) in
    (λ i. record { method = method i; offset = offset i; reason = reason i })

-- ---- the call that is noted

module _ (n : Numbered) (constraint : ConstraintNo) (kept : Constraint) (k : CallNo) (known : IsNumbered n.constraints constraint.0) (shows : (u : ItemConstraint) → slice_get n.constraints constraint.0 ≡ Some u → IsConstraintAt n kept u)
    (is : kept ≡ constraints.Dispatch k) where
  -- the call of a constraint that is kept as one that selects
  call_there : (call : CallSite) × (slice_get n.calls k.0 ≡ Some call) × (slice_get n.constraints constraint.0 ≡ Some (dispatch call))
  call_there =
      let at : IsConstraintAt n (constraints.Dispatch k) known.0 = subst (λ (x : Constraint). IsConstraintAt n x known.0) is (shows known.0 known.1) in
      (at.0, at.1, known.1 ∙ ap Some at.2)

  pub kept_call : IsNumbered n.calls k.0
  kept_call = (call_there.0, call_there.1)

  pub noted_now : (lacks : Option Reason) (reason : Reason) (entry : Entry) (method : MethodNo) → lacks ≡ Some reason → ((call : CallSite) → slice_get n.calls k.0 ≡ Some call → IsCallAt n entry call)
      → entry.at.method ≡ Some method → NotesReason n constraint lacks (record { method = method; offset = entry.at.offset; reason = reason })
  noted_now lacks reason entry method told stands of =
      let at = stands call_there.0 call_there.1 in
      record {
        call = call_there.0;
        selects = record { selects = call_there.2; at = at.at ∙ (λ i. record { method = of i; offset = entry.at.offset }) };
        reason = told;
      }
