-- Heaps whose objects keep their fields, but for those that may be written.
use Rattle.std.proofs.Common.{◌≡◌, ◌⊎◌, inl, inr, ℕ, Bool, true, false, cond, eqb, List, ◌++◌, Some, refl, sym, ap, ◌∙◌, subst}
use Rattle.std.specs.Prelude.{slice_get, slice_set}
use Rattle.std.proofs.lemmas.Bool.{cases_eq, eqb-true}
use Rattle.std.proofs.lemmas.Option.{same_Some}
use Rattle.list_laws.proofs.Places.{in_longer}
use Rattle.jvm_model.specs.declared.number.FieldNo.{FieldNo}
use Rattle.machine_bytecode.specs.States.{Value, fields, Object, updated}
use Rattle.coverage.specs.Changes.{HasFields, KeepsFields, ChangesOnly}
use Rattle.coverage.proofs.Lists.{set_here, set_there}

pub same_fields : (values others : ℕ → Value) → fields values ≡ fields others → values ≡ others
same_fields values others e = cc

module _ (Written : FieldNo → Type 0) where
  pub fields_kept : (values : ℕ → Value) (o : Object) → o.contents ≡ fields values → HasFields Written values o
  fields_kept values o e = record { after = values; holds = e; each = λ field. inl refl }

  object_kept : (o : Object) (heap : List Object) (place : ℕ) → slice_get heap place ≡ Some o → KeepsFields Written o heap place
  object_kept o heap place held = record { object = o; held = held; in_fields = λ values e. fields_kept values o e }

  pub none_changed : (heap : List Object) → ChangesOnly Written heap heap
  none_changed heap place o held = object_kept o heap place held

  pub more_changed : (heap more : List Object) → ChangesOnly Written heap (heap ++ more)
  more_changed heap more place o held = object_kept o (heap ++ more) place (in_longer heap more place o held)

  pub one_changed : (heap : List Object) (at : ℕ) (old new : Object) → slice_get heap at ≡ Some old → ((values : ℕ → Value) → old.contents ≡ fields values → HasFields Written values new)
      → ChangesOnly Written heap (slice_set heap at new)
  one_changed heap at old new is kept place o held = by (cases_eq place at)
    where
      by : (place ≡ at) ⊎ (place ≡ at → ⊥) → KeepsFields Written o (slice_set heap at new) place
      by (inl e) =
          let same : old ≡ o = same_Some old o (sym is ∙ ap (slice_get heap) (sym e) ∙ held) in
          subst (λ (p : Object). KeepsFields Written p (slice_set heap at new) place) same
          (record { object = new; held = ap (slice_get (slice_set heap at new)) e ∙ set_here heap at old new is; in_fields = kept })
      by (inr ne) = object_kept o (slice_set heap at new) place (set_there heap at place new ne ∙ held)

  -- one field is written
  pub field_changed : (values : ℕ → Value) (field : FieldNo) (v : Value) (o : Object) → o.contents ≡ fields (updated values field.0 v) → Written field → (before : ℕ → Value) → fields values ≡ fields before
      → HasFields Written before o
  field_changed values field v o holds written before e = record { after = updated values field.0 v; holds = holds; each = λ other. by other (eqb other.0 field.0) refl }
    where
      by : (other : FieldNo) (b : Bool) → eqb other.0 field.0 ≡ b → (cond b v (values other.0) ≡ before other.0) ⊎ Written other
      by other true is = inr (subst Written (ap (λ (number : ℕ). record { 0 = number }) (sym (eqb-true other.0 field.0 is))) written)
      by other false is = inl (ap (λ (f : ℕ → Value). f other.0) (same_fields values before e))

  -- one after another
  both : (values : ℕ → Value) (middle last : Object) → HasFields Written values middle → ((between : ℕ → Value) → middle.contents ≡ fields between → HasFields Written between last) → HasFields Written values last
  both values middle last first second =
      let s = second first.after first.holds in
      record { after = s.after; holds = s.holds; each = λ field. by field (first.each field) (s.each field) }
    where
      by : (field : FieldNo) → (first.after field.0 ≡ values field.0) ⊎ Written field → ((second first.after first.holds).after field.0 ≡ first.after field.0) ⊎ Written field
          → ((second first.after first.holds).after field.0 ≡ values field.0) ⊎ Written field
      by field (inr written) later = inr written
      by field (inl e) (inr written) = inr written
      by field (inl e) (inl d) = inl (d ∙ e)

  pub changed_on : (a b c : List Object) → ChangesOnly Written a b → ChangesOnly Written b c → ChangesOnly Written a c
  changed_on a b c first second place o held =
      let f = first place o held in
      let s = second place f.object f.held in
      record { object = s.object; held = s.held; in_fields = λ values e. both values f.object s.object (f.in_fields values e) s.in_fields }

-- more may be written
pub changed_more : (Written Others : FieldNo → Type 0) (a b : List Object) → ((field : FieldNo) → Written field → Others field) → ChangesOnly Written a b → ChangesOnly Others a b
changed_more Written Others a b more changes place o held =
    let k = changes place o held in
    record {
      object = k.object;
      held = k.held;
      in_fields = λ values e.
          let f = k.in_fields values e in
          record { after = f.after; holds = f.holds; each = λ field. elim (f.each field) [ inl same ↦ inl same | inr written ↦ inr (more field written) ] };
    }
