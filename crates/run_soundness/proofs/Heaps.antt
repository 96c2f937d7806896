-- What holds of the site and the automaton state of each object, in heaps that change.
use Rattle.std.proofs.Common.{◌≡◌, ◌⊎◌, inl, inr, ℕ, zero, suc, ◌+◌, ◌*◌, Bool, true, false, List, [], ◌∷◌, ◌++◌, length, map, replicate, Some, sym, ap, ◌∙◌, subst}
use Rattle.std.specs.Prelude.{slice_get, slice_set, MatchBool}
use Rattle.std.specs.Str.{bytes_eq}
use Rattle.std.proofs.lemmas.Bool.{cases_eq}
use Rattle.std.proofs.lemmas.Option.{same_Some, none-some}
use Rattle.jvm_model.specs.declared.site.Site.{Site}
use Rattle.jvm_model.specs.Soundness.{plain_descriptor}
use Rattle.machine_bytecode.specs.Objects.{Subject, MakesObject, MakesArrays, WritesField, WritesElement}
use Rattle.machine_bytecode.specs.Start.{boot_site, boot_object, boot_classes, IsArgumentArray, IsFirst}
use Rattle.machine_bytecode.specs.States.{Value, Object, World, State, new_object, new_array, default_element, Dimension, references_from, arrays_of_arrays, arrays_from}
use Rattle.coverage.proofs.Lists.{single, IsBehind, where_joined, set_here, set_there}

-- it holds of each object that was just made
module _ (x : Subject) (Q : Site → ℕ → Type 0) (begins : (s : Site) → Q s x.property.initial) where
  -- it holds of each object of the heap
  pub record AllHave (heap : List Object) : Type 0 where
    pub each : (place : ℕ) (o : Object) → slice_get heap place ≡ Some o → Q o.site o.automaton

  pub have_as : (heap other : List Object) → heap ≡ other → AllHave other → AllHave heap
  have_as heap other e h = subst AllHave (sym e) h

  pub none_have : AllHave []
  none_have = record { each = λ place o held. absurd (none-some o held) }

  pub one_has : (o : Object) → Q o.site o.automaton → AllHave (o ∷ [])
  one_has o q = record { each = λ place p held. subst (λ (r : Object). Q r.site r.automaton) (single o p place held) q }

  pub both_have : (heap more : List Object) → AllHave heap → AllHave more → AllHave (heap ++ more)
  both_have heap more h m = record { each = λ place o held. by place o (where_joined heap more place o held) }
    where
      by : (place : ℕ) (o : Object) → (slice_get heap place ≡ Some o) ⊎ IsBehind heap more place o → Q o.site o.automaton
      by place o (inl held) = h.each place o held
      by place o (inr late) = m.each late.after o late.held

  pub first_has : (o : Object) (more : List Object) → Q o.site o.automaton → AllHave more → AllHave (o ∷ more)
  first_has o more q m = record { each = λ place p held. by place p held }
    where
      by : (place : ℕ) (p : Object) → slice_get (o ∷ more) place ≡ Some p → Q p.site p.automaton
      by zero p held = subst (λ (r : Object). Q r.site r.automaton) (same_Some o p held) q
      by (suc place) p held = m.each place p held

  -- another object in a place
  pub set_have : (heap : List Object) (place : ℕ) (old new : Object) → slice_get heap place ≡ Some old → Q new.site new.automaton → AllHave heap → AllHave (slice_set heap place new)
  set_have heap place old new is q h = record { each = λ k o held. by k o held (cases_eq k place) }
    where
      by : (k : ℕ) (o : Object) → slice_get (slice_set heap place new) k ≡ Some o → (k ≡ place) ⊎ (k ≡ place → ⊥) → Q o.site o.automaton
      by k o held (inl e) =
          let same : new ≡ o = same_Some new o (sym (set_here heap place old new is) ∙ ap (slice_get (slice_set heap place new)) (sym e) ∙ held) in
          subst (λ (r : Object). Q r.site r.automaton) same q
      by k o held (inr ne) = h.each k o (sym (set_there heap place k new ne) ∙ held)

  -- ---- new objects

  pub made_have : (s : Site) (before : World) (made : Value) (after : World) → MakesObject x s before made after → AllHave before.heap → AllHave after.heap
  made_have s before made after m h =
      let o = new_object x.program s x.property.initial in
      have_as after.heap (before.heap ++ o ∷ []) (ap (λ (w : World). w.heap) m.after_is) (both_have before.heap (o ∷ []) h (one_has o (begins s)))

  replicas_have : (count : ℕ) (o : Object) → Q o.site o.automaton → AllHave (replicate count o)
  replicas_have zero o q = none_have
  replicas_have (suc count) o q = first_has o (replicate count o) q (replicas_have count o q)

  rows_have : (d : Dimension) (first count : ℕ) → AllHave (arrays_of_arrays d x.property.initial first count)
  rows_have d first zero = none_have
  rows_have d first (suc count) =
      first_has (new_array d.site (references_from first d.long) x.property.initial) (arrays_of_arrays d x.property.initial (first + d.long) count) (begins d.site) (rows_have d (first + d.long) count)

  new_arrays_have : (place count : ℕ) (dimensions : List Dimension) → AllHave (arrays_from x.property.initial place count dimensions)
  new_arrays_have place count [] = none_have
  new_arrays_have place count (d ∷ []) = replicas_have count (new_array d.site (replicate d.long (default_element d.site.class)) x.property.initial) (begins d.site)
  new_arrays_have place count (d ∷ e ∷ deeper) =
      both_have (arrays_of_arrays d x.property.initial (place + count) count) (arrays_from x.property.initial (place + count) (count * d.long) (e ∷ deeper)) (rows_have d (place + count) count)
      (new_arrays_have (place + count) (count * d.long) (e ∷ deeper))

  pub arrays_have : (sites : List Site) (before : World) (made : Value) (after : World) → MakesArrays x sites before made after → AllHave before.heap → AllHave after.heap
  arrays_have sites before made after m h =
      let more = arrays_from x.property.initial (length before.heap) 1 m.dimensions in
      have_as after.heap (before.heap ++ more) (ap (λ (w : World). w.heap) m.after_is) (both_have before.heap more h (new_arrays_have (length before.heap) 1 m.dimensions))

  -- ---- objects that hold something else

  pub field_has : (before : World) (object : Value) (number : ℕ) (v : Value) (after : World) → WritesField before object number v after → AllHave before.heap → AllHave after.heap
  field_has before object number v after w h =
      have_as after.heap _ (ap (λ (u : World). u.heap) w.is) (set_have before.heap w.to.place w.to.object _ w.to.held (h.each w.to.place w.to.object w.to.held) h)

  pub element_has : (before : World) (array v : Value) (after : World) → WritesElement x.program before array v after → AllHave before.heap → AllHave after.heap
  element_has before array v after w h =
      let to = w.of.array.to in
      have_as after.heap _ (ap (λ (u : World). u.heap) w.is) (set_have before.heap to.place to.object _ to.held (h.each to.place to.object to.held) h)

  -- ---- the first state

  boot_have : (classes : List (List ℕ)) → AllHave (map (boot_object x) classes)
  boot_have [] = none_have
  boot_have (class ∷ classes) = first_has (boot_object x class) (map (boot_object x) classes) (begins (boot_site class)) (boot_have classes)

  argument_has : (b : Bool) (objects : List Object) → MatchBool b (objects ≡ []) (IsArgumentArray x objects) → AllHave objects
  argument_has true objects none = have_as objects [] none none_have
  argument_has false objects a = have_as objects _ a.is (one_has _ (begins _))

  pub first_have : (s : State) → IsFirst x s → AllHave s.world.heap
  first_have s h =
      have_as s.world.heap (map (boot_object x) (boot_classes x.program) ++ h.objects) (ap (λ (u : State). u.world.heap) h.is)
      (both_have (map (boot_object x) (boot_classes x.program)) h.objects (boot_have (boot_classes x.program))
      (argument_has (bytes_eq h.entry.signature.descriptor plain_descriptor) h.objects h.arguments))
