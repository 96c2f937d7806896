-- Worlds that change: what covers them still does.
use Rattle.std.proofs.Common.{◌≡◌, ◌⊎◌, inl, inr, ℕ, ◌+◌, ◌≤◌, Bool, true, false, cond, eqb, List, [], ◌∷◌, ◌++◌, length, map, Option, Some, None, Contains, refl, sym, ap, ◌∙◌, subst, arith}
use Rattle.std.specs.Prelude.{slice_get, slice_set}
use Rattle.std.specs.Option.{option_map_or}
use Rattle.std.proofs.lemmas.Bool.{cases_eq, eqb-true}
use Rattle.std.proofs.lemmas.List.Elements.{Contains-append_cases}
use Rattle.std.proofs.lemmas.Option.{same_Some}
use Rattle.jvm_model.specs.declared.number.FieldNo.{FieldNo}
use Rattle.jvm_model.specs.declared.site.Site.{Site}
use Rattle.jvm_model.specs.Lookups.{Signature}
use Rattle.jvm_model.specs.Programs.{Field}
use Rattle.op_model.specs.Supplies.{GivenAs}
use Rattle.machine_bytecode.specs.Events.{HasEvents, moved, unmoved}
use Rattle.machine_bytecode.specs.Objects.{Subject, MakesObject, MakesArrays}
use Rattle.machine_bytecode.specs.States.{Value, primitive_value, reference_to, fields, elements, Contents, Object, World, default_value, default_fields, with_heap, with_contents, with_static, with_kept, with_started, new_object, Dimension, arrays_from}
use Rattle.points_to_rules.specs.Facts.{field_of, elements_of, static_field, kept_objects, Fact, may_hold}
use Rattle.coverage.specs.References.{LeadsTo, IsCovered}
use Rattle.coverage.specs.Sites.{IsSite}
use Rattle.coverage.specs.Covering.{MayHold, MayHoldStatic, IsCoveredObject, HasStartObjects, IsCoveredWorld}
use Rattle.coverage.proofs.Lists.{single, where_joined, IsBehind, behind, set_here, set_there}
use Rattle.coverage.proofs.Values.{Grows, grows_not, grows_more, grows_changed, leads_on, covered_on, covered_by}
use Rattle.coverage.proofs.Arrays.{default_covered, AreNested, IsArrayOf, AreAt, arrays_at, first_at}

module _ (x : Subject) (gives : GivenAs) (S : Fact → Type 0) where
  -- ---- objects

  pub object_on : (old new : List Object) (o : Object) → Grows old new → IsCoveredObject x.program gives S old o → IsCoveredObject x.program gives S new o
  object_on old new o grows c = record {
    made = c.made;
    of_class = c.of_class;
    in_fields = λ values field is. covered_on (MayHold S (field_of o.site field)) old new (values field.0) grows (c.in_fields values field is);
    in_elements = λ values v is there. covered_on (MayHold S (elements_of o.site)) old new v grows (c.in_elements values v is there);
  }

  fields_default : (Among : Site → Type 0) (heap : List Object) (number : ℕ) → IsCovered Among heap (default_fields x.program number)
  fields_default Among heap number = by (slice_get x.program.fields number)
    where
      by : (o : Option Field) → IsCovered Among heap (option_map_or (λ (f : Field). default_value f.signature.descriptor) o primitive_value)
      by None = tt
      by (Some f) = default_covered Among heap f.signature.descriptor

  same_fields : (values others : ℕ → Value) → fields values ≡ fields others → values ≡ others
  same_fields values others e = cc

  same_elements : (values others : List Value) → elements values ≡ elements others → values ≡ others
  same_elements values others e = cc

  not_both : (values : ℕ → Value) (others : List Value) → fields values ≡ elements others → ⊥
  not_both values others e = cc

  pub new_covered : (heap : List Object) (s : Site) (state : ℕ) → IsSite x.program gives S s → IsCoveredObject x.program gives S heap (new_object x.program s state)
  new_covered heap s state made = record {
    made = made;
    of_class = refl;
    in_fields = λ values field is.
        subst (λ (v : ℕ → Value). IsCovered (MayHold S (field_of s field)) heap (v field.0)) (same_fields (default_fields x.program) values is)
        (fields_default (MayHold S (field_of s field)) heap field.0);
    in_elements = λ values v is there. absurd (not_both (default_fields x.program) values is);
  }

  -- the elements of an array of a site may hold objects of the other one
  abbrev pub Inner : Site → Site → Type 0
  Inner outer inner = S (may_hold (elements_of outer) inner)

  pub array_covered : (sites : List Site) (heap : List Object) (o : Object) → ((s : Site) → Contains sites s → IsSite x.program gives S s) → IsArrayOf Inner sites heap o
      → IsCoveredObject x.program gives S heap o
  array_covered sites heap o made a = record {
    made = made o.site a.among;
    of_class = a.of_class;
    in_fields = λ values field is. absurd (not_both values a.values (sym is ∙ a.holds));
    in_elements = λ values v is there.
        a.covered v (subst (λ (vs : List Value). Contains vs v) (same_elements values a.values (sym is ∙ a.holds)) there);
  }

  -- ---- heaps

  pub start_on : (old new : List Object) → Grows old new → HasStartObjects x old → HasStartObjects x new
  start_on old new grows h = record {
    constants = λ place class stands. leads_on (λ s. s ≡ _) old new place grows (h.constants place class stands);
    arguments = λ entry stands some. leads_on (λ s. s ≡ _) old new _ grows (h.arguments entry stands some);
  }

  pub heap_covered : (w : World) (heap : List Object) → Grows w.heap heap → ((place : ℕ) (o : Object) → slice_get heap place ≡ Some o → IsCoveredObject x.program gives S heap o)
      → IsCoveredWorld x gives S w → IsCoveredWorld x gives S (with_heap w heap)
  heap_covered w heap grows objects c = record {
    objects = objects;
    statics = λ field. covered_on (MayHoldStatic x.program S field) w.heap heap (w.statics field.0) grows (c.statics field);
    kept = λ place there. leads_on (MayHold S kept_objects) w.heap heap place grows (c.kept place there);
    start = start_on w.heap heap grows c.start;
  }

  pub more_covered : (w : World) (more : List Object) → ((k : ℕ) (o : Object) → slice_get more k ≡ Some o → IsCoveredObject x.program gives S (w.heap ++ more) o)
      → IsCoveredWorld x gives S w → IsCoveredWorld x gives S (with_heap w (w.heap ++ more))
  more_covered w more objects c =
      heap_covered w (w.heap ++ more) (grows_more w.heap more) (λ place o held. by place o (where_joined w.heap more place o held)) c
    where
      by : (place : ℕ) (o : Object) → (slice_get w.heap place ≡ Some o) ⊎ IsBehind w.heap more place o → IsCoveredObject x.program gives S (w.heap ++ more) o
      by place o (inl held) = object_on w.heap (w.heap ++ more) o (grows_more w.heap more) (c.objects place o held)
      by place o (inr late) = objects late.after o late.held

  pub changed_covered : (w : World) (place : ℕ) (old new : Object) → slice_get w.heap place ≡ Some old → new.site ≡ old.site → new.class ≡ old.class
      → IsCoveredObject x.program gives S w.heap new → IsCoveredWorld x gives S w → IsCoveredWorld x gives S (with_heap w (slice_set w.heap place new))
  changed_covered w place old new is site class covered c =
      heap_covered w (slice_set w.heap place new) grows (λ k o held. by k o held (cases_eq k place)) c
    where
      grows : Grows w.heap (slice_set w.heap place new)
      grows = grows_changed w.heap place old new is site class

      by : (k : ℕ) (o : Object) → slice_get (slice_set w.heap place new) k ≡ Some o → (k ≡ place) ⊎ (k ≡ place → ⊥) → IsCoveredObject x.program gives S (slice_set w.heap place new) o
      by k o held (inl e) =
          let same : new ≡ o = same_Some new o (sym (set_here w.heap place old new is) ∙ ap (slice_get (slice_set w.heap place new)) (sym e) ∙ held) in
          subst (λ (p : Object). IsCoveredObject x.program gives S (slice_set w.heap place new) p) same (object_on w.heap (slice_set w.heap place new) new grows covered)
      by k o held (inr ne) =
          object_on w.heap (slice_set w.heap place new) o grows (c.objects k o (sym (set_there w.heap place k new ne) ∙ held))

  -- ---- a world after another one

  pub record IsLater (before after : World) : Type 0 where
    pub grows : Grows before.heap after.heap
    pub covered : IsCoveredWorld x gives S after

  pub later_as : (before after w : World) → after ≡ w → IsLater before w → IsLater before after
  later_as before after w e later = subst (λ (u : World). IsLater before u) (sym e) later

  pub later_same : (w : World) → IsCoveredWorld x gives S w → IsLater w w
  later_same w c = record { grows = grows_not w.heap; covered = c }

  -- ---- what is made

  pub record IsMade (Among : Site → Type 0) (before : World) (made : Value) (after : World) : Type 0 where
    pub later : IsLater before after
    pub leads : IsCovered Among after.heap made

  made_as : (Among : Site → Type 0) (before after w : World) (made v : Value) → made ≡ v → after ≡ w → IsMade Among before v w → IsMade Among before made after
  made_as Among before after w made v is e m =
      subst (λ (u : Value). IsMade Among before u after) (sym is) (subst (λ (u : World). IsMade Among before v u) (sym e) m)

  pub object_made : (s : Site) (before : World) (made : Value) (after : World) → MakesObject x s before made after → IsSite x.program gives S s → IsCoveredWorld x gives S before
      → IsMade (λ t. t ≡ s) before made after
  object_made s before made after m site c =
      let o = new_object x.program s x.property.initial in
      let heap = before.heap ++ o ∷ [] in
      made_as (λ t. t ≡ s) before after (with_heap before heap) made (reference_to (length before.heap)) m.made_is m.after_is (record {
        later = record {
          grows = grows_more before.heap (o ∷ []);
          covered = more_covered before (o ∷ []) (λ k p held. subst (λ (q : Object). IsCoveredObject x.program gives S heap q) (single o p k held) (new_covered heap s x.property.initial site)) c;
        };
        leads = record { object = o; held = subst (λ (i : ℕ). slice_get heap i ≡ Some o) here (behind before.heap (o ∷ []) 0 o refl); among = refl };
      })
    where
      here : length before.heap + 0 ≡ length before.heap
      here = omega arith

  pub arrays_made : (sites : List Site) (before : World) (made : Value) (after : World) → MakesArrays x sites before made after → ((s : Site) → Contains sites s → IsSite x.program gives S s)
      → AreNested Inner sites → IsCoveredWorld x gives S before → IsMade (λ t. slice_get sites 0 ≡ Some t) before made after
  arrays_made sites before made after m of nested c =
      made_as (λ t. slice_get sites 0 ≡ Some t) before after (with_heap before heap) made (reference_to (length before.heap)) m.made_is m.after_is (record {
        later = record {
          grows = grows_more before.heap more;
          covered = more_covered before more
              (λ k o held. array_covered dimension_sites heap o (λ s there. of s (subst (λ (ss : List Site). Contains ss s) m.of_sites there))
              (arrays_at Inner x.property.initial heap m.dimensions (length before.heap) 1 (subst (λ (ss : List Site). AreNested Inner ss) (sym m.of_sites) nested) stand k o held)) c;
        };
        leads = subst (λ (ss : List Site). LeadsTo (λ t. slice_get ss 0 ≡ Some t) heap (length before.heap)) m.of_sites (first m.dimensions m.some stand);
      })
    where
      more : List Object
      more = arrays_from x.property.initial (length before.heap) 1 m.dimensions

      heap : List Object
      heap = before.heap ++ more

      dimension_sites : List Site
      dimension_sites = map (λ (d : Dimension). d.site) m.dimensions

      stand : AreAt Inner x.property.initial heap (length before.heap) more
      stand = record { at = λ k o held. behind before.heap more k o held }

      first : (ds : List Dimension) → 1 ≤ length ds → AreAt Inner x.property.initial heap (length before.heap) (arrays_from x.property.initial (length before.heap) 1 ds)
          → LeadsTo (λ t. slice_get (map (λ (d : Dimension). d.site) ds) 0 ≡ Some t) heap (length before.heap)
      first [] some at = absurd (omega arith)
      first (d ∷ deeper) some at =
          let r = first_at x.property.initial (length before.heap) 1 d deeper 0 (omega arith) in
          let here : length before.heap + 0 ≡ length before.heap = omega arith in
          record { object = r.object; held = subst (λ (i : ℕ). slice_get heap i ≡ Some r.object) here (at.at 0 r.object r.held); among = ap Some (sym r.of_site) }

  -- ---- the other changes

  -- an event changes the state of the automaton alone
  pub events_later : (selects : Bool) (s : Signature) (units : List Value) (before after : World) → HasEvents x selects s units before after → IsCoveredWorld x gives S before → IsLater before after
  events_later selects s units before after (moved e is) c =
      let o = e.receiver.object in
      let old = c.objects e.receiver.place o e.receiver.held in
      later_as before after _ is (record {
        grows = grows_changed before.heap e.receiver.place o _ e.receiver.held refl refl;
        covered = changed_covered before e.receiver.place o _ e.receiver.held refl refl
            (record { made = old.made; of_class = old.of_class; in_fields = old.in_fields; in_elements = old.in_elements }) c;
      })
  events_later selects s units before after (unmoved none is) c = later_as before after before is (later_same before c)

  -- something else is held
  pub contents_later : (w : World) (place : ℕ) (o : Object) (contents : Contents) → slice_get w.heap place ≡ Some o
      → ((values : ℕ → Value) (field : FieldNo) → contents ≡ fields values → IsCovered (MayHold S (field_of o.site field)) w.heap (values field.0))
      → ((values : List Value) (v : Value) → contents ≡ elements values → Contains values v → IsCovered (MayHold S (elements_of o.site)) w.heap v)
      → IsCoveredWorld x gives S w → IsLater w (with_contents w place o contents)
  contents_later w place o contents held in_fields in_elements c =
      let old = c.objects place o held in
      record {
        grows = grows_changed w.heap place o _ held refl refl;
        covered = changed_covered w place o _ held refl refl (record { made = old.made; of_class = old.of_class; in_fields = in_fields; in_elements = in_elements }) c;
      }

  pub static_later : (w : World) (field : FieldNo) (v : Value) → IsCovered (MayHold S (static_field field)) w.heap v → IsCoveredWorld x gives S w → IsLater w (with_static w field.0 v)
  static_later w field v new c = record {
    grows = grows_not w.heap;
    covered = record { objects = c.objects; statics = λ other. by other (eqb other.0 field.0) refl; kept = c.kept; start = c.start };
  }
    where
      by : (other : FieldNo) (b : Bool) → eqb other.0 field.0 ≡ b → IsCovered (MayHoldStatic x.program S other) w.heap (cond b v (w.statics other.0))
      by other true e =
          let same : field ≡ other = ap (λ (n : ℕ). record { 0 = n }) (sym (eqb-true other.0 field.0 e)) in
          subst (λ (f : FieldNo). IsCovered (MayHoldStatic x.program S f) w.heap v) same
          (covered_by (MayHold S (static_field field)) (MayHoldStatic x.program S field) w.heap v (λ s is. inl is) new)
      by other false e = c.statics other

  pub kept_later : (w : World) (places : List ℕ) → ((place : ℕ) → Contains places place → LeadsTo (MayHold S kept_objects) w.heap place) → IsCoveredWorld x gives S w → IsLater w (with_kept w places)
  kept_later w places new c = record {
    grows = grows_not w.heap;
    covered = record {
      objects = c.objects;
      statics = c.statics;
      kept = λ place there. elim (Contains-append_cases w.kept places place there) [ inl old ↦ c.kept place old | inr more ↦ new place more ];
      start = c.start;
    };
  }

  pub started_later : (w : World) (number : ℕ) → IsCoveredWorld x gives S w → IsLater w (with_started w number)
  started_later w number c = record { grows = grows_not w.heap; covered = record { objects = c.objects; statics = c.statics; kept = c.kept; start = c.start } }
