-- What covers a value still does in a heap that has grown, and for another holder by a rule.
use Rattle.std.proofs.Common.{◌≡◌, ◌⊎◌, inl, inr, ℕ, List, ◌++◌, Some, refl, sym, ap, ◌∙◌, subst}
use Rattle.std.specs.Prelude.{slice_get, slice_set}
use Rattle.std.proofs.lemmas.Bool.{cases_eq}
use Rattle.std.proofs.lemmas.Option.{same_Some}
use Rattle.list_laws.proofs.Places.{in_longer}
use Rattle.jvm_model.specs.declared.site.Site.{Site}
use Rattle.machine_bytecode.specs.States.{Value, primitive_value, null_value, reference_to, Object}
use Rattle.coverage.specs.References.{LeadsTo, IsCovered}
use Rattle.coverage.proofs.Lists.{set_here, set_there}

-- ---- heaps that grow

-- an object keeps its place, its site and its class
pub record Stays (heap : List Object) (place : ℕ) (old : Object) : Type 0 where
  pub object : Object
  pub held : slice_get heap place ≡ Some object
  pub site : object.site ≡ old.site
  pub class : object.class ≡ old.class

pub record Grows (old new : List Object) : Type 0 where
  pub stays : (place : ℕ) (o : Object) → slice_get old place ≡ Some o → Stays new place o

pub grows_not : (heap : List Object) → Grows heap heap
grows_not heap = record { stays = λ place o held. record { object = o; held = held; site = refl; class = refl } }

pub grows_more : (heap more : List Object) → Grows heap (heap ++ more)
grows_more heap more = record { stays = λ place o held. record { object = o; held = in_longer heap more place o held; site = refl; class = refl } }

pub grows_changed : (heap : List Object) (place : ℕ) (old new : Object) → slice_get heap place ≡ Some old → new.site ≡ old.site → new.class ≡ old.class → Grows heap (slice_set heap place new)
grows_changed heap place old new is site class = record { stays = λ k o held. by k o held (cases_eq k place) }
  where
    by : (k : ℕ) (o : Object) → slice_get heap k ≡ Some o → (k ≡ place) ⊎ (k ≡ place → ⊥) → Stays (slice_set heap place new) k o
    by k o held (inl e) =
        let same : o ≡ old = same_Some o old (sym held ∙ ap (slice_get heap) e ∙ is) in
        record {
          object = new;
          held = ap (slice_get (slice_set heap place new)) e ∙ set_here heap place old new is;
          site = site ∙ sym (ap (λ (p : Object). p.site) same);
          class = class ∙ sym (ap (λ (p : Object). p.class) same);
        }
    by k o held (inr ne) = record { object = o; held = set_there heap place k new ne ∙ held; site = refl; class = refl }

pub grows_on : (a b c : List Object) → Grows a b → Grows b c → Grows a c
grows_on a b c first second = record {
  stays = λ place o held.
      let s = first.stays place o held in
      let t = second.stays place s.object s.held in
      record { object = t.object; held = t.held; site = t.site ∙ s.site; class = t.class ∙ s.class };
}

-- ---- references

pub leads_on : (Among : Site → Type 0) (old new : List Object) (place : ℕ) → Grows old new → LeadsTo Among old place → LeadsTo Among new place
leads_on Among old new place grows l =
    let there = grows.stays place l.object l.held in
    record { object = there.object; held = there.held; among = subst Among (sym there.site) l.among }

pub leads_by : (Among Others : Site → Type 0) (heap : List Object) (place : ℕ) → ((s : Site) → Among s → Others s) → LeadsTo Among heap place → LeadsTo Others heap place
leads_by Among Others heap place rule l = record { object = l.object; held = l.held; among = rule l.object.site l.among }

-- the object at the place is of one of the sites
pub among_at : (Among : Site → Type 0) (heap : List Object) (place : ℕ) (o : Object) → LeadsTo Among heap place → slice_get heap place ≡ Some o → Among o.site
among_at Among heap place o l held = subst (λ (p : Object). Among p.site) (same_Some l.object o (sym l.held ∙ held)) l.among

-- ---- values

pub covered_on : (Among : Site → Type 0) (old new : List Object) (v : Value) → Grows old new → IsCovered Among old v → IsCovered Among new v
covered_on Among old new primitive_value grows c = tt
covered_on Among old new null_value grows c = tt
covered_on Among old new (reference_to place) grows c = leads_on Among old new place grows c

-- by a rule that sees the object
pub covered_at : (Among Others : Site → Type 0) (heap : List Object) (v : Value)
    → ((place : ℕ) (o : Object) → v ≡ reference_to place → slice_get heap place ≡ Some o → Among o.site → Others o.site) → IsCovered Among heap v → IsCovered Others heap v
covered_at Among Others heap primitive_value rule c = tt
covered_at Among Others heap null_value rule c = tt
covered_at Among Others heap (reference_to place) rule c = record { object = c.object; held = c.held; among = rule place c.object refl c.held c.among }

-- by a rule for each site
pub covered_by : (Among Others : Site → Type 0) (heap : List Object) (v : Value) → ((s : Site) → Among s → Others s) → IsCovered Among heap v → IsCovered Others heap v
covered_by Among Others heap v rule c = covered_at Among Others heap v (λ place o is held among. rule o.site among) c

pub covered_as : (Among : Site → Type 0) (heap : List Object) (v w : Value) → w ≡ v → IsCovered Among heap v → IsCovered Among heap w
covered_as Among heap v w e c = subst (λ (u : Value). IsCovered Among heap u) (sym e) c

-- where a value leads
pub leads_from : (Among : Site → Type 0) (heap : List Object) (v : Value) (place : ℕ) → IsCovered Among heap v → v ≡ reference_to place → LeadsTo Among heap place
leads_from Among heap v place c is = subst (λ (u : Value). IsCovered Among heap u) is c

pub among_from : (Among : Site → Type 0) (heap : List Object) (v : Value) (place : ℕ) (o : Object) → IsCovered Among heap v → v ≡ reference_to place → slice_get heap place ≡ Some o → Among o.site
among_from Among heap v place o c is held = among_at Among heap place o (leads_from Among heap v place c is) held
