-- What a place gets by a call: the constraint of a unit, what is made of it, and origins while the tables grow.
use Rattle.std.proofs.Common.{◌≡◌, ℕ, zero, suc, ◌<◌, List, Some, None, length, refl, sym, ap, ◌∙◌, subst, arith}
use Rattle.std.specs.List.{slice_get}
use Rattle.least_sets.proofs.Places.{place_of, contains_at}
use Rattle.std.proofs.lemmas.Option.{none-some, same_Some, slice_get_within}
use Rattle.jvm_model.specs.declared.number.MethodNo.{MethodNo}
use Rattle.jvm_model.specs.Programs.{Method, Program}
use Rattle.op_model.specs.declared.op.CallKind.{CallKind}
use Rattle.op_model.specs.declared.op.CallKind.TheVariants.{Virtual, Special, Static, Interface}
use Rattle.points_to_rules.specs.Facts.{Holder}
use Rattle.points_to_constraints.specs.CallItems.{GivesUnit}
use Rattle.points_to_constraints.specs.Items.{CallSite, Constraint as ItemConstraint, copy_to, filter_to, constrained}
use Rattle.points_to_numbers.specs.declared.item.Item.{Item}
use Rattle.points_to_numbers.specs.declared.keys.Constraint.{Constraint}
use Rattle.points_to_numbers.specs.declared.keys.Constraint.TheVariants as constraints
use Rattle.points_to_rules.specs.declared.place.PlaceNo.{PlaceNo}
use Rattle.points_to_numbers.specs.declared.keys.ClassNameNo.{ClassNameNo}
use Rattle.points_to_numbers.specs.Numbered.{Numbered, Grows, IsNumbered, IsConstraintAt}
use Rattle.points_to_numbers.proofs.Growing.{grows_same}
use Rattle.points_to_calls.specs.declared.origin.Origin.{Origin}
use Rattle.points_to_calls.specs.declared.origin.Origin.TheVariants as origins
use Rattle.points_to_calls.specs.Giving.{ResolvesIn, MakesConstraint}
use Rattle.points_to_calls.specs.Parts.{unit_in, RuleOrigin, made, fitting, IsOriginAt, GetsUnit, Gets, GetsAt, ResultsGet}
use Rattle.points_to_numbers.specs.Steps.{Makes}
use Rattle.points_to_calls.proofs.CallParts.{unit_there, there_from_unit}
use Rattle.points_to_numbers.proofs.Making.{makes_none, makes_same, makes_grown}
use Rattle.points_to_numbers.proofs.Adding.{OfOneBelow}

-- ---- while the tables grow

pub numbered_on : {X : Type 0} (old new : List X) (number : ℕ) → ((place : ℕ) (x : X) → slice_get old place ≡ Some x → slice_get new place ≡ Some x) → IsNumbered old number → IsNumbered new number
numbered_on old new number longer (x, at) = (x, longer number x at)

pub resolves_on : (p : Program) (n m : Numbered) (call : ℕ) → Grows n m → IsNumbered n.calls call → ResolvesIn p n call → ResolvesIn p m call
resolves_on p n m call grows (site, at) resolved other there =
    let same = same_Some site other (sym (grows.calls call site at) ∙ there) in
    subst (λ (s : CallSite). s.resolved.0 < length p.methods) same (resolved site at)

pub origin_on : (n m : Numbered) (origin : Origin) (g : RuleOrigin) → Grows n m → IsOriginAt n origin g → IsOriginAt m origin g
origin_on n m (origins.Unit u) g grows is = is
origin_on n m (origins.Made site) g grows (s, at, is) = (s, grows.sites site.0 s at, is)
origin_on n m (origins.Fitting class) g grows (name, at, is) = (name, grows.classes class.0 name at, is)
origin_on n m (origins.Returned method) g grows is = is

-- ---- the constraint of a unit

-- there is one
pub one_given : (kind : CallKind) (p : Program) (resolved : MethodNo) (u : ℕ) (to : Holder) (a b : ItemConstraint) → GivesUnit kind p resolved u to a → GivesUnit kind p resolved u to b → a ≡ b
one_given kind p resolved (suc u) to a b first second = first ∙ sym second
one_given Virtual p resolved zero to a b first second = absurd first
one_given Special p resolved zero to a b (m, at, is) (k, there, are) =
    is ∙ ap (λ (j : Method). filter_to j.class to) (same_Some m k (sym at ∙ there)) ∙ sym are
one_given Static p resolved zero to a b first second = first ∙ sym second
one_given Interface p resolved zero to a b first second = absurd first

-- a later unit is passed as it is
pub later_constraint : (p : Program) (n : Numbered) (kind : CallKind) (resolved : MethodNo) (u : ℕ) (to : PlaceNo) (h : Holder) → 0 < u → slice_get n.holders to.0 ≡ Some h
    → MakesConstraint p n n kind resolved u h (Some (constraints.CopyTo to))
later_constraint p n kind resolved zero to h positive held = absurd (omega (arith, positive))
later_constraint p n kind resolved (suc u) to h positive held = record { grows = grows_same n; calls = refl; is = (copy_to h, (h, held, refl), refl) }

pub static_constraint : (p : Program) (n : Numbered) (kind : CallKind) (resolved : MethodNo) (to : PlaceNo) (h : Holder) → kind ≡ Static → slice_get n.holders to.0 ≡ Some h
    → MakesConstraint p n n kind resolved 0 h (Some (constraints.CopyTo to))
static_constraint p n kind resolved to h is held =
    subst (λ (k : CallKind). MakesConstraint p n n k resolved 0 h (Some (constraints.CopyTo to))) (sym is) (record { grows = grows_same n; calls = refl; is = (copy_to h, (h, held, refl), refl) })

pub special_constraint : (p : Program) (n m : Numbered) (kind : CallKind) (resolved : MethodNo) (class : ClassNameNo) (to : PlaceNo) (h : Holder) (method : Method) → kind ≡ Special
    → slice_get p.methods resolved.0 ≡ Some method → slice_get m.classes class.0 ≡ Some method.class → Grows n m → length m.calls ≡ length n.calls → slice_get n.holders to.0 ≡ Some h
    → MakesConstraint p n m kind resolved 0 h (Some (constraints.FilterTo class to))
special_constraint p n m kind resolved class to h method is at named grows calls held =
    subst (λ (k : CallKind). MakesConstraint p n m k resolved 0 h (Some (constraints.FilterTo class to))) (sym is) (record {
      grows = grows;
      calls = calls;
      is = (filter_to method.class h, (method.class, h, named, grows.holders to.0 h held, refl), (method, at, refl));
    })

-- ---- a unit that is given

module _ (p : Program) (n m o : Numbered) (site : CallSite) (u : ℕ) (h : Holder) (a b : List Item) where
  -- it is no reference
  pub no_unit : unit_in site.arguments u ≡ None → Makes n n (GetsUnit p site u h) a a
  no_unit none = makes_none n (GetsUnit p site u h) a (λ x gets. none-some gets.from (sym none ∙ unit_there site.arguments u (Some gets.from) gets.stands))

  -- it has no constraint
  pub no_constraint : MakesConstraint p n m site.kind site.resolved u h None → Makes n m (GetsUnit p site u h) a a
  no_constraint constraint = makes_grown n m m (GetsUnit p site u h) a a constraint.grows constraint.calls (makes_none m (GetsUnit p site u h) a (λ x gets. constraint.is gets.constraint gets.gives))

  -- the constraint gets it
  pub unit_given : (from : Holder) (constraint : Constraint) → unit_in site.arguments u ≡ Some from → (by : MakesConstraint p n m site.kind site.resolved u h (Some constraint))
      → ((v : ItemConstraint) → IsConstraintAt m constraint v → Makes m o (λ x. x ≡ constrained from v) a b) → Makes n o (GetsUnit p site u h) a b
  unit_given from constraint stands by adds =
      let (v, is_v, gives) = by.is in
      makes_grown n m o (GetsUnit p site u h) a b by.grows by.calls
      (makes_same m o (λ x. x ≡ constrained from v) (GetsUnit p site u h) a b
      (λ x. (
        λ e. record { from = from; constraint = v; stands = there_from_unit site.arguments u from stands; gives = gives; is = e },
        λ gets. gets.is ∙ (λ i. constrained
            (same_Some gets.from from (sym (unit_there site.arguments u (Some gets.from) gets.stands) ∙ stands) i)
            (one_given site.kind p site.resolved u h gets.constraint v gets.gives gives i)),
      ))
      (adds v is_v))

-- ---- origins

-- an origin is one
pub one_origin : (n : Numbered) (origin : Origin) (g k : RuleOrigin) → IsOriginAt n origin g → IsOriginAt n origin k → g ≡ k
one_origin n (origins.Unit u) g k first second = first ∙ sym second
one_origin n (origins.Made site) g k (s, at, is) (t, there, are) = is ∙ ap made (same_Some s t (sym at ∙ there)) ∙ sym are
one_origin n (origins.Fitting class) g k (s, at, is) (t, there, are) = is ∙ ap fitting (same_Some s t (sym at ∙ there)) ∙ sym are
one_origin n (origins.Returned method) g k first second = first ∙ sym second

-- no result stands at the place
pub no_result : (p : Program) (n : Numbered) (site : CallSite) (g : RuleOrigin) (number : ℕ) (a : List Item) → slice_get site.results number ≡ None → Makes n n (GetsAt p site g number) a a
no_result p n site g number a none = makes_none n (GetsAt p site g number) a (λ x gets. none-some gets.to (sym none ∙ gets.stands))

-- the result at the place gets it
pub result_got : (p : Program) (n m : Numbered) (site : CallSite) (g : RuleOrigin) (number : ℕ) (h : Holder) (a b : List Item) → slice_get site.results number ≡ Some h
    → Makes n m (Gets p site g h) a b → Makes n m (GetsAt p site g number) a b
result_got p n m site g number h a b stands makes =
    makes_same n m (Gets p site g h) (GetsAt p site g number) a b
    (λ x. (
      λ gets. record { to = h; stands = stands; gets = gets },
      λ at. subst (λ (to : Holder). Gets p site g to x) (same_Some at.to h (sym at.stands ∙ stands)) at.gets,
    ))
    makes

-- all results have got it
pub results_got : (p : Program) (n m : Numbered) (site : CallSite) (g : RuleOrigin) (count : ℕ) (a b : List Item) → count ≡ length site.results
    → Makes n m (OfOneBelow (GetsAt p site g) count) a b → Makes n m (ResultsGet p site g) a b
results_got p n m site g count a b long makes =
    makes_same n m (OfOneBelow (GetsAt p site g) count) (ResultsGet p site g) a b
    (λ x. (
      λ (k, below, at). (at.to, contains_at site.results k at.to at.stands, at.gets),
      λ (to, there, gets). let (k, at) = place_of site.results to there in (k, subst (λ (limit : ℕ). k < limit) (sym long) (slice_get_within site.results k to at), record { to = to; stands = at; gets = gets }),
    ))
    makes
