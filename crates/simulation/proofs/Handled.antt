-- The handlers of a node begin where the entries of the table of handlers begin that cover its offset.
use Rattle.std.proofs.Common.{◌≡◌, ◌⊎◌, inl, inr, ℕ, zero, suc, ◌+◌, cond, Bool, true, false, if◌then◌else◌, List, [], ◌∷◌, map, Some, refl, sym, ap, ◌∙◌, subst, arith}
use Rattle.std.specs.List.{AllZip, Contains, filter, slice_get}
use Rattle.std.proofs.lemmas.Option.{none-some, same_Some}
use Rattle.jvm_model.specs.declared.code.Handler.{Handler}
use Rattle.jvm_model.specs.declared.pool.PoolEntry.{PoolEntry}
use Rattle.jvm_model.specs.Programs.{Program}
use Rattle.flow_graph.specs.Flows.{covers, covering, covering_from, caught_at}
use Rattle.flow_graph.proofs.Catching.{from_covering}
use Rattle.lowering_spec.specs.LoweredMethods.{IsHandlerAt}
use Rattle.op_model.specs.declared.node.NodeHandler.{NodeHandler}
use Rattle.program_laws.proofs.Orders.{none_there, first_there, more_there, where_there}
use Rattle.least_sets.proofs.Places.{place_of}
use Rattle.simulation.proofs.Pairs.{first_of, second_of}

-- ---- the entries that cover an offset

-- an entry that covers the offset, by its place in the list; places are counted from a number on
record IsCovering (from offset : ℕ) (handlers : List Handler) (place : ℕ) : Type 0 where
  at : ℕ
  handler : Handler
  is : place ≡ from + at
  stands : slice_get handlers at ≡ Some handler
  covers_it : covers offset handler ≡ true

-- each place that is listed is that of one
covering_at : (from offset : ℕ) (handlers : List Handler) (place : ℕ) → Contains (covering_from from offset handlers) place → IsCovering from offset handlers place
covering_at from offset [] place there = absurd (none_there place there)
covering_at from offset (h ∷ handlers) place there = by (covers offset h) refl (covering_at (from + 1) offset handlers place) there
  where
    more : List ℕ
    more = covering_from (from + 1) offset handlers

    later : IsCovering (from + 1) offset handlers place → IsCovering from offset (h ∷ handlers) place
    later c = let is = c.is in record { at = suc c.at; handler = c.handler; is = omega arith; stands = c.stands; covers_it = c.covers_it }

    here : covers offset h ≡ true → (Contains more place → IsCovering (from + 1) offset handlers place) → (from ≡ place) ⊎ Contains more place → IsCovering from offset (h ∷ handlers) place
    here e deeper (inl same) = record { at = 0; handler = h; is = omega arith; stands = refl; covers_it = e }
    here e deeper (inr rest) = later (deeper rest)

    by : (b : Bool) → covers offset h ≡ b → (Contains more place → IsCovering (from + 1) offset handlers place) → Contains (if b then from ∷ more else more) place
        → IsCovering from offset (h ∷ handlers) place
    by true e deeper listed = here e deeper (where_there from place more listed)
    by false e deeper listed = later (deeper listed)

-- the place of each one is listed
covering_there : (from offset : ℕ) (handlers : List Handler) (k : ℕ) (h : Handler) → slice_get handlers k ≡ Some h → covers offset h ≡ true
    → Contains (covering_from from offset handlers) (from + k)
covering_there from offset [] k h stands e = absurd (none-some h stands)
covering_there from offset (g ∷ handlers) zero h stands e =
    let more = covering_from (from + 1) offset handlers in
    let here : covers offset g ≡ true = ap (covers offset) (same_Some g h stands) ∙ e in
    let same : from ≡ from + 0 = omega arith in
    subst (λ (place : ℕ). Contains (covering_from from offset (g ∷ handlers)) place) same
    (subst (λ (b : Bool). Contains (if b then from ∷ more else more) from) (sym here) (first_there from more))
covering_there from offset (g ∷ handlers) (suc k) h stands e =
    let same : from + 1 + k ≡ from + suc k = omega arith in
    subst (λ (place : ℕ). Contains (covering_from from offset (g ∷ handlers)) place) same (by (covers offset g) (covering_there (from + 1) offset handlers k h stands e))
  where
    more : List ℕ
    more = covering_from (from + 1) offset handlers

    by : (b : Bool) → Contains more (from + 1 + k) → Contains (if b then from ∷ more else more) (from + 1 + k)
    by true there = more_there from (from + 1 + k) more there
    by false there = there

-- ---- where they begin

-- where each one begins is listed
caught_there : (offset : ℕ) (handlers : List Handler) (k : ℕ) (h : Handler) → slice_get handlers k ≡ Some h → covers offset h ≡ true → Contains (caught_at handlers offset) h.target
caught_there offset [] k h stands e = absurd (none-some h stands)
caught_there offset (g ∷ handlers) zero h stands e =
    let kept = filter (covers offset) handlers in
    let same : g ≡ h = same_Some g h stands in
    let here : covers offset g ≡ true = ap (covers offset) same ∙ e in
    subst (λ (b : Bool). Contains (map (λ (x : Handler). x.target) (cond b (g ∷ kept) kept)) h.target) (sym here)
    (subst (λ (x : Handler). Contains (g.target ∷ caught_at handlers offset) x.target) same (first_there g.target (caught_at handlers offset)))
caught_there offset (g ∷ handlers) (suc k) h stands e = by (covers offset g) (caught_there offset handlers k h stands e)
  where
    by : (b : Bool) → Contains (caught_at handlers offset) h.target
        → Contains (map (λ (x : Handler). x.target) (cond b (g ∷ filter (covers offset) handlers) (filter (covers offset) handlers))) h.target
    by true there = more_there g.target h.target (caught_at handlers offset) there
    by false there = there

module _ (p : Program) (pool : List PoolEntry) (handlers : List Handler) (offset : ℕ) (places : List ℕ) (held : List NodeHandler) (covering_places : places ≡ covering handlers offset)
    (each : AllZip (IsHandlerAt p pool handlers) places held) where
  -- a handler begins where an entry does
  pub begins_caught : (h : NodeHandler) → Contains held h → Contains (caught_at handlers offset) h.target
  begins_caught h there =
      let at = first_of (IsHandlerAt p pool handlers) places held h each there in
      let c = covering_at 0 offset handlers at.0 (subst (λ (ps : List ℕ). Contains ps at.0) covering_places at.1) in
      let is = c.is in
      let place : c.at ≡ at.0 = omega arith in
      let same : c.handler ≡ at.2.handler = same_Some c.handler at.2.handler (sym c.stands ∙ ap (slice_get handlers) place ∙ at.2.stands) in
      let begins : c.handler.target ≡ h.target = ap (λ (x : Handler). x.target) same ∙ sym at.2.target in
      subst (λ (o : ℕ). Contains (caught_at handlers offset) o) begins (caught_there offset handlers c.at c.handler c.stands c.covers_it)

  -- where an entry begins, a handler does
  pub caught_begins : (target : ℕ) → Contains (caught_at handlers offset) target → (h : NodeHandler) × Contains held h × (target ≡ h.target)
  caught_begins target caught =
      let entry = from_covering handlers offset target caught in
      let (at, stands) = place_of handlers entry.0 entry.1 in
      let place : 0 + at ≡ at = omega arith in
      let listed = subst (λ (k : ℕ). Contains (covering handlers offset) k) place (covering_there 0 offset handlers at entry.0 stands entry.2) in
      let h = second_of (IsHandlerAt p pool handlers) places held at each (subst (λ (ps : List ℕ). Contains ps at) (sym covering_places) listed) in
      let same : entry.0 ≡ h.2.handler = same_Some entry.0 h.2.handler (sym stands ∙ h.2.stands) in
      (h.0, h.1, sym entry.3 ∙ ap (λ (x : Handler). x.target) same ∙ sym h.2.target)
