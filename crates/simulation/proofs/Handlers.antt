-- The handlers of a node are searched as those of the code are.
use Rattle.std.proofs.Common.{◌≡◌, ◌⊎◌, inl, inr, ℕ, suc, ◌+◌, Bool, true, false, cond, List, [], ◌∷◌, map, filter, Some, refl, sym, ap, ◌∙◌, subst, arith}
use Rattle.std.specs.List.{Contains, AllZip, slice_get}
use Rattle.std.proofs.lemmas.Option.{none-some, same_Some}
use Rattle.jvm_model.specs.declared.code.Handler.{Handler}
use Rattle.jvm_model.specs.declared.number.ClassNo.{ClassNo}
use Rattle.jvm_model.specs.declared.pool.PoolEntry.{PoolEntry}
use Rattle.jvm_model.specs.Programs.{Class, Program}
use Rattle.jvm_model.specs.Subtypes.{Fits}
use Rattle.flow_graph.specs.Flows.{caught_at, covering_from, covers}
use Rattle.op_model.specs.declared.node.NodeHandler.{NodeHandler}
use Rattle.machine_bytecode.specs.Machine.{Handles, IsFirstHandler, TakesClass}
use Rattle.machine_nodes.specs.Nodes.{IsClassNumber}
use Rattle.machine_nodes.specs.NodeSteps.{IsFirstTaking, Takes, all as takes_all, fitting}
use Rattle.lowering_spec.specs.LoweredMethods.{IsCatch, IsHandlerAt, all as catches_all, of_class}
use Rattle.program_laws.proofs.Orders.{first_there, more_there, none_there, where_there}

-- ---- one handler

one_named : (p : Program) (number : ClassNo) (a b : List ℕ) → IsClassNumber p number a → IsClassNumber p number b → a ≡ b
one_named p number a b x y = sym x.named ∙ ap (λ (c : Class). c.name) (same_Some x.class y.class (sym x.stands ∙ y.stands)) ∙ y.named

takes_as : (p : Program) (pool : List PoolEntry) (catch_type : ℕ) (class : List ℕ) (h : NodeHandler) → IsCatch p pool catch_type h.catch → TakesClass p pool catch_type class → Takes p h class
takes_as p pool catch_type class h (catches_all zero_is none) t = takes_all none
takes_as p pool catch_type class h (of_class some name number named is catch) (inl zero_is) = absurd (some zero_is)
takes_as p pool catch_type class h (of_class some name number named is catch) (inr t) =
    let same : t.0 ≡ name = same_Some t.0 name (sym t.1 ∙ named) in
    fitting number name catch is (subst (λ (n : List ℕ). Fits p n class) same t.2)

taken_as : (p : Program) (pool : List PoolEntry) (catch_type : ℕ) (class : List ℕ) (h : NodeHandler) → IsCatch p pool catch_type h.catch → Takes p h class → TakesClass p pool catch_type class
taken_as p pool catch_type class h (catches_all zero_is none) t = inl zero_is
taken_as p pool catch_type class h (of_class some name number named is catch) (takes_all none) = absurd (none-some number (sym none ∙ catch))
taken_as p pool catch_type class h (of_class some name number named is catch) (fitting other n c is2 fits) =
    let same : other ≡ number = same_Some other number (sym c ∙ catch) in
    let names = one_named p number n name (subst (λ (k : ClassNo). IsClassNumber p k n) same is2) is in
    inr (name, named, subst (λ (m : List ℕ). Fits p m class) names fits)

-- ---- the handlers that cover an offset

module _ (p : Program) (pool : List PoolEntry) (offset : ℕ) (class : List ℕ) (whole : List Handler) where
  -- these are the handlers from a place on
  abbrev From : ℕ → List Handler → Type 0
  From place hs = (k : ℕ) → slice_get whole (place + k) ≡ slice_get hs k

  from_next : (place : ℕ) (h : Handler) (hs : List Handler) → From place (h ∷ hs) → From (place + 1) hs
  from_next place h hs from k = let at : place + 1 + k ≡ place + suc k = omega arith in ap (slice_get whole) at ∙ from (suc k)

  from_first : (place : ℕ) (h : Handler) (hs : List Handler) → From place (h ∷ hs) → slice_get whole place ≡ Some h
  from_first place h hs from = let at : place ≡ place + 0 = omega arith in ap (slice_get whole) at ∙ from 0

  same_handler : (place : ℕ) (h : Handler) (hs : List Handler) → From place (h ∷ hs) → (n : NodeHandler) (i : IsHandlerAt p pool whole place n) → i.handler ≡ h
  same_handler place h hs from n i = same_Some i.handler h (sym i.stands ∙ from_first place h hs from)

  catch_of : (place : ℕ) (h : Handler) (hs : List Handler) → From place (h ∷ hs) → (n : NodeHandler) → IsHandlerAt p pool whole place n → IsCatch p pool h.catch_type n.catch
  catch_of place h hs from n i = subst (λ (g : Handler). IsCatch p pool g.catch_type n.catch) (same_handler place h hs from n i) i.catch

  -- the node's handler that takes the object where the code's does
  abbrev Found : Handler → List NodeHandler → Type 0
  Found h ns = (n : NodeHandler) × IsFirstTaking p class ns n × (n.target ≡ h.target)

  pub first_taking : (place : ℕ) (hs : List Handler) (ns : List NodeHandler) (h : Handler) → From place hs → AllZip (IsHandlerAt p pool whole) (covering_from place offset hs) ns → IsFirstHandler p pool offset class hs h → Found h ns
  first_taking place [] ns h from zip first = absurd first
  first_taking place (g ∷ hs) ns h from zip first = by (covers offset g) refl zip first (λ ms z f. first_taking (place + 1) hs ms h (from_next place g hs from) z f)
    where
      taken : (ns : List NodeHandler) → covers offset g ≡ true → AllZip (IsHandlerAt p pool whole) (place ∷ covering_from (place + 1) offset hs) ns → IsFirstHandler p pool offset class (g ∷ hs) h
          → ((ms : List NodeHandler) → AllZip (IsHandlerAt p pool whole) (covering_from (place + 1) offset hs) ms → IsFirstHandler p pool offset class hs h → Found h ms) → Found h ns
      taken [] e z f deeper = absurd z
      taken (n ∷ ms) e z (inl found) deeper =
          let target : n.target ≡ h.target = z.0.target ∙ ap (λ (k : Handler). k.target) (same_handler place g hs from n z.0 ∙ sym found.1) in
          (n, inl (takes_as p pool g.catch_type class n (catch_of place g hs from n z.0) found.0.takes, refl), target)
      taken (n ∷ ms) e z (inr later) deeper =
          let more = deeper ms z.1 later.1 in
          (more.0, inr (λ t. later.0 (record { covers = e; takes = taken_as p pool g.catch_type class n (catch_of place g hs from n z.0) t }), more.1), more.2)

      skipped : (ns : List NodeHandler) → covers offset g ≡ false → AllZip (IsHandlerAt p pool whole) (covering_from (place + 1) offset hs) ns → IsFirstHandler p pool offset class (g ∷ hs) h
          → ((ms : List NodeHandler) → AllZip (IsHandlerAt p pool whole) (covering_from (place + 1) offset hs) ms → IsFirstHandler p pool offset class hs h → Found h ms) → Found h ns
      skipped ns e z (inl found) deeper = absurd (cc (e, found.0.covers))
      skipped ns e z (inr later) deeper = deeper ns z later.1

      by : (b : Bool) → covers offset g ≡ b → AllZip (IsHandlerAt p pool whole) (cond (covers offset g) (place ∷ covering_from (place + 1) offset hs) (covering_from (place + 1) offset hs)) ns
          → IsFirstHandler p pool offset class (g ∷ hs) h
          → ((ms : List NodeHandler) → AllZip (IsHandlerAt p pool whole) (covering_from (place + 1) offset hs) ms → IsFirstHandler p pool offset class hs h → Found h ms) → Found h ns
      by true e z f deeper = taken ns e (subst (λ (b : Bool). AllZip (IsHandlerAt p pool whole) (cond b (place ∷ covering_from (place + 1) offset hs) (covering_from (place + 1) offset hs)) ns) e z) f deeper
      by false e z f deeper = skipped ns e (subst (λ (b : Bool). AllZip (IsHandlerAt p pool whole) (cond b (place ∷ covering_from (place + 1) offset hs) (covering_from (place + 1) offset hs)) ns) e z) f deeper

  -- where no handler of the code takes it, none of the node does
  pub none_taking : (place : ℕ) (hs : List Handler) (ns : List NodeHandler) → From place hs → AllZip (IsHandlerAt p pool whole) (covering_from place offset hs) ns
      → ((h : Handler) → Contains hs h → Handles p pool offset class h → ⊥) → (n : NodeHandler) → Contains ns n → Takes p n class → ⊥
  none_taking place [] [] from zip none n there t = none_there n there
  none_taking place [] (m ∷ ns) from zip none n there t = zip
  none_taking place (g ∷ hs) ns from zip none n there t = by (covers offset g) refl zip there (λ ms z c. none_taking (place + 1) hs ms (from_next place g hs from) z (λ h d. none h (more_there g h hs d)) n c t)
    where
      of_first : (m : NodeHandler) (ms : List NodeHandler) → covers offset g ≡ true → AllZip (IsHandlerAt p pool whole) (place ∷ covering_from (place + 1) offset hs) (m ∷ ms) → (m ≡ n) ⊎ Contains ms n
          → ((xs : List NodeHandler) → AllZip (IsHandlerAt p pool whole) (covering_from (place + 1) offset hs) xs → Contains xs n → ⊥) → ⊥
      of_first m ms e z (inl same) deeper =
          let takes = subst (λ (k : NodeHandler). Takes p k class) (sym same) t in
          none g (first_there g hs) (record { covers = e; takes = taken_as p pool g.catch_type class m (catch_of place g hs from m z.0) takes })
      of_first m ms e z (inr later) deeper = deeper ms z.1 later

      taken : (ms : List NodeHandler) → covers offset g ≡ true → AllZip (IsHandlerAt p pool whole) (place ∷ covering_from (place + 1) offset hs) ms → Contains ms n
          → ((xs : List NodeHandler) → AllZip (IsHandlerAt p pool whole) (covering_from (place + 1) offset hs) xs → Contains xs n → ⊥) → ⊥
      taken [] e z c deeper = none_there n c
      taken (m ∷ ms) e z c deeper = of_first m ms e z (where_there m n ms c) deeper

      by : (b : Bool) → covers offset g ≡ b → AllZip (IsHandlerAt p pool whole) (cond (covers offset g) (place ∷ covering_from (place + 1) offset hs) (covering_from (place + 1) offset hs)) ns → Contains ns n
          → ((xs : List NodeHandler) → AllZip (IsHandlerAt p pool whole) (covering_from (place + 1) offset hs) xs → Contains xs n → ⊥) → ⊥
      by true e z c deeper = taken ns e (subst (λ (b : Bool). AllZip (IsHandlerAt p pool whole) (cond b (place ∷ covering_from (place + 1) offset hs) (covering_from (place + 1) offset hs)) ns) e z) c deeper
      by false e z c deeper = deeper ns (subst (λ (b : Bool). AllZip (IsHandlerAt p pool whole) (cond b (place ∷ covering_from (place + 1) offset hs) (covering_from (place + 1) offset hs)) ns) e z) c

-- the target of a handler that takes it is among those that cover the offset
pub caught_there : (p : Program) (pool : List PoolEntry) (offset : ℕ) (class : List ℕ) (hs : List Handler) (h : Handler) → IsFirstHandler p pool offset class hs h → Contains (caught_at hs offset) h.target
caught_there p pool offset class [] h first = absurd first
caught_there p pool offset class (g ∷ hs) h first = by (covers offset g) refl first (caught_there p pool offset class hs h)
  where
    by : (b : Bool) → covers offset g ≡ b → IsFirstHandler p pool offset class (g ∷ hs) h → (IsFirstHandler p pool offset class hs h → Contains (caught_at hs offset) h.target)
        → Contains (map (λ (k : Handler). k.target) (cond (covers offset g) (g ∷ filter (covers offset) hs) (filter (covers offset) hs))) h.target
    by true e (inl found) deeper =
        subst (λ (b : Bool). Contains (map (λ (k : Handler). k.target) (cond b (g ∷ filter (covers offset) hs) (filter (covers offset) hs))) h.target) (sym e)
        (subst (Contains (g.target ∷ caught_at hs offset)) (ap (λ (k : Handler). k.target) (sym found.1)) (first_there g.target (caught_at hs offset)))
    by true e (inr later) deeper =
        subst (λ (b : Bool). Contains (map (λ (k : Handler). k.target) (cond b (g ∷ filter (covers offset) hs) (filter (covers offset) hs))) h.target) (sym e)
        (more_there g.target h.target (caught_at hs offset) (deeper later.1))
    by false e (inl found) deeper = absurd (cc (e, found.0.covers))
    by false e (inr later) deeper =
        subst (λ (b : Bool). Contains (map (λ (k : Handler). k.target) (cond b (g ∷ filter (covers offset) hs) (filter (covers offset) hs))) h.target) (sym e) (deeper later.1)
