-- The machine goes on where an object is thrown: to the first handler that takes it, out of the frame, or out of an initialiser.
use Rattle.std.proofs.Common.{◌≡◌, ◌⊎◌, inl, inr, ℕ, zero, suc, ◌<◌, Bool, true, false, ◌&&◌, List, [], ◌∷◌, ◌++◌, length, get_or, Option, Some, None, refl, sym, ◌∙◌, subst, arith}
use Rattle.std.specs.List.{Contains}
use Rattle.std.specs.Prelude.{nat_le, nat_lt, codes}
use Rattle.std.proofs.lemmas.Bool.{false≢true}
use Rattle.std.proofs.lemmas.Option.{same_Some, none-some}
use Rattle.jvm_model.specs.declared.code.Handler.{Handler}
use Rattle.jvm_model.specs.declared.pool.PoolEntry.{PoolEntry}
use Rattle.jvm_model.specs.Lookups.{class_name_at}
use Rattle.jvm_model.specs.Programs.{Program}
use Rattle.jvm_model.specs.Subtypes.{Fits}
use Rattle.machine_bytecode.specs.Machine.{Throwing, TakesClass, Handles, IsFirstHandler, IsUncaught, of_start, of_code, unwound, catches, unwinds, wraps}
use Rattle.machine_bytecode.specs.Objects.{Subject}
use Rattle.machine_bytecode.specs.States.{reference_to, Frame, State, runs_on, moved_to, with_kept}
use Rattle.machine_laws.specs.Progress.{GoesOn, HasLocals, CanCatch, WrapsThrown}
use Rattle.machine_laws.proofs.Heaps.{same_or_not}
use Rattle.machine_laws.proofs.ProgressDecided.{DecidesFits}
use Rattle.machine_laws.proofs.ProgressSteps.{thrown_by, throws_new}

-- ---- handlers

named_or_not : (p : Program) → DecidesFits p → (pool : List PoolEntry) (catch_type : ℕ) (class : List ℕ) → (catch_type ≡ 0 → ⊥) → (o : Option (List ℕ)) → class_name_at pool catch_type ≡ o
    → TakesClass p pool catch_type class ⊎ (TakesClass p pool catch_type class → ⊥)
named_or_not p decides pool catch_type class typed None none = inr missing where
  missing : TakesClass p pool catch_type class → ⊥
  missing (inl e) = typed e
  missing (inr (name, is, fits)) = none-some name (sym none ∙ is)
named_or_not p decides pool catch_type class typed (Some name) is = by (decides name class) where
  by : Fits p name class ⊎ (Fits p name class → ⊥) → TakesClass p pool catch_type class ⊎ (TakesClass p pool catch_type class → ⊥)
  by (inl fits) = inl (inr (name, is, fits))
  by (inr misfit) = inr missing where
    missing : TakesClass p pool catch_type class → ⊥
    missing (inl e) = typed e
    missing (inr (other, named, fits)) = misfit (subst (λ (n : List ℕ). Fits p n class) (same_Some other name (sym named ∙ is)) fits)

takes_or_not : (p : Program) → DecidesFits p → (pool : List PoolEntry) (catch_type : ℕ) (class : List ℕ) → TakesClass p pool catch_type class ⊎ (TakesClass p pool catch_type class → ⊥)
takes_or_not p decides pool catch_type class = by (same_or_not catch_type 0) where
  by : (catch_type ≡ 0) ⊎ (catch_type ≡ 0 → ⊥) → TakesClass p pool catch_type class ⊎ (TakesClass p pool catch_type class → ⊥)
  by (inl e) = inl (inl e)
  by (inr typed) = named_or_not p decides pool catch_type class typed (class_name_at pool catch_type) refl

handles_or_not : (p : Program) → DecidesFits p → (pool : List PoolEntry) (offset : ℕ) (class : List ℕ) (h : Handler) → Handles p pool offset class h ⊎ (Handles p pool offset class h → ⊥)
handles_or_not p decides pool offset class h = by (nat_le h.start offset && nat_lt offset h.finish) refl (takes_or_not p decides pool h.catch_type class) where
  by : (b : Bool) → (nat_le h.start offset && nat_lt offset h.finish) ≡ b → TakesClass p pool h.catch_type class ⊎ (TakesClass p pool h.catch_type class → ⊥)
      → Handles p pool offset class h ⊎ (Handles p pool offset class h → ⊥)
  by false is _ = inr (λ g. false≢true (sym is ∙ g.covers))
  by true is (inl takes) = inl (record { covers = is; takes = takes })
  by true is (inr none) = inr (λ g. none g.takes)

-- the first handler, or none
abbrev IsFound : Program → List PoolEntry → ℕ → List ℕ → List Handler → Type 0
IsFound p pool offset class handlers = (h : Handler) × IsFirstHandler p pool offset class handlers h

abbrev IsNone : Program → List PoolEntry → ℕ → List ℕ → List Handler → Type 0
IsNone p pool offset class handlers = (h : Handler) → Contains handlers h → Handles p pool offset class h → ⊥

none_here : (p : Program) (pool : List PoolEntry) (offset : ℕ) (class : List ℕ) (g : Handler) (handlers : List Handler) → (Handles p pool offset class g → ⊥)
    → IsNone p pool offset class handlers → IsNone p pool offset class (g ∷ handlers)
none_here p pool offset class g handlers not_it none h c = at_place c.0 c.1 c.2 where
  at_place : (k : ℕ) → k < length (g ∷ handlers) → get_or (g ∷ handlers) k h ≡ h → Handles p pool offset class h → ⊥
  at_place zero l e handles = not_it (subst (Handles p pool offset class) (sym e) handles)
  at_place (suc k) l e handles = none h (k, omega arith, e) handles

handler_or_none : (p : Program) → DecidesFits p → (pool : List PoolEntry) (offset : ℕ) (class : List ℕ) (handlers : List Handler)
    → IsFound p pool offset class handlers ⊎ IsNone p pool offset class handlers
handler_or_none p decides pool offset class [] = inr (λ h c handles. absurd (omega (arith, c.1)))
handler_or_none p decides pool offset class (g ∷ handlers) = by (handles_or_not p decides pool offset class g) (handler_or_none p decides pool offset class handlers) where
  by : Handles p pool offset class g ⊎ (Handles p pool offset class g → ⊥) → IsFound p pool offset class handlers ⊎ IsNone p pool offset class handlers
      → IsFound p pool offset class (g ∷ handlers) ⊎ IsNone p pool offset class (g ∷ handlers)
  by (inl handles) rest = inl (g, inl (handles, refl))
  by (inr not_it) (inl found) = inl (found.0, inr (not_it, found.1))
  by (inr not_it) (inr none) = inr (none_here p pool offset class g handlers not_it none)

-- ---- the steps

unwinds_it : (x : Subject) (s : State) (at : Throwing s) → IsUncaught x.program at.frame at.object.class → GoesOn x s
unwinds_it x s at uncaught = record { next = unwound at.below s.world at.place; step = unwinds at (record { uncaught = uncaught; after = refl }) }

in_code : (x : Subject) (s : State) (at : Throwing s) (l : HasLocals x at.frame)
    → IsFound x.program l.here.code.file.pool at.frame.offset at.object.class l.here.code.body.handlers ⊎ IsNone x.program l.here.code.file.pool at.frame.offset at.object.class l.here.code.body.handlers → GoesOn x s
in_code x s at l (inl found) = record {
  next = runs_on (moved_to at.frame found.0.target (l.locals ++ reference_to at.place ∷ []) ∷ at.below) s.world;
  step = catches at (record { here = l.here; handler = found.0; first = found.1; locals = l.locals; operands = l.operands; parts = l.parts; long = l.long; after = refl });
}
in_code x s at l (inr none) = unwinds_it x s at (of_code l.here none)

pub throwing_goes_on : (x : Subject) → DecidesFits x.program → (s : State) (at : Throwing s) → CanCatch x at.frame → GoesOn x s
throwing_goes_on x decides s at (inl start) = unwinds_it x s at (of_start start)
throwing_goes_on x decides s at (inr l) = in_code x s at l (handler_or_none x.program decides l.here.code.file.pool at.frame.offset at.object.class l.here.code.body.handlers)

pub initialisers_wrap : (x : Subject) (s : State) (at : Throwing s) (caller : Frame) (rest : List Frame) → IsUncaught x.program at.frame at.object.class → at.below ≡ caller ∷ rest
    → caller.waits ≡ false → WrapsThrown x s at caller rest
initialisers_wrap x s at caller rest uncaught below resumed = record {
  next = thrown_by x (with_kept s.world (at.place ∷ [])) caller rest (codes "java/lang/ExceptionInInitializerError");
  step = wraps at (record { uncaught = uncaught; caller = caller; rest = rest; below = below; triggered = resumed; throws = throws_new x _ caller rest _ });
  object = _;
  heap = refl;
  class = refl;
  throws = refl;
  frames = refl;
  kept = refl;
}
