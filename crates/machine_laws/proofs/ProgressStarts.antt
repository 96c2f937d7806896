-- The machine goes on at the frame of the start, and where an initialiser may be started.
use Rattle.std.proofs.Common.{◌⊎◌, inl, inr, ℕ, List, [], ◌∷◌, refl}
use Rattle.std.specs.List.{Contains}
use Rattle.std.specs.Prelude.{codes}
use Rattle.machine_bytecode.specs.Machine.{MethodCode, AtStart, IsTriggered, IsInitialiser, entered, enters_entry, ends, starts, denies}
use Rattle.machine_bytecode.specs.Objects.{Subject}
use Rattle.machine_bytecode.specs.Start.{arguments_of}
use Rattle.machine_bytecode.specs.States.{Frame, State, runs_on, ends_with, waiting, with_started}
use Rattle.machine_laws.specs.Progress.{GoesOn}
use Rattle.machine_laws.proofs.ProgressDecided.{contains_or_not}
use Rattle.machine_laws.proofs.ProgressSteps.{thrown_by, throws_new}

pub enters_it : (x : Subject) (s : State) → AtStart s 0 → MethodCode x.program x.entry → GoesOn x s
enters_it x s at code = record {
  next = runs_on (entered x.entry code.body (arguments_of x.program code.method) ∷ waiting at.frame at.frame.slots ∷ at.below) s.world;
  step = enters_entry at (record { code = code; enters = record { code = code; after = refl } });
}

pub ends_it : (x : Subject) (s : State) → AtStart s 1 → GoesOn x s
ends_it x s at = record { next = ends_with s.world; step = ends at (record { after = refl }) }

pub triggers_go_on : (x : Subject) (s : State) (f : Frame) (below : List Frame) (class : List ℕ) (number : ℕ) → IsTriggered x s f below class → IsInitialiser x.program class number → GoesOn x s
triggers_go_on x s f below class number triggered initialiser = by (contains_or_not s.world.started number) where
  by : Contains s.world.started number ⊎ (Contains s.world.started number → ⊥) → GoesOn x s
  by (inl started) = record {
    next = thrown_by x s.world f below (codes "java/lang/NoClassDefFoundError");
    step = denies (record { frame = f; below = below; class = class; triggered = triggered; number = number; initialiser = initialiser; started = started; throws = throws_new x s.world f below _ });
  }
  by (inr fresh) = record {
    next = runs_on (entered number initialiser.code.body [] ∷ f ∷ below) (with_started s.world number);
    step = starts (record { frame = f; below = below; class = class; triggered = triggered; number = number; initialiser = initialiser; fresh = fresh; after = refl });
  }
