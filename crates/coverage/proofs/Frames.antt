-- What covers frames still does in a heap that has grown.
use Rattle.std.proofs.Common.{◌≡◌, ℕ, false, List, [], ◌∷◌, Option, subst}
use Rattle.op_model.specs.Supplies.{GivenAs}
use Rattle.machine_bytecode.specs.Objects.{Subject}
use Rattle.machine_bytecode.specs.States.{Object, Frame, slot_at}
use Rattle.points_to_rules.specs.Facts.{variable, Fact}
use Rattle.coverage.specs.Covering.{MayHold, IsCoveredFrame, IsCoveredCaller, AreCoveredBelow, AreCoveredFrames}
use Rattle.coverage.proofs.Values.{Grows, covered_on}

module _ (x : Subject) (gives : GivenAs) (S : Fact → Type 0) where
  pub frame_on : (old new : List Object) (f : Frame) → Grows old new → IsCoveredFrame gives S old f → IsCoveredFrame gives S new f
  frame_on old new f grows c = record {
    runs = c.runs;
    slots = λ m l n z v stands inside named. covered_on (MayHold S (variable v)) old new (slot_at f.slots z) grows (c.slots m l n z v stands inside named);
  }

  pub below_on : (old new : List Object) (below : List Frame) (above : Option ℕ) → Grows old new → AreCoveredBelow x gives S old below above → AreCoveredBelow x gives S new below above
  below_on old new [] above grows c = tt
  below_on old new (f ∷ below) above grows c = (
    record {
      called = c.0.called;
      is_called = c.0.is_called;
      frame = frame_on old new f grows c.0.frame;
      stands = c.0.stands;
      for_call = c.0.for_call;
      for_initialiser = c.0.for_initialiser;
    },
    below_on old new below f.method grows c.1,
  )

  -- ---- the frames of a state

  pub frames_are : (heap : List Object) (frames below : List Frame) (f : Frame) → frames ≡ f ∷ below → AreCoveredFrames x gives S heap frames
      → IsCoveredFrame gives S heap f × (f.waits ≡ false) × AreCoveredBelow x gives S heap below f.method
  frames_are heap frames below f e c = subst (λ (fs : List Frame). AreCoveredFrames x gives S heap fs) e c

  pub caller_is : (heap : List Object) (below rest : List Frame) (caller : Frame) (above : Option ℕ) → below ≡ caller ∷ rest → AreCoveredBelow x gives S heap below above
      → IsCoveredCaller x gives S heap caller above × AreCoveredBelow x gives S heap rest caller.method
  caller_is heap below rest caller above e c = subst (λ (fs : List Frame). AreCoveredBelow x gives S heap fs above) e c
