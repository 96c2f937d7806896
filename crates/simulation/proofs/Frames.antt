-- The frames of a state, each of a method that has nodes.
use Rattle.std.proofs.Common.{◌≡◌, ◌⊎◌, inl, inr, List, [], ◌∷◌, sym, subst}
use Rattle.std.specs.List.{Contains}
use Rattle.op_model.specs.Supplies.{Given}
use Rattle.machine_bytecode.specs.States.{Frame, State}
use Rattle.program_laws.proofs.Orders.{first_there, more_there, none_there, where_there}
use Rattle.simulation.specs.Simulation.{AreLowered, HasNodes}

abbrev pub Each : Given → List Frame → Type 0
Each given frames = (f : Frame) → Contains frames f → HasNodes given f

pub none : (given : Given) → Each given []
none given f there = absurd (none_there f there)

pub newest : (given : Given) (f : Frame) (below : List Frame) → Each given (f ∷ below) → HasNodes given f
newest given f below each = each f (first_there f below)

pub rest : (given : Given) (f : Frame) (below : List Frame) → Each given (f ∷ below) → Each given below
rest given f below each g there = each g (more_there f g below there)

pub with_newest : (given : Given) (f : Frame) (below : List Frame) → HasNodes given f → Each given below → Each given (f ∷ below)
with_newest given f below has each g there = by (where_there f g below there)
  where
    by : (f ≡ g) ⊎ Contains below g → HasNodes given g
    by (inl e) = subst (λ (h : Frame). HasNodes given h) e has
    by (inr later) = each g later

pub frames_of : (given : Given) (s : State) (frames : List Frame) → s.frames ≡ frames → AreLowered given s → Each given frames
frames_of given s frames are low = subst (λ (fs : List Frame). Each given fs) are low.each

-- a state that is known
pub lowered_as : (given : Given) (t u : State) → t ≡ u → Each given u.frames → AreLowered given t
lowered_as given t u e each = subst (λ (v : State). AreLowered given v) (sym e) (record { each = each })
