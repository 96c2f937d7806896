-- What stays of each object where a described method is called, and which world a state has.
use Rattle.std.proofs.Common.{◌≡◌, ℕ, List, [], ◌∷◌, refl, ap}
use Rattle.jvm_model.specs.declared.stub.StubResult.{StubResult}
use Rattle.jvm_model.specs.declared.stub.StubResult.TheVariants.{Primitive, Void, Null, Given, New, Kept}
use Rattle.machine_bytecode.specs.Described.{DescribedMethod, Gives, GivesResult, ThrowsListed, kept_by}
use Rattle.machine_bytecode.specs.Machine.{unwound}
use Rattle.machine_bytecode.specs.Objects.{Subject}
use Rattle.machine_bytecode.specs.States.{Value, Frame, World, State}
use Rattle.machine_laws.proofs.Heaps.{Keeps, keeps_same, keeps_on, keeps_made, keeps_kept}

keeps_gives : (x : Subject) (number : ℕ) (d : DescribedMethod x number) (caller : Frame) (units : List Value) (r : StubResult) (before : World) (v : Value) (after : World)
    → Gives x number d caller units r before v after → Keeps before after
keeps_gives x number d caller units Primitive before v after g = keeps_same before after g.1
keeps_gives x number d caller units Void before v after g = keeps_same before after g.1
keeps_gives x number d caller units Null before v after g = keeps_same before after g.1
keeps_gives x number d caller units (Given argument) before v after g = keeps_same before after g.1
keeps_gives x number d caller units (New class) before v after g = keeps_made x _ before v after g
keeps_gives x number d caller units Kept before v after g = keeps_same before after g.1

pub keeps_result : (x : Subject) (number : ℕ) (caller : Frame) (units : List Value) (before : World) (v : Value) (after : World) → GivesResult x number caller units before v after → Keeps before after
keeps_result x number caller units before v after g =
    keeps_on before _ after (keeps_kept before _) (keeps_gives x number g.called caller units g.result (kept_by x number g.called units before) v after g.gives)

pub keeps_listed : (x : Subject) (number : ℕ) (caller : Frame) (units : List Value) (before : World) (thrown : ℕ) (after : World) → ThrowsListed x number caller units before thrown after → Keeps before after
keeps_listed x number caller units before thrown after h =
    keeps_on before _ after (keeps_kept before _) (keeps_made x _ (kept_by x number h.called units before) _ after h.makes)

-- ---- the world of a state

pub unwound_world : (below : List Frame) (w : World) (place : ℕ) → (unwound below w place).world ≡ w
unwound_world [] w place = refl
unwound_world (f ∷ below) w place = refl

pub world_of : (s t : State) → s ≡ t → s.world ≡ t.world
world_of s t e = ap (λ (u : State). u.world) e
