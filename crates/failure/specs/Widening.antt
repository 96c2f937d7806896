-- Public contracts rest on this module.
-- What a failure is to the layer above.
use Rattle.failure.specs.declared.Failure.{Failure}
use Rattle.failure.specs.declared.Failure.TheVariants.{Cause, OutOfMemory}

-- A cause is a cause that the relation gives for it; out of memory stays out of memory.
abbrev pub IsWidened : {A B : Type 0} → (A → B → Type 0) → Failure A → Failure B → Type 0
IsWidened gives (Cause a) (Cause b) = gives a b
IsWidened gives (Cause _) OutOfMemory = ⊥
IsWidened gives OutOfMemory (Cause _) = ⊥
IsWidened gives OutOfMemory OutOfMemory = Unit {0}
