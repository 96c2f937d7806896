use Rattle.std.proofs.Common.{◌≡◌, find, drop}
use Rattle.jvm_model.specs.Linking.{describes}
use Rattle.program_model.proofs.method_body.description_of.Given as goal

-- the first one is among those that are left
abbrev pub invariant-loop-description : goal.invariant-loop-description
invariant-loop-description l = find (λ d. describes l.pool d l.member) (drop l.description-index l.natives) ≡ find (λ d. describes l.pool d l.member) l.natives
