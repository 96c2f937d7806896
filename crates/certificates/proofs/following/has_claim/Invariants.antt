use Rattle.std.proofs.Common.{◌≡◌, ℕ, ◌<◌, Some}
use Rattle.std.specs.List.{slice_get}
use Rattle.certificate_lines.specs.declared.line.Line.{Line}
use Rattle.certificate_lines.specs.declared.line.Line.TheVariants.{Claim}
use Rattle.certificates.proofs.following.has_claim.Given as goal

-- no line so far is the claim
abbrev pub invariant-loop-line : goal.invariant-loop-line
invariant-loop-line l = record { none : (k : ℕ) (x : Line) → k < l.line-index → slice_get l.lines k ≡ Some x → x ≡ Claim l.stage l.site → ⊥ }
