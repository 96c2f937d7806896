-- From what was handed to the sink to what the run says of it.
use Rattle.std.proofs.Common.{◌≡◌, ℕ, List, [], Option, Some, None, IfSome, subst}
use Rattle.ts_outside.specs.Files.{File}
use Rattle.ts_outside.specs.Handed.{Handed}
use Rattle.run_spec.specs.declared.status.Status.{Status}
use Rattle.run_spec.specs.declared.status.Status.TheVariants.{AllSafe, SomeUnproved, Refused, RejectedCertificate, ReadFault, WriteFault, Usage, Memory}
use Rattle.run_spec.specs.Outcomes.{Outcome}
use Rattle.typestate_core.specs.declared.answer.Answer.{Answer}
use Rattle.typestate_core.specs.Answers.{IsReported, HandsRun, lines_of}
use Rattle.typestate_core.specs.Output.{Hands, HandsInVain, lines_in}

by_status : (words : List (List ℕ)) (files : List File) (lines : List (List ℕ)) (old new : Option (List Handed)) (s : Status)
    → IsReported s → Hands old new lines [] → Outcome words files s lines → HandsRun words files s old new
by_status words files lines old new AllSafe r hands outcome = (lines, outcome, hands)
by_status words files lines old new SomeUnproved r hands outcome = (lines, outcome, hands)
by_status words files lines old new Refused r hands outcome = (lines, outcome, hands)
by_status words files lines old new Usage r hands outcome = (lines, outcome, hands)
by_status words files lines old new RejectedCertificate r hands outcome = absurd r
by_status words files lines old new ReadFault r hands outcome = absurd r
by_status words files lines old new WriteFault r hands outcome = absurd r
by_status words files lines old new Memory r hands outcome = absurd r

-- The lines were handed out to their end.
pub handed_told : (o : Option (List File)) (words : List (List ℕ)) (answer : Answer) (text : List ℕ) (old new : Option (List Handed))
    → text ≡ answer.text.items → IsReported answer.status → IfSome o (λ files. Outcome words files answer.status (lines_of answer))
    → Hands old new (lines_in text) [] → IfSome o (λ files. HandsRun words files answer.status old new)
handed_told None words answer text old new is reported told hands = tt
handed_told (Some files) words answer text old new is reported told hands =
    by_status words files (lines_of answer) old new answer.status reported (subst (λ (t : List ℕ). Hands old new (lines_in t) []) is hands) told

-- The lines were handed out up to a call that failed.
pub vain_told : (o : Option (List File)) (words : List (List ℕ)) (answer : Answer) (text : List ℕ) (old new : Option (List Handed))
    → text ≡ answer.text.items → IfSome o (λ files. Outcome words files answer.status (lines_of answer)) → HandsInVain old new (lines_in text)
    → IfSome o (λ files. HandsRun words files WriteFault old new)
vain_told None words answer text old new is told hands = tt
vain_told (Some files) words answer text old new is told hands =
    (answer.status, lines_of answer, told, subst (λ (t : List ℕ). HandsInVain old new (lines_in t)) is hands)
