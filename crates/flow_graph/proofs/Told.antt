-- What is answered on the code of a method.
use Rattle.std.proofs.Common.{◌≡◌, ℕ, List, [], ◌∷◌, Option, Some, None, ap, subst}
use Rattle.std.specs.List.{AllByRecursion}
use Rattle.std.proofs.lemmas.Option.{same_Some}
use Rattle.jvm_model.specs.declared.class_file.ClassFile.{ClassFile}
use Rattle.jvm_model.specs.declared.code.Code.{Code}
use Rattle.jvm_model.specs.declared.code.PlacedInstruction.{PlacedInstruction}
use Rattle.jvm_model.specs.declared.reason.Reason.{Reason}
use Rattle.jvm_model.specs.Soundness.{IsSoundClass}
use Rattle.flow_graph.specs.declared.mark.Mark.{Mark}
use Rattle.flow_graph.specs.Graphs.{reason_at, fault_or, first_fault, IsWalked}
use Rattle.flow_graph.specs.Graphing.{IsCodeOf}
use Rattle.flow_graph.specs.Reading.{IsWalkedIfSound}
use Rattle.flow_graph.proofs.Effects.{have_effects}
use Rattle.flow_graph.proofs.ReadParts.{sound_code}

fault_by : (P : ℕ → Type 0) (at : ℕ) (found : Option Reason) (others : Option (ℕ × Reason)) (offset : ℕ) (reason : Reason) → P at → (others ≡ Some (offset, reason) → P offset)
    → fault_or at found others ≡ Some (offset, reason) → P offset
fault_by P at (Some r) others offset reason here later h = subst P (ap (λ (x : ℕ × Reason). x.0) (same_Some _ _ h)) here
fault_by P at None others offset reason here later h = later h

-- what is said of each instruction holds of the one with the first fault
pub at_fault : (P : ℕ → Type 0) (instructions : List PlacedInstruction) (marks : List Mark) (offset : ℕ) (reason : Reason) → AllByRecursion (λ (p : PlacedInstruction). P p.offset) instructions
    → first_fault instructions marks ≡ Some (offset, reason) → P offset
at_fault P [] marks offset reason all e = absurd cc
at_fault P (p ∷ instructions) [] offset reason all e = absurd cc
at_fault P (p ∷ instructions) (m ∷ marks) offset reason all e =
    fault_by P p.offset (reason_at m) (first_fault instructions marks) offset reason all.0 (λ h. at_fault P instructions marks offset reason all.1 h) e

pub walked_of : (c : ClassFile) (code : Code) (marks : List Mark) → IsSoundClass c → IsCodeOf c code → IsWalkedIfSound c code marks → IsWalked c code marks
walked_of c code marks sound is w = record { effects = w.effects; known = have_effects c code.instructions w.effects (sound_code c code sound is) w.known; walk = w.walk }
