-- The transfer of the definitions meets the laws of a stage: one lemma for each law, joined.
use Rattle.std.proofs.Common.{◌≡◌, true, false, Option, Some, None, ◌∙◌, ap, subst}
use Rattle.jvm_model.specs.declared.automaton.Automaton.{Automaton}
use Rattle.jvm_model.specs.declared.automaton.Event.{Event}
use Rattle.op_model.specs.declared.op.Call.{Call as NodeCall}
use Rattle.machine_bytecode.specs.Objects.{Subject}
use Rattle.points_to_rules.specs.Facts.{Fact}
use Rattle.stage_facts.specs.Facts.{none_yet, some_yet}
use Rattle.stage_transfer.specs.Calls.{a_new_object, event_of_call}
use Rattle.stage_transfer.specs.Settings.{AreAnswersOf, Setting}
use Rattle.stage_transfer.specs.Stages.{transfer_of}
use Rattle.stage_relations.specs.Laws.{IsStage, Meets}
use Rattle.stage_relations.specs.Relations.{IsBorn}
use Rattle.stage_transfer_laws.proofs.Described.{answer_first, answer_further, answer_idle, answer_meets, answer_some}
use Rattle.stage_transfer_laws.proofs.Entering.{enter_idle, enter_is}
use Rattle.stage_transfer_laws.proofs.Events.{event_idle, event_its, event_none, event_other}
use Rattle.stage_transfer_laws.proofs.Leaving.{leave_idle, leave_is}
use Rattle.stage_transfer_laws.proofs.Next.{next_first, next_further, next_idle, next_meets, next_some}
use Rattle.stage_transfer_laws.proofs.Thrown.{exception_idle, exception_meets, raise_idle, raise_meets, receive_meets, return_meets}

-- The event by the subject's property is that by the setting's.
own_event : (x : Subject) (w : Setting) → w.property ≡ x.property → (c : NodeCall) (e : Option Event) → event_of_call x.property c ≡ e
    → event_of_call w.property c ≡ e
own_event x w same c e is = ap (λ (a : Automaton). event_of_call a c) same ∙ is

pub lawful : (x : Subject) (S : Fact → Type 0) (w : Setting) → w.property ≡ x.property → AreAnswersOf S w.answers → IsStage x S w.site (transfer_of w)
lawful x S w same answers =
    let knows = answers.variables in
    record {
      next = λ l n u has plain. next_meets w knows l n has n.op u plain;
      next_idle = λ l n f idle no_throw no_new. next_idle w l n n.op f idle no_throw no_new;
      next_some = λ l n f target idle is. next_some w l n n.op f target idle is;
      next_first = λ l n target is.
          subst (λ (a : Automaton). Meets (IsBorn (Some target) true a.initial) ((transfer_of w).next l n none_yet)) same (next_first w l n n.op target is);
      next_further = λ l n target is.
          subst (λ (a : Automaton). Meets (IsBorn (Some target) false a.initial) ((transfer_of w).next l n some_yet)) same (next_further w l n n.op target is);
      return = λ l n value u is. return_meets w l n n.op value u is;
      receive = λ l n c u has is. receive_meets w knows l n has n.op c u is;
      raise = λ l n handler u has. raise_meets w knows l n has handler u;
      raise_idle = λ l n handler f idle. raise_idle w l n handler f idle;
      event_idle = λ l n c f idle. event_idle w l n c f idle;
      event_none = λ l n c u none. event_none w l n c u (own_event x w same c None none);
      event_its = λ l n c e z u reached stands is receiver holds apart clear.
          event_its S w answers l n reached stands e z u c (own_event x w same c (Some e) is) receiver holds apart clear;
      event_other = λ l n c e z u reached stands is receiver apart several.
          event_other S w answers l n reached stands e z u c (own_event x w same c (Some e) is) receiver apart several;
      answer = λ l n c kept result u has. answer_meets w knows l n has c kept result u;
      answer_idle = λ l n c kept result f idle other. answer_idle w l n c kept result f idle other;
      answer_some = λ l n c kept f idle. answer_some w l n c kept f idle;
      answer_first = λ l n c kept.
          subst (λ (a : Automaton). Meets (IsBorn c.result true a.initial) ((transfer_of w).answer l n c kept (a_new_object w.site) none_yet)) same
          (answer_first w l n c kept);
      answer_further = λ l n c kept.
          subst (λ (a : Automaton). Meets (IsBorn c.result false a.initial) ((transfer_of w).answer l n c kept (a_new_object w.site) some_yet)) same
          (answer_further w l n c kept);
      exception = λ l n c kept handler u has is. exception_meets w knows l n has c kept handler u is;
      exception_idle = λ l n kept handler f idle. exception_idle w l n kept handler f idle;
      enter = λ by u. enter_is w by u;
      enter_idle = λ by f idle. enter_idle w by f idle;
      leave = λ l n by target sent out. leave_is S w answers l n by target sent out;
      leave_idle = λ l n by target sent f idle. leave_idle w l n by target sent f idle;
    }
