-- What a transfer does at a node depends on the variables at that node alone.
use Rattle.std.proofs.Common.{◌≡◌, ℕ, Bool, List, Option, refl, sym, ap, ◌∙◌, map}
use Rattle.jvm_model.specs.declared.number.FieldNo.{FieldNo}
use Rattle.jvm_model.specs.declared.number.MethodNo.{MethodNo}
use Rattle.jvm_model.specs.declared.site.Site.{Site}
use Rattle.op_model.specs.declared.lowered.LoweredMethod.{LoweredMethod}
use Rattle.op_model.specs.declared.node.Node.{Node}
use Rattle.op_model.specs.declared.op.Call.{Call as NodeCall}
use Rattle.points_to_rules.specs.Facts.{Holder}
use Rattle.stage_facts.specs.Facts.{SiteFact, none_yet, some_yet, of_object}
use Rattle.stage_transfer.specs.Calls.{Entering, Result, entered_fact}
use Rattle.stage_transfer.specs.Settings.{Answers, Setting}
use Rattle.stage_transfer.specs.Stages.{Transfer, finished, transfer_of}

-- The setting with the variables of one node at each node.
abbrev pub here : Setting → LoweredMethod → Node → Setting
here w l n = record {
  property = w.property;
  site = w.site;
  stage = w.stage;
  depth = w.depth;
  answers = record {
    variable_at = λ k m z. w.answers.variable_at l n z;
    may_hold_site = w.answers.may_hold_site;
    holds_no_other = w.answers.holds_no_other;
    may_write_field = w.answers.may_write_field;
  };
}

module _ (w : Setting) (l : LoweredMethod) (n : Node) where
  pub next_here : (f : SiteFact) → (transfer_of w).next l n f ≡ (transfer_of (here w l n)).next l n f
  next_here f = refl

  pub raise_here : (handler : Option ℕ) (f : SiteFact) → (transfer_of w).raise l n handler f ≡ (transfer_of (here w l n)).raise l n handler f
  raise_here handler f = refl

  pub event_here : (c : NodeCall) (f : SiteFact) → (transfer_of w).event l n c f ≡ (transfer_of (here w l n)).event l n c f
  event_here c f = refl

  pub answer_here : (c : NodeCall) (kept : List ℕ) (r : Result) (f : SiteFact) → (transfer_of w).answer l n c kept r f ≡ (transfer_of (here w l n)).answer l n c kept r f
  answer_here c kept r f = refl

  pub exception_here : (kept : List ℕ) (handler : Option ℕ) (f : SiteFact) → (transfer_of w).exception l n kept handler f ≡ (transfer_of (here w l n)).exception l n kept handler f
  exception_here kept handler f = refl

  pub leave_here : (by : Entering) (target : MethodNo) (caller exit : SiteFact)
      → (transfer_of w).leave l n by target caller exit ≡ (transfer_of (here w l n)).leave l n by target caller exit
  leave_here by target caller exit = refl

-- ---- two settings with the same answers at a node

module _ (w v : Setting) (property : w.property ≡ v.property) (site : w.site ≡ v.site) (stage : w.stage ≡ v.stage) (depth : w.depth ≡ v.depth) where
  pub enter_same : (by : Entering) (f : SiteFact) → (transfer_of w).enter by f ≡ (transfer_of v).enter by f
  enter_same by f = same (entered_fact by f)
    where
      same : (g : SiteFact) → finished w g ≡ finished v g
      same none_yet = refl
      same some_yet = refl
      same (of_object t) = ap (λ (k : ℕ). finished (record w { stage = k }) (of_object t)) stage

  module _ (l : LoweredMethod) (n : Node) (variables : (z : ℕ) → w.answers.variable_at l n z ≡ v.answers.variable_at l n z)
      (holds : (h : Holder) (s : Site) → w.answers.may_hold_site h s ≡ v.answers.may_hold_site h s)
      (alone : (h : Holder) (s : Site) → w.answers.holds_no_other h s ≡ v.answers.holds_no_other h s)
      (writes : (m : MethodNo) (f : FieldNo) → w.answers.may_write_field m f ≡ v.answers.may_write_field m f) where
    same_here : here w l n ≡ here v l n
    same_here = λ i. record {
      property = property i;
      site = site i;
      stage = stage i;
      depth = depth i;
      answers = record {
        variable_at = λ k m z. variables z i;
        may_hold_site = λ h s. holds h s i;
        holds_no_other = λ h s. alone h s i;
        may_write_field = λ m f. writes m f i;
      };
    }

    pub next_same : (f : SiteFact) → (transfer_of w).next l n f ≡ (transfer_of v).next l n f
    next_same f = next_here w l n f ∙ ap (λ (u : Setting). (transfer_of u).next l n f) same_here ∙ sym (next_here v l n f)

    pub raise_same : (handler : Option ℕ) (f : SiteFact) → (transfer_of w).raise l n handler f ≡ (transfer_of v).raise l n handler f
    raise_same handler f = raise_here w l n handler f ∙ ap (λ (u : Setting). (transfer_of u).raise l n handler f) same_here ∙ sym (raise_here v l n handler f)

    pub event_same : (c : NodeCall) (f : SiteFact) → (transfer_of w).event l n c f ≡ (transfer_of v).event l n c f
    event_same c f = event_here w l n c f ∙ ap (λ (u : Setting). (transfer_of u).event l n c f) same_here ∙ sym (event_here v l n c f)

    pub answer_same : (c : NodeCall) (kept : List ℕ) (r : Result) (f : SiteFact) → (transfer_of w).answer l n c kept r f ≡ (transfer_of v).answer l n c kept r f
    answer_same c kept r f =
        answer_here w l n c kept r f ∙ ap (λ (u : Setting). (transfer_of u).answer l n c kept r f) same_here ∙ sym (answer_here v l n c kept r f)

    pub exception_same : (kept : List ℕ) (handler : Option ℕ) (f : SiteFact) → (transfer_of w).exception l n kept handler f ≡ (transfer_of v).exception l n kept handler f
    exception_same kept handler f =
        exception_here w l n kept handler f ∙ ap (λ (u : Setting). (transfer_of u).exception l n kept handler f) same_here ∙ sym (exception_here v l n kept handler f)

    pub leave_same : (by : Entering) (target : MethodNo) (caller exit : SiteFact)
        → (transfer_of w).leave l n by target caller exit ≡ (transfer_of v).leave l n by target caller exit
    leave_same by target caller exit =
        leave_here w l n by target caller exit ∙ ap (λ (u : Setting). (transfer_of u).leave l n by target caller exit) same_here
        ∙ sym (leave_here v l n by target caller exit)
