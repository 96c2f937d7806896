-- Public contracts rest on this module.
-- What is known of the slots at the start of the program.
use Rattle.std.specs.Prelude.{◌≡◌, ◌↔◌, ℕ, false, Contains, IsTrue}
use Rattle.jvm_model.specs.declared.number.FieldNo.{FieldNo}
use Rattle.jvm_model.specs.declared.number.MethodNo.{MethodNo}
use Rattle.jvm_model.specs.declared.site.Site.{Site}
use Rattle.op_model.specs.declared.lowered.LoweredMethod.{LoweredMethod}
use Rattle.op_model.specs.declared.node.Node.{Node}
use Rattle.slot_names.specs.declared.variable.Variable.TheVariants.{Parameter}
use Rattle.points_to_rules.specs.Facts.{Holder, may_write}
use Rattle.ground.specs.Findings.{Findings}
use Rattle.stage_transfer.specs.Settings.{Setting}

-- There are no slots, each has the same variable, none refers to an object of the site or of no other; and it is told what methods may write.
pub record IsKnownAtStart (g : Findings) (w : Setting) (l : LoweredMethod) (n : Node) : Type 0 where
  pub slots : l.slots ≡ 0
  pub stack : l.stack ≡ 0
  pub variables : (z : ℕ) → w.answers.variable_at l n z ≡ Parameter (record { 0 = 0 }) 0
  pub holds : (h : Holder) (s : Site) → w.answers.may_hold_site h s ≡ false
  pub alone : (h : Holder) (s : Site) → w.answers.holds_no_other h s ≡ false
  pub writes : (m : MethodNo) (f : FieldNo) → IsTrue (w.answers.may_write_field m f) ↔ Contains g.facts (may_write m f)
