-- Public contracts rest on this module.
-- What the analysis says of a program: which objects, by their allocation sites, each place may hold; which methods may run, and from
-- which calls; and which fields each method may write.
use Rattle.jvm_model.specs.declared.number.FieldNo.{FieldNo}
use Rattle.jvm_model.specs.declared.number.MethodNo.{MethodNo}
use Rattle.jvm_model.specs.declared.site.Site.{Site}
use Rattle.op_model.specs.declared.node.NodeRef.{NodeRef}
use Rattle.slot_names.specs.declared.variable.Variable.{Variable}

-- What may hold references: a variable; a field, or the elements, of the objects of a site; a static field; what the library keeps; what a
-- method returns, and what it throws.
pub data Holder : Type 0 where
  variable : Variable → Holder
  field_of : Site → FieldNo → Holder
  elements_of : Site → Holder
  static_field : FieldNo → Holder
  kept_objects : Holder
  returned_by : MethodNo → Holder
  thrown_by : MethodNo → Holder

pub data Fact : Type 0 where
  may_hold : Holder → Site → Fact
  may_run : MethodNo → Fact
  may_call : NodeRef → MethodNo → Fact
  may_write : MethodNo → FieldNo → Fact
