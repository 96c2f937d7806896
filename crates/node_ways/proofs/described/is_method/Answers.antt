use Rattle.std.proofs.Common.{refl, subst}
use Rattle.std.proofs.lemmas.Bool.{false≢true}
use Rattle.jvm_model.specs.DescriptorValues.{IsDescriptorOf}
use Rattle.jvm_model.proofs.MethodKinds.{method_in_grammar}
use Rattle.node_ways.proofs.Describing.{not_of_field}
use Rattle.node_ways.proofs.described.is_method.Goals as goal

pub returns-in-Method : goal.returns-in-Method
returns-in-Method c = λ text is. (λ yes. method_in_grammar text c.in-Method.parameters c.in-Method.outcome (subst (IsDescriptorOf text) c.in-Method.is is), λ d. refl)

pub returns-in-Field : goal.returns-in-Field
returns-in-Field c = λ text is. (λ yes. absurd (false≢true yes), λ d. absurd (not_of_field text c.in-Field.field-0 (subst (IsDescriptorOf text) c.in-Field.is is) d))
