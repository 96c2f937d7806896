use Rattle.std.proofs.Common.{Ok, sym, ◌∙◌}
use Rattle.std.proofs.lemmas.Bool.{false≢true}
use Rattle.lowering_reasons.proofs.Only.{refuted}
use Rattle.lowering_reasons.proofs.targets.wants_target.Goals as goal

pub returns-then-lookups : goal.returns-then-lookups
returns-then-lookups c = refuted (λ wants. wants.matched (c.requires.mismatched.0 c.if-lookups.true))

pub returns-then-is_special_call : goal.returns-then-is_special_call
returns-then-is_special_call c = (
  λ passed.
      let resolved = c.is_resolved.ensures.0 passed in
      record {
        special = c.is_special_call.ensures.0 c.if-is_special_call.true;
        number = resolved.0;
        looked = c.requires.method.holds (Ok resolved.0) resolved.1;
        matched = λ mismatched. false≢true (sym c.if-lookups.false ∙ c.requires.mismatched.1 mismatched);
      },
  λ wants. c.is_resolved.ensures.1 (wants.number, c.requires.method.only (Ok wants.number) wants.looked),
)
