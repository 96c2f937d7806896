use Rattle.std.proofs.Common.{Bor, List, ℕ, sym, ◌∙◌}
use Rattle.std.specs.Prelude.{option_map}
use Rattle.lowering_reasons.proofs.ArrayElements.{elements}
use Rattle.lowering_reasons.proofs.absent.element_class.Goals as goal

pub returns : goal.returns
returns c =
    elements c.args.name.now c.behind_brackets.result.now (option_map (λ (x : Bor (List ℕ)). x.now) c.described_class.result)
    (sym c.is_array.ensures ∙ c.if-not-is_array.false) c.behind_brackets.ensures c.described_class.ensures
