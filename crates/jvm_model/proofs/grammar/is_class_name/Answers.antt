use Rattle.std.proofs.Common.{rules, tests, ◌==◌, ◌∙◌, sym}
use Rattle.jvm_model.specs.Names.{is_unqualified_name}
use Rattle.jvm_model.proofs.ClassNames.{class_name_from_parts, parts_of_class_name}
use Rattle.std.proofs.lemmas.Iterator.Splits.{YieldsList-from_slice_split}
use Rattle.std.proofs.lemmas.Iterator.Search.{all_from_yields_List}
use Rattle.jvm_model.proofs.grammar.is_class_name.Goals as goal

pub returns : goal.returns
returns c =
    let all = all_from_yields_List is_unqualified_name _ _ c.all.result c.all.ensures.ran (YieldsList-from_slice_split _ (λ b. b == 47) c.args.name.now c.split.ensures.rest c.split.ensures.done c.split.ensures.closure (λ x b q k. search (rules, tests))) (λ x b q k. search (rules, tests)) in
    (λ e. class_name_from_parts c.args.name.now (sym all ∙ e), λ is. all ∙ parts_of_class_name c.args.name.now is)
