use Rattle.std.proofs.Common.{rules, lit<, tests}
use Rattle.std.proofs.lemmas.Iterator.Search.{all_from_yields_List}
use Rattle.std.proofs.lemmas.Iterator.Splits.{YieldsList-from_str_split}
use Rattle.ts_outside.specs.Names.{is_entry_name, slash}
use Rattle.ts_outside.proofs.real_tree.is_walked_name.Goals as goal

pub returns : goal.returns
returns c =
    let parts = YieldsList-from_str_split slash c.args.name.now (lit< tt) c.split.ensures.text c.split.ensures.has_more c.split.ensures.pattern in
    all_from_yields_List is_entry_name _ _ _ c.all.ensures.ran parts (λ x b q k. search (rules, tests))
