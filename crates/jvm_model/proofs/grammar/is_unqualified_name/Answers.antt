use Rattle.std.proofs.Common.{rules, tests, ◌≡◌, List, ℕ, Bool, [], ◌∷◌, length, false, ◌==◌}
use Rattle.std.specs.List.{list_all}
use Rattle.std.proofs.lemmas.Iterator.{YieldsList-from_slice}
use Rattle.std.proofs.lemmas.Iterator.Search.{all_from_yields_List}
use Rattle.jvm_model.specs.Names.{is_name_byte, is_unqualified_name}
use Rattle.jvm_model.proofs.grammar.is_unqualified_name.Goals as goal

-- a text that is not empty is an unqualified name exactly if all its bytes are name bytes
not_empty : (r : Bool) (name : List ℕ) → (length name == 0) ≡ false → r ≡ list_all is_name_byte name → r ≡ is_unqualified_name name
not_empty r [] e all = search rules
not_empty r (b ∷ bytes) e all = all

pub returns-then-not-is_empty : goal.returns-then-not-is_empty
returns-then-not-is_empty c =
    let all = all_from_yields_List is_name_byte _ _ c.all.result c.all.ensures.ran (YieldsList-from_slice c.args.name.now cc) (λ x b q k. search (rules, tests)) in
    not_empty c.all.result c.args.name.now (search rules) all
