use Rattle.std.proofs.Common.{rules, tests, ◌≡◌, ◌||◌, codes, Bool, ℕ, List, true, false}
use Rattle.std.specs.List.{list_all}
use Rattle.std.specs.Str.{bytes_eq}
use Rattle.std.proofs.lemmas.Iterator.{YieldsList-from_slice}
use Rattle.std.proofs.lemmas.Iterator.Search.{all_from_yields_List}
use Rattle.jvm_model.specs.Names.{is_plain_byte, is_unqualified_name, is_method_name}
use Rattle.jvm_model.proofs.grammar.is_method_name.Goals as goal

-- An unqualified name that is no special name is the name of a method exactly if all its bytes are plain bytes.
not_special : (r : Bool) (name : List ℕ) → (bytes_eq name (codes "<init>") || bytes_eq name (codes "<clinit>")) ≡ false → is_unqualified_name name ≡ true → r ≡ list_all is_plain_byte name → r ≡ is_method_name name
not_special r name special unqualified all = rw (special, unqualified) all

pub returns-then-is_unqualified_name : goal.returns-then-is_unqualified_name
returns-then-is_unqualified_name c =
    let all = all_from_yields_List is_plain_byte _ _ c.all.result c.all.ensures.ran (YieldsList-from_slice c.args.name.now cc) (λ x b q k. search (rules, tests)) in
    not_special c.all.result c.args.name.now (search rules) (search rules) all
