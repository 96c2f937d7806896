use Rattle.std.proofs.Common.{◌≡◌, ℕ, Bool, not, List, map, find, Option, option_map, Bor, String, Global, string_bytes, rules, tests, sym, ap, ◌∙◌}
use Rattle.std.specs.List.{list_any}
use Rattle.std.specs.Map.{keys_of}
use Rattle.std.specs.Str.{bytes_eq}
use Rattle.std.proofs.lemmas.Iterator.Consumers.{YieldsList-from_rest}
use Rattle.std.proofs.lemmas.Iterator.Search.{find_from_yields_List}
use Rattle.toml_tables.proofs.Keys.{is_other, other_keys-none, other_keys-least}
use Rattle.toml_tables.proofs.Lists.{list_any-map}
use Rattle.toml_tables.proofs.table_access.other_key.Goals as goal

-- the test that the search makes of a key
abbrev tested : List (Bor (List ℕ)) → String Global → Bool
tested keys k = not (list_any (λ (key : Bor (List ℕ)). bytes_eq (string_bytes k) key.now) keys)

same_test : (keys : List (Bor (List ℕ))) → tested keys ≡ is_other (map (λ (key : Bor (List ℕ)). key.now) keys)
same_test keys = (λ i k. not (list_any-map (bytes_eq (string_bytes k)) (λ (key : Bor (List ℕ)). key.now) keys i))

-- what is found of the keys of a table
found_keys : (r : Option (Bor (String Global))) (keys : List (Bor (List ℕ))) (ks : List (String Global)) → option_map (λ (x : Bor (String Global)). x.now) r ≡ find (tested keys) ks
    → find (is_other (map (λ (key : Bor (List ℕ)). key.now) keys)) ks ≡ option_map (λ (x : Bor (String Global)). x.now) r
found_keys r keys ks e = ap (λ t. find t ks) (sym (same_test keys)) ∙ sym e

pub returns-in-Some : goal.returns-in-Some
returns-in-Some c =
    let keys = c.args.keys.now in
    let es = c.args.table.now.entries in
    let found = find_from_yields_List (tested keys) _ _ c.find.result c.find.ensures.ran (YieldsList-from_rest (keys_of es) c.keys.ensures.rest) (λ x b q k. search (rules, tests)) in
    let at_key = found_keys c.find.result keys (keys_of es) found ∙ ap (option_map (λ (x : Bor (String Global)). x.now)) c.in-Some.is in
    rw c.as_str.ensures.value (other_keys-least (map (λ (key : Bor (List ℕ)). key.now) keys) es c.in-Some.found.now c.keys.ensures.ordered at_key)

pub returns-in-None : goal.returns-in-None
returns-in-None c =
    let keys = c.args.keys.now in
    let es = c.args.table.now.entries in
    let found = find_from_yields_List (tested keys) _ _ c.find.result c.find.ensures.ran (YieldsList-from_rest (keys_of es) c.keys.ensures.rest) (λ x b q k. search (rules, tests)) in
    other_keys-none (map (λ (key : Bor (List ℕ)). key.now) keys) es
    (found_keys c.find.result keys (keys_of es) found ∙ ap (option_map (λ (x : Bor (String Global)). x.now)) c.in-None.is)
