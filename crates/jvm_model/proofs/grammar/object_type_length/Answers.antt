use Rattle.std.proofs.Common.{tests, rules, ◌≡◌, ℕ, suc, ◌-◌, List, ◌∷◌, length, take, drop, ap, sym, ◌∙◌, subst}
use Rattle.std.proofs.lemmas.Bool.{false≢true}
use Rattle.std.proofs.lemmas.Iterator.{YieldsList-from_slice}
use Rattle.std.proofs.lemmas.Iterator.Search.{position_from_yields_List}
use Rattle.std.proofs.lemmas.List.{take_rest}
use Rattle.jvm_model.specs.Descriptors.{IsObjectType}
use Rattle.jvm_model.specs.Names.{IsClassName}
use Rattle.jvm_model.proofs.Fields.{is_semicolon, found_some, found_none, none_found, object_found, object_name}
use Rattle.jvm_model.proofs.grammar.object_type_length.Goals as goal

pub returns-in_err-end : goal.returns-in_err-end
returns-in_err-end c =
    let found = position_from_yields_List is_semicolon _ _ c.position.result c.position.ensures.ran (YieldsList-from_slice c.args.text.now cc) (λ x b q k. search (rules, tests)) in
    none_found IsObjectType c.args.text.now c.from_residual.result c.from_residual.ensures
    (λ front rest is e.
    let at = object_found c.args.text.now front rest is e in
    found_none is_semicolon c.args.text.now (suc (length is.0)) c.position.result found c.in_err-end.was at.at at.inside)

-- Behind its first byte a list is the rest of it.
behind_first : (b : ℕ) (xs name : List ℕ) → xs ≡ b ∷ name → take (length xs - 1) (drop 1 xs) ≡ name
behind_first b xs name e = take_rest xs 1 ∙ ap (drop 1) e

pub returns-in_default-2 : goal.returns-in_default-2
returns-in_default-2 c = λ front rest is e.
    let text = c.args.text.now in
    let found = position_from_yields_List is_semicolon _ _ c.position.result c.position.ensures.ran (YieldsList-from_slice text cc) (λ x b q k. search (rules, tests)) in
    let at = found_some is_semicolon text c.in_ok-end.end c.position.result found c.in_ok-end.was in
    let name = behind_first 76 (take c.in_ok-end.end text) is.0 (object_name text front rest c.in_ok-end.end is e at.at) in
    false≢true (sym c.if-is_class_name.false ∙ c.is_class_name.ensures.1 (subst IsClassName (sym name) is.1))
