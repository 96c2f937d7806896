use Rattle.std.proofs.Common.{◌≡◌, ℕ, Bool, List, [], ◌++◌, map, sym, ◌∙◌, ap, subst}
use Rattle.std.proofs.lemmas.Result.{err_from_is_err_and}
use Rattle.jvm_model.specs.Linking.{own_classes}
use Rattle.program_index.specs.Limits.{AreTooMany}
use Rattle.program_linking.specs.Claims.{AreNewNames, file_name, file_kind, stub_name, stub_kind}
use Rattle.program_linking.specs.TooLarge.{TellsTooMany}
use Rattle.program_linking.proofs.NewNames.{new_front, new_back, knows_all, pairs_long}
use Rattle.program_linking.proofs.LargeInputs.{error_more, many_more}
use Rattle.program_linking.proofs.known.known_classes.Goals as goal

pub add_files-requires : goal.add_files-requires
add_files-requires c =
    let xs = map file_name c.args.files.now in
    let ys = map stub_name (own_classes c.args.stubs.now) in
    subst (λ (names : List (List ℕ)). AreNewNames names xs) (sym c.new-names.ensures) (new_front [] xs ys c.requires)

pub add_stubs-requires : goal.add_stubs-requires
add_stubs-requires c =
    let xs = map file_name c.args.files.now in
    let ys = map stub_name (own_classes c.args.stubs.now) in
    let names : c.add_files.new.names ≡ xs = c.in_ok-add_files.ensures.names ∙ ap (λ (names : List (List ℕ)). names ++ xs) c.new-names.ensures in
    subst (λ (names : List (List ℕ)). AreNewNames names ys) (sym names) (new_back [] xs ys c.requires)

pub invariant_of-result : goal.invariant_of-result
invariant_of-result c =
    let xs = map file_name c.args.files.now in
    let ys = map stub_name (own_classes c.args.stubs.now) in
    let fs = map file_kind c.args.files.now in
    let ks = map stub_kind (own_classes c.args.stubs.now) in
    let first = c.in_ok-add_files.ensures in
    let last = c.in_ok-add_stubs.ensures in
    let names : c.add_stubs.new.names ≡ xs ++ ys =
    last.names ∙ ap (λ (ns : List (List ℕ)). ns ++ ys) (first.names ∙ ap (λ (ns : List (List ℕ)). ns ++ xs) c.new-names.ensures) in
    let kinds : c.add_stubs.new.interfaces.items ≡ fs ++ ks =
    last.kinds ∙ ap (λ (bs : List Bool). bs ++ ks) (first.kinds ∙ ap (λ (bs : List Bool). bs ++ fs) c.new-interfaces.ensures.items) in
    pairs_long c.args.files.now c.args.stubs.now c.add_stubs.new.names c.add_stubs.new.interfaces.items names kinds

pub returns-clause-known : goal.returns-clause-known
returns-clause-known c =
    let xs = map file_name c.args.files.now in
    let ys = map stub_name (own_classes c.args.stubs.now) in
    let fs = map file_kind c.args.files.now in
    let ks = map stub_kind (own_classes c.args.stubs.now) in
    let first = c.in_ok-add_files.ensures in
    let last = c.in_ok-add_stubs.ensures in
    let names : c.add_stubs.new.names ≡ xs ++ ys =
    last.names ∙ ap (λ (ns : List (List ℕ)). ns ++ ys) (first.names ∙ ap (λ (ns : List (List ℕ)). ns ++ xs) c.new-names.ensures) in
    let kinds : c.add_stubs.new.interfaces.items ≡ fs ++ ks =
    last.kinds ∙ ap (λ (bs : List Bool). bs ++ ks) (first.kinds ∙ ap (λ (bs : List Bool). bs ++ fs) c.new-interfaces.ensures.items) in
    knows_all c.args.files.now c.args.stubs.now c.add_stubs.new.names c.add_stubs.new.interfaces.items names kinds

pub returns-in_err-add_files-clause-too_many : goal.returns-in_err-add_files-clause-too_many
returns-in_err-add_files-clause-too_many c =
    let q = err_from_is_err_and c.from_residual.result c.from_residual.ensures.1 in
    let xs = map file_name c.args.files.now in
    let ys = map stub_name (own_classes c.args.stubs.now) in
    let first = c.new-names.result ++ xs in
    let more = many_more first ys (xs ++ ys) (ap (λ (ns : List (List ℕ)). (ns ++ xs) ++ ys) c.new-names.ensures) in
    rw (q.1, q.2) (error_more (AreTooMany first) (AreTooMany (xs ++ ys)) c.in_err-add_files.field-0.0 more c.in_err-add_files.ensures.too_many)

pub returns-in_err-add_stubs-clause-too_many : goal.returns-in_err-add_stubs-clause-too_many
returns-in_err-add_stubs-clause-too_many c =
    let q = err_from_is_err_and c.from_residual-in_err-add_stubs.result c.from_residual-in_err-add_stubs.ensures.1 in
    let xs = map file_name c.args.files.now in
    let ys = map stub_name (own_classes c.args.stubs.now) in
    let names = c.in_ok-add_files.ensures.names ∙ ap (λ (ns : List (List ℕ)). ns ++ xs) c.new-names.ensures in
    rw (q.1, q.2) (subst (λ (ns : List (List ℕ)). TellsTooMany (AreTooMany (ns ++ ys)) c.in_err-add_stubs.field-0.0) names c.in_err-add_stubs.ensures.too_many)
