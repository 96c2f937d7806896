use Rattle.std.proofs.Common.{List, [], ◌∷◌, ◌++◌, map, drop, refl}
use Rattle.std.proofs.lemmas.Result.{err_from_is_err_and}
use Rattle.jvm_model.specs.declared.program.NamedClass.{NamedClass}
use Rattle.program_index.specs.Limits.{AreTooMany}
use Rattle.program_linking.specs.Claims.{file_name, file_kind}
use Rattle.program_linking.proofs.Building.{build_on, build_done}
use Rattle.program_linking.proofs.NewNames.{new_head, new_next}
use Rattle.program_linking.proofs.LargeInputs.{error_more, many_more}
use Rattle.program_linking.proofs.known.add_files.Goals as goal

pub add_file-requires : goal.add_file-requires
add_file-requires c =
    let xs = c.args.files.now in
    let names = λ (ys : List NamedClass). map file_name ys in
    let kinds = λ (ys : List NamedClass). map file_kind ys in
    new_head names (λ (x : NamedClass). file_name x ∷ []) (λ x ys. refl) xs c.loop-f.f-index c.f-item.result c.loop-f-test.true c.f-item.is c.loop-f.names c.loop-f.invariant.new

pub loop-f-init : goal.loop-f-init
loop-f-init c = record { new = c.requires; names = refl; kinds = refl }

pub loop-f-preserved : goal.loop-f-preserved
loop-f-preserved c =
    let xs = c.args.files.now in
    let names = λ (ys : List NamedClass). map file_name ys in
    let kinds = λ (ys : List NamedClass). map file_kind ys in
    record {
      new = new_next names (λ (x : NamedClass). file_name x ∷ []) (λ x ys. refl) xs c.loop-f.f-index c.f-item.result c.loop-f-test.true c.f-item.is c.loop-f.names c.loop-f.invariant.new c.add_file.new.names c.in_ok-add_file.ensures.names;
      names = build_on names (c.args.names.now ++ names xs) (λ (x : NamedClass). file_name x ∷ []) (λ x ys. refl) xs c.loop-f.f-index c.f-item.result c.loop-f-test.true c.f-item.is c.loop-f.names c.add_file.new.names c.in_ok-add_file.ensures.names c.loop-f.invariant.names;
      kinds = build_on kinds (c.args.interfaces.now.items ++ kinds xs) (λ (x : NamedClass). file_kind x ∷ []) (λ x ys. refl) xs c.loop-f.f-index c.f-item.result c.loop-f-test.true c.f-item.is c.loop-f.interfaces.items c.add_file.new.interfaces.items c.in_ok-add_file.ensures.kinds c.loop-f.invariant.kinds;
    }

pub returns-clause-names : goal.returns-clause-names
returns-clause-names c =
    let xs = c.args.files.now in
    let names = λ (ys : List NamedClass). map file_name ys in
    let kinds = λ (ys : List NamedClass). map file_kind ys in
    build_done names (c.args.names.now ++ names xs) refl xs c.loop-f.f-index c.loop-f-test.false c.loop-f.names c.loop-f.invariant.names

pub returns-clause-kinds : goal.returns-clause-kinds
returns-clause-kinds c =
    let xs = c.args.files.now in
    let names = λ (ys : List NamedClass). map file_name ys in
    let kinds = λ (ys : List NamedClass). map file_kind ys in
    build_done kinds (c.args.interfaces.now.items ++ kinds xs) refl xs c.loop-f.f-index c.loop-f-test.false c.loop-f.interfaces.items c.loop-f.invariant.kinds

pub returns-in_err-add_file-clause-too_many : goal.returns-in_err-add_file-clause-too_many
returns-in_err-add_file-clause-too_many c =
    let q = err_from_is_err_and c.from_residual.result c.from_residual.ensures.1 in
    let xs = c.args.files.now in
    let names = c.loop-f.names in
    let whole = c.args.names.now ++ map file_name xs in
    rw (q.1, q.2)
    (error_more (AreTooMany names) (AreTooMany whole) c.in_err-add_file.field-0.0 (many_more names (map file_name (drop c.loop-f.f-index xs)) whole c.loop-f.invariant.names) c.in_err-add_file.ensures.too_many)
