use Rattle.std.proofs.Common.{◌≡◌, ℕ, List, [], ◌∷◌, ◌++◌, sym, ◌∙◌, ap, subst}
use Rattle.std.proofs.lemmas.Result.{on_ok_weaker}
use Rattle.jvm_model.specs.declared.pool.PoolEntry.{PoolEntry}
use Rattle.jvm_model.specs.Programs.{class_or_none}
use Rattle.program_linking.specs.Claims.{file_name}
use Rattle.program_index.specs.FirstPlaces.{StandsNowhere}
use Rattle.program_linking.proofs.known.add_file.Goals as goal

pub add_class-requires : goal.add_class-requires
add_class-requires c =
    let name : c.class_text-name.result.now ≡ file_name c.args.f.now = c.class_text-name.ensures ∙ ap (λ (pool : List PoolEntry). class_or_none pool c.args.f.now.class.this_class) c.as_slice.ensures in
    subst (λ (text : List ℕ). StandsNowhere c.args.names.now text) (sym name) c.requires.0

pub returns-clause-names : goal.returns-clause-names
returns-clause-names c =
    let name : c.class_text-name.result.now ≡ file_name c.args.f.now = c.class_text-name.ensures ∙ ap (λ (pool : List PoolEntry). class_or_none pool c.args.f.now.class.this_class) c.as_slice.ensures in
    on_ok_weaker c.add_class.result (λ e. e ∙ ap (λ (text : List ℕ). c.args.names.now ++ text ∷ []) name) c.add_class.ensures.names
