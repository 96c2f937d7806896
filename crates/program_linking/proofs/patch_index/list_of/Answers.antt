use Rattle.std.proofs.Common.{◌≡◌, ℕ, List, [], ◌∷◌, ◌++◌, length, Bor, sym, ◌∙◌, ap, subst, arith}
use Rattle.std.specs.Global.{Vec}
use Rattle.std.proofs.lemmas.List.{map-append}
use Rattle.std.proofs.lemmas.Result.{err_from_is_err_and}
use Rattle.jvm_model.specs.declared.stub.StubClass.{StubClass}
use Rattle.program_index.specs.Limits.{AreTooMany}
use Rattle.program_linking.specs.PatchLists.{lent_stubs, lent_lists, AreListed}
use Rattle.program_linking.proofs.LargeInputs.{error_told, text_grows}
use Rattle.program_linking.proofs.PatchLists.{known_name, new_name, within_old, listed_new}
use Rattle.program_linking.proofs.patch_index.list_of.Goals as goal

pub returns-in_ok-push-clause-kept : goal.returns-in_ok-push-clause-kept
returns-in_ok-push-clause-kept c =
    let old = c.args.names.now in
    let text = c.args.name.now in
    let lists = c.args.lists.now.items in
    let new = new_name old c.intern.new.self text c.in_ok-place.field-0 c.in_ok-place.ensures.ok c.in_ok-place.ensures.stands (c.if-place-len.true ∙ c.len.ensures ∙ c.args.lists.now.ok.0 ∙ c.requires) in
    let more : lent_lists c.push.new.self.items ≡ lent_lists lists ++ [] ∷ [] =
    ap lent_lists c.in_ok-push.ensures.items
    ∙ map-append (λ (list : Vec (Bor StubClass)). lent_stubs list.items) lists (c.new.result ∷ [])
    ∙ ap (λ (items : List (Bor StubClass)). lent_lists lists ++ lent_stubs items ∷ []) c.new.ensures.items in
    record {
      same = λ stubs are.
          subst (λ (names : List (List ℕ)). AreListed stubs names (lent_lists c.push.new.self.items)) (sym new.0)
          (subst (AreListed stubs (old ++ text ∷ [])) (sym more) (listed_new stubs old (lent_lists lists) text new.1 are));
    }

pub returns-else-place-len-clause-within : goal.returns-else-place-len-clause-within
returns-else-place-len-clause-within c =
    let known : length c.args.names.now ≡ c.in_ok-place.field-0 → ⊥ = λ e. c.if-place-len.false (sym e ∙ sym c.requires ∙ sym c.args.lists.now.ok.0 ∙ sym c.len.ensures) in
    let within = within_old c.args.names.now c.intern.new.self c.args.name.now c.in_ok-place.field-0 c.in_ok-place.ensures.ok c.in_ok-place.ensures.stands known in
    omega (arith, within, c.requires)

pub returns-else-place-len-clause-kept : goal.returns-else-place-len-clause-kept
returns-else-place-len-clause-kept c =
    let known : length c.args.names.now ≡ c.in_ok-place.field-0 → ⊥ = λ e. c.if-place-len.false (sym e ∙ sym c.requires ∙ sym c.args.lists.now.ok.0 ∙ sym c.len.ensures) in
    let same = known_name c.args.names.now c.intern.new.self c.args.name.now c.in_ok-place.field-0 c.in_ok-place.ensures.ok c.in_ok-place.ensures.stands known in
    record { same = λ stubs are. subst (λ (names : List (List ℕ)). AreListed stubs names (lent_lists c.args.lists.now.items)) (sym same) are }

pub returns-in_err-place-clause-too_many : goal.returns-in_err-place-clause-too_many
returns-in_err-place-clause-too_many c =
    let q = err_from_is_err_and c.from_residual.result c.from_residual.ensures.1 in
    rw (q.1, q.2) (error_told (AreTooMany c.args.names.now) c.in_err-place.field-0.0 (λ told. (c.in_err-place.ensures.too_many.0 told).1))

pub returns-in_ok-push-clause-count : goal.returns-in_ok-push-clause-count
returns-in_ok-push-clause-count c = omega (arith, ap (length {A = List ℕ}) c.in_ok-place.ensures.ok, (text_grows c.args.names.now c.args.name.now).1)

pub returns-else-place-len-clause-count : goal.returns-else-place-len-clause-count
returns-else-place-len-clause-count c = omega (arith, ap (length {A = List ℕ}) c.in_ok-place.ensures.ok, (text_grows c.args.names.now c.args.name.now).1)
