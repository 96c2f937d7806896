use Rattle.std.proofs.Common.{◌≡◌, ℕ, ◌+◌, true, List, length, sym, ap, ◌∙◌, subst, arith}
use Rattle.std.specs.List.{flat_map, list_any}
use Rattle.std.proofs.lemmas.Option.{same_Some}
use Rattle.list_laws.proofs.Places.{contains_at}
use Rattle.jvm_model.specs.declared.class_file.Attribute.{Attribute}
use Rattle.jvm_model.specs.declared.class_file.Member.{Member}
use Rattle.jvm_model.specs.declared.pool.PoolEntry.{PoolEntry}
use Rattle.jvm_model.specs.Soundness.{is_code}
use Rattle.jvm_model.specs.Spelling.{attribute}
use Rattle.jvm_model.proofs.CodePlaces.{before_fits, place_fits}
use Rattle.code_reader.specs.Bodies.{TellsBody}
use Rattle.code_reader.proofs.ToldCodes.{stands_there, found_at, body_fits, tells}
use Rattle.code_reader.proofs.read.read_code_at.Goals as goal

pub found_code-found-requires-clause-size : goal.found_code-found-requires-clause-size
found_code-found-requires-clause-size c =
    let class = c.args.class.now in
    let owner = c.index-as_slice-method.result in
    let there = stands_there class c.args.method c.requires.code.owner _ owner c.as_slice.result.now c.requires.code.there c.as_slice.ensures c.index-as_slice-method.is in
    omega (arith, before_fits class c.args.method owner there, ap (λ (all : List Attribute). length (flat_map attribute all)) c.as_slice-2.ensures, c.requires.size)

pub found_code-found-requires-clause-code : goal.found_code-found-requires-clause-code
found_code-found-requires-clause-code c =
    let class = c.args.class.now in
    let owner = c.index-as_slice-method.result in
    let there = stands_there class c.args.method c.requires.code.owner _ owner c.as_slice.result.now c.requires.code.there c.as_slice.ensures c.index-as_slice-method.is in
    let same : c.requires.code.owner ≡ owner = same_Some _ _ (sym c.requires.code.there ∙ there) in
    let has = subst (λ (m : Member). list_any (is_code class.pool) m.attributes ≡ true) same c.requires.code.has_code in
    rw (c.as_slice-pool.ensures, c.as_slice-2.ensures) has

pub overflow_add-place : goal.overflow_add-place
overflow_add-place c =
    let class = c.args.class.now in
    let owner = c.index-as_slice-method.result in
    let there = stands_there class c.args.method c.requires.code.owner _ owner c.as_slice.result.now c.requires.code.there c.as_slice.ensures c.index-as_slice-method.is in
    let f = found_at class c.args.method c.args.offset c.found_code-found.result.before owner c.found_code-found.result.code.now _ _ there c.as_slice-pool.ensures c.as_slice-2.ensures c.found_code-found.ensures c.requires.offset in
    omega (arith, place_fits _ _ _ f.is_place, c.requires.size)

pub overflow_add-place-2 : goal.overflow_add-place-2
overflow_add-place-2 c =
    let class = c.args.class.now in
    let owner = c.index-as_slice-method.result in
    let there = stands_there class c.args.method c.requires.code.owner _ owner c.as_slice.result.now c.requires.code.there c.as_slice.ensures c.index-as_slice-method.is in
    let f = found_at class c.args.method c.args.offset c.found_code-found.result.before owner c.found_code-found.result.code.now _ _ there c.as_slice-pool.ensures c.as_slice-2.ensures c.found_code-found.ensures c.requires.offset in
    omega (arith, place_fits _ _ _ f.is_place, c.requires.size)

pub overflow_add-place-3 : goal.overflow_add-place-3
overflow_add-place-3 c =
    let class = c.args.class.now in
    let owner = c.index-as_slice-method.result in
    let there = stands_there class c.args.method c.requires.code.owner _ owner c.as_slice.result.now c.requires.code.there c.as_slice.ensures c.index-as_slice-method.is in
    let f = found_at class c.args.method c.args.offset c.found_code-found.result.before owner c.found_code-found.result.code.now _ _ there c.as_slice-pool.ensures c.as_slice-2.ensures c.found_code-found.ensures c.requires.offset in
    omega (arith, place_fits _ _ _ f.is_place, c.requires.size)

pub locals_taken-requires-clause-there : goal.locals_taken-requires-clause-there
locals_taken-requires-clause-there c =
    let class = c.args.class.now in
    let owner = c.index-as_slice-method.result in
    let there = stands_there class c.args.method c.requires.code.owner _ owner c.as_slice.result.now c.requires.code.there c.as_slice.ensures c.index-as_slice-method.is in
    contains_at class.methods c.args.method owner there

pub read_body-requires : goal.read_body-requires
read_body-requires c =
    let class = c.args.class.now in
    let owner = c.index-as_slice-method.result in
    let there = stands_there class c.args.method c.requires.code.owner _ owner c.as_slice.result.now c.requires.code.there c.as_slice.ensures c.index-as_slice-method.is in
    let f = found_at class c.args.method c.args.offset c.found_code-found.result.before owner c.found_code-found.result.code.now _ _ there c.as_slice-pool.ensures c.as_slice-2.ensures c.found_code-found.ensures c.requires.offset in
    let fits = body_fits class c.args.method _ owner c.found_code-found.result.code.now there f.first f.is_place in
    omega (arith, fits, ap length c.as_slice-3.ensures, c.requires.size)

pub returns : goal.returns
returns c =
    let class = c.args.class.now in
    let owner = c.index-as_slice-method.result in
    let there = stands_there class c.args.method c.requires.code.owner _ owner c.as_slice.result.now c.requires.code.there c.as_slice.ensures c.index-as_slice-method.is in
    let f = found_at class c.args.method c.args.offset c.found_code-found.result.before owner c.found_code-found.result.code.now _ _ there c.as_slice-pool.ensures c.as_slice-2.ensures c.found_code-found.ensures c.requires.offset in
    let at : ℕ = c.args.offset + 8 + c.found_code-found.result.before + 6 in
    let body = subst (λ (bytes : List ℕ). TellsBody class.pool c.in_ok-parameters.parameters (record { offset = at; rest = bytes }) c.read_body.result) c.as_slice-3.ensures
    (subst (λ (pool : List PoolEntry). TellsBody pool c.in_ok-parameters.parameters (record { offset = at; rest = c.as_slice-3.result.now }) c.read_body.result) c.as_slice-pool.ensures c.read_body.ensures) in
    tells class c.args.method at c.in_ok-parameters.parameters owner c.found_code-found.result.code.now c.read_body.result there f.first f.is_place c.in_ok-parameters.ensures body
