use Rattle.std.proofs.Common.{◌≡◌, ℕ, List, map, get_or, length, arith, sym, ap, subst, ◌∙◌}
use Rattle.std.proofs.lemmas.List.{drop_all}
use Rattle.std.proofs.lemmas.Result.{err_from_is_err_and}
use Rattle.jvm_model.specs.Linking.{AreMet, interface_places}
use Rattle.jvm_model.specs.Programs.{class_or_none}
use Rattle.jvm_model.specs.Soundness.{interfaces_offset}
use Rattle.jvm_model.specs.declared.pool.PoolEntry.{PoolEntry}
use Rattle.jvm_model.proofs.Lengths.{spell_length}
use Rattle.program_linking.specs.Claims.{super_claim, TellsEnd}
use Rattle.program_linking.proofs.ClaimSteps.{left_all, left_as, left_step, left_stop, left_end, named, at_interface}
use Rattle.program_linking.proofs.supers.check_interfaces.Goals as goal

pub returns-in_err-check_super : goal.returns-in_err-check_super
returns-in_err-check_super c =
    let p = err_from_is_err_and c.from_residual.result c.from_residual.ensures.1 in
    let f = c.args.f.now in
    let xs = c.as_slice-index-items.result.now in
    let i = c.loop-index.index-index in
    let claims = λ (ys : List ℕ). map (super_claim c.args.rule) (interface_places f.file f.class.pool (interfaces_offset f.class) ys) in
    let is : c.class_text.result.now ≡ class_or_none f.class.pool (get_or xs i 0) = c.class_text.ensures ∙ ap (λ (pool : List PoolEntry). class_or_none pool (get_or xs i 0)) c.as_slice-pool.ensures in
    let left = at_interface c.args.known.now c.args.rule f.file f.class.pool (claims xs) c.loop-index.offset xs i c.loop-index-test.true c.class_text.result.now is c.loop-index.invariant.left in
    let end = c.in_err-check_super.field-0.0 in
    let whole = left_stop ⊥ c.args.known.now (claims xs) (named c.args.known.now c.args.rule f.file f.class.pool (claims xs) c.loop-index.offset xs i c.loop-index-test.true c.class_text.result.now c.class_text.result.now) _ end left c.in_err-check_super.ensures in
    rw (p.1, p.2) (subst (λ (ys : List ℕ). TellsEnd c.args.known.now (claims ys) end) c.as_slice-index-items.ensures whole)

pub loop-index-preserved : goal.loop-index-preserved
loop-index-preserved c =
    let f = c.args.f.now in
    let xs = c.as_slice-index-items.result.now in
    let i = c.loop-index.index-index in
    let claims = λ (ys : List ℕ). map (super_claim c.args.rule) (interface_places f.file f.class.pool (interfaces_offset f.class) ys) in
    let is : c.class_text.result.now ≡ class_or_none f.class.pool (get_or xs i 0) = c.class_text.ensures ∙ ap (λ (pool : List PoolEntry). class_or_none pool (get_or xs i 0)) c.as_slice-pool.ensures in
    let left = at_interface c.args.known.now c.args.rule f.file f.class.pool (claims xs) c.loop-index.offset xs i c.loop-index-test.true c.class_text.result.now is c.loop-index.invariant.left in
    record {
      left = left_step c.args.known.now (claims xs) (named c.args.known.now c.args.rule f.file f.class.pool (claims xs) c.loop-index.offset xs i c.loop-index-test.true c.class_text.result.now c.class_text.result.now) _ left c.in_ok-check_super.ensures;
      at = omega (arith, c.loop-index.invariant.at);
    }

pub loop-index-init : goal.loop-index-init
loop-index-init c =
    let f = c.args.f.now in
    let xs = c.as_slice-index-items.result.now in
    record {
      left = left_as c.args.known.now _ _ _ (ap (λ (offset : ℕ). map (super_claim c.args.rule) (interface_places f.file f.class.pool offset xs)) (sym c.interfaces_offset-offset.ensures)) (left_all _ _);
      at = omega (arith, c.interfaces_offset-offset.ensures);
    }

pub returns : goal.returns
returns c =
    let f = c.args.f.now in
    let xs = c.as_slice-index-items.result.now in
    let i = c.loop-index.index-index in
    let claims = λ (ys : List ℕ). map (super_claim c.args.rule) (interface_places f.file f.class.pool (interfaces_offset f.class) ys) in
    let none = ap (λ (ys : List ℕ). map (super_claim c.args.rule) (interface_places f.file f.class.pool c.loop-index.offset ys)) (drop_all i xs c.loop-index-test.false) in
    let whole = left_end c.args.known.now (claims xs) (left_as c.args.known.now (claims xs) _ _ none c.loop-index.invariant.left) in
    subst (λ (ys : List ℕ). AreMet c.args.known.now (claims ys)) c.as_slice-index-items.ensures whole

pub overflow_add-offset : goal.overflow_add-offset
overflow_add-offset c =
    let long = ap (length {A = ℕ}) c.as_slice-index-items.ensures in
    record { fits = omega (arith, c.loop-index.invariant.at, c.loop-index-test.true, long, spell_length c.args.f.now.class, c.requires.size) }
