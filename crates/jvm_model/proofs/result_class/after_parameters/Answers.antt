use Rattle.std.proofs.Common.{◌≡◌, ℕ, ◌+◌, Bool, true, false, cond, not, ◌&&◌, ◌==◌, List, ◌∷◌, drop, get_or, refl, sym, ◌∙◌, ap}
use Rattle.std.proofs.lemmas.List.{drop_more, drop_all, take_rest}
use Rattle.jvm_model.specs.Stubs.{after_parameters}
use Rattle.jvm_model.proofs.result_class.after_parameters.Goals as goal

after_step : (in_class : Bool) (b : ℕ) (rest : List ℕ)
    → after_parameters in_class (b ∷ rest) ≡ cond (not in_class && (b == 41)) rest (after_parameters (cond in_class (not (b == 59)) (b == 76)) rest)
after_step true b rest = refl
after_step false b rest = refl

pub loop-place-preserved : goal.loop-place-preserved
loop-place-preserved c =
    let s = c.args.descriptor.now in
    let place = c.loop-place.place in
    let b = get_or s place 0 in
    let rest = drop (place + 1) s in
    let in_class = c.loop-place.in_class in
    let then = cond in_class (not (b == 59)) (b == 76) in
    let goes : (not in_class && (b == 41)) ≡ false = sym c.ends_parameters.ensures ∙ c.if-ends_parameters.false in
    ap (λ (t : Bool). after_parameters t rest) c.is_then_in_class-in_class.ensures
    ∙ sym (after_step in_class b rest ∙ ap (λ (t : Bool). cond t rest (after_parameters then rest)) goes)
    ∙ ap (after_parameters in_class) (sym (drop_more s place 0 c.loop-place-test.true))
    ∙ c.loop-place.invariant

pub returns-then-ends_parameters : goal.returns-then-ends_parameters
returns-then-ends_parameters c =
    let s = c.args.descriptor.now in
    let place = c.loop-place.place in
    let b = get_or s place 0 in
    let rest = drop (place + 1) s in
    let in_class = c.loop-place.in_class in
    let then = cond in_class (not (b == 59)) (b == 76) in
    let ends : (not in_class && (b == 41)) ≡ true = sym c.ends_parameters.ensures ∙ c.if-ends_parameters.true in
    let all : rest ≡ after_parameters false s =
    sym (after_step in_class b rest ∙ ap (λ (t : Bool). cond t rest (after_parameters then rest)) ends)
    ∙ ap (after_parameters in_class) (sym (drop_more s place 0 c.loop-place-test.true))
    ∙ c.loop-place.invariant in
    take_rest s (place + 1) ∙ all

pub returns : goal.returns
returns c = ap (after_parameters c.loop-place.in_class) (sym (drop_all c.loop-place.place c.args.descriptor.now c.loop-place-test.false)) ∙ c.loop-place.invariant
