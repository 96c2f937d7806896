use Rattle.std.proofs.Common.{◌≡◌, ℕ, suc, ◌+◌, ◌-◌, ◌<◌, ◌≤◌, List, [], ◌∷◌, ◌++◌, map, drop, sym, ap, ◌∙◌, arith, append_assoc}
use Rattle.std.proofs.lemmas.List.{append-nil}
use Rattle.jvm_model.specs.declared.site.Site.{Site}
use Rattle.machine_bytecode.specs.Machine.{nested_arrays}
use Rattle.lowering_operations.specs.ByAction.{site_at}
use Rattle.lowering_operations.specs.declared.placement.Placement.{Placement}
use Rattle.lowering_operations.proofs.arrays.nested_sites.Goals as goal

-- one more array, of those that are left
one_more : (at : Placement) (sites longer all : List Site) (site : Site) (rest less : List ℕ) (count k : ℕ) → k < count → longer ≡ sites ++ site ∷ [] → site ≡ site_at at rest → less ≡ drop 1 rest
    → sites ++ map (site_at at) (nested_arrays (count - k) rest) ≡ all → longer ++ map (site_at at) (nested_arrays (count - (k + 1)) less) ≡ all
one_more at sites longer all site rest less count k lt grown is left before =
    let after = count - (k + 1) in
    let number : count - k ≡ suc after = omega arith in
    let others = map (site_at at) (nested_arrays after (drop 1 rest)) in
    ap (λ (x : List ℕ). longer ++ map (site_at at) (nested_arrays after x)) left
    ∙ ap (λ (x : List Site). x ++ others) grown
    ∙ append_assoc sites (site ∷ []) others
    ∙ ap (λ (x : Site). sites ++ (x ∷ others)) is
    ∙ ap (λ (n : ℕ). sites ++ map (site_at at) (nested_arrays n rest)) (sym number)
    ∙ before

none_left : (at : Placement) (sites all : List Site) (rest : List ℕ) (count k : ℕ) → count ≤ k → sites ++ map (site_at at) (nested_arrays (count - k) rest) ≡ all → sites ≡ all
none_left at sites all rest count k le is =
    let none : count - k ≡ 0 = omega arith in
    sym (append-nil sites) ∙ ap (λ (n : ℕ). sites ++ map (site_at at) (nested_arrays n rest)) (sym none) ∙ is

pub loop-preserved : goal.loop-preserved
loop-preserved c =
    one_more c.args.at c.loop.sites.items c.push.new.self.items _ c.in_ok-new_site.field-0 c.loop.rest.now c.element_of-rest.result.now c.args.count c.loop.counter c.loop-test.true c.in_ok-push.ensures.items c.in_ok-new_site.ensures c.element_of-rest.ensures
    c.loop.invariant

pub returns : goal.returns
returns c = none_left c.args.at c.loop.sites.items _ c.loop.rest.now c.args.count c.loop.counter c.loop-test.false c.loop.invariant
