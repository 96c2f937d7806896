use Rattle.std.proofs.Common.{◌≡◌, ℕ, take, arith, sym, ◌∙◌, ap}
use Rattle.jvm_model.specs.Selection.{package_of}
use Rattle.hierarchy.proofs.Packages.{kept_step, slash_end}
use Rattle.hierarchy.proofs.package.package.Goals as goal
use Rattle.hierarchy.proofs.package.package.Goals.{then-loop-end-test+else-name-end-ne47, else-loop-end-test}

pub loop-end-preserved : goal.loop-end-preserved
loop-end-preserved c = record {
  within = omega arith;
  same = kept_step c.args.name.now c.loop-end.end c.loop-end-test.true c.loop-end.invariant.within c.if-name-end-ne47.true c.loop-end.invariant.same;
}

pub returns : goal.returns
returns c =
    elim c.loop-end-test.branch [
      | then-loop-end-test+else-name-end-ne47 w ↦
          slash_end c.args.name.now c.loop-end.end w.loop-end-test.true c.loop-end.invariant.within w.if-name-end-ne47.false c.loop-end.invariant.same
      | else-loop-end-test w ↦
          let none : c.loop-end.end ≡ 0 = omega (arith, w.loop-end-test.false) in
          ap (λ (k : ℕ). take k c.args.name.now) none ∙ sym (ap (λ (k : ℕ). package_of (take k c.args.name.now)) none) ∙ c.loop-end.invariant.same
    ]
