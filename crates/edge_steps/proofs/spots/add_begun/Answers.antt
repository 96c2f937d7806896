use Rattle.std.proofs.Common.{List, length, refl, sym, subst}
use Rattle.std.proofs.lemmas.Option.{slice_get_read}
use Rattle.ground.specs.Added.{AreAdded}
use Rattle.ground.proofs.Adding.{added_more}
use Rattle.stage_facts.specs.Plain.{fact_of}
use Rattle.edge_steps.specs.declared.conclusions.EnteredWith.{EnteredWith}
use Rattle.edge_steps.specs.Parts.{IsBegun}
use Rattle.edge_steps.proofs.Adding.{begun_added}
use Rattle.edge_steps.proofs.spots.add_begun.Goals as goal

pub loop-method-preserved : goal.loop-method-preserved
loop-method-preserved c =
    let methods = c.args.methods.now in
    let k = c.loop-method.method-index in
    let e = c.method-item.result in
    let g = fact_of c.args.fact.now in
    let b = c.loop-method.entered.items in
    let new = c.push.new.self.items in
    record {
      added = added_more (IsBegun g) methods k e (slice_get_read methods (length methods) k e refl c.loop-method-test.true c.method-item.is) c.args.entered.now.items b new
          c.loop-method.invariant.added
          (subst (λ (xs : List EnteredWith). AreAdded (IsBegun g e) b xs) (sym c.in_ok-push.ensures.items) (begun_added e c.copied_fact.result g c.copied_fact.ensures b));
    }
