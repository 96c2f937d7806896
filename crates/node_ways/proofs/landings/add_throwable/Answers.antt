use Rattle.std.proofs.Common.{subst}
use Rattle.std.proofs.lemmas.Result.{on_ok_weaker}
use Rattle.jvm_model.specs.Programs.{Program}
use Rattle.ground.specs.Added.{AreAdded}
use Rattle.node_ways.specs.Parts.{LandsAt}
use Rattle.node_ways.proofs.Throwing.{not_throwable, throwable_added}
use Rattle.node_ways.proofs.landings.add_throwable.Goals as goal

pub returns-then-not-fits : goal.returns-then-not-fits
returns-then-not-fits c =
    not_throwable c.args.ground.now c.args.node.now c.args.site c.site.result.now c.site.ensures c.program.result.now c.program.ensures c.as_slice-class.result.now c.as_slice-class.ensures c.fits.result
    c.fits.ensures c.if-not-fits.true c.args.landings.now.items

pub returns : goal.returns
returns c =
    on_ok_weaker c.add_landing.result
    (λ added.
    throwable_added c.args.ground.now c.args.node.now c.args.site c.site.result.now c.site.ensures c.program.result.now c.program.ensures c.as_slice-class.result.now c.as_slice-class.ensures c.fits.result
    c.fits.ensures c.if-not-fits.false c.args.landings.now.items c.add_landing.new.landings.items
    (subst (λ (p : Program). AreAdded (LandsAt p c.args.node.now c.as_slice-class.result.now) c.args.landings.now.items c.add_landing.new.landings.items) c.program-2.ensures added))
    c.add_landing.ensures
