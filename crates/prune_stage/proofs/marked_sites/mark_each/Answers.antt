use Rattle.std.proofs.Common.{get_or}
use Rattle.std.proofs.lemmas.Option.{slice_get-get_or}
use Rattle.jvm_model.specs.declared.number.SiteNo.{SiteNo}
use Rattle.prune_stage.specs.Places.{StandsInTable}
use Rattle.prune_stage.specs.Marks.{SiteMarks}
use Rattle.prune_stage.proofs.Marking.{marked_all, marked_more, marked_start}
use Rattle.prune_stage.proofs.marked_sites.mark_each.Goals as goal

pub loop-site-preserved : goal.loop-site-preserved
loop-site-preserved c =
    let found = c.args.found.now in
    let k = c.loop-site.site-index in
    let past : SiteNo = record { 0 = 0 } in
    record {
      marked = marked_more (SiteMarks (StandsInTable c.args.places.now) c.args.event) found k (get_or found k past)
          (slice_get-get_or found k past c.loop-site-test.true) c.args.sets.now c.loop-site.sets c.mark_site.new.sets
          c.loop-site.invariant.marked c.mark_site.ensures;
    }

pub returns : goal.returns
returns c =
    marked_all (SiteMarks (StandsInTable c.args.places.now) c.args.event) c.args.found.now c.loop-site.site-index c.loop-site-test.false c.args.sets.now
    c.loop-site.sets c.loop-site.invariant.marked

pub loop-site-init : goal.loop-site-init
loop-site-init c = record { marked = marked_start (SiteMarks (StandsInTable c.args.places.now) c.args.event) c.args.sets.now }
