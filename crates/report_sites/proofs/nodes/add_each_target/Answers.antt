use Rattle.std.proofs.Common.{get_or}
use Rattle.std.proofs.lemmas.List.Elements.{Contains-get_or}
use Rattle.std.proofs.lemmas.Option.{slice_get-get_or}
use Rattle.jvm_model.specs.declared.number.MethodNo.{MethodNo}
use Rattle.report_sites.specs.Found.{TargetGives}
use Rattle.ground.proofs.Adding.{added_all, added_more}
use Rattle.report_sites.proofs.nodes.add_each_target.Goals as goal

pub add_target-requires-clause-target : goal.add_target-requires-clause-target
add_target-requires-clause-target c =
    let past : MethodNo = record { 0 = 0 } in
    c.requires.targets (get_or c.args.targets.now c.loop-target.target-index past)
    (Contains-get_or c.args.targets.now c.loop-target.target-index past c.loop-target-test.true)

pub loop-target-preserved : goal.loop-target-preserved
loop-target-preserved c =
    let targets = c.args.targets.now in
    let k = c.loop-target.target-index in
    let past : MethodNo = record { 0 = 0 } in
    record {
      added = added_more (TargetGives c.args.wanted.now.program.now c.args.wanted.now.upper c.args.method c.args.offset) targets k (get_or targets k past)
          (slice_get-get_or targets k past c.loop-target-test.true)
          c.args.sites.now.items c.loop-target.sites.items c.add_target.new.sites.items c.loop-target.invariant.added c.in_ok-add_target.ensures;
    }

pub returns : goal.returns
returns c =
    added_all (TargetGives c.args.wanted.now.program.now c.args.wanted.now.upper c.args.method c.args.offset) c.args.targets.now c.loop-target.target-index c.loop-target-test.false
    c.args.sites.now.items c.loop-target.sites.items c.loop-target.invariant.added
