use Rattle.std.proofs.Common.{sym, ◌∙◌}
use Rattle.std.proofs.lemmas.Bool.{false≢true}
use Rattle.prune_stage.proofs.MarkedCalls.{only_elsewhere}
use Rattle.prune_stage.proofs.marked_sites.OnlyMarking.mark.Goals as goal

pub returns-else-is_among : goal.returns-else-is_among
returns-else-is_among c =
    only_elsewhere c.args.self.now.site c.args.event c.args.found.now
    (λ there. false≢true (sym c.if-is_among.false ∙ c.is_among.ensures.1 there)) c.args.sets.now
