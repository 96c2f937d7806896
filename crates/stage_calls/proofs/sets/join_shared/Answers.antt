use Rattle.std.proofs.Common.{[], ◌∷◌, ◌++◌, map, sym, ◌∙◌, subst}
use Rattle.std.specs.List.{filter, range_with_len}
use Rattle.access_paths.specs.Paths.{Path}
use Rattle.stage_views.specs.declared.gathering.Gathering.{Gathering}
use Rattle.stage_views.specs.Views.{Gathers}
use Rattle.stage_calls.specs.Testing.{bare_slot, is_like}
use Rattle.stage_calls.proofs.Gathering.{gathers_other, gathers_slot}
use Rattle.stage_calls.proofs.sets.join_shared.Goals as goal
use Rattle.stage_calls.proofs.sets.join_shared.Goals.{then-share, else-share}

pub loop-other-preserved : goal.loop-other-preserved
loop-other-preserved g c w m n before knows initial =
    let p = is_like w m n c.args.slot in
    let at = c.loop-other.other in
    let told = sym (c.share.ensures w m n knows) in
    let gathered = c.loop-other.invariant w m n before knows initial in
    elim c.if-share.branch [
      | then-share b ↦
          let more : Gathers c.if-share.gathering (before ++ map bare_slot (filter p (range_with_len 0 at)) ++ bare_slot at ∷ []) =
          subst (λ (s : Gathering). Gathers s (before ++ map bare_slot (filter p (range_with_len 0 at)) ++ bare_slot at ∷ [])) (sym b.gathering-is)
          (subst (λ (x : Path). Gathers b.add.new.self (before ++ map bare_slot (filter p (range_with_len 0 at)) ++ x ∷ [])) b.new.ensures (b.add.ensures _ gathered)) in
          gathers_slot c.if-share.gathering before p at (told ∙ b.if-share.true) more
      | else-share b ↦
          let same : Gathers c.if-share.gathering (before ++ map bare_slot (filter p (range_with_len 0 at))) =
          subst (λ (s : Gathering). Gathers s (before ++ map bare_slot (filter p (range_with_len 0 at)))) (sym b.gathering-is) gathered in
          gathers_other c.if-share.gathering before p at (told ∙ b.if-share.false) same
    ]
