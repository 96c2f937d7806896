use Rattle.std.proofs.Common.{refl}
use Rattle.std.proofs.lemmas.Bool.{false≢true}
use Rattle.ground.proofs.AscendingNumbers.{among, not_among}
use Rattle.ground.proofs.lists.is_among.Goals as goal

pub returns-in-Ok : goal.returns-in-Ok
returns-in-Ok c = (λ yes. among c.args.sites.now c.requires c.args.site c.in-Ok.field-0 c.in-Ok.ensures.bound c.in-Ok.ensures.position, λ there. refl)

pub returns-in-Err : goal.returns-in-Err
returns-in-Err c = (
  λ no. absurd (false≢true no),
  λ there. absurd (not_among c.args.sites.now c.requires c.args.site c.in-Err.field-0 c.in-Err.ensures.position there),
)
