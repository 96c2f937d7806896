use Rattle.std.proofs.Common.{[], refl}
use Rattle.stage_transfer.specs.Calls.{joins}
use Rattle.stage_views.specs.Views.{entering_of}
use Rattle.stage_calls.specs.Testing.{is_path_handed_on}
use Rattle.stage_views.proofs.Gathered.{cut_of_gathered}
use Rattle.stage_calls.proofs.leave.left_set.Goals as goal

pub returns : goal.returns
returns g c w l n wanted knows =
    let by = entering_of c.args.joins.now.by in
    let handed = c.gather.ensures (is_path_handed_on by) [] (λ x. refl) c.new-gathering.ensures in
    cut_of_gathered _ _ (c.gather-2.ensures (joins w by c.args.joins.now.target) _
    (record { setting = w; method = l; node = n; known = knows; tells = λ x. refl }) handed)
