use Rattle.std.proofs.Common.{◌≡◌, length, arith}
use Rattle.std.specs.Result.{is_ok}
use Rattle.std.proofs.lemmas.Result.{IfOk-weaker}
use Rattle.slot_names.specs.Branches.{IsAdded}
use Rattle.slot_names.proofs.PlacedRows.{added, sound_pushed}
use Rattle.slot_names.proofs.rows.Rows.add.Goals as goal

-- also where there is no memory for it
pub invariant_of-self : goal.invariant_of-self
invariant_of-self c = record {
  sound = sound_pushed c.args.self.now.branches.items c.push.new.self.items c.args.branch (length c.args.self.now.variables.items) (is_ok c.push.result) c.args.self.now.sound
      c.requires.odd c.requires.even c.requires.value c.push.ensures.items;
}

pub returns-clause-added : goal.returns-clause-added
returns-clause-added c =
    let old = c.args.self.now.branches.items in
    let new = c.push.new.self.items in
    IfOk-weaker c.number.result (λ row. row ≡ c.len.result) (IsAdded old new c.args.branch)
    (λ row e. let last : row ≡ length new = omega (arith, e, c.len.ensures) in added old new c.args.branch row c.in_ok-push.ensures.items last) c.number.ensures
