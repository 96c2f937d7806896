use Rattle.std.proofs.Common.{ℕ, [], ◌∷◌, map, Option, sym, subst}
use Rattle.std.specs.Option.{option_to_list}
use Rattle.access_paths.specs.declared.root.Root.TheVariants.{Slot}
use Rattle.access_paths.specs.Paths.{Path, bare}
use Rattle.stage_views.specs.Views.{Gathers}
use Rattle.stage_flow.proofs.answers.slot_paths.Goals as goal

pub returns-in-Some : goal.returns-in-Some
returns-in-Some c =
    subst (λ (o : Option ℕ). Gathers c.add.new.self (map (λ (z : ℕ). bare (Slot z)) (option_to_list o))) (sym c.in-Some.is)
    (subst (λ (p : Path). Gathers c.add.new.self (p ∷ [])) c.new.ensures (c.add.ensures [] c.new-all.ensures))
