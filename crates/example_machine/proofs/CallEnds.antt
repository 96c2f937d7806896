-- The first step of an execution, and the last ones.
use Rattle.std.proofs.Common.{codes, ◌≡◌, [], ◌∷◌, refl}
use Rattle.machine_bytecode.specs.Machine.{enters_entry, gets_result, returns, ends}
use Rattle.machine_bytecode.specs.Start.{start_frame}
use Rattle.machine_bytecode.specs.States.{primitive_value, ended, runs_on, moved_to, waiting}
use Rattle.example_machine.specs.Calling.{runs, rings}
use Rattle.example_machine.specs.Taking.{Takes, Shows, EnteringEntry, Returning, Ending}
use Rattle.example_machine.proofs.Facts.{call_row, described_at, shows}
use Rattle.example_machine.proofs.Runs.{Arrives, goes, takes, started_in, entered_in, starts_at}
use Rattle.example_machine.proofs.CallSteps.{get, give_to_start, not_selecting}
use Rattle.example_machine.proofs.CallStart.{outside, main_of, world, main_at, begun, plain_units, house_named}

enters_main : EnteringEntry (runs rings) (started_in (world rings refl)) (entered_in (runs rings) (main_of rings refl) (world rings refl))
enters_main = record {
  at = record { frame = start_frame; below = []; runs = refl; frames = refl; no_method = refl; stands = refl };
  step = record { code = main_of rings refl; enters = record { code = main_of rings refl; after = refl } };
}

pub the_entry_is_called : Takes (runs rings) (λ s t. EnteringEntry (runs rings) s t × Shows 0 [] t)
the_entry_is_called =
    takes _ _ _ _ (starts_at (runs rings) (main_of rings refl) [] refl) (enters_entry enters_main.at enters_main.step) (enters_main, shows _ _ _)

at_return : Arrives (runs rings) (main_at rings refl 3 [] (world rings refl))
at_return =
    let step = get (runs rings) 4 (main_of rings refl) outside 0 [] (world rings refl) _ refl _ (call_row _ _ _ _ _ _ refl plain_units) _
    (record { is_there = refl; names = house_named rings 38 9 _ _ refl refl refl refl refl; target = 9; is_target = (refl, refl); events = not_selecting _ _ _ _ _ refl })
    (described_at _ _ _ _ refl refl refl plain_units.is) 0 _ refl primitive_value _ (refl, refl) in
    goes _ _ _ (begun rings refl) (gets_result step.at step.step)

leaves_main : Returning (runs rings) (codes "return") (main_at rings refl 3 [] (world rings refl)) (runs_on (moved_to (waiting start_frame []) 1 [] ∷ []) (world rings refl))
leaves_main = give_to_start (runs rings) 4 (main_of rings refl) 3 [] (world rings refl) _ refl _ refl refl refl _ plain_units

pub the_entry_returns : Takes (runs rings) (λ s t. Returning (runs rings) (codes "return") s t × Shows 1 [] t)
the_entry_returns =
    takes _ _ _ _ at_return (returns leaves_main.at leaves_main.step) (leaves_main, shows _ _ _)

pub a_program_ends : Takes (runs rings) (λ s t. Ending s t × (t.mode ≡ ended))
a_program_ends =
    let step : Ending _ _ = record { at = record { frame = _; below = []; runs = refl; frames = refl; no_method = refl; stands = refl }; step = record { after = refl } } in
    takes _ _ _ _ (goes _ _ _ at_return (returns leaves_main.at leaves_main.step)) (ends step.at step.step) (step, refl)
