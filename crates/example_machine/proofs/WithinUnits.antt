-- The steps that put units in another order, one after the other in one code.
use Rattle.std.proofs.Common.{codes, ◌≡◌, ℕ, List, [], ◌∷◌, Some, refl}
use Rattle.machine_bytecode.specs.Machine.{advances}
use Rattle.machine_bytecode.specs.States.{Value, primitive_value, null_value}
use Rattle.example_machine.specs.Taking.{Takes, Shows, Advancing}
use Rattle.example_machine.specs.Within.{runs, shuffles}
use Rattle.example_machine.proofs.Facts.{shows}
use Rattle.example_machine.proofs.Runs.{Arrives, takes, advance, plain_next, plainly}
use Rattle.example_machine.proofs.WithinStart.{outside, main_of, world, main_at, begun}

-- so many instructions of the code lead to an offset, with these slots
at_shuffle : (count : ℕ) (n : ℕ × List Value) → plain_next count shuffles.bytes 0 [] ≡ Some n → Arrives (runs shuffles) (main_at shuffles refl n.0 n.1 (world shuffles refl))
at_shuffle count n e = plainly (runs shuffles) 0 (main_of shuffles refl) outside count 0 [] (world shuffles refl) n e (begun shuffles refl)

pub a_unit_is_copied_below_one : Takes (runs shuffles) (λ s t. Advancing (runs shuffles) (codes "dup_x1") s t × Shows 3 (primitive_value ∷ null_value ∷ primitive_value ∷ []) t)
a_unit_is_copied_below_one =
    let step = advance (runs shuffles) 0 (main_of shuffles refl) outside 2 (null_value ∷ primitive_value ∷ []) (world shuffles refl) _ refl _ refl refl primitive_value _ _ (refl, refl) refl in
    takes _ _ _ _ (at_shuffle 2 _ refl) (advances step.at step.step) (step, shows _ _ _)

pub a_unit_is_copied_below_two : Takes (runs shuffles) (λ s t. Advancing (runs shuffles) (codes "dup_x2") s t × Shows 4 (primitive_value ∷ primitive_value ∷ null_value ∷ primitive_value ∷ []) t)
a_unit_is_copied_below_two =
    let step = advance (runs shuffles) 0 (main_of shuffles refl) outside 3 (primitive_value ∷ null_value ∷ primitive_value ∷ []) (world shuffles refl) _ refl _ refl refl primitive_value _ _ (refl, refl) refl in
    takes _ _ _ _ (at_shuffle 3 _ refl) (advances step.at step.step) (step, shows _ _ _)

pub two_units_are_copied : Takes (runs shuffles) (λ s t. Advancing (runs shuffles) (codes "dup2") s t × Shows 5 (primitive_value ∷ primitive_value ∷ null_value ∷ primitive_value ∷ null_value ∷ primitive_value ∷ []) t)
two_units_are_copied =
    let step = advance (runs shuffles) 0 (main_of shuffles refl) outside 4 (primitive_value ∷ primitive_value ∷ null_value ∷ primitive_value ∷ []) (world shuffles refl) _ refl _ refl refl primitive_value _ _ (refl, refl) refl in
    takes _ _ _ _ (at_shuffle 4 _ refl) (advances step.at step.step) (step, shows _ _ _)

pub two_units_are_copied_below_one : Takes (runs shuffles) (λ s t. Advancing (runs shuffles) (codes "dup2_x1") s t × Shows 6 (primitive_value ∷ primitive_value ∷ null_value ∷ null_value ∷ primitive_value ∷ primitive_value ∷ null_value ∷ primitive_value ∷ []) t)
two_units_are_copied_below_one =
    let step = advance (runs shuffles) 0 (main_of shuffles refl) outside 5 (primitive_value ∷ primitive_value ∷ null_value ∷ primitive_value ∷ null_value ∷ primitive_value ∷ []) (world shuffles refl) _ refl _ refl refl primitive_value _ _ (refl, refl) refl in
    takes _ _ _ _ (at_shuffle 5 _ refl) (advances step.at step.step) (step, shows _ _ _)

pub two_units_are_copied_below_two : Takes (runs shuffles) (λ s t. Advancing (runs shuffles) (codes "dup2_x2") s t × Shows 7 (primitive_value ∷ primitive_value ∷ null_value ∷ null_value ∷ null_value ∷ primitive_value ∷ primitive_value ∷ primitive_value ∷ null_value ∷ primitive_value ∷ []) t)
two_units_are_copied_below_two =
    let step = advance (runs shuffles) 0 (main_of shuffles refl) outside 6 (primitive_value ∷ primitive_value ∷ null_value ∷ null_value ∷ primitive_value ∷ primitive_value ∷ null_value ∷ primitive_value ∷ []) (world shuffles refl) _ refl _ refl refl primitive_value _ _ (refl, refl) refl in
    takes _ _ _ _ (at_shuffle 6 _ refl) (advances step.at step.step) (step, shows _ _ _)

pub two_units_are_swapped : Takes (runs shuffles) (λ s t. Advancing (runs shuffles) (codes "swap") s t × Shows 8 (primitive_value ∷ primitive_value ∷ null_value ∷ null_value ∷ null_value ∷ primitive_value ∷ primitive_value ∷ primitive_value ∷ primitive_value ∷ null_value ∷ []) t)
two_units_are_swapped =
    let step = advance (runs shuffles) 0 (main_of shuffles refl) outside 7 (primitive_value ∷ primitive_value ∷ null_value ∷ null_value ∷ null_value ∷ primitive_value ∷ primitive_value ∷ primitive_value ∷ null_value ∷ primitive_value ∷ []) (world shuffles refl) _ refl _ refl refl primitive_value _ _ (refl, refl) refl in
    takes _ _ _ _ (at_shuffle 7 _ refl) (advances step.at step.step) (step, shows _ _ _)
