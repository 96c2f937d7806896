use Rattle.machine_laws.proofs.ProgressArrays.{loads_element, stores_element, makes_arrays}
use Rattle.machine_laws.proofs.progress.arrays_go_on.Goals as goal

pub returns : goal.returns
returns c = record {
  loads = λ x s at kept units operands. loads_element x s (record { at = at; kept = kept; units = units; operands = operands });
  stores = λ x s at kept units operands. stores_element x s (record { at = at; kept = kept; units = units; operands = operands });
  makes = λ x s at kept units operands. makes_arrays x s (record { at = at; kept = kept; units = units; operands = operands });
}
