use Rattle.slot_names.proofs.rows.Rows.+place.Given as goal

abbrev pub decreases-place : goal.decreases-place
decreases-place l = l.slot
