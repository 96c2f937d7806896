-- Lines are collected in no order: what a step adds is said as in the ground (`AreAdded`), and `Collecting.antt` leads from there to loops over numbers. That the
-- lines are those that are told is proved once of all (`Told.antt`), and their order once of any list (`InOrder.antt`).
mod Collecting
mod Holding
mod InOrder
mod Claiming
mod Told
