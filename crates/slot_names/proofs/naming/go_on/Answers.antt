use Rattle.std.proofs.Common.{Some, sym, ◌∙◌, arith}
use Rattle.std.specs.Result.{OnOk}
use Rattle.std.proofs.lemmas.Option.{slice_get_within}
use Rattle.std.proofs.lemmas.Result.{on_ok_weaker}
use Rattle.slot_names.proofs.EnteredNodes.{GoesOnOne, entry_read, entry_there, followed_elsewhere, followed_nowhere, goes_on}
use Rattle.slot_names.proofs.naming.go_on.Goals as goal

pub returns-in_default-clause-followed : goal.returns-in_default-clause-followed
returns-in_default-clause-followed c =
    followed_nowhere c.args.method.now c.args.arrivals.now c.args.naming.now.entries.items c.args.from c.args.offset c.in_default.ensures.place

pub returns-then-not-is_from-clause-followed : goal.returns-then-not-is_from-clause-followed
returns-then-not-is_from-clause-followed c =
    followed_elsewhere c.args.method.now c.args.arrivals.now c.args.naming.now.entries.items c.args.from c.args.offset c.in-Some.place c.is_from.result c.requires.order
    c.in-Some.ensures.place c.is_from.ensures c.if-not-is_from.true

pub index-requires : goal.index-requires
index-requires c =
    let entered = c.requires.entered in
    omega (arith, slice_get_within c.args.naming.now.entries.items c.args.from (Some entered.entry) entered.stands)

pub returns-in_default-index-clause-followed : goal.returns-in_default-index-clause-followed
returns-in_default-index-clause-followed c =
    absurd (entry_there c.args.naming.now.entries.items c.args.from c.index.result.now c.requires.entered c.index.ensures c.in_default-index.is)

pub moved_row-requires : goal.moved_row-requires
moved_row-requires c =
    let known = entry_read c.args.naming.now.entries.items c.args.from c.index.result.now c.in-Some-index.entry c.requires.entered c.index.ensures c.in-Some-index.is in
    (c.requires.naming.tells c.args.from c.requires.goes.node c.in-Some-index.entry c.requires.goes.stands known).made

-- the node is entered with its row
gone_on : (c : goal.After-enter) → OnOk c.enter.result (GoesOnOne c.args.method.now c.args.arrivals.now c.args.naming.now c.enter.new.self c.args.from c.args.offset)
gone_on c =
    let known = entry_read c.args.naming.now.entries.items c.args.from c.index.result.now c.in-Some-index.entry c.requires.entered c.index.ensures c.in-Some-index.is in
    on_ok_weaker c.enter.result
    (goes_on c.args.method.now c.args.arrivals.now c.args.naming.now c.enter.new.self c.moved_row.new.rows c.args.from c.args.offset c.in-Some.place c.in_ok-row.row c.args.moves.now
    c.in-Some-index.entry c.requires.order c.requires.arrivals c.requires.goes c.requires.naming known c.in-Some.ensures.place (sym c.is_from.ensures ∙ c.if-not-is_from.false)
    c.in_ok-row.ensures) c.enter.ensures

pub returns-clause-naming : goal.returns-clause-naming
returns-clause-naming c = on_ok_weaker c.enter.result (λ one. one.naming) (gone_on c)

pub returns-clause-grows : goal.returns-clause-grows
returns-clause-grows c = on_ok_weaker c.enter.result (λ one. one.grows) (gone_on c)

pub returns-clause-followed : goal.returns-clause-followed
returns-clause-followed c = on_ok_weaker c.enter.result (λ one. one.followed) (gone_on c)
