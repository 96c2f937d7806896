use Rattle.std.proofs.Common.{get_or, sym, ◌∙◌, arith}
use Rattle.std.specs.Result.{OnOk}
use Rattle.std.proofs.lemmas.Option.{slice_get-get_or}
use Rattle.std.proofs.lemmas.Result.{on_ok_weaker}
use Rattle.slot_names.specs.declared.arrivals.Arrival.TheVariants.{Nothing}
use Rattle.slot_names.proofs.EnteredNodes.{EntersOne, Grows-itself, entered_one, tells_root}
use Rattle.slot_names.proofs.NotedArrivals.{stands_get_or}
use Rattle.slot_names.proofs.ReachedNodes.{no_root}
use Rattle.slot_names.proofs.naming.begin_at.Goals as goal

-- the node is entered with its root
begun : (c : goal.After-enter) → OnOk c.enter.result (EntersOne c.args.method.now c.args.naming.now c.enter.new.self c.args.place)
begun c =
    let l = c.args.method.now in
    let place = c.args.place in
    let arrivals = c.args.arrivals.now in
    let n = get_or c.as_slice.result.now place c.index-as_slice-place.result in
    let stands = stands_get_or l c.as_slice.result.now place c.index-as_slice-place.result c.as_slice.ensures c.requires.there c.index-as_slice-place.is in
    let here = slice_get-get_or arrivals place Nothing (omega (arith, c.requires.arrivals.sound.count, c.requires.there)) in
    let told = tells_root l arrivals c.args.naming.now.rows place n (get_or arrivals place Nothing) c.in-Some.root c.requires.order c.requires.arrivals stands here
    (sym c.root_of.ensures ∙ c.in-Some.is) in
    on_ok_weaker c.enter.result (entered_one l c.args.naming.now c.enter.new.self place n _ c.requires.naming stands told) c.enter.ensures

pub returns-in_default-clause-grows : goal.returns-in_default-clause-grows
returns-in_default-clause-grows c = Grows-itself c.args.naming.now

pub returns-in_default-clause-root : goal.returns-in_default-clause-root
returns-in_default-clause-root c =
    let l = c.args.method.now in
    let place = c.args.place in
    let arrivals = c.args.arrivals.now in
    let n = get_or c.as_slice.result.now place c.index-as_slice-place.result in
    let stands = stands_get_or l c.as_slice.result.now place c.index-as_slice-place.result c.as_slice.ensures c.requires.there c.index-as_slice-place.is in
    let here = slice_get-get_or arrivals place Nothing (omega (arith, c.requires.arrivals.sound.count, c.requires.there)) in
    no_root l arrivals c.args.naming.now.entries.items place n (get_or arrivals place Nothing) stands here (sym c.root_of.ensures ∙ c.in_default.is)

pub returns-clause-naming : goal.returns-clause-naming
returns-clause-naming c = on_ok_weaker c.enter.result (λ one. one.naming) (begun c)

pub returns-clause-grows : goal.returns-clause-grows
returns-clause-grows c = on_ok_weaker c.enter.result (λ one. one.grows) (begun c)

pub returns-clause-root : goal.returns-clause-root
returns-clause-root c = on_ok_weaker c.enter.result (λ one. record { each = λ m b r at h is. one.entered }) (begun c)
