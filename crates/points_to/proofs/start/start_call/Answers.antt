use Rattle.std.proofs.Common.{refl, ◌∙◌, arith}
use Rattle.points_to_rules.specs.Facts.{kept_objects}
use Rattle.points_to.proofs.StartParts.{only_start_call, start_catch_chain, start_catch_chain_at, start_site, start_site_at}
use Rattle.points_to.proofs.start.start_call.Goals as goal

pub catch_chain-requires : goal.catch_chain-requires
catch_chain-requires c =
    (start_catch_chain, start_catch_chain_at c.place.new.self c.from_vec.result c.in_ok-outside.outside (c.from_vec.ensures ∙ c.new.ensures.items) (c.in_ok-outside.ensures.stands kept_objects refl))

pub call-requires : goal.call-requires
call-requires c =
    let catch_chain = start_catch_chain_at c.place.new.self c.from_vec.result c.in_ok-outside.outside (c.from_vec.ensures ∙ c.new.ensures.items) (c.in_ok-outside.ensures.stands kept_objects refl) in (
      start_site c.args.entry,
      start_site_at c.catch_chain.new.self c.args.entry c.from_vec-2.result c.from_vec-3.result c.in_ok-catch_chain.catch_chain (c.from_vec-2.ensures ∙ c.new-2.ensures.items)
          (c.from_vec-3.ensures ∙ c.new-3.ensures.items) (c.in_ok-catch_chain.ensures.stands start_catch_chain catch_chain),
    )

pub returns-clause-number : goal.returns-clause-number
returns-clause-number c =
    let catch_chain = start_catch_chain_at c.place.new.self c.from_vec.result c.in_ok-outside.outside (c.from_vec.ensures ∙ c.new.ensures.items) (c.in_ok-outside.ensures.stands kept_objects refl) in
    let call = start_site_at c.catch_chain.new.self c.args.entry c.from_vec-2.result c.from_vec-3.result c.in_ok-catch_chain.catch_chain (c.from_vec-2.ensures ∙ c.new-2.ensures.items)
    (c.from_vec-3.ensures ∙ c.new-3.ensures.items) (c.in_ok-catch_chain.ensures.stands start_catch_chain catch_chain) in
    record { site = start_site c.args.entry; stands = c.in_ok-call.ensures.stands (start_site c.args.entry) call; at = refl }

pub returns-clause-call : goal.returns-clause-call
returns-clause-call c =
    let catch_chain = start_catch_chain_at c.place.new.self c.from_vec.result c.in_ok-outside.outside (c.from_vec.ensures ∙ c.new.ensures.items) (c.in_ok-outside.ensures.stands kept_objects refl) in
    let call = start_site_at c.catch_chain.new.self c.args.entry c.from_vec-2.result c.from_vec-3.result c.in_ok-catch_chain.catch_chain (c.from_vec-2.ensures ∙ c.new-2.ensures.items)
    (c.from_vec-3.ensures ∙ c.new-3.ensures.items) (c.in_ok-catch_chain.ensures.stands start_catch_chain catch_chain) in
    let none = c.in_ok-catch_chain.ensures.calls ∙ c.in_ok-outside.ensures.calls ∙ c.requires in
    only_start_call c.call.new.self.calls c.in_ok-call.call.0 (omega (arith, c.in_ok-call.ensures.one, none)) (c.in_ok-call.ensures.added ∙ none) (start_site c.args.entry)
    (c.in_ok-call.ensures.stands (start_site c.args.entry) call) refl
