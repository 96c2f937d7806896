use Rattle.std.proofs.Common.{List, subst}
use Rattle.std.proofs.lemmas.Option.{IfSome_then}
use Rattle.program_index.specs.FirstPlaces.{IsFirstPlace, StandsNowhere}
use Rattle.program_index.specs.MemberKeys.{Key, key_of}
use Rattle.program_index.proofs.SpelledKeys.{if_none_more, if_none, no_name, no_descriptor, first_spelled, nowhere_spelled}
use Rattle.program_index.proofs.member_index.MemberIndex.first.Goals as goal

pub returns-in_err-name-clause-none : goal.returns-in_err-name-clause-none
returns-in_err-name-clause-none c =
    let key = key_of c.args.key in
    let none = no_name c.self.inside.texts c.self.inside.places c.self.invariant.has key c.in_err-name.ensures.none in
    if_none c.from_residual.result _ (subst (λ (keys : List Key). StandsNowhere keys key) c.self.view_is none)

pub returns-in_err-descriptor-clause-none : goal.returns-in_err-descriptor-clause-none
returns-in_err-descriptor-clause-none c =
    let key = key_of c.args.key in
    let none = no_descriptor c.self.inside.texts c.self.inside.places c.self.invariant.has key c.in_err-descriptor.ensures.none in
    if_none c.from_residual-in_err-descriptor.result _ (subst (λ (keys : List Key). StandsNowhere keys key) c.self.view_is none)

pub returns-clause-found : goal.returns-clause-found
returns-clause-found c =
    let key = key_of c.args.key in
    let name = c.in_ok-name.ensures in
    let descriptor = c.in_ok-descriptor.ensures in
    IfSome_then c.first.result c.first.ensures.found (λ place is.
    subst (λ (keys : List Key). IsFirstPlace keys key place) c.self.view_is
    (first_spelled c.self.inside.texts c.self.inside.places c.self.invariant.has key _ _ name.found descriptor.found name.only descriptor.only place is))

pub returns-clause-none : goal.returns-clause-none
returns-clause-none c =
    let key = key_of c.args.key in
    let name = c.in_ok-name.ensures in
    let descriptor = c.in_ok-descriptor.ensures in
    if_none_more c.first.result _ (StandsNowhere c.args.self.now key) (λ none.
    subst (λ (keys : List Key). StandsNowhere keys key) c.self.view_is
    (nowhere_spelled c.self.inside.texts c.self.inside.places c.self.invariant.has key _ _ name.found descriptor.found name.only descriptor.only none))
    c.first.ensures.none
