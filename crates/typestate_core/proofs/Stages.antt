-- Words ask for numbers that are in their ranges.
use Rattle.std.proofs.Common.{◌≤◌, ℕ, List, Option, Some, None, sym, subst, arith}
use Rattle.command_words.specs.Command.{option_in}
use Rattle.command_words.specs.Requests.{AsksFor, IsNumberBy, NumberRule, Wanted, depth_rule, fact_limit_rule, stages_rule}
use Rattle.report_analysis.specs.Stages.{AreInRange}
use Rattle.typestate_core.specs.Numbers.{asked_by}

-- a number by a rule is in its range, if the one that stands where none is given is
number_from : (r : NumberRule) → r.least ≤ r.otherwise → (value : Option (List ℕ)) (n : ℕ) → IsNumberBy r value n → r.least ≤ n
number_from r le None n is = subst (λ (k : ℕ). r.least ≤ k) (sym is) le
number_from r le (Some text) n is = is.at_least

number_to : (r : NumberRule) → r.otherwise ≤ r.most → (value : Option (List ℕ)) (n : ℕ) → IsNumberBy r value n → n ≤ r.most
number_to r le None n is = subst (λ (k : ℕ). k ≤ r.most) (sym is) le
number_to r le (Some text) n is = is.at_most

pub numbers_in_range : (words : List (List ℕ)) (w : Wanted) → AsksFor words w → AreInRange (asked_by w)
numbers_in_range words w asks =
    let from : 1 ≤ w.stages = number_from stages_rule (omega arith) (option_in words stages_rule.name) w.stages asks.stages in
    let to : w.stages ≤ stages_rule.most = number_to stages_rule (omega arith) (option_in words stages_rule.name) w.stages asks.stages in
    let deep : w.depth ≤ 3 = number_to depth_rule (omega arith) (option_in words depth_rule.name) w.depth asks.depth in
    let limit : 1 ≤ w.fact_limit = number_from fact_limit_rule (omega arith) (option_in words fact_limit_rule.name) w.fact_limit asks.fact_limit in
    record { some = from; stages = omega (arith, to); depth = deep; limit = omega (arith, limit) }
