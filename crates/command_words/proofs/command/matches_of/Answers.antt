use Rattle.std.proofs.Common.{map, string_bytes, Global}
use Rattle.command_words.proofs.Parsing.{matches_told, error_told}
use Rattle.command_words.proofs.command.matches_of.Goals as goal

pub returns-in-Ok-clause-found : goal.returns-in-Ok-clause-found
returns-in-Ok-clause-found c =
    let made = c.in_ok-command.ensures in
    let parse = c.try_get_matches_from in
    matches_told c.in_ok-command.command made.app (map (string_bytes {Z = Global}) c.args.words.now) parse.result parse.ensures.kinds
    made.made c.in-Ok.matches c.in-Ok.is c.in-Ok.ensures.parsed c.in-Ok.ensures.matches

pub returns-in-Err-clause-fault : goal.returns-in-Err-clause-fault
returns-in-Err-clause-fault c =
    let parse = c.try_get_matches_from in
    error_told c.in_ok-command.command c.in_ok-command.ensures.app (map (string_bytes {Z = Global}) c.args.words.now) parse.result parse.ensures.kinds
    c.in-Err.error c.failure_of.result c.in-Err.is c.failure_of.ensures
