use Rattle.command_words.specs.Options.{IsRunCommand}
use Rattle.command_words.proofs.Parsing.{command_is}
use Rattle.command_words.proofs.command.run_command.Goals as goal

pub returns : goal.returns
returns c =
    let bare = c.bare_command.ensures in
    let made : IsRunCommand c.in_ok-command.command = record {
      start = c.bare_command.result;
      arguments = c.in_ok-options.options.items;
      bare = bare.bare;
      no_arguments = bare.no_arguments;
      no_groups = bare.no_groups;
      no_globals = bare.no_globals;
      no_exception = bare.no_exception;
      rules = c.in_ok-options.ensures;
      chain = c.in_ok-command.ensures;
    } in
    record { app = command_is c.in_ok-command.command made; made = made }
