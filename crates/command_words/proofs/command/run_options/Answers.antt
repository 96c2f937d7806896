use Rattle.std.proofs.Common.{codes, ◌∙◌, map, refl, ap}
use Rattle.clap.specs.Walk.{rule_of}
use Rattle.command_words.specs.Command.{flag_named, option_named, required_option}
use Rattle.command_words.proofs.Parsing.{more, none, rules_are}
use Rattle.command_words.proofs.command.run_options.Goals as goal

pub returns : goal.returns
returns c = ap (map rule_of) c.in_ok-options.ensures.items ∙ rules_are (more c.required_option.result (required_option (codes "classes")) _ _ c.required_option.ensures
    (more c.required_option-2.result (required_option (codes "property")) _ _ c.required_option-2.ensures
    (more c.required_option-3.result (required_option (codes "entry")) _ _ c.required_option-3.ensures
    (more c.option_named.result (option_named (codes "stubs")) _ _ c.option_named.ensures
    (more c.option_named-2.result (option_named (codes "stages")) _ _ c.option_named-2.ensures
    (more c.option_named-3.result (option_named (codes "depth")) _ _ c.option_named-3.ensures
    (more c.option_named-4.result (option_named (codes "fact-limit")) _ _ c.option_named-4.ensures
    (more c.option_named-5.result (option_named (codes "pair-limit")) _ _ c.option_named-5.ensures
    (more c.flag_named.result (flag_named (codes "trace")) _ _ c.flag_named.ensures
    (more c.flag_named-2.result (flag_named (codes "print-cert")) _ _ c.flag_named-2.ensures
    (more c.option_named-6.result (option_named (codes "sample")) _ _ c.option_named-6.ensures none)))))))))))
