use Rattle.std.proofs.Common.{codes, map, string_bytes, Global}
use Rattle.clap.proofs.CallerLemmas.{some_of_text}
use Rattle.command_words.proofs.Parsing.{option_read, same_modes, value_read}
use Rattle.command_words.proofs.command.values_of.Goals as goal

pub unwrap-requires : goal.unwrap-requires
unwrap-requires c = some_of_text _ c.get_str-property.result _ c.get_str-property.ensures c.in_ok-matches.ensures.found.property

pub unwrap-requires-2 : goal.unwrap-requires-2
unwrap-requires-2 c = some_of_text _ c.get_str-start.result _ c.get_str-start.ensures c.in_ok-matches.ensures.found.start

pub returns-clause-values : goal.returns-clause-values
returns-clause-values c =
    let words = map (string_bytes {Z = Global}) c.args.words.now in
    let m = c.in_ok-matches.matches in
    let are = c.in_ok-matches.ensures.found in
    record {
      form = are.form;
      property = value_read words m are (codes "property") c.get_str-property.result c.get_str-property.ensures c.unwrap.result c.unwrap.ensures;
      start = value_read words m are (codes "entry") c.get_str-start.result c.get_str-start.ensures c.unwrap-2.result c.unwrap-2.ensures;
      stubs = option_read words m are (codes "stubs") c.get_str.result c.get_str.ensures;
      stages = option_read words m are (codes "stages") c.get_str-2.result c.get_str-2.ensures;
      depth = option_read words m are (codes "depth") c.get_str-3.result c.get_str-3.ensures;
      fact_limit = option_read words m are (codes "fact-limit") c.get_str-4.result c.get_str-4.ensures;
      pair_limit = option_read words m are (codes "pair-limit") c.get_str-5.result c.get_str-5.ensures;
      modes = same_modes _ _ _ _ _ _ (option_read words m are (codes "trace") c.get_str-6.result c.get_str-6.ensures)
          (option_read words m are (codes "print-cert") c.get_str-7.result c.get_str-7.ensures)
          (option_read words m are (codes "sample") c.get_str-8.result c.get_str-8.ensures);
    }
