use Rattle.std.proofs.Common.{length, sym, ap, ◌∙◌, arith}
use Rattle.bit_rows.specs.declared.set.NumberSet.{NumberSet}
use Rattle.bit_rows.specs.Sets.{numbers_of}
use Rattle.site_rows.proofs.Turns.{some_long, waiting_taken, within_taken}
use Rattle.site_rows.proofs.rows.SiteRows.take.Goals as goal

pub returns-in_default-clause-sound : goal.returns-in_default-clause-sound
returns-in_default-clause-sound c = record {
  counted = c.requires.sound.counted;
  passed = c.requires.sound.passed;
  within = c.requires.sound.within;
  waiting = record { each = λ q some. absurd (some (c.in_default.ensures.none q)) };
}

pub returns-clause-taken : goal.returns-clause-taken
returns-clause-taken c = record {
  sites = c.take_fresh-sites.ensures.given;
  passes = c.take_fresh-sites.ensures.passes;
  more =
      (let own = c.count.ensures ∙ ap (λ (s : NumberSet). length (numbers_of s)) c.take_fresh-sites.ensures.given in
      let some = some_long _ c.in-Some.ensures.some in
      omega arith);
}

pub returns-clause-sound : goal.returns-clause-sound
returns-clause-sound c =
    let old = c.args.self.now.rows.items in
    let new = c.take_fresh-sites.new.rows.items in
    let passes = c.take_fresh-sites.ensures.passes in
    let own = c.count.ensures ∙ ap (λ (s : NumberSet). length (numbers_of s)) c.take_fresh-sites.ensures.given in
    record {
      counted = c.requires.sound.counted ∙ sym passes.pairs;
      passed = (let was = c.requires.sound.passed in let p = passes.pairs in let f = passes.fresh_ones in omega arith);
      within = within_taken old new c.in-Some.place passes c.requires.sound.within;
      waiting = waiting_taken old new c.in-Some.place passes c.next_place.new.waiting.items c.in-Some.ensures;
    }
