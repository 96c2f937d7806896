use Rattle.std.proofs.Common.{◌≡◌, ℕ, ◌+◌, List, set, get_or, ap, sym, ◌∙◌, refl, arith}
use Rattle.std.specs.Prelude.{bit_or}
use Rattle.std.specs.Int.Bits.{or_zero_r}
use Rattle.std.proofs.lemmas.List.{get_or_default, length-set, take_all}
use Rattle.bit_rows.specs.Words.{word_at}
use Rattle.bit_rows.proofs.Places.{added_more, word_none}
use Rattle.bit_rows.proofs.words.add_bits.Goals as goal

pub loop-k-init : goal.loop-k-init
loop-k-init c = record {
  count = refl;
  added = λ place.
      let words = c.args.words.now.items in
      sym (ap (λ (w : ℕ). bit_or (get_or words place 0) w) (word_none c.args.start place) ∙ or_zero_r (get_or words place 0));
}

pub loop-k-preserved : goal.loop-k-preserved
loop-k-preserved c =
    let old = c.args.words.now.items in
    let now = c.loop-k.words.items in
    let at = c.args.start + c.loop-k.k in
    let word = get_or c.args.more.now c.loop-k.k 0 in
    let within = c.requires in
    let read : get_or now at 0 ≡ c.index_mut.result.now =
    get_or_default now at 0 c.index_mut.result.now (omega (arith, c.loop-k.invariant.count)) ∙ sym c.index_mut.ensures.value in
    let added = added_more old now c.args.start c.loop-k.k word c.args.more.now c.loop-k-test.true (omega (arith, c.loop-k.invariant.count)) refl c.loop-k.invariant.added in
    record {
      count = length-set now at (bit_or c.index_mut.result.now word) ∙ c.loop-k.invariant.count;
      added = λ place. ap (λ (w : ℕ). get_or (set now at (bit_or w word)) place 0) (sym read) ∙ added place;
    }

pub returns-clause-added : goal.returns-clause-added
returns-clause-added c place =
    c.loop-k.invariant.added place
    ∙ ap (λ (ws : List ℕ). bit_or (get_or c.args.words.now.items place 0) (word_at c.args.start ws place)) (take_all c.loop-k.k c.args.more.now c.loop-k-test.false)
