use Rattle.std.proofs.Common.{◌≡◌, ℕ, ◌-◌, ◌≤◌, List, length, take, sym, ◌∙◌, ap, arith, inl, inr}
use Rattle.std.proofs.lemmas.Bool.{cases_lt}
use Rattle.std.proofs.lemmas.List.{length-map, take_all}
use Rattle.std.specs.Global.{Vec}
use Rattle.program_index.proofs.text_index.TextIndex.truncate.Goals as goal

-- all turns are over, and where there was none, the texts are no more than those to be kept
pub returns : goal.returns
returns c =
    let texts = c.args.self.now in
    let dropped = c.loop-dropped.dropped in
    let left = c.loop-dropped.invariant.left in
    let count : c.len-dropped-end.result ≡ length texts =
    omega (arith, c.len-dropped-end.ensures, length-map c.self.inside.texts.items (λ (v : Vec ℕ). v.items), ap (length {A = List ℕ}) c.self.view_is) in
    elim (cases_lt c.args.len dropped) [
      | inl some ↦
          let until = c.loop-dropped.invariant.until some in
          let kept : length texts - (dropped - c.args.len) ≡ c.args.len = omega (arith, some, until, count, c.loop-dropped-test.false) in
          left ∙ ap (λ (n : ℕ). take n texts) kept
      | inr none ↦
          let all : length texts ≤ length texts - (dropped - c.args.len) = omega (arith, none) in
          let few : length texts ≤ c.args.len = omega (arith, none, count, c.loop-dropped-test.false) in
          left ∙ take_all _ texts all ∙ sym (take_all c.args.len texts few)
    ]
