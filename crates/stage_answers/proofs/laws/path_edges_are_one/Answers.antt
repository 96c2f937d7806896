use Rattle.std.proofs.Common.{sym}
use Rattle.stage_answers.proofs.Listed.{listed_edge}
use Rattle.stage_answers.proofs.OneSetting.{edge_same}
use Rattle.stage_answers.proofs.laws.path_edges_are_one.Goals as goal

pub returns : goal.returns
returns c = λ x facts methods w v closed only all of_w of_v site stage depth e. (
  (λ d. edge_same x facts w v of_w of_v site stage depth 0 e ((listed_edge x facts methods w 0 closed only all e).0 d)),
  (λ d. (listed_edge x facts methods w 0 closed only all e).1 (edge_same x facts v w of_v of_w (sym site) (sym stage) (sym depth) 0 e d)),
)
