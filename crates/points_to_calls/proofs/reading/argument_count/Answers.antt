use Rattle.std.proofs.Common.{◌∙◌}
use Rattle.program_model.proofs.Bridges.{zip_length}
use Rattle.points_to_calls.proofs.reading.argument_count.Goals as goal

pub returns : goal.returns
returns c = λ site at. c.len.ensures ∙ zip_length _ c.call_of.result.now.arguments site.arguments (c.call_of.ensures site at).arguments
