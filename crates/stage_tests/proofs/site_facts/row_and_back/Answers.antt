use Rattle.stage_facts.specs.Plain.{fact_of}
use Rattle.stage_tests.proofs.site_facts.row_and_back.Goals as goal

pub unpack_fact-read-requires : goal.unpack_fact-read-requires
unpack_fact-read-requires c = (fact_of c.args.fact.now, c.in_ok-row.ensures.row)
