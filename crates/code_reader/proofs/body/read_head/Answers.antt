use Rattle.std.proofs.Common.{arith}
use Rattle.code_reader.proofs.Taken.{no_more}
use Rattle.code_reader.proofs.body.read_head.Goals as goal

pub returns-clause-inside : goal.returns-clause-inside
returns-clause-inside c =
    let most = no_more c.in_ok-long.long c.code_length.new.input c.take.new.self c.in_ok-bytes.bytes.now c.in_ok-bytes.ensures.reads in
    omega (arith, most, c.offset-at.ensures.fits)
