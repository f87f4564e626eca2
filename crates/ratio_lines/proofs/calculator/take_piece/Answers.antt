use Rattle.ratio_lines.proofs.DeviceCalls.{gathers_written}
use Rattle.ratio_lines.proofs.calculator.take_piece.Goals as goal

pub returns-clause-answered : goal.returns-clause-answered
returns-clause-answered g c =
    let answered = c.in_ok-answer_piece.ensures.answered in
    record {
      bytes = answered.bytes;
      are = answered.are;
      gathers = gathers_written _ _ _ c.args.gathered.now _ _ answered.bytes _ _ answered.gathers.1 answered.gathers.2 c.write_out.ensures.written c.write_out.ensures.none_wait;
    }
