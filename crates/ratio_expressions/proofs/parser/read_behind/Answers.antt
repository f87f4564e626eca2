use Rattle.ratio_expressions.proofs.parser.read_behind.Goals as goal

pub returns-in_ok-settle_marks-in-Comma : goal.returns-in_ok-settle_marks-in-Comma
returns-in_ok-settle_marks-in-Comma c =
    rw (c.in-Comma.is, ← c.in_ok-settle_marks-in-Comma.ensures) (c.read_comma.ensures c.settle_marks-in-Comma.new.steps.items)
