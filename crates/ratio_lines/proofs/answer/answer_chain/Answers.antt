use Rattle.std.proofs.Common.{sym, ◌∙◌}
use Rattle.ratio_lines.proofs.answer.answer_chain.Goals as goal

pub returns-in-None : goal.returns-in-None
returns-in-None c =
    let chained = c.in-None.ensures in
    rw (sym c.is_chain.ensures ∙ c.if-not-is_chain.false, sym c.operator_named.ensures ∙ c.in-Some.is, chained.named, chained.cmp_last) (rw chained.named at c.answer_texts.ensures)
