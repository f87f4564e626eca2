use Rattle.std.proofs.Common.{sym, refl, [], Some, None, true, false, lit<}
use Rattle.std.proofs.lemmas.Str.Pattern.{strip_prefix_char}
use Rattle.ratio_core.specs.Reading.{minus}
use Rattle.num_rational.proofs.PaddingLemmas.{no_minus, writes_plain}
use Rattle.num_rational.proofs.printing.write_base_ten.Goals as goal

pub returns-in-Some-clause-plain : goal.returns-in-Some-clause-plain
returns-in-Some-clause-plain g c =
    writes_plain g.W.Write.write_str_gives c.args.f.now c.pad_integral.new.self c.pad_integral.result true [] c.in-Some.digits.now c.args.text.now
    (λ _. sym (strip_prefix_char minus c.args.text.now (Some c.in-Some.digits) c.in-Some.ensures.cases (lit< tt))) c.pad_integral.ensures.styled

pub returns-in-None-clause-plain : goal.returns-in-None-clause-plain
returns-in-None-clause-plain g c =
    writes_plain g.W.Write.write_str_gives c.args.f.now c.pad_integral-in-None.new.self c.pad_integral-in-None.result false [] c.args.text.now c.args.text.now
    (λ _. refl) c.pad_integral-in-None.ensures.styled

pub returns-in-None-clause-styled : goal.returns-in-None-clause-styled
returns-in-None-clause-styled g c =
    rw (no_minus c.args.text.now (strip_prefix_char minus c.args.text.now None c.in-None.ensures.cases (lit< tt))) c.pad_integral-in-None.ensures.styled
