use Rattle.ratio_core.proofs.LeadingDigits.{few_10, few_16, few_36}
use Rattle.ratio_core.proofs.text.reading.most_digits.Goals as goal

pub returns-then-radix-le10-clause-few : goal.returns-then-radix-le10-clause-few
returns-then-radix-le10-clause-few c = few_10 c.args.radix c.if-radix-le10.true

pub returns-then-radix-le16-clause-few : goal.returns-then-radix-le16-clause-few
returns-then-radix-le16-clause-few c = few_16 c.args.radix c.if-radix-le16.true

pub returns-else-radix-le16-clause-few : goal.returns-else-radix-le16-clause-few
returns-else-radix-le16-clause-few c = few_36 c.args.radix c.requires
