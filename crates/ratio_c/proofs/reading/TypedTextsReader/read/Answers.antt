use Rattle.std.proofs.Common.{Err, Ok, refl}
use Rattle.ratio_decimal.specs.declared.typed.TextRefusal.TheVariants.{NotHeld, NotNumber, ZeroDenominator}
use Rattle.ratio_c.proofs.reading.TypedTextsReader.read.Goals as goal

pub returns-in-Ok : goal.returns-in-Ok
returns-in-Ok g c = let v = g.T.Integer.value in record { read = Ok (v c.in-Ok.x.0, v c.in-Ok.x.1); is_read = c.in-Ok.ensures; is_said = refl }

pub returns-in-Err-NotNumber : goal.returns-in-Err-NotNumber
returns-in-Err-NotNumber g c = record { read = Err NotNumber; is_read = rw (c.in-Err-NotNumber.is, c.in-Err-NotNumber.field-0-is) at c.from_text.ensures; is_said = refl }

pub returns-in-Err-ZeroDenominator : goal.returns-in-Err-ZeroDenominator
returns-in-Err-ZeroDenominator g c =
    record { read = Err ZeroDenominator; is_read = rw (c.in-Err-ZeroDenominator.is, c.in-Err-ZeroDenominator.field-0-is) at c.from_text.ensures; is_said = refl }

pub returns-in-Err-NotHeld : goal.returns-in-Err-NotHeld
returns-in-Err-NotHeld g c = record { read = Err NotHeld; is_read = rw (c.in-Err-NotHeld.is, c.in-Err-NotHeld.field-0-is) at c.from_text.ensures; is_said = refl }
