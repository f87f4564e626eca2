use Rattle.std.proofs.Common.{Err, Ok, refl}
use Rattle.ratio_decimal.specs.declared.reading.DecimalRefusal.TheVariants.{NotDecimal, NotHeld}
use Rattle.ratio_c.proofs.decimal.DecimalTextsReader.read.Goals as goal

pub returns-in-Ok : goal.returns-in-Ok
returns-in-Ok g c = let v = g.T.Integer.value in record { read = Ok (v c.in-Ok.x.0, v c.in-Ok.x.1); is_read = c.in-Ok.ensures; is_said = refl }

pub returns-in-Err-NotDecimal : goal.returns-in-Err-NotDecimal
returns-in-Err-NotDecimal g c = record { read = Err NotDecimal; is_read = rw (c.in-Err-NotDecimal.is, c.in-Err-NotDecimal.field-0-is) at c.from_decimal.ensures; is_said = refl }

pub returns-in-Err-NotHeld : goal.returns-in-Err-NotHeld
returns-in-Err-NotHeld g c = record { read = Err NotHeld; is_read = rw (c.in-Err-NotHeld.is, c.in-Err-NotHeld.field-0-is) at c.from_decimal.ensures; is_said = refl }
