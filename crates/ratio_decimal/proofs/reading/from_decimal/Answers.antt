use Rattle.std.specs.Prelude.{◌*◌, ◌^◌, ◌++◌, List, Bool, ℕ, length}
use Rattle.std.proofs.Common.{subst}
use Rattle.ratio_decimal.specs.DecimalReading.{HasDecimalParts, tens_above, tens_below}
use Rattle.ratio_core.specs.Reading.{digits_sum}
use Rattle.ratio_decimal.proofs.DecimalAnswers.{held_reading, no_reading, reading, signed_terms, wide_out}
use Rattle.ratio_decimal.proofs.DecimalDigits.{all_split}
use Rattle.ratio_core.proofs.SignedNumbers.{lowest_out}
use Rattle.ratio_decimal.proofs.reading.from_decimal.Goals as goal

pub lowest-requires-clause-whole : goal.lowest-requires-clause-whole
lowest-requires-clause-whole g c = (all_split c.in-Some.parts.whole.now c.in-Some.parts.part.now c.in-Some.ensures.number.digits.1).0

pub lowest-requires-clause-part : goal.lowest-requires-clause-part
lowest-requires-clause-part g c = (all_split c.in-Some.parts.whole.now c.in-Some.parts.part.now c.in-Some.ensures.number.digits.1).1

pub returns-in-None : goal.returns-in-None
returns-in-None g c =
    let none = c.in-None.ensures in
    no_reading c.args.text.now
    (subst (λ xs. (below : Bool) (whole part : List ℕ) (down : Bool) (exponent : List ℕ) → ¬ (HasDecimalParts xs below whole part down exponent)) c.as_bytes.ensures.value none)

pub returns-in-None-lowest : goal.returns-in-None-lowest
returns-in-None-lowest g c =
    let t = g.T.Integer in
    let p = c.in-Some.parts in
    let parts = subst (λ xs. HasDecimalParts xs p.below p.whole.now p.part.now p.down p.exponent.now) c.as_bytes.ensures.value c.in-Some.ensures in
    record {
      n = _;
      d = _;
      reads = reading c.args.text.now p.below p.whole.now p.part.now p.down p.exponent.now parts;
      out = wide_out t.lo t.hi g.T.Primitive.BITS p.below (digits_sum 10 (p.whole.now ++ p.part.now) * tens_above p.down (digits_sum 10 p.exponent.now)) (10 ^ length p.part.now * tens_below p.down (digits_sum 10 p.exponent.now))
          g.met.T.Integer.range_law g.met.T.Primitive.width_law c.in-None-lowest.ensures;
    }

pub returns-in-None-held_terms : goal.returns-in-None-held_terms
returns-in-None-held_terms g c =
    let t = g.T.Integer in
    let p = c.in-Some.parts in
    let parts = subst (λ xs. HasDecimalParts xs p.below p.whole.now p.part.now p.down p.exponent.now) c.as_bytes.ensures.value c.in-Some.ensures in
    record {
      n = _;
      d = _;
      reads = reading c.args.text.now p.below p.whole.now p.part.now p.down p.exponent.now parts;
      out = lowest_out {R = g.row.T.Denot × g.row.T.Denot} (λ r. t.value r.0) (λ r. t.value r.1) t.lo t.hi _ _ _ _
          (signed_terms p.below (digits_sum 10 (p.whole.now ++ p.part.now) * tens_above p.down (digits_sum 10 p.exponent.now)) (10 ^ length p.part.now * tens_below p.down (digits_sum 10 p.exponent.now))
          c.in-Some-lowest.terms.numer c.in-Some-lowest.terms.denom c.in-Some-lowest.ensures) c.in-None-held_terms.ensures;
    }

pub returns-in-Some-held_terms : goal.returns-in-Some-held_terms
returns-in-Some-held_terms g c =
    let t = g.T.Integer in
    let p = c.in-Some.parts in
    let parts = subst (λ xs. HasDecimalParts xs p.below p.whole.now p.part.now p.down p.exponent.now) c.as_bytes.ensures.value c.in-Some.ensures in
    held_reading t.value t.lo t.hi c.args.text.now p.below (digits_sum 10 (p.whole.now ++ p.part.now) * tens_above p.down (digits_sum 10 p.exponent.now)) (10 ^ length p.part.now * tens_below p.down (digits_sum 10 p.exponent.now))
    c.in-Some-lowest.terms.numer c.in-Some-lowest.terms.denom c.in-Some-held_terms.fraction.0 c.in-Some-held_terms.fraction.1
    (reading c.args.text.now p.below p.whole.now p.part.now p.down p.exponent.now parts) c.in-Some-lowest.ensures c.in-Some-held_terms.ensures.0 c.in-Some-held_terms.ensures.1
