use Rattle.std.specs.Prelude.{◌≡◌}
use Rattle.std.proofs.Common.{◌∙◌, ap, arith, of_z, refl, to_z}
use Rattle.std.specs.Int.{w64}
use Rattle.std.proofs.lemmas.Int.{ints}
use Rattle.ratio_c.specs.Sortable.{key_bytes}
use Rattle.ratio_c.proofs.sorting.SortingCallFraction64Sortable.answer.Goals as goal

pub returns-then-x-le0 : goal.returns-then-x-le0
unfolding key_bytes
returns-then-x-le0 c = record { yes = λ above. absurd (omega (arith, ints)); no = λ other. (refl, refl) }

pub returns : goal.returns
returns c =
    let n : to_z w64 (of_z w64 c.args.x.now.numer) ≡ c.args.x.now.numer = omega (arith, ints) in
    let d : to_z w64 (of_z w64 c.args.x.now.denom) ≡ c.args.x.now.denom = omega (arith, ints) in
    let number = rw (n, d) at c.digits-whole.ensures in
    record {
      yes = λ above. (refl, c.bytes_of.ensures ∙ ap key_bytes number);
      no = λ other. absurd (other (omega (arith, ints)));
    }
