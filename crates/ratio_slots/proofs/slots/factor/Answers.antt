use Rattle.std.proofs.Common.{ℕ, ◌+◌, ◌*◌, ◌%◌, ◌∙◌, ap}
use Rattle.std.proofs.Math.Nat.{dvd-mul_left, mod-mod_of_dvd}
use Rattle.std.proofs.lemmas.Nat.{mul-mod_first}
use Rattle.ratio_slots.specs.Slots.{factor_of}
use Rattle.ratio_slots.proofs.slots.factor.Goals as goal

pub returns : goal.returns
unfolding factor_of
returns c =
    let square : ℕ = c.args.length * c.args.length in
    let whole : ℕ = 18446744073709551616 in
    let low : ℕ = 1073741824 in
    ap (λ n. 4294967297 + n % low) (mul-mod_first square 0x08fe_0b3a whole)
    ∙ ap (λ n. 4294967297 + n) (mod-mod_of_dvd low (square * 0x08fe_0b3a) (dvd-mul_left low 17179869184))
