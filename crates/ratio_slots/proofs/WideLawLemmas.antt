-- The laws of wide reads.
use Rattle.std.specs.Prelude.{◌≡◌, ◌^◌, ℕ, ℤ, Bool, Option, Some, None, IfSome}
use Rattle.std.specs.Option.{option_map}
use Rattle.std.proofs.Common.{refl, ap, arith, ◌∙◌}
use Rattle.ratio_slots.proofs.LowestSumLemmas.{mean_moved, pair_moved}
use Rattle.ratio_slots.proofs.MergeSums.{sum_positive}
use Rattle.ratio_slots.proofs.MultipleLemmas.{multiple_moved}
use Rattle.ratio_slots.proofs.ReadingLemmas.{signs_agree}
use Rattle.ratio_slots.proofs.SumsAgree.{results_agree}
use Rattle.ratio_slots.specs.Joined.{joined_pair}
use Rattle.ratio_slots.specs.Sums.{sum_of_slots}
use Rattle.ratio_slots.specs.WideReads.{HasItsSign, JoinedWideMeans, JoinedWideMultiples, JoinedWideSums, WideResultsAgree, WideSumsExtend, wide_pair}
use Rattle.ratio_slots.specs.declared.wide_reads.WideFraction.{WideFraction}

-- a fraction with its sign is known from its pair
same_terms : (t u : WideFraction) → HasItsSign t → HasItsSign u → Some (wide_pair t) ≡ Some (wide_pair u) → t ≡ u
same_terms t u t_sign u_sign same =
    let value = ap (λ (o : Option (ℤ × ℕ)). elim o [ None ↦ wide_pair t | Some x ↦ x ]) same in
    let signs = signs_agree t.negative u.negative t.numer u.numer t_sign u_sign (ap (λ (x : ℤ × ℕ). x.0) value) in
    let denom : t.denom ≡ u.denom = ap (λ (x : ℤ × ℕ). x.1) value in
    ap (λ (b : Bool). record { negative = b; numer = t.numer; denom = t.denom }) signs.0
    ∙ ap (λ (n : ℕ). record { negative = u.negative; numer = n; denom = t.denom }) signs.1
    ∙ ap (λ (d : ℕ). record { negative = u.negative; numer = u.numer; denom = d }) denom

same_results : (r s : Option WideFraction) → IfSome r HasItsSign → IfSome s HasItsSign → option_map wide_pair r ≡ option_map wide_pair s → r ≡ s
same_results None None f g same = refl
same_results None (Some u) f g same = absurd cc
same_results (Some t) None f g same = absurd cc
same_results (Some t) (Some u) f g same = ap Some (same_terms t u f g same)

pub wide_results_agree : WideResultsAgree
wide_results_agree x y r s some same a a_sign b b_sign =
    same_results r s a_sign b_sign (results_agree (2 ^ 128) y (option_map wide_pair r) (option_map wide_pair s) (pair_moved (2 ^ 128) x y (option_map wide_pair r) some same a) b)

pub wide_sums_extend : WideSumsExtend
wide_sums_extend x n d r short wide =
    results_agree (2 ^ 128) x (option_map wide_pair r) (Some (n, d)) wide
    (record { terms = short.terms; numer_short = omega (arith, short.numer_short); denom_short = omega (arith, short.denom_short) })

pub joined_wide_sums : JoinedWideSums
joined_wide_sums slots digits room r joined checked = pair_moved (2 ^ 128) (joined_pair digits room) (sum_of_slots slots) (option_map wide_pair r) (sum_positive slots) joined.sum checked

pub joined_wide_means : JoinedWideMeans
joined_wide_means slots digits room count r joined checked =
    mean_moved (2 ^ 128) (joined_pair digits room) (sum_of_slots slots) count (option_map wide_pair r) (sum_positive slots) joined.sum checked

pub joined_wide_multiples : JoinedWideMultiples
joined_wide_multiples slots digits room rule parts r joined checked =
    multiple_moved (2 ^ 128) rule parts (joined_pair digits room) (sum_of_slots slots) (option_map wide_pair r) joined.common_is.positive (sum_positive slots) joined.sum checked
