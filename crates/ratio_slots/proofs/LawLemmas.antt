-- The laws of totals.
use Rattle.std.specs.Prelude.{◌≡◌, ◌==◌, ◌+ℤ◌, Bool, true, false, ℕ, ℤ, pos, neg_ℤ, if◌then◌else◌}
use Rattle.std.proofs.Common.{arith, refl}
use Rattle.std.proofs.lemmas.Int.{ints}
use Rattle.ratio_slots.proofs.Places.{denominators_differ}
use Rattle.ratio_slots.specs.Sums.{numerator_at, numerator_over}
use Rattle.ratio_slots.specs.TotalLaws.{AdditionsCommute, DenominatorsDiffer, MergesAddEach, TableMergesAssociate, TableMergesCommute, TakingOutUndoes}

over_negated : (e d : ℕ) (n : ℤ) → numerator_over e d (neg_ℤ n) ≡ neg_ℤ (numerator_over e d n)
over_negated e d n = elim (d == e) as (λ (t : Bool). (if t then neg_ℤ n else pos 0) ≡ neg_ℤ (if t then n else pos 0)) [ true ↦ refl | false ↦ refl ]

two_orders : (a b c p q x y : ℤ) → b ≡ a +ℤ x → c ≡ b +ℤ y → p ≡ a +ℤ y → q ≡ p +ℤ x → c ≡ q
two_orders a b c p q x y e f g h = omega (arith, ints, e, f, g, h)

in_and_out : (a b c x y : ℤ) → b ≡ a +ℤ x → c ≡ b +ℤ y → y ≡ neg_ℤ x → a ≡ c
in_and_out a b c x y e f g = omega (arith, ints, e, f, g)

pub additions_commute : AdditionsCommute
additions_commute d e n m start first both other again p q r s = record {
  each = λ x ne. two_orders _ _ _ _ _ _ _ (p.each x ne) (q.each x ne) (r.each x ne) (s.each x ne);
}

pub taking_out_undoes : TakingOutUndoes
taking_out_undoes d n start added after p q = record {
  each = λ x ne. in_and_out _ _ _ _ _ (p.each x ne) (q.each x ne) (over_negated x d n);
}

swapped : (a b c d : ℤ) → c ≡ a +ℤ b → d ≡ b +ℤ a → c ≡ d
swapped a b c d e f = omega (arith, ints, e, f)

pub merges_commute : TableMergesCommute
merges_commute left right both again p q = record { each = λ x ne. swapped (numerator_at x left) (numerator_at x right) _ _ (p.each x ne) (q.each x ne) }

grouped : (a b c p q r s : ℤ) → p ≡ a +ℤ b → q ≡ p +ℤ c → r ≡ b +ℤ c → s ≡ a +ℤ r → q ≡ s
grouped a b c p q r s e f g h = omega (arith, ints, e, f, g, h)

pub merges_associate : TableMergesAssociate
merges_associate a b c ab ab_c bc a_bc p q r s = record {
  each = λ x ne. grouped _ _ _ _ _ _ _ (p.each x ne) (q.each x ne) (r.each x ne) (s.each x ne);
}

more_merged : (s o m t u x : ℤ) → m ≡ o +ℤ x → t ≡ s +ℤ o → u ≡ s +ℤ m → u ≡ t +ℤ x
more_merged s o m t u x e f g = omega (arith, ints, e, f, g)

pub merges_add_each : MergesAddEach
merges_add_each d n start other more merged merged_more p q r = record {
  each = λ x ne. more_merged _ _ _ _ _ _ (p.each x ne) (q.each x ne) (r.each x ne);
}

pub differ : DenominatorsDiffer
differ slots i j table hi hj taken e = denominators_differ slots table i j hi hj taken e
