-- The common denominator of a table, found slot by slot.
use Rattle.std.specs.Prelude.{◌≡◌, ◌≢◌, ◌+◌, ◌*◌, ◌/◌, ◌%◌, ◌<◌, ◌≤◌, ℕ, zero, suc, pos, List, [], ◌∷◌}
use Rattle.std.specs.Int.{◌∣◌, IsGcd}
use Rattle.std.proofs.Common.{sym, ap, subst, arith, ◌∙◌, inl, inr}
use Rattle.std.proofs.Math.Nat.{div-mul_cancel, dvd-mul_left, dvd-mul_right, dvd-mul_right_of_dvd, dvd_refl, dvd_trans, le_of_dvd, mod-eq-zero_of_dvd, one-dvd, pos_of_dvd_of_pos}
use Rattle.std.proofs.lemmas.Bool.{cases_eq}
use Rattle.std.proofs.lemmas.Nat.{mod-mul-add}
use Rattle.std.proofs.lemmas.Nat.Gcd.{IsGcd-from_mod, IsGcd-swap}
use Rattle.ratio_integer.proofs.CommonDivisors.{gcd_exists}
use Rattle.ratio_integer.proofs.GcdLemmas.{lcm_least}
use Rattle.ratio_slots.specs.Common.{AreParts, HasLongCommon, IsCommonOf, IsMultipleOfEach}
use Rattle.ratio_slots.specs.Steps.{IsCommonSoFar}
use Rattle.ratio_slots.specs.declared.slots.Slot.{Slot}

-- ---- two numbers divided by their greatest common divisor

rest_is : (a q b r : ℕ) → a ≡ q * b + r → r < b → a % b ≡ r
rest_is a q b r e less = ap (λ t. t % b) e ∙ mod-mul-add q b r less

quotient_is : (a q b r : ℕ) → a ≡ q * b + r → r < b → b ∣ a → q * b ≡ a
quotient_is a q b r e less divides = omega (arith, e, rest_is a q b r e less, mod-eq-zero_of_dvd b divides)

-- Euclid's step, and then the exact quotients
pub parts_by_gcd : (common denom quotient rest divisor share last : ℕ) → common ≡ quotient * denom + rest → rest < denom → IsGcd denom rest divisor → common ≡ share * divisor + last → last < divisor
    → AreParts common denom share (denom / divisor)
parts_by_gcd common denom quotient rest divisor share last e less is f few =
    let both : IsGcd common denom divisor = IsGcd-from_mod common denom divisor (subst (λ n. IsGcd denom n divisor) (sym (rest_is common quotient denom rest e less)) is) in
    record {
      divisor = divisor;
      greatest = both;
      share_is = quotient_is common share divisor last f few both.0;
      more_is = div-mul_cancel divisor both.1;
    }

-- a greatest common divisor of 1
pub parts_by_one : (common denom quotient rest divisor share : ℕ) → common ≡ quotient * denom + rest → rest < denom → IsGcd denom rest divisor → divisor ≡ 1 → share ≡ common → AreParts common denom share denom
parts_by_one common denom quotient rest divisor share e less is one same =
    let both : IsGcd common denom divisor = IsGcd-from_mod common denom divisor (subst (λ n. IsGcd denom n divisor) (sym (rest_is common quotient denom rest e less)) is) in
    record {
      divisor = 1;
      greatest = subst (λ n. IsGcd common denom n) one both;
      share_is = omega (arith, same);
      more_is = omega arith;
    }

-- Euclid's step by the rest alone
pub gcd_by_rest : (common denom rest divisor : ℕ) → rest ≡ common % denom → IsGcd denom rest divisor → IsGcd common denom divisor
gcd_by_rest common denom rest divisor same is = IsGcd-from_mod common denom divisor (subst (λ n. IsGcd denom n divisor) same is)

-- an exact quotient by the greatest common divisor
pub parts_exact : (common denom divisor share more : ℕ) → IsGcd common denom divisor → share * divisor ≡ common → more ≡ denom / divisor → AreParts common denom share more
parts_exact common denom divisor share more is product more_is = record {
  divisor = divisor;
  greatest = is;
  share_is = product;
  more_is = ap (λ n. n * divisor) more_is ∙ div-mul_cancel divisor is.1;
}

-- both quotients by the greatest common divisor
pub parts_by_quotients : (a b divisor share more last rest : ℕ) → IsGcd a b divisor → a ≡ share * divisor + last → last < divisor → b ≡ more * divisor + rest → rest < divisor → AreParts a b share more
parts_by_quotients a b divisor share more last rest is e less f few = record {
  divisor = divisor;
  greatest = is;
  share_is = quotient_is a share divisor last e less is.0;
  more_is = quotient_is b more divisor rest f few is.1;
}

-- a divisor of the common denominator
pub parts_whole : (common denom share : ℕ) → share * denom ≡ common → AreParts common denom share 1
parts_whole common denom share product = record {
  divisor = denom;
  greatest = (subst (λ n. denom ∣ n) product (dvd-mul_left denom share), dvd_refl denom, λ m left right. right);
  share_is = product;
  more_is = omega arith;
}

-- the same number twice
pub parts_alike : (common denom : ℕ) → common ≡ denom → AreParts common denom 1 1
parts_alike common denom same = record {
  divisor = denom;
  greatest = subst (λ n. IsGcd n denom denom) (sym same) (dvd_refl denom, dvd_refl denom, λ m left right. left);
  share_is = omega (arith, same);
  more_is = omega arith;
}

pub divisor_positive : (common denom share more : ℕ) (parts : AreParts common denom share more) → 0 < denom → 0 < parts.divisor
divisor_positive common denom share more parts some = pos_of_dvd_of_pos parts.greatest.1 some

pub more_positive : (common denom share more : ℕ) → AreParts common denom share more → 0 < denom → 0 < more
more_positive common denom share zero parts some = absurd (omega (arith, parts.more_is, some))
more_positive common denom share (suc more) parts some = omega arith

-- ---- common*more is the least common multiple of both

divides_product : (share more divisor : ℕ) → more * divisor ∣ (share * divisor) * more
divides_product share more divisor =
    let e : share * (more * divisor) ≡ (share * divisor) * more = omega arith in
    subst (λ n. more * divisor ∣ n) e (dvd-mul_left (more * divisor) share)

pub denom_divides : (common denom share more : ℕ) → AreParts common denom share more → denom ∣ common * more
denom_divides common denom share more parts =
    subst (λ d. d ∣ common * more) parts.more_is (subst (λ c. more * parts.divisor ∣ c * more) parts.share_is (divides_product share more parts.divisor))

least_of_both : (share more g m : ℕ) → 0 < g → IsGcd (share * g) (more * g) g → share * g ∣ m → more * g ∣ m → (share * g) * more ∣ m
least_of_both share more g m some is p q =
    let s : share * g ≡ g * share = omega arith in
    let n : more * g ≡ g * more = omega arith in
    let swapped : IsGcd (more * g) (share * g) g = IsGcd-swap (share * g) (more * g) g is in
    let turned : IsGcd (g * more) (g * share) g = subst (λ x. IsGcd x (g * share) g) n (subst (λ x. IsGcd (more * g) x g) s swapped) in
    subst (λ x. x * more ∣ m) (sym s) (lcm_least more share g m some turned (subst (λ x. x ∣ m) n q) (subst (λ x. x ∣ m) s p))

pub both_divide : (common denom share more m : ℕ) → AreParts common denom share more → 0 < denom → common ∣ m → denom ∣ m → common * more ∣ m
both_divide common denom share more m parts some p q =
    let g = parts.divisor in
    let c : common ≡ share * g = sym parts.share_is in
    let d : denom ≡ more * g = sym parts.more_is in
    let is : IsGcd (share * g) (more * g) g = subst (λ x. IsGcd x (more * g) g) c (subst (λ x. IsGcd common x g) d parts.greatest) in
    subst (λ x. x * more ∣ m) parts.share_is
    (least_of_both share more g m (divisor_positive common denom share more parts some) is (subst (λ x. x ∣ m) c p) (subst (λ x. x ∣ m) d q))

-- ---- each table has a common denominator

pub positive_product : (a b : ℕ) → 0 < a → 0 < b → 0 < a * b
positive_product zero b h k = absurd (omega arith)
positive_product (suc a) b h k = omega (arith, k)

parts_exist : (common denom : ℕ) → (share : ℕ) × ((more : ℕ) × AreParts common denom share more)
parts_exist common denom =
    let found = gcd_exists (pos common) (pos denom) in
    let is = found.1.divisor in
    (common / _, (denom / _, record { divisor = _; greatest = is; share_is = div-mul_cancel _ is.0; more_is = div-mul_cancel _ is.1 }))

with_slot : (slot : Slot) (rest : List Slot) (l share more : ℕ) → slot.denom ≢ 0 → IsCommonOf rest l → AreParts l slot.denom share more → IsCommonOf (slot ∷ rest) (l * more)
with_slot slot rest l share more taken is parts =
    let some : 0 < slot.denom = omega (arith, taken) in
    record {
      positive = positive_product l more is.positive (more_positive l slot.denom share more parts some);
      multiple = ((λ _. denom_divides l slot.denom share more parts), multiple_of_more rest l more is.multiple);
      least = λ m h. both_divide l slot.denom share more m parts some (is.least m h.1) (h.0 taken);
    }
  where
    multiple_of_more : (slots : List Slot) (l more : ℕ) → IsMultipleOfEach slots l → IsMultipleOfEach slots (l * more)
    multiple_of_more [] l more h = tt
    multiple_of_more (s ∷ slots) l more h = ((λ ne. dvd-mul_right_of_dvd s.denom (h.0 ne) more), multiple_of_more slots l more h.1)

pub common_exists : (slots : List Slot) → (l : ℕ) × IsCommonOf slots l
common_exists [] = (1, record { positive = omega arith; multiple = tt; least = λ m _. one-dvd m })
common_exists (slot ∷ rest) =
    let before = common_exists rest in
    elim (cases_eq slot.denom 0) [
      | inl z ↦ (before.0, record { positive = before.1.positive; multiple = ((λ ne. absurd (ne z)), before.1.multiple); least = λ m h. before.1.least m h.1 })
      | inr taken ↦
          let parts = parts_exist before.0 slot.denom in
          (before.0 * parts.1.0, with_slot slot rest before.0 parts.0 parts.1.0 taken before.1 parts.1.1)
    ]

-- ---- on the way through the table

pub common_begins : (slots : List Slot) (common : ℕ) → common ≡ 1 → IsCommonSoFar slots slots common
common_begins slots common one = record {
  some = omega (arith, one);
  to_all = λ m _ h. h;
  from_all = λ m h. (subst (λ n. n ∣ m) (sym one) (one-dvd m), h);
}

pub common_grows : (slots : List Slot) (slot : Slot) (rest : List Slot) (common share more new : ℕ) → slot.denom ≢ 0 → AreParts common slot.denom share more → new ≡ common * more
    → IsCommonSoFar slots (slot ∷ rest) common → IsCommonSoFar slots rest new
common_grows slots slot rest common share more new taken parts new_is before =
    let some : 0 < slot.denom = omega (arith, taken) in
    record {
      some = subst (λ n. 0 < n) (sym new_is) (positive_product common more before.some (more_positive common slot.denom share more parts some));
      to_all = λ m p h.
          let product : common * more ∣ m = subst (λ n. n ∣ m) new_is p in
          before.to_all m (dvd_trans common (dvd-mul_right common more) product) ((λ _. dvd_trans slot.denom (denom_divides common slot.denom share more parts) product), h);
      from_all = λ m h.
          let all = before.from_all m h in
          (subst (λ n. n ∣ m) (sym new_is) (both_divide common slot.denom share more m parts some all.0 (all.1.0 taken)), all.1.1);
    }

pub common_ends : (slots : List Slot) (common : ℕ) → IsCommonSoFar slots [] common → IsCommonOf slots common
common_ends slots common is = record { positive = is.some; multiple = is.to_all common (dvd_refl common) tt; least = λ m h. (is.from_all m h).0 }

-- with one denominator more it is too long
pub common_too_long : (slots : List Slot) (slot : Slot) (rest : List Slot) (common share more bound : ℕ) → slot.denom ≢ 0 → AreParts common slot.denom share more → bound ≤ common * more
    → IsCommonSoFar slots (slot ∷ rest) common → HasLongCommon slots bound
common_too_long slots slot rest common share more bound taken parts long before =
    let all = common_exists slots in
    let shared = before.from_all all.0 all.1.multiple in
    let divides : common * more ∣ all.0 = both_divide common slot.denom share more all.0 parts (omega (arith, taken)) shared.0 (shared.1.0 taken) in
    record { common = all.0; is = all.1; long = omega (arith, long, le_of_dvd all.1.positive divides) }
