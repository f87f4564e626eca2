-- Binary gcd: factors of 2, and the steps of two odd numbers.
use Rattle.std.specs.Prelude.{◌≡◌, ◌≢◌, ◌⊎◌, ◌+◌, ◌*◌, ◌-◌, ◌/◌, ◌%◌, ◌^◌, ◌<◌, ◌≤◌, ℕ, ℤ, zero, suc, pos, unsigned_abs, min}
use Rattle.std.specs.Int.{◌∣◌, IsGcd, Width, abs_diff, bit_at, trailing_zeros}
use Rattle.std.proofs.Common.{sym, ap, arith, ◌∙◌, inl, inr}
use Rattle.std.proofs.Math.Nat.{dvd-mul_right, dvd-mul_right_of_dvd, mul-div_cancel, mul-div_cancel', pow-suc, add-mod_right, min-eq_left, min-eq_right, mod-eq_of_lt, mod-lt, one-dvd}
use Rattle.std.proofs.lemmas.Nat.Gcd.{IsGcd-from_sub, IsGcd-swap, dvd_refl, le_of_dvd, same_from_IsGcd}
use Rattle.std.proofs.lemmas.Nat.{mul-le, mod-pow-add, div-add-mod', pow-add, pow_pos}
use Rattle.std.proofs.lemmas.Nat.Bits.{bit_at-trailing_zeros}
use Rattle.std.proofs.lemmas.Bool.{cases_eq, cases_lt}
use Rattle.ratio_integer.specs.OddPart.{IsOddPart}
use Rattle.ratio_integer.specs.Division.{IsGcdOf}
use Rattle.ratio_integer.proofs.CommonDivisors.{gcd_exists}
use Rattle.ratio_integer.proofs.GcdLemmas.{gcd_scaled}
use mir.Val.{bits}

-- ---- an odd number has nothing in common with factors of 2

even_product : (d q : ℕ) → d % 2 ≡ 0 → (d * q) % 2 ≡ 0
even_product d q even =
    let half : d ≡ d / 2 * 2 = omega arith in
    rw half (omega arith)

-- what divides an odd number is odd
odd_divisor : (d a : ℕ) → d ∣ a → a % 2 ≡ 1 → d % 2 ≡ 1
odd_divisor d a divides odd =
    let whole : d * (a / d) ≡ a = mul-div_cancel' d divides in
    elim (cases_eq (d % 2) 0) [
      | inl even ↦ absurd (let product = even_product d (a / d) even in omega arith)
      | inr other ↦ omega arith
    ]

odd_product : (d q : ℕ) → d % 2 ≡ 1 → q % 2 ≡ 1 → (d * q) % 2 ≡ 1
odd_product d q first second =
    let d-is : d ≡ d / 2 * 2 + 1 = omega arith in
    let q-is : q ≡ q / 2 * 2 + 1 = omega arith in
    rw d-is (rw q-is (omega arith))

-- an odd number that divides twice m divides m
halved : (d m : ℕ) → d % 2 ≡ 1 → d ∣ m * 2 → d ∣ m
halved d m odd divides =
    let q = (m * 2) / d in
    let whole : d * q ≡ m * 2 = mul-div_cancel' d divides in
    let product = odd_product d q odd in
    let even : q % 2 ≡ 0 = elim (cases_eq (q % 2) 0) [ inl none ↦ none | inr other ↦ absurd (let o = product (omega arith) in omega arith) ] in
    let half : q ≡ q / 2 * 2 = omega arith in
    let twice : d * (q / 2) * 2 ≡ m * 2 = regroup d (q / 2) ∙ ap (λ t. d * t) (sym half) ∙ whole in
    let same : d * (q / 2) ≡ m = omega arith in
    rw same at (dvd-mul_right d (q / 2))
  where
    regroup : (d q : ℕ) → d * q * 2 ≡ d * (q * 2)
    regroup d q = omega arith

halved_often : (k d m : ℕ) → d % 2 ≡ 1 → d ∣ m * 2 ^ k → d ∣ m
halved_often zero d m odd divides = rw (one m) at divides
  where
    one : (m : ℕ) → m * 2 ^ 0 ≡ m
    one m = omega arith
halved_often (suc k) d m odd divides = halved_often k d m odd (halved d (m * 2 ^ k) odd (rw (split m k) at divides))
  where
    split : (m k : ℕ) → m * 2 ^ suc k ≡ m * 2 ^ k * 2
    split m k = ap (λ t. m * t) (pow-suc 2 k) ∙ (omega arith)

-- factors of 2 of one number do not change its greatest common divisor with an odd number
pub odd_beside : (a m k g : ℕ) → a % 2 ≡ 1 → IsGcd a m g → IsGcd a (m * 2 ^ k) g
odd_beside a m k g odd (first, second, greatest) =
    (first, dvd-mul_right_of_dvd g second (2 ^ k), λ d x y. greatest d x (halved_often k d m (odd_divisor d a x odd) y))

-- ---- what `n >> n.trailing_zeros()` gives

low_zeros : (n t : ℕ) → ((i : ℕ) → i < t → bit_at n i ≡ 0) → n % 2 ^ t ≡ 0
low_zeros n zero zeros = omega arith
low_zeros n (suc t) zeros =
    let here : n / 2 ^ t % 2 ≡ 0 = zeros t (omega arith) in
    let rest = low_zeros n t (λ i below. zeros i (omega arith)) in
    let next : n % 2 ^ (1 + t) ≡ (n / 2 ^ t % 2 ^ 1) * 2 ^ t + n % 2 ^ t = mod-pow-add n 1 t in
    let order : suc t ≡ 1 + t = omega arith in
    rw (order, next, here, rest) (omega arith)

pub odd_part_is : (w : Width) (n : ℕ) → 0 < n → n < 2 ^ bits w → IsOddPart n (n / 2 ^ trailing_zeros w n) (trailing_zeros w n)
odd_part_is w n above fits =
    let ends = bit_at-trailing_zeros w n above fits in
    let rest = low_zeros n (trailing_zeros w n) ends.2 in
    record {
      whole = let split = div-add-mod' n (2 ^ trailing_zeros w n) in omega (arith, rest);
      odd = ends.1;
    }

-- ---- the factors of 2 of a distance, counted in a wrapped difference

odd_part_of : (d m t : ℕ) → d ≡ m * 2 ^ t → m % 2 ≡ 1 → IsOddPart d (d / 2 ^ t) t
odd_part_of d m t whole odd =
    let part : d / 2 ^ t ≡ m = ap (λ n. n / 2 ^ t) whole ∙ mul-div_cancel m (pow_pos t) in
    rw part (record { whole = whole; odd = odd })

pub times_more : (q n p : ℕ) → n < q → n * p + p ≤ q * p
times_more q n p less = grind arith

split_multiple : (q n p : ℕ) → n ≤ q → q * p ≡ (q - n) * p + n * p
split_multiple q n p below = let whole : q ≡ (q - n) + n = omega arith in ap (λ k. k * p) whole ∙ spread (q - n) n p
  where
    spread : (a b p : ℕ) → (a + b) * p ≡ a * p + b * p
    spread a b p = omega arith

-- n, and n plus or minus a multiple of 2^w, have the same factors of 2
pub odd_part_beside : (w d n q m t : ℕ) → t < w → IsOddPart n m t → (d ≡ n + q * 2 ^ w) ⊎ (d + n ≡ q * 2 ^ w) → IsOddPart d (d / 2 ^ t) t
odd_part_beside w d n q m t below part either =
    let order : w ≡ suc (w - t - 1) + t = omega arith in
    let half = 2 ^ (w - t - 1) in
    let place : 2 ^ w ≡ half * 2 * 2 ^ t = ap (λ k. 2 ^ k) order ∙ pow-add 2 (suc (w - t - 1)) t ∙ ap (λ k. k * 2 ^ t) (pow-suc 2 (w - t - 1)) in
    let n-is : n ≡ m * 2 ^ t = part.whole in
    let odd : m % 2 ≡ 1 = part.odd in
    elim either [
      | inl more ↦ odd_part_of d (m + q * (half * 2)) t (above d n q m half (2 ^ t) (2 ^ w) place n-is more) (twice m q half odd)
      | inr less ↦
          let sum : d + m * 2 ^ t ≡ q * (half * 2) * 2 ^ t = under d n q m half (2 ^ t) (2 ^ w) place n-is less in
          let not_over : m ≤ q * (half * 2) = kept d m (q * (half * 2)) (2 ^ t) (pow_pos t) sum in
          odd_part_of d (q * (half * 2) - m) t (taken d m (q * (half * 2)) (2 ^ t) not_over sum) (untwice m q half not_over odd)
    ]
  where
    above : (d n q m h p w : ℕ) → w ≡ h * 2 * p → n ≡ m * p → d ≡ n + q * w → d ≡ (m + q * (h * 2)) * p
    above d n q m h p w e f more = more ∙ rw (e, f) (omega arith)

    under : (d n q m h p w : ℕ) → w ≡ h * 2 * p → n ≡ m * p → d + n ≡ q * w → d + m * p ≡ q * (h * 2) * p
    under d n q m h p w e f less = ap (λ k. d + k) (sym f) ∙ less ∙ rw e (omega arith)

    kept : (d m r p : ℕ) → 0 < p → d + m * p ≡ r * p → m ≤ r
    kept d m r p positive sum = elim (cases_lt r m) [ inl over ↦ absurd (let h = times_more m r p over in omega arith) | inr fine ↦ fine ]

    taken : (d m r p : ℕ) → m ≤ r → d + m * p ≡ r * p → d ≡ (r - m) * p
    taken d m r p below sum =
        let split = split_multiple r m p below in
        omega arith

    twice : (m q h : ℕ) → m % 2 ≡ 1 → (m + q * (h * 2)) % 2 ≡ 1
    twice m q h odd = let even : q * (h * 2) ≡ (q * h) * 2 = omega arith in omega arith

    untwice : (m q h : ℕ) → m ≤ q * (h * 2) → m % 2 ≡ 1 → (q * (h * 2) - m) % 2 ≡ 1
    untwice m q h below odd = let even : q * (h * 2) ≡ (q * h) * 2 = omega arith in omega arith

-- the wrapped difference of two numbers below p
wrapped_less : (p x y : ℕ) → x < p → y < x → (y + (p - x)) % p ≡ y + (p - x)
wrapped_less p x y fits less = mod-eq_of_lt (omega arith)

wrapped_more : (p x y : ℕ) → x < p → y < p → x ≤ y → (y + (p - x)) % p ≡ y - x
wrapped_more p x y x-fits y-fits more =
    let round : y + (p - x) ≡ (y - x) + p = omega arith in
    ap (λ k. k % p) round ∙ add-mod_right (y - x) p ∙ mod-eq_of_lt (omega arith)

-- the distance of two numbers is the wrapped difference of their lower parts, plus or minus a multiple of p
pub lower_distance : (p x y : ℕ) → 0 < p → (q : ℕ) × ((abs_diff x y ≡ (y % p + (p - x % p)) % p + q * p) ⊎ (abs_diff x y + (y % p + (p - x % p)) % p ≡ q * p))
lower_distance p x y positive =
    by_parts x y (x / p) (y / p) (x % p) (y % p) (sym (div-add-mod' x p)) (sym (div-add-mod' y p)) (mod-lt x positive) (mod-lt y positive)
  where
    by_parts : (x y a b m n : ℕ) → x ≡ a * p + m → y ≡ b * p + n → m < p → n < p → (q : ℕ) × ((abs_diff x y ≡ (n + (p - m)) % p + q * p) ⊎ (abs_diff x y + (n + (p - m)) % p ≡ q * p))
    by_parts x y a b m n x-is y-is m-fits n-fits = elim (cases_lt n m) [
      | inl less ↦
          let wrapped = wrapped_less p m n m-fits less in
          elim (cases_lt y x) [
            | inl left ↦
                let order : b ≤ a = elim (cases_lt a b) [ inl over ↦ absurd (let h = times_more b a p over in omega arith) | inr fine ↦ fine ] in
                let split = split_multiple a b p order in
                (a - b + 1, inr (rw wrapped (omega arith)))
            | inr right ↦
                let order : a < b = elim (cases_lt a b) [ inl fine ↦ fine | inr over ↦ absurd (let h = split_multiple a b p over in omega arith) ] in
                let split = split_multiple b (a + 1) p (omega arith) in
                (b - (a + 1), inl (rw wrapped (omega arith)))
          ]
      | inr more ↦
          let wrapped = wrapped_more p m n m-fits n-fits more in
          elim (cases_lt y x) [
            | inl left ↦
                let order : b ≤ a = elim (cases_lt a b) [ inl over ↦ absurd (let h = times_more b a p over in omega arith) | inr fine ↦ fine ] in
                let split = split_multiple a b p order in
                (a - b, inr (rw wrapped (omega arith)))
            | inr right ↦
                let order : a ≤ b = elim (cases_lt b a) [ inl over ↦ absurd (let h = times_more a b p over in omega arith) | inr fine ↦ fine ] in
                let split = split_multiple b a p order in
                (b - a, inl (rw wrapped (omega arith)))
          ]
    ]

-- a distance without the factors of 2 of the wrapped difference of the lower parts
pub lower_part : (w : Width) (x y d m n : ℕ) → d ≡ abs_diff x y → m ≡ x % 2 ^ bits w → n ≡ y % 2 ^ bits w → 0 < (n + (2 ^ bits w - m)) % 2 ^ bits w → (k : ℕ) × IsOddPart (abs_diff x y) (d / 2 ^ trailing_zeros w ((n + (2 ^ bits w - m)) % 2 ^ bits w)) k
lower_part w x y d m n d-is m-is n-is above =
    let positive : 0 < 2 ^ bits w = pow_pos (bits w) in
    let wrapped = (n + (2 ^ bits w - m)) % 2 ^ bits w in
    let fits : wrapped < 2 ^ bits w = mod-lt (n + (2 ^ bits w - m)) positive in
    let stands = rw (sym m-is, sym n-is) at (lower_distance (2 ^ bits w) x y positive) in
    let t = trailing_zeros w wrapped in
    rw d-is (t, odd_part_beside (bits w) (abs_diff x y) wrapped stands.0 (wrapped / 2 ^ t) t (bit_at-trailing_zeros w wrapped above fits).0 (odd_part_is w wrapped above fits) stands.1)

-- the same for the whole wrapped difference of two different numbers
pub distance_part : (w : Width) (x y d : ℕ) → x < 2 ^ bits w → y < 2 ^ bits w → x ≢ y → d ≡ abs_diff x y → (k : ℕ) × IsOddPart (abs_diff x y) (d / 2 ^ trailing_zeros w ((y + (2 ^ bits w - x)) % 2 ^ bits w)) k
distance_part w x y d x-fits y-fits apart d-is =
    lower_part w x y d x y d-is (sym (mod-eq_of_lt x-fits)) (sym (mod-eq_of_lt y-fits)) (elim (cases_lt y x) [
      | inl less ↦ rw (wrapped_less (2 ^ bits w) x y x-fits less) (omega arith)
      | inr more ↦ rw (wrapped_more (2 ^ bits w) x y x-fits y-fits more) (omega arith)
    ])

-- ---- a step of two odd numbers

-- x and y are odd, and their greatest common divisor is that of a and b
pub record AreOdd (a b x y : ℕ) : Type 0 where
  pub left : x % 2 ≡ 1
  pub right : y % 2 ≡ 1
  pub same : (g : ℕ) → IsGcd x y g → IsGcd a b g

-- the odd part of the difference replaces the greater number
replaced : (x y m k g : ℕ) → x % 2 ≡ 1 → x ≤ y → IsOddPart (y - x) m k → IsGcd x m g → IsGcd x y g
replaced x y m k g odd below part is =
    IsGcd-swap y x g (IsGcd-from_sub y x g below (IsGcd-swap x (y - x) g (rw part.whole (odd_beside x m k g odd is))))

pub odd_step : (a b x y s d m k : ℕ) → AreOdd a b x y → s ≡ min x y → d ≡ abs_diff x y → IsOddPart d m k → AreOdd a b s m
odd_step a b x y s d m k pair s-is d-is part = elim (cases_lt x y) [
  | inl less ↦
      let s-x : s ≡ x = s-is ∙ min-eq_left (omega arith) in
      let d-x : d ≡ y - x = d-is ∙ omega arith in
      record {
        left = rw s-x pair.left;
        right = part.odd;
        same = λ g is. pair.same g (replaced x y m k g pair.left (omega arith) (rw d-x at part) (rw s-x at is));
      }
  | inr more ↦
      let s-y : s ≡ y = s-is ∙ min-eq_right more in
      let d-y : d ≡ x - y = d-is ∙ omega arith in
      record {
        left = rw s-y pair.right;
        right = part.odd;
        same = λ g is. pair.same g (IsGcd-swap y x g (replaced y x m k g pair.right more (rw d-y at part) (rw s-y at is)));
      }
]

-- a step makes the sum of both numbers smaller
pub odd_smaller : (a b x y s d m k : ℕ) → AreOdd a b x y → s ≡ min x y → d ≡ abs_diff x y → IsOddPart d m k → s + m < x + y
odd_smaller a b x y s d m k pair s-is d-is part =
    let x-odd = pair.left in
    let y-odd = pair.right in
    let positive : 0 < 2 ^ k = pow_pos k in
    let times : m * 1 ≤ m * 2 ^ k = mul-le m 1 m (2 ^ k) (omega arith) positive in
    let small : m ≤ d = let whole = part.whole in omega arith in
    elim (cases_lt x y) [
      | inl less ↦ let s-x : s ≡ x = s-is ∙ min-eq_left (omega arith) in let d-x : d ≡ y - x = d-is ∙ omega arith in omega arith
      | inr more ↦ let s-y : s ≡ y = s-is ∙ min-eq_right more in let d-y : d ≡ x - y = d-is ∙ omega arith in omega arith
    ]

-- two equal numbers are their own greatest common divisor
pub odd_ended : (a b x y : ℕ) → AreOdd a b x y → x ≡ y → IsGcd a b x
odd_ended a b x y pair e = pair.same x (dvd_refl x, rw e (dvd_refl y), λ d p q. p)

-- the greatest common divisor of 1 and another number is 1
pub odd_one : (a b x y : ℕ) → AreOdd a b x y → x ≤ 1 → IsGcd a b 1
odd_one a b x y pair below =
    let one : x ≡ 1 = let odd = pair.left in omega arith in
    pair.same 1 (one-dvd x, one-dvd y, λ d p q. rw one at p)

-- ---- common factors of 2 come back at the end

one_side : (m n e j g : ℕ) → n % 2 ≡ 1 → IsGcd m n g → IsGcd (m * 2 ^ (e + j)) (n * 2 ^ j) (g * 2 ^ j)
one_side m n e j g odd is =
    let beside = IsGcd-swap n (m * 2 ^ e) g (odd_beside n m e g odd (IsGcd-swap m n g is)) in
    let scaled = gcd_scaled n (m * 2 ^ e) n g (2 ^ j) (pow_pos j) (omega arith) beside in
    let whole : 2 ^ j * (m * 2 ^ e) ≡ m * 2 ^ (e + j) = turn (2 ^ j) m (2 ^ e) ∙ ap (λ t. m * t) (sym (pow-add 2 e j)) in
    rw (swap (2 ^ j) g, swap (2 ^ j) n, whole) at scaled
  where
    turn : (a b c : ℕ) → a * (b * c) ≡ b * (c * a)
    turn a b c = omega arith

    swap : (a b : ℕ) → a * b ≡ b * a
    swap a b = omega arith

joined : (a b m n i j g : ℕ) → IsOddPart a m i → IsOddPart b n j → IsGcd m n g → IsGcd a b (g * 2 ^ min i j)
joined a b m n i j g first second is =
    elim (cases_lt j i) [
      | inl less ↦
          let rest : (i - j) + j ≡ i = omega arith in
          let least : min i j ≡ j = min-eq_right (omega arith) in
          rw (least, first.whole, second.whole) (rw rest at (one_side m n (i - j) j g second.odd is))
      | inr more ↦
          let rest : (j - i) + i ≡ j = omega arith in
          let least : min i j ≡ i = min-eq_left more in
          rw (least, first.whole, second.whole) (IsGcd-swap _ _ _ (rw rest at (one_side n m (j - i) i g first.odd (IsGcd-swap m n g is))))
    ]

-- `g << min(i, j)` loses no bit, since it is at most a
pub shifted_back : (w a b m n i j g : ℕ) → 0 < a → a < 2 ^ w → IsOddPart a m i → IsOddPart b n j → IsGcd m n g → IsGcd a b (g * 2 ^ min i j % 2 ^ w)
shifted_back w a b m n i j g above fits first second is =
    let whole = joined a b m n i j g first second is in
    let small : g * 2 ^ min i j ≤ a = le_of_dvd above whole.0 in
    let kept : g * 2 ^ min i j % 2 ^ w ≡ g * 2 ^ min i j = mod-eq_of_lt (omega arith) in
    rw kept whole

-- ---- divisors above a bound

-- what bounds the greatest common divisor of x and y bounds that of a and b
pub odd_bounded : (a b x y bound : ℕ) → AreOdd a b x y → ((g : ℕ) → IsGcd x y g → g ≤ bound) → (g : ℕ) → IsGcd a b g → g ≤ bound
odd_bounded a b x y bound pair small g is =
    let found : (k : ℤ) × IsGcdOf (pos x) (pos y) k = gcd_exists (pos x) (pos y) in
    rw (same_from_IsGcd a b g (unsigned_abs found.0) is (pair.same _ found.1.divisor)) (small _ found.1.divisor)

-- it is at most x
pub odd_at_most : (a b x y bound : ℕ) → AreOdd a b x y → x ≤ bound → (g : ℕ) → IsGcd a b g → g ≤ bound
odd_at_most a b x y bound pair below =
    odd_bounded a b x y bound pair (λ g is. let odd = pair.left in let small = le_of_dvd (omega arith) is.0 in omega arith)

-- the bound without as many factors of 2
pub shifted_bounded : (a b m n i j bound : ℕ) → IsOddPart a m i → IsOddPart b n j → ((g : ℕ) → IsGcd m n g → g ≤ bound / 2 ^ min i j) → (g : ℕ) → IsGcd a b g → g ≤ bound
shifted_bounded a b m n i j bound first second small g is =
    let found : (k : ℤ) × IsGcdOf (pos m) (pos n) k = gcd_exists (pos m) (pos n) in
    let k : ℕ = unsigned_abs found.0 in
    let same : g ≡ k * 2 ^ min i j = same_from_IsGcd a b g _ is (joined a b m n i j k first second found.1.divisor) in
    let below : k ≤ bound / 2 ^ min i j = small k found.1.divisor in
    let times = mul-le k (2 ^ min i j) (bound / 2 ^ min i j) (2 ^ min i j) below (omega arith) in
    let whole = div-add-mod' bound (2 ^ min i j) in
    omega arith
