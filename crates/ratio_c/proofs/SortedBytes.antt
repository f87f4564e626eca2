-- Bytes for sorting: the number of a fraction, its bytes, and their order.
use Rattle.std.specs.Prelude.{◌≡◌, ◌+◌, ◌-◌, ◌*◌, ◌/◌, ◌%◌, ◌^◌, ◌<◌, ◌≤◌, ◌<ℤ◌, ◌≤ℤ◌, ◌+ℤ◌, ◌*ℤ◌, ℕ, ℤ, zero, suc, pos, negsuc, unsigned_abs, List, ◌∷◌, ◌++◌}
use Rattle.std.specs.Int.{byte_at, bytes_high_first, int_div_euclid, int_rem_euclid}
use Rattle.std.specs.Ordering.{MatchOrdering, int_cmp, nat_cmp, ordering_then}
use Rattle.std.specs.declared.cmp.Ordering.{Ordering}
use Rattle.std.specs.declared.cmp.Ordering.TheVariants.{Less, Equal, Greater}
use Rattle.std.specs.Cmp.{int_cmp_is, ranks}
use Rattle.std.specs.Cmp.Lexicographic.{slice_cmp}
use Rattle.std.proofs.Common.{◌∙◌, add-one, ap, arith, refl, subst, sym}
use Rattle.std.proofs.Math.Nat.{add-mul-div_right, add-mul-mod_self_right, div-div-eq-div-mul, div-le_self, div-lt_iff_lt-mul, div-mul-le_self, le_of_mul-le-mul_right, mod-eq_of_lt, mod-lt, mul-le-mul_right, pow-suc}
use Rattle.std.proofs.Math.Arith.{mod-mul}
use Rattle.std.proofs.lemmas.Nat.{div-add-mod', div-mul-add, le-div, mul-le, pow-add}
use Rattle.std.proofs.lemmas.Int.{ints}
use Rattle.ratio_integer.specs.SignedBits.{greatest64, least64}
use Rattle.ratio_core.specs.Order.{cross_cmp}
use Rattle.ratio_c.specs.Sortable.{BytesKeepOrder, key_bytes, sortable_bytes, sortable_number}

-- ---- the bytes of a number that has two parts

some_power : (k : ℕ) → 0 < 256 ^ k
some_power zero = omega arith
some_power (suc k) = (let less = some_power k in omega (arith, less, pow-suc 256 k))

byte_is : (i n : ℕ) → byte_at i n ≡ n / 256 ^ i % 256
byte_is zero n = let one : n / 1 ≡ n = omega arith in ap (λ (t : ℕ). t % 256) (sym one)
byte_is (suc i) n = refl

upper_byte : (i k high low : ℕ) → low < 256 ^ k → byte_at (i + k) (high * 256 ^ k + low) ≡ byte_at i high
upper_byte i k high low short =
    let n = high * 256 ^ k + low in
    let order : i + k ≡ k + i = omega arith in
    byte_is (i + k) n
    ∙ ap (λ (t : ℕ). n / t % 256) (ap (λ (t : ℕ). 256 ^ t) order ∙ pow-add 256 k i)
    ∙ ap (λ (t : ℕ). t % 256) (sym (div-div-eq-div-mul n (256 ^ k) (256 ^ i)) ∙ ap (λ (t : ℕ). t / 256 ^ i) (div-mul-add high (256 ^ k) low short))
    ∙ sym (byte_is i high)

lower_byte : (i j high low : ℕ) → byte_at i (high * 256 ^ (j + 1 + i) + low) ≡ byte_at i low
lower_byte i j high low =
    let place = 256 ^ i in
    let above : 256 ^ (j + 1 + i) ≡ 256 ^ j * 256 * place = pow-add 256 (j + 1) i ∙ ap (λ (t : ℕ). t * place) (pow-add 256 j 1) in
    let whole : high * 256 ^ (j + 1 + i) + low ≡ low + high * 256 ^ j * 256 * place = apart high (256 ^ (j + 1 + i)) (256 ^ j) place low above in
    byte_is i _
    ∙ ap (λ (t : ℕ). t / place % 256) whole
    ∙ ap (λ (t : ℕ). t % 256) (add-mul-div_right low (high * 256 ^ j * 256) (some_power i))
    ∙ add-mul-mod_self_right (low / place) (high * 256 ^ j) 256
    ∙ sym (byte_is i low)
  where
    apart : (h t a p l : ℕ) → t ≡ a * 256 * p → h * t + l ≡ l + h * a * 256 * p
    apart h t a p l e = rw e (omega arith)

lower_bytes : (i k high low : ℕ) → i ≤ k → bytes_high_first i (high * 256 ^ k + low) ≡ bytes_high_first i low
lower_bytes zero k high low most = refl
lower_bytes (suc i) k high low most =
    let rest = lower_bytes i k high low (omega arith) in
    let split : k ≡ (k - suc i) + 1 + i = omega arith in
    let first = ap (λ (t : ℕ). byte_at i (high * 256 ^ t + low)) split ∙ lower_byte i (k - suc i) high low in
    ap (λ (b : ℕ). b ∷ bytes_high_first i (high * 256 ^ k + low)) first ∙ ap (λ (bs : List ℕ). byte_at i low ∷ bs) rest

pub joined_bytes : (j k high low : ℕ) → low < 256 ^ k → bytes_high_first (j + k) (high * 256 ^ k + low) ≡ bytes_high_first j high ++ bytes_high_first k low
joined_bytes zero k high low short =
    let none : 0 + k ≡ k = omega arith in
    ap (λ (t : ℕ). bytes_high_first t (high * 256 ^ k + low)) none ∙ lower_bytes k k high low (omega arith)
joined_bytes (suc j) k high low short =
    let n = high * 256 ^ k + low in
    let next : suc j + k ≡ suc (j + k) = omega arith in
    ap (λ (t : ℕ). bytes_high_first t n) next
    ∙ ap (λ (b : ℕ). b ∷ bytes_high_first (j + k) n) (upper_byte j k high low short)
    ∙ ap (λ (bs : List ℕ). byte_at j high ∷ bs) (joined_bytes j k high low short)

-- ---- the order of bytes

nat_cmp_is : (x y : ℕ) (r : Ordering) → MatchOrdering r (x < y) (x ≡ y) (y < x) → r ≡ nat_cmp x y
nat_cmp_is x y r found = by r (nat_cmp x y) found (ranks x y)
  where
    by : (r s : Ordering) → MatchOrdering r (x < y) (x ≡ y) (y < x) → MatchOrdering s (x < y) (x ≡ y) (y < x) → r ≡ s
    by Less Less p q = refl
    by Equal Equal p q = refl
    by Greater Greater p q = refl
    by Less Equal p q = let a : x < y = p in let b : x ≡ y = q in absurd (omega arith)
    by Less Greater p q = let a : x < y = p in let b : y < x = q in absurd (omega arith)
    by Equal Less p q = let a : x ≡ y = p in let b : x < y = q in absurd (omega arith)
    by Equal Greater p q = let a : x ≡ y = p in let b : y < x = q in absurd (omega arith)
    by Greater Less p q = let a : y < x = p in let b : x < y = q in absurd (omega arith)
    by Greater Equal p q = let a : y < x = p in let b : x ≡ y = q in absurd (omega arith)

higher : (a b p x y : ℕ) → a < b → x < p → a * p + x < b * p + y
higher a b p x y less short =
    let times = mul-le-mul_right p less in
    omega (arith, times)

-- the higher parts decide, and then the lower ones
cmp_parts : (a b p x y : ℕ) → x < p → y < p → ordering_then (nat_cmp a b) (nat_cmp x y) ≡ nat_cmp (a * p + x) (b * p + y)
cmp_parts a b p x y left right = by (nat_cmp a b) (ranks a b)
  where
    rest : (r : Ordering) → MatchOrdering r (x < y) (x ≡ y) (y < x) → a ≡ b → MatchOrdering r (a * p + x < b * p + y) (a * p + x ≡ b * p + y) (b * p + y < a * p + x)
    rest Less h e = let l : x < y = h in rw e (omega arith)
    rest Equal h e = let l : x ≡ y = h in rw e (omega arith)
    rest Greater h e = let l : y < x = h in rw e (omega arith)

    by : (r : Ordering) → MatchOrdering r (a < b) (a ≡ b) (b < a) → ordering_then r (nat_cmp x y) ≡ nat_cmp (a * p + x) (b * p + y)
    by Less h = nat_cmp_is _ _ Less (higher a b p x y h left)
    by Equal h = nat_cmp_is _ _ _ (rest (nat_cmp x y) (ranks x y) h)
    by Greater h = nat_cmp_is _ _ Greater (higher b a p y x h right)

split_byte : (k n : ℕ) → n % 256 ^ suc k ≡ byte_at k n * 256 ^ k + n % 256 ^ k
split_byte k n =
    let next : 256 ^ suc k ≡ 256 * 256 ^ k = pow-suc 256 k ∙ omega arith in
    ap (λ (t : ℕ). n % t) next ∙ mod-mul n {m = 256} (omega arith) (some_power k) ∙ ap (λ (t : ℕ). t * 256 ^ k + n % 256 ^ k) (sym (byte_is k n))

bytes_order : (k a b : ℕ) → slice_cmp nat_cmp (bytes_high_first k a) (bytes_high_first k b) ≡ nat_cmp (a % 256 ^ k) (b % 256 ^ k)
bytes_order zero a b =
    let same : a % 256 ^ 0 ≡ b % 256 ^ 0 = omega arith in
    nat_cmp_is _ _ Equal same
bytes_order (suc k) a b =
    let power = some_power k in
    ap (λ (r : Ordering). ordering_then (nat_cmp (byte_at k a) (byte_at k b)) r) (bytes_order k a b)
    ∙ cmp_parts (byte_at k a) (byte_at k b) (256 ^ k) (a % 256 ^ k) (b % 256 ^ k) (mod-lt a power) (mod-lt b power)
    ∙ (λ i. nat_cmp (sym (split_byte k a) i) (sym (split_byte k b) i))

-- the numbers of bytes that hold them
pub order_of_bytes : (k a b : ℕ) → a < 256 ^ k → b < 256 ^ k → slice_cmp nat_cmp (bytes_high_first k a) (bytes_high_first k b) ≡ nat_cmp a b
order_of_bytes k a b left right = bytes_order k a b ∙ (λ i. nat_cmp (mod-eq_of_lt left i) (mod-eq_of_lt right i))

-- ---- the number of a fraction

-- n is q·d + r, where q is the floor
pub whole_split : (n d : ℤ) → pos 0 <ℤ d → least64 ≤ℤ n → unsigned_abs (n +ℤ pos (2 ^ 63) *ℤ d) ≡ unsigned_abs (int_div_euclid n d +ℤ pos (2 ^ 63)) * unsigned_abs d + unsigned_abs (int_rem_euclid n d)
whole_split (pos n) (pos d) above least = plain n d (n / d) (n % d) (sym (div-add-mod' n d))
  where
    plain : (n d q r : ℕ) → n ≡ q * d + r → n + 2 ^ 63 * d ≡ (q + 2 ^ 63) * d + r
    plain n d q r e = rw e (omega arith)
whole_split (negsuc n) (pos (suc d)) above least =
    let short : n < 2 ^ 63 = omega (arith, ints, least) in
    let q = n / suc d in
    let most : q ≤ n = div-le_self n (suc d) in
    let positive : 0 < suc d = omega arith in
    let number : unsigned_abs (negsuc n +ℤ pos (2 ^ 63 * suc d)) ≡ 2 ^ 63 * suc d - suc n = omega (arith, ints) in
    let top : unsigned_abs (negsuc q +ℤ pos (2 ^ 63)) ≡ 2 ^ 63 - suc q = omega (arith, ints) in
    number ∙ below n (suc d) q (n % suc d) (2 ^ 63) (sym (div-add-mod' n (suc d))) (mod-lt n positive) (omega arith) ∙ ap (λ (t : ℕ). t * suc d + (suc d - 1 - n % suc d)) (sym top)
  where
    below : (n d q r p : ℕ) → n ≡ q * d + r → r < d → q < p → p * d - suc n ≡ (p - suc q) * d + (d - 1 - r)
    below n d q r p e short most =
        let t = p - suc q in
        let whole : (t + suc q) * d ≡ p * d = ap (λ (k : ℕ). k * d) (omega arith) in
        let parts : t * d + (q * d + d) ≡ (t + suc q) * d = omega arith in
        omega (arith, whole, parts, e)
whole_split n (pos zero) above least = absurd (omega (arith, ints, above))
whole_split n (negsuc d) above least = absurd (omega (arith, ints, above))

pub places_split : (m d top r high s low t p : ℕ) → m ≡ top * d + r → high * d + s ≡ r * p → low * d + t ≡ s * p → t < d → m * (p * p) / d ≡ top * (p * p) + (high * p + low)
places_split m d top r high s low t p first second third short =
    let moved : (high * d + s) * p ≡ r * p * p = ap (λ (k : ℕ). k * p) second in
    ap (λ (k : ℕ). k / d) (together m d top r high s low t p first moved third) ∙ div-mul-add (top * (p * p) + (high * p + low)) d t short
  where
    together : (m d top r high s low t p : ℕ) → m ≡ top * d + r → (high * d + s) * p ≡ r * p * p → low * d + t ≡ s * p → m * (p * p) ≡ (top * (p * p) + (high * p + low)) * d + t
    together m d top r high s low t p first second third = rw first (omega (arith, second, third))

-- ---- the order of numbers

number_at_most : (m d n e p : ℕ) → 0 < d → 0 < e → m * e ≤ n * d → m * p / d ≤ n * p / e
number_at_most m d n e p D E most =
    let k = m * p / d in
    let first : k * d ≤ m * p = div-mul-le_self (m * p) d in
    let times : k * d * e ≤ m * p * e = mul-le-mul_right e first in
    let more : m * e * p ≤ n * d * p = mul-le-mul_right p most in
    let whole : (k * e) * d ≤ (n * p) * d = omega (arith, times, more) in
    le-div k (n * p) e E (le_of_mul-le-mul_right whole D)

number_below : (m d n e p : ℕ) → 0 < d → 0 < e → d * e ≤ p → m * e < n * d → m * p / d < n * p / e
number_below m d n e p D E room less =
    let k = m * p / d in
    let first : k * d ≤ m * p = div-mul-le_self (m * p) d in
    let times : k * d * e ≤ m * p * e = mul-le-mul_right e first in
    let more : (m * e + 1) * p ≤ n * d * p = mul-le-mul_right p (subst (λ (t : ℕ). t ≤ n * d) (sym (add-one (m * e))) less) in
    let whole : ((k + 1) * e) * d ≤ (n * p) * d = omega (arith, times, more, room) in
    let next : k + 1 ≤ n * p / e = le-div (k + 1) (n * p) e E (le_of_mul-le-mul_right whole D) in
    omega (arith, next)

-- the number of n/d, times e, is n·e and 2^63·d·e
raised : (n : ℤ) (d e : ℕ) → 0 < d → least64 ≤ℤ n → pos (unsigned_abs (n +ℤ pos (2 ^ 63) *ℤ pos d) * e) ≡ n *ℤ pos e +ℤ pos (2 ^ 63 * d * e)
raised (pos n) d e positive least = omega (arith, ints)
raised (negsuc n) d e positive least =
    let short : suc n ≤ 2 ^ 63 = omega (arith, ints, least) in
    let number : unsigned_abs (negsuc n +ℤ pos (2 ^ 63 * d)) ≡ 2 ^ 63 * d - suc n = omega (arith, ints) in
    let t = 2 ^ 63 * d - suc n in
    let whole : (t + suc n) * e ≡ 2 ^ 63 * d * e = ap (λ (k : ℕ). k * e) (omega arith) in
    let parts : t * e + suc n * e ≡ (t + suc n) * e = omega arith in
    rw number (omega (arith, ints, whole, parts))

-- both numbers have the order of the cross products
module _ (n m : ℤ) (d e : ℕ) (D : 0 < d) (E : 0 < e) (d_short : d < 2 ^ 63) (e_short : e < 2 ^ 63) (n_least : least64 ≤ℤ n) (m_least : least64 ≤ℤ m) where
  abbrev a : ℕ
  a = unsigned_abs (n +ℤ pos (2 ^ 63) *ℤ pos d)

  abbrev b : ℕ
  b = unsigned_abs (m +ℤ pos (2 ^ 63) *ℤ pos e)

  room : d * e ≤ 2 ^ 128
  room = let most = mul-le d e (2 ^ 63) (2 ^ 63) (omega arith) (omega arith) in omega (arith, most)

  room_turned : e * d ≤ 2 ^ 128
  room_turned = let same : e * d ≡ d * e = omega arith in omega (arith, same, room)

  left : pos (a * e) ≡ n *ℤ pos e +ℤ pos (2 ^ 63 * d * e)
  left = raised n d e D n_least

  right : pos (b * d) ≡ m *ℤ pos d +ℤ pos (2 ^ 63 * d * e)
  right = let turned : 2 ^ 63 * e * d ≡ 2 ^ 63 * d * e = omega arith in raised m e d E m_least ∙ ap (λ (k : ℕ). m *ℤ pos d +ℤ pos k) turned

  by_order : (r : Ordering) → MatchOrdering r (a * e < b * d) (a * e ≡ b * d) (b * d < a * e) → nat_cmp (sortable_number (n, pos d)) (sortable_number (m, pos e)) ≡ int_cmp (n *ℤ pos e) (m *ℤ pos d)
  by_order Less h =
      let less : a * e < b * d = h in
      sym (nat_cmp_is (sortable_number (n, pos d)) (sortable_number (m, pos e)) Less (number_below a d b e (2 ^ 128) D E room less)) ∙ int_cmp_is (n *ℤ pos e) (m *ℤ pos d) Less (omega (arith, ints, left, right, less))
  by_order Equal h =
      let same : a * e ≡ b * d = h in
      let first = number_at_most a d b e (2 ^ 128) D E (omega arith) in
      let second = number_at_most b e a d (2 ^ 128) E D (omega arith) in
      let numbers : sortable_number (n, pos d) ≡ sortable_number (m, pos e) = omega (arith, first, second) in
      let products : n *ℤ pos e ≡ m *ℤ pos d = omega (arith, ints, left, right, same) in
      sym (nat_cmp_is (sortable_number (n, pos d)) (sortable_number (m, pos e)) Equal numbers) ∙ int_cmp_is (n *ℤ pos e) (m *ℤ pos d) Equal products
  by_order Greater h =
      let more : b * d < a * e = h in
      sym (nat_cmp_is (sortable_number (n, pos d)) (sortable_number (m, pos e)) Greater (number_below b e a d (2 ^ 128) E D room_turned more)) ∙ int_cmp_is (n *ℤ pos e) (m *ℤ pos d) Greater (omega (arith, ints, left, right, more))

  numbers_order : nat_cmp (sortable_number (n, pos d)) (sortable_number (m, pos e)) ≡ int_cmp (n *ℤ pos e) (m *ℤ pos d)
  numbers_order = by_order (nat_cmp (a * e) (b * d)) (ranks (a * e) (b * d))

-- ---- the bytes of a fraction

pub two_parts : (high low : ℕ) → low < 2 ^ 128 → bytes_high_first 8 high ++ bytes_high_first 16 low ≡ key_bytes (high * 2 ^ 128 + low)
unfolding key_bytes
two_parts high low short = sym (joined_bytes 8 16 high low short)

number_short : (n : ℤ) (d : ℕ) → 0 < d → least64 ≤ℤ n → n ≤ℤ greatest64 → sortable_number (n, pos d) < 256 ^ 24
number_short n d positive least most =
    let number = unsigned_abs (n +ℤ pos (2 ^ 63) *ℤ pos d) in
    let below : number < 2 ^ 64 * d = omega (arith, ints) in
    (div-lt_iff_lt-mul positive).1 (omega (arith, below))

pub bytes_keep_order : (n m d e : ℤ) → pos 0 <ℤ d → pos 0 <ℤ e → d ≤ℤ greatest64 → e ≤ℤ greatest64 → least64 ≤ℤ n → least64 ≤ℤ m → n ≤ℤ greatest64 → m ≤ℤ greatest64
    → slice_cmp nat_cmp (sortable_bytes (n, d)) (sortable_bytes (m, e)) ≡ int_cmp (n *ℤ e) (m *ℤ d)
unfolding key_bytes
bytes_keep_order n m (pos d) (pos e) D E d_most e_most n_least m_least n_most m_most =
    order_of_bytes 24 _ _ (number_short n d (omega (arith, ints)) n_least n_most) (number_short m e (omega (arith, ints)) m_least m_most)
    ∙ numbers_order n m d e (omega (arith, ints)) (omega (arith, ints)) (omega (arith, ints)) (omega (arith, ints)) n_least m_least
bytes_keep_order n m (negsuc d) e D E d_most e_most n_least m_least n_most m_most = absurd (omega (arith, ints, D))
bytes_keep_order n m (pos d) (negsuc e) D E d_most e_most n_least m_least n_most m_most = absurd (omega (arith, ints, E))

-- over positive denominators the order is that of the cross products
plain_order : (n m d e : ℤ) → pos 0 <ℤ d → pos 0 <ℤ e → int_cmp (n *ℤ e) (m *ℤ d) ≡ cross_cmp n d m e
unfolding cross_cmp
plain_order n m (pos d) (pos e) D E = λ i. int_cmp (one_times (n *ℤ pos e) i) (one_times (m *ℤ pos d) i)
  where
    one_times : (z : ℤ) → z ≡ pos 1 *ℤ z
    one_times z = omega (arith, ints)
plain_order n m (negsuc d) e D E = absurd (omega (arith, ints, D))
plain_order n m (pos d) (negsuc e) D E = absurd (omega (arith, ints, E))

pub keep_order : BytesKeepOrder
keep_order x y both x_held y_held =
    bytes_keep_order x.0 y.0 x.1 y.1 both.0 both.1 x_held.1.below y_held.1.below x_held.0.above y_held.0.above x_held.0.below y_held.0.below ∙ plain_order x.0 y.0 x.1 y.1 both.0 both.1
