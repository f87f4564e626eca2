-- The numbers that C sees in include/ratio.h, and the multiplier of the hash. An *answer* is a struct there: a code and, mostly, two numbers.
use Rattle.std.specs.Prelude.{ℕ}

-- what a call returns that wrote its answers: 0
abbrev pub return_done : ℕ
return_done = 0

-- what a call returns if the lengths do not fit and it wrote nothing: 1
abbrev pub return_bad_length : ℕ
return_bad_length = 1

-- the code of an answer with its numbers: 0. The codes 1 to 15 say why there are none
abbrev pub code_answered : ℕ
code_answered = 0

-- the code 1: a number of the result does not fit the type, or there is no such result
abbrev pub code_not_held : ℕ
code_not_held = 1

-- the code 2: the divisor is 0
abbrev pub code_division_by_zero : ℕ
code_division_by_zero = 2

-- the code 3: a denominator is not positive
-- Example: 1/0 + 1/2: code 3
abbrev pub code_denominator_not_positive : ℕ
code_denominator_not_positive = 3

-- the code 4: a denominator is 0
abbrev pub code_zero_denominator : ℕ
code_zero_denominator = 4

-- the code 5: the text is none that the call reads, or `read` needs more than 128 bits for it
abbrev pub code_parse_error : ℕ
code_parse_error = 5

-- the code 6: the place of the text is not within the texts
abbrev pub code_no_text : ℕ
code_no_text = 6

-- the code 7: the bound of the denominator is not positive
abbrev pub code_bound_not_positive : ℕ
code_bound_not_positive = 7

-- the code 8: an empty slot of a total has a numerator that is not 0
abbrev pub code_no_total : ℕ
code_no_total = 8

-- the code 9: an option, such as a flag, a rule or a number of places, is not one of those that the call takes
abbrev pub code_bad_option : ℕ
code_bad_option = 9

-- the code 10: a total has no slot for another denominator, or a read or a product of many has too little room
abbrev pub code_more_room : ℕ
code_more_room = 10

-- the code 11: the common denominator of a total is not below 2^(2^20)
abbrev pub code_too_long : ℕ
code_too_long = 11

-- the code 12: a share or a weight is below 0
abbrev pub code_below_zero : ℕ
code_below_zero = 12

-- the code 13: the shares do not add up to 1
abbrev pub code_not_one : ℕ
code_not_one = 13

-- the code 14: the weights add up to 0
abbrev pub code_all_zero : ℕ
code_all_zero = 14

-- the code 15: there are not as many parts as shares or weights
abbrev pub code_unlike_lengths : ℕ
code_unlike_lengths = 15

-- the flag 1: the lower bound is included
abbrev pub code_low_included : ℕ
code_low_included = 1

-- the flag 2: the upper bound is included
abbrev pub code_high_included : ℕ
code_high_included = 2

-- the flag 4: there is no lower bound
abbrev pub code_low_open : ℕ
code_low_open = 4

-- the flag 8: there is no upper bound
abbrev pub code_high_open : ℕ
code_high_open = 8

-- the number of the rounding rule `HalfAway`: 0
abbrev pub code_rule_half_away : ℕ
code_rule_half_away = 0

-- the number of the rounding rule `HalfEven`: 1
abbrev pub code_rule_half_even : ℕ
code_rule_half_even = 1

-- the number of the rounding rule `Down`: 2
abbrev pub code_rule_down : ℕ
code_rule_down = 2

-- the number of the rounding rule `Up`: 3
abbrev pub code_rule_up : ℕ
code_rule_up = 3

-- the number of the rounding rule `Floor`: 4
abbrev pub code_rule_floor : ℕ
code_rule_floor = 4

-- the number of the rounding rule `Ceil`: 5
abbrev pub code_rule_ceil : ℕ
code_rule_ceil = 5

-- how many bytes a call that prints requires for each fraction of 32 bits: 23
-- Example: two numbers of at most 11 bytes and a slash: 2·11 + 1
abbrev pub room32 : ℕ
room32 = 23

-- how many bytes a call that prints requires for each fraction of 64 bits: 41
abbrev pub room64 : ℕ
room64 = 41

-- how many bytes a call that prints requires for each fraction of 128 bits: 81
abbrev pub room128 : ℕ
room128 = 81

-- how many bytes a call requires for each decimal of a fraction of 32 bits, with at most 38 places: 50
-- Example: `-2147483648.` and 38 digits
abbrev pub decimal_room32 : ℕ
decimal_room32 = 50

-- how many bytes a call requires for each decimal of a fraction of 64 bits, with at most 38 places: 59
abbrev pub decimal_room64 : ℕ
decimal_room64 = 59

-- how many bytes a call requires for each decimal of a fraction of 128 bits, with at most 38 places: 79
abbrev pub decimal_room128 : ℕ
decimal_room128 = 79

-- a hash is multiplied by this, 0x9e3779b97f4a7c15, before it takes the next code
abbrev pub hash_multiplier : ℕ
hash_multiplier = 0x9e37_79b9_7f4a_7c15

-- the modulus of the hash that Python gives a number, a prime number: 2^61 - 1
abbrev pub hash_modulus : ℕ
hash_modulus = 0x1fff_ffff_ffff_ffff

-- the hash that Python gives infinity, and a fraction whose denominator has no inverse modulo 2^61 - 1: 314159
abbrev pub hash_infinite : ℕ
hash_infinite = 314_159
