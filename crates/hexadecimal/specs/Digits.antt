-- Octets as pairs of hexadecimal digits, 0 to 9 and upper-case A to F, the high digit first.
use Rattle.std.specs.Prelude.{ℕ, ◌+◌, ◌-◌, ◌*◌, Bool, cond, ◌&&◌, ◌||◌, List, nat_le, nat_lt, slice_index}
use Rattle.std.specs.List.{list_all}

-- Whether a character is a digit.
abbrev pub is_digit : ℕ → Bool
is_digit c = (nat_le 48 c && nat_lt c 58) || (nat_le 65 c && nat_lt c 71)

-- What a digit stands for.
abbrev pub digit_value : ℕ → ℕ
digit_value c = cond (nat_lt c 58) (c - 48) (c - 55)

abbrev pub all_digits : List ℕ → Bool
all_digits text = list_all is_digit text

-- The octet that the k-th pair of a text writes.
abbrev pub octet_at : List ℕ → ℕ → ℕ
octet_at text k = 16 * digit_value (slice_index text (2 * k)) + digit_value (slice_index text (2 * k + 1))
