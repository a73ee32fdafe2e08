-- What reading hexadecimal text answers, and what it leaves in the output.
use Rattle.std.specs.Prelude.{◌≡◌, ℕ, ◌/◌, ◌%◌, ◌<◌, Bool, cond, ◌&&◌, List, length, drop, Some, None, Option, ◌==◌, nat_le, slice_index}
use Rattle.hexadecimal.specs.Digits.{all_digits, octet_at}

-- How many octets: there are none unless the text is whole pairs of digits and the output has room.
abbrev pub parse_answer : List ℕ → ℕ → Option ℕ
parse_answer text room =
    cond (length text % 2 == 0 && (nat_le (length text / 2) room && all_digits text)) (Some (length text / 2)) None

-- The octets stand at the front of the output and the rest is as it was; or all is as it was.
abbrev pub Parsed : Option ℕ → List ℕ → List ℕ → List ℕ → Type 0
Parsed (Some n) text old new = ((k : ℕ) → k < n → slice_index new k ≡ octet_at text k) × (drop n new ≡ drop n old)
Parsed None text old new = new ≡ old

-- Whether a text is whole pairs of digits.
abbrev pub is_octets : List ℕ → Bool
is_octets text = length text % 2 == 0 && all_digits text

-- A text's octets, one for each of its pairs.
abbrev pub Writes : List ℕ → List ℕ → Type 0
Writes text octets = (length octets ≡ length text / 2) × ((k : ℕ) → k < length octets → slice_index octets k ≡ octet_at text k)
