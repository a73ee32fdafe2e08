-- Words: numbers below 2 ^ 32, which four octets write, the least octet first.
use Rattle.std.specs.Prelude.{ℕ, ◌+◌, ◌-◌, ◌*◌, ◌/◌, ◌%◌, ◌^◌, List, [], ◌∷◌, map, bit_xor, slice_index}
use Rattle.blocks.specs.Fields.{field, number}
use Rattle.belt.specs.Table.{table}

infixl 60 ◌⊞◌ ◌⊟◌ ◌⊕◌
-- Sum and difference modulo 2 ^ 32, and exclusive or.
abbrev pub ◌⊞◌ : ℕ → ℕ → ℕ
x ⊞ y = (x + y) % 2 ^ 32

abbrev pub ◌⊟◌ : ℕ → ℕ → ℕ
x ⊟ y = (x + (2 ^ 32 - y)) % 2 ^ 32

abbrev pub ◌⊕◌ : ℕ → ℕ → ℕ
x ⊕ y = bit_xor x y

-- A word rotated left by r bits.
abbrev pub rotated : ℕ → ℕ → ℕ
rotated r u = (u * 2 ^ r) % 2 ^ 32 + u / 2 ^ (32 - r)

-- The four octets of x from place j on, and the word that they write.
abbrev pub four : List ℕ → ℕ → List ℕ
four x j = slice_index x j ∷ slice_index x (j + 1) ∷ slice_index x (j + 2) ∷ slice_index x (j + 3) ∷ []

abbrev pub word_at : List ℕ → ℕ → ℕ
word_at x j = number (four x j)

-- The entry of the table at an octet.
unfoldable pub h : ℕ → ℕ
h x = slice_index table x

-- Each octet of a word replaced by its entry, and then the word rotated left by r bits.
unfoldable pub g : ℕ → ℕ → ℕ
g r u = rotated r (number (map h (field 4 u)))
