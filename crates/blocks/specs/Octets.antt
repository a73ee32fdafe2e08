-- Octets: numbers below 256, in lists.
use Rattle.std.specs.Prelude.{◌≡◌, ℕ, zero, suc, ◌<◌, List, [], ◌∷◌, length, bit_xor, slice_index}

-- Each element is an octet (past the end `get_or` answers 0).
abbrev pub Octets : List ℕ → Type 0
Octets p = (k : ℕ) → slice_index p k < 256

-- Sixteen octets: what a block steps on.
abbrev pub Sixteen : List ℕ → Type 0
Sixteen p = (length p ≡ 16) × Octets p

-- Octet by octet exclusive or, as long as the shorter of the two.
abbrev pub xor_each : List ℕ → List ℕ → List ℕ
xor_each [] ys = []
xor_each (x ∷ xs) [] = []
xor_each (x ∷ xs) (y ∷ ys) = bit_xor x y ∷ xor_each xs ys

-- The n octets of x from place i on.
abbrev pub part : ℕ → ℕ → List ℕ → List ℕ
part i zero x = []
part i (suc n) x = slice_index x i ∷ part (suc i) n x

-- The most octets of a message, in every call that takes one.
abbrev pub longest : ℕ
longest = 65536
