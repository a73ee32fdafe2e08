-- The BelT block: sixteen octets as four words through eight rounds, under a key of eight words.
use Rattle.std.specs.Prelude.{ℕ, zero, suc, ◌-◌, ◌*◌, ◌%◌, List, ◌++◌, slice_index}
use Rattle.blocks.specs.Fields.{field}
use Rattle.blocks.specs.Steps.{Step}
use Rattle.belt.specs.Words.{◌⊞◌, ◌⊟◌, ◌⊕◌, word_at, g}
use Rattle.belt.specs.declared.cipher.Quad.{Quad}

-- Round key i, from 1 to 56: the eight words of the key in turn.
abbrev pub round_key : List ℕ → ℕ → ℕ
round_key key i = slice_index key ((i - 1) % 8)

-- The nine steps of round i, with the round's seven keys in the order of their use.
unfoldable pub steps : ℕ → ℕ → ℕ → ℕ → ℕ → ℕ → ℕ → ℕ → Quad → Quad
steps i k₁ k₂ k₃ k₄ k₅ k₆ k₇ s =
    let b₁ : ℕ = s.b ⊕ g 5 (s.a ⊞ k₁) in
    let c₂ : ℕ = s.c ⊕ g 21 (s.d ⊞ k₂) in
    let a₃ : ℕ = s.a ⊟ g 13 (b₁ ⊞ k₃) in
    let e : ℕ = g 21 (b₁ ⊞ c₂ ⊞ k₄) ⊕ i in
    let b₅ : ℕ = b₁ ⊞ e in
    let c₆ : ℕ = c₂ ⊟ e in
    let d₇ : ℕ = s.d ⊞ g 13 (c₆ ⊞ k₅) in
    let b₈ : ℕ = b₅ ⊕ g 21 (a₃ ⊞ k₆) in
    let c₉ : ℕ = c₆ ⊕ g 5 (d₇ ⊞ k₇) in
    record { a = a₃; b = b₈; c = c₉; d = d₇ }

-- The end of a round forward: swap a and b, swap c and d, swap b and c. Backward the last swap is of a and d.
abbrev pub swaps_forward : Quad → Quad
swaps_forward s = record { a = s.b; b = s.d; c = s.a; d = s.c }

abbrev pub swaps_backward : Quad → Quad
swaps_backward s = record { a = s.c; b = s.a; c = s.d; d = s.b }

-- Round i forward; and backward, with its keys from last to first.
unfoldable pub round_forward : List ℕ → ℕ → Quad → Quad
round_forward key i s =
    swaps_forward
    (steps i (round_key key (7 * i - 6)) (round_key key (7 * i - 5)) (round_key key (7 * i - 4)) (round_key key (7 * i - 3)) (round_key key (7 * i - 2)) (round_key key (7 * i - 1)) (round_key key (7 * i)) s)

unfoldable pub round_backward : List ℕ → ℕ → Quad → Quad
round_backward key i s =
    swaps_backward
    (steps i (round_key key (7 * i)) (round_key key (7 * i - 1)) (round_key key (7 * i - 2)) (round_key key (7 * i - 3)) (round_key key (7 * i - 4)) (round_key key (7 * i - 5)) (round_key key (7 * i - 6)) s)

-- Rounds 1 to n, and rounds n down to 1.
unfoldable pub rounds_up : List ℕ → ℕ → Quad → Quad
rounds_up key zero s = s
rounds_up key (suc n) s = round_forward key (suc n) (rounds_up key n s)

unfoldable pub rounds_down : List ℕ → ℕ → Quad → Quad
rounds_down key zero s = s
rounds_down key (suc n) s = rounds_down key n (round_backward key (suc n) s)

-- Four words from sixteen octets, and back.
abbrev pub loaded : List ℕ → Quad
loaded x = record { a = word_at x 0; b = word_at x 4; c = word_at x 8; d = word_at x 12 }

abbrev pub stored : Quad → List ℕ
stored s = field 4 s.a ++ field 4 s.b ++ field 4 s.c ++ field 4 s.d

-- The block forward: eight rounds, then b, d, a, c.
unfoldable pub encrypt : List ℕ → List ℕ → List ℕ
encrypt key x = stored (swaps_forward (rounds_up key 8 (loaded x)))

-- The block backward: eight rounds down, then c, a, d, b.
unfoldable pub decrypt : List ℕ → List ℕ → List ℕ
decrypt key x = stored (swaps_backward (rounds_down key 8 (loaded x)))

-- What the BelT block means under the eight words of its key.
abbrev pub belt : List ℕ → Step
belt key = record { image = encrypt key; preimage = decrypt key }
