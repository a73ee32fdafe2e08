-- What the two ways through the rounds have in common.
use Rattle.std.specs.Prelude.{◌≡◌, ℕ, ◌+◌, ◌-◌, ◌*◌, ◌%◌, List, [], ◌∷◌, fold, slice_index, refl}
use Rattle.std.proofs.Common.{ap, arith}
use Rattle.belt.specs.Cipher.{steps, round_key, swaps_forward, swaps_backward, round_forward, round_backward, rounds_up, rounds_down, loaded, stored, encrypt, decrypt}
use Rattle.belt.specs.declared.cipher.Quad.{Quad}

-- A round, counted from 0: the nine steps with the keys at the seven places, and then the words in their order.
abbrev pub IsRound : (List ℕ → ℕ → Quad → Quad) → (Quad → Quad) → (ℕ → ℕ → ℕ) → Type 0
IsRound round swaps place =
    (key : List ℕ) (i : ℕ) (s : Quad)
    → round key (i + 1) s
    ≡ swaps (steps (i + 1) (slice_index key (place i 0 % 8)) (slice_index key (place i 1 % 8)) (slice_index key (place i 2 % 8)) (slice_index key (place i 3 % 8)) (slice_index key (place i 4 % 8)) (slice_index key (place i 5 % 8)) (slice_index key (place i 6 % 8)) s)

-- A whole way: the rounds in their order, and the words once more in theirs.
abbrev pub IsWay : (List ℕ → List ℕ → List ℕ) → (List ℕ → ℕ → Quad → Quad) → (Quad → Quad) → List ℕ → Type 0
IsWay image round swaps rounds =
    (key x : List ℕ) → image key x ≡ stored (swaps (fold (λ s i. round key (i + 1) s) (loaded x) rounds))

-- A key by its number in the round, and by its place among the eight.
turned : (key : List ℕ) (n m : ℕ) → n - 1 ≡ m → round_key key n ≡ slice_index key (m % 8)
turned key n m e = ap (λ k. slice_index key (k % 8)) e

pub round-one-forward : IsRound round_forward swaps_forward (λ i j. 7 * i + j)
unfolding round_forward
round-one-forward key i s =
    let k₀ = turned key (7 * (i + 1) - 6) (7 * i + 0) (omega arith) in
    let k₁ = turned key (7 * (i + 1) - 5) (7 * i + 1) (omega arith) in
    let k₂ = turned key (7 * (i + 1) - 4) (7 * i + 2) (omega arith) in
    let k₃ = turned key (7 * (i + 1) - 3) (7 * i + 3) (omega arith) in
    let k₄ = turned key (7 * (i + 1) - 2) (7 * i + 4) (omega arith) in
    let k₅ = turned key (7 * (i + 1) - 1) (7 * i + 5) (omega arith) in
    let k₆ = turned key (7 * (i + 1)) (7 * i + 6) (omega arith) in
    λ t. swaps_forward (steps (i + 1) (k₀ t) (k₁ t) (k₂ t) (k₃ t) (k₄ t) (k₅ t) (k₆ t) s)

pub round-one-backward : IsRound round_backward swaps_backward (λ i j. 7 * i + (6 - j))
unfolding round_backward
round-one-backward key i s =
    let k₀ = turned key (7 * (i + 1)) (7 * i + (6 - 0)) (omega arith) in
    let k₁ = turned key (7 * (i + 1) - 1) (7 * i + (6 - 1)) (omega arith) in
    let k₂ = turned key (7 * (i + 1) - 2) (7 * i + (6 - 2)) (omega arith) in
    let k₃ = turned key (7 * (i + 1) - 3) (7 * i + (6 - 3)) (omega arith) in
    let k₄ = turned key (7 * (i + 1) - 4) (7 * i + (6 - 4)) (omega arith) in
    let k₅ = turned key (7 * (i + 1) - 5) (7 * i + (6 - 5)) (omega arith) in
    let k₆ = turned key (7 * (i + 1) - 6) (7 * i + (6 - 6)) (omega arith) in
    λ t. swaps_backward (steps (i + 1) (k₀ t) (k₁ t) (k₂ t) (k₃ t) (k₄ t) (k₅ t) (k₆ t) s)

pub encrypt-all : IsWay encrypt round_forward swaps_forward (0 ∷ 1 ∷ 2 ∷ 3 ∷ 4 ∷ 5 ∷ 6 ∷ 7 ∷ [])
unfolding encrypt rounds_up
encrypt-all key x = refl

pub decrypt-all : IsWay decrypt round_backward swaps_backward (7 ∷ 6 ∷ 5 ∷ 4 ∷ 3 ∷ 2 ∷ 1 ∷ 0 ∷ [])
unfolding decrypt rounds_down
decrypt-all key x = refl
