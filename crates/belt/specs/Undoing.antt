-- The rounds backward undo the rounds forward, and the other way round. `g` stays shut: of it only the bound is used.
use Rattle.std.specs.Prelude.{◌≡◌, ℕ, zero, suc, ◌+◌, ◌-◌, ◌*◌, ◌^◌, ◌<◌, List, ◌++◌, refl}
use Rattle.std.proofs.Common.{ap, ◌∙◌, arith, lit<}
use Rattle.blocks.specs.Octets.{Octets, Sixteen}
use Rattle.blocks.specs.Fields.{field}
use Rattle.blocks.specs.Steps.{Reversible}
use Rattle.blocks.specs.Octetwise.{xor-undo}
use Rattle.blocks.proofs.Numbers.{number-field, field-number, octets-field, octets-append, listed}
use Rattle.belt.specs.Words.{◌⊞◌, ◌⊟◌, ◌⊕◌, g, four, word_at}
use Rattle.belt.specs.Cipher.{steps, round_key, swaps_forward, swaps_backward, round_forward, round_backward, rounds_up, rounds_down, loaded, stored, encrypt, decrypt, belt}
use Rattle.belt.specs.declared.cipher.Quad.{Quad}
use Rattle.belt.specs.Wordwise.{add-undo, sub-undo, moved_sum, add-word, sub_word, xor-word, g5-word, g13-word, g21-word}

-- Four words that fit.
abbrev pub Words : Quad → Type 0
Words s = (s.a < 2 ^ 32) × (s.b < 2 ^ 32) × (s.c < 2 ^ 32) × (s.d < 2 ^ 32)

-- The four words from last to first.
abbrev pub back : Quad → Quad
back s = record { a = s.d; b = s.c; c = s.b; d = s.a }

module _ (i k₁ k₂ k₃ k₄ k₅ k₆ k₇ : ℕ) (s : Quad) (small : i < 2 ^ 32) (w : Words s) where
  -- The steps with the round keys from last to first, on the words from last to first.
  pub steps-undo : steps i k₇ k₆ k₅ k₄ k₃ k₂ k₁ (back (steps i k₁ k₂ k₃ k₄ k₅ k₆ k₇ s)) ≡ back s
  unfolding steps
  steps-undo =
      let b₁ : ℕ = s.b ⊕ g 5 (s.a ⊞ k₁) in
      let c₂ : ℕ = s.c ⊕ g 21 (s.d ⊞ k₂) in
      let a₃ : ℕ = s.a ⊟ g 13 (b₁ ⊞ k₃) in
      let e : ℕ = g 21 (b₁ ⊞ c₂ ⊞ k₄) ⊕ i in
      let b₅ : ℕ = b₁ ⊞ e in
      let c₆ : ℕ = c₂ ⊟ e in
      let d₇ : ℕ = s.d ⊞ g 13 (c₆ ⊞ k₅) in
      let wb : b₁ < 2 ^ 32 = xor-word s.b (g 5 (s.a ⊞ k₁)) w.1 (g5-word (s.a ⊞ k₁)) in
      let wc : c₂ < 2 ^ 32 = xor-word s.c (g 21 (s.d ⊞ k₂)) w.2 (g21-word (s.d ⊞ k₂)) in
      let we : e < 2 ^ 32 = xor-word (g 21 (b₁ ⊞ c₂ ⊞ k₄)) i (g21-word (b₁ ⊞ c₂ ⊞ k₄)) small in
      let u₁ = xor-undo c₆ (g 5 (d₇ ⊞ k₇)) in
      let u₂ = xor-undo b₅ (g 21 (a₃ ⊞ k₆)) in
      let u₃ = add-undo s.d (g 13 (c₆ ⊞ k₅)) w.3 (g13-word (c₆ ⊞ k₅)) in
      let u₄ = moved_sum b₁ c₂ e we in
      let u₅ = sub-undo c₂ e wc we in
      let u₆ = add-undo b₁ e wb we in
      let u₇ = sub-undo s.a (g 13 (b₁ ⊞ k₃)) w.0 (g13-word (b₁ ⊞ k₃)) in
      let u₈ = xor-undo s.c (g 21 (s.d ⊞ k₂)) in
      let u₉ = xor-undo s.b (g 5 (s.a ⊞ k₁)) in
      cc

  pub steps-words : Words (steps i k₁ k₂ k₃ k₄ k₅ k₆ k₇ s)
  unfolding steps
  steps-words =
      let b₁ : ℕ = s.b ⊕ g 5 (s.a ⊞ k₁) in
      let c₂ : ℕ = s.c ⊕ g 21 (s.d ⊞ k₂) in
      let a₃ : ℕ = s.a ⊟ g 13 (b₁ ⊞ k₃) in
      let e : ℕ = g 21 (b₁ ⊞ c₂ ⊞ k₄) ⊕ i in
      let c₆ : ℕ = c₂ ⊟ e in
      let d₇ : ℕ = s.d ⊞ g 13 (c₆ ⊞ k₅) in (
        sub_word s.a (g 13 (b₁ ⊞ k₃)),
        xor-word (b₁ ⊞ e) (g 21 (a₃ ⊞ k₆)) (add-word b₁ e) (g21-word (a₃ ⊞ k₆)),
        xor-word c₆ (g 5 (d₇ ⊞ k₇)) (sub_word c₂ e) (g5-word (d₇ ⊞ k₇)),
        add-word s.d (g 13 (c₆ ⊞ k₅)),
      )

-- A block of words through one round and back, at a round's number i.
pub round-undo : (key : List ℕ) (i : ℕ) (s : Quad) → i < 2 ^ 32 → Words s
    → round_backward key i (swaps_forward (round_forward key i s)) ≡ swaps_forward s
unfolding round_forward round_backward
round-undo key i s small w =
    ap swaps_backward
    (steps-undo i (round_key key (7 * i - 6)) (round_key key (7 * i - 5)) (round_key key (7 * i - 4)) (round_key key (7 * i - 3)) (round_key key (7 * i - 2)) (round_key key (7 * i - 1)) (round_key key (7 * i)) s small w)

pub round-redo : (key : List ℕ) (i : ℕ) (s : Quad) → i < 2 ^ 32 → Words s
    → round_forward key i (swaps_backward (round_backward key i s)) ≡ swaps_backward s
unfolding round_forward round_backward
round-redo key i s small w =
    ap swaps_forward
    (steps-undo i (round_key key (7 * i)) (round_key key (7 * i - 1)) (round_key key (7 * i - 2)) (round_key key (7 * i - 3)) (round_key key (7 * i - 4)) (round_key key (7 * i - 5)) (round_key key (7 * i - 6)) s small w)

forward-words : (key : List ℕ) (i : ℕ) (s : Quad) → i < 2 ^ 32 → Words s → Words (round_forward key i s)
unfolding round_forward
forward-words key i s small w =
    let v = steps-words i (round_key key (7 * i - 6)) (round_key key (7 * i - 5)) (round_key key (7 * i - 4)) (round_key key (7 * i - 3)) (round_key key (7 * i - 2)) (round_key key (7 * i - 1)) (round_key key (7 * i)) s small w in
    (v.1, v.3, v.0, v.2)

backward-words : (key : List ℕ) (i : ℕ) (s : Quad) → i < 2 ^ 32 → Words s → Words (round_backward key i s)
unfolding round_backward
backward-words key i s small w =
    let v = steps-words i (round_key key (7 * i)) (round_key key (7 * i - 1)) (round_key key (7 * i - 2)) (round_key key (7 * i - 3)) (round_key key (7 * i - 4)) (round_key key (7 * i - 5)) (round_key key (7 * i - 6)) s small w in
    (v.2, v.0, v.3, v.1)

up-words : (key : List ℕ) (n : ℕ) (s : Quad) → n < 2 ^ 32 → Words s → Words (rounds_up key n s)
unfolding rounds_up
up-words key zero s small w = w
up-words key (suc n) s small w = forward-words key (suc n) (rounds_up key n s) small (up-words key n s (omega arith) w)

down-words : (key : List ℕ) (n : ℕ) (s : Quad) → n < 2 ^ 32 → Words s → Words (rounds_down key n s)
unfolding rounds_down
down-words key zero s small w = w
down-words key (suc n) s small w = down-words key n (round_backward key (suc n) s) (omega arith) (backward-words key (suc n) s small w)

-- Rounds 1 to n, and then n down to 1; and n down to 1, and then 1 to n.
pub down-up : (key : List ℕ) (n : ℕ) (s : Quad) → n < 2 ^ 32 → Words s
    → rounds_down key n (swaps_forward (rounds_up key n s)) ≡ swaps_forward s
unfolding rounds_up rounds_down
down-up key zero s small w = refl
down-up key (suc n) s small w =
    ap (λ t. rounds_down key n t) (round-undo key (suc n) (rounds_up key n s) small (up-words key n s (omega arith) w))
    ∙ down-up key n s (omega arith) w

pub up-down : (key : List ℕ) (n : ℕ) (s : Quad) → n < 2 ^ 32 → Words s
    → rounds_up key n (swaps_backward (rounds_down key n s)) ≡ swaps_backward s
unfolding rounds_up rounds_down
up-down key zero s small w = refl
up-down key (suc n) s small w =
    ap (λ t. round_forward key (suc n) t) (up-down key n (round_backward key (suc n) s) (omega arith) (backward-words key (suc n) s small w))
    ∙ round-redo key (suc n) s small w

-- Words to octets and back.
loaded-stored : (s : Quad) → Words s → loaded (stored s) ≡ s
loaded-stored s w =
    let p = number-field 4 s.a w.0 in
    let q = number-field 4 s.b w.1 in
    let r = number-field 4 s.c w.2 in
    let t = number-field 4 s.d w.3 in
    λ j. record { a = p j; b = q j; c = r j; d = t j }

four-octets : (x : List ℕ) → Octets x → (i : ℕ) → Octets (four x i)
four-octets x o i zero = o i
four-octets x o i (suc zero) = o (i + 1)
four-octets x o i (suc (suc zero)) = o (i + 2)
four-octets x o i (suc (suc (suc zero))) = o (i + 3)
four-octets x o i (suc (suc (suc (suc k)))) = lit< tt

stored_loaded : (x : List ℕ) → Sixteen x → stored (loaded x) ≡ x
stored_loaded x b =
    let o : (i : ℕ) → field 4 (word_at x i) ≡ four x i = λ i. field-number (four x i) (four-octets x b.1 i) in
    (λ j. o 0 j ++ o 4 j ++ o 8 j ++ o 12 j) ∙ listed 16 x b.0

loaded-words : (x : List ℕ) → Sixteen x → Words (loaded x)
loaded-words x b =
    let w : (i : ℕ) → word_at x i < 2 ^ 32 = λ i. omega (arith, b.1 i, b.1 (i + 1), b.1 (i + 2), b.1 (i + 3)) in
    (w 0, w 4, w 8, w 12)

pub decrypt-encrypt : (key x : List ℕ) → Sixteen x → decrypt key (encrypt key x) ≡ x
unfolding encrypt decrypt
decrypt-encrypt key x b =
    let w = loaded-words x b in
    let v = up-words key 8 (loaded x) (lit< tt) w in
    ap (λ s. stored (swaps_backward (rounds_down key 8 s)))
    (loaded-stored (swaps_forward (rounds_up key 8 (loaded x))) (v.1, v.3, v.0, v.2))
    ∙ ap (λ s. stored (swaps_backward s)) (down-up key 8 (loaded x) (lit< tt) w)
    ∙ stored_loaded x b

pub encrypt-decrypt : (key x : List ℕ) → Sixteen x → encrypt key (decrypt key x) ≡ x
unfolding encrypt decrypt
encrypt-decrypt key x b =
    let w = loaded-words x b in
    let v = down-words key 8 (loaded x) (lit< tt) w in
    ap (λ s. stored (swaps_forward (rounds_up key 8 s)))
    (loaded-stored (swaps_backward (rounds_down key 8 (loaded x))) (v.2, v.0, v.3, v.1))
    ∙ ap (λ s. stored (swaps_forward s)) (up-down key 8 (loaded x) (lit< tt) w)
    ∙ stored_loaded x b

-- What is stored is sixteen octets, whatever the words.
stored-sixteen : (s : Quad) → Sixteen (stored s)
stored-sixteen s =
    let a = field 4 s.a in
    let b = field 4 s.b in
    let c = field 4 s.c in
    let d = field 4 s.d in
    let o : (n : ℕ) → Octets (field 4 n) = octets-field 4 in
    (refl, octets-append ((a ++ b) ++ c) d (octets-append (a ++ b) c (octets-append a b (o s.a) (o s.b)) (o s.c)) (o s.d))

pub belt-reversible : (key : List ℕ) → Reversible (belt key)
unfolding encrypt decrypt
belt-reversible key = record {
  forth = λ p _. stored-sixteen (swaps_forward (rounds_up key 8 (loaded p)));
  back = λ c _. stored-sixteen (swaps_backward (rounds_down key 8 (loaded c)));
  undone = decrypt-encrypt key;
  met = encrypt-decrypt key;
}
