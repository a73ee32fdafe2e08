-- The tables of the code: each is the table H with every entry rotated, and the sum of four entries is `g`.
use Rattle.std.proofs.Common.{◌≡◌, ℕ, zero, suc, ◌+◌, ◌-◌, ◌*◌, ◌/◌, ◌%◌, ◌^◌, ◌<◌, ◌≤◌, List, [], ◌∷◌, map, get_or, sym, refl, ap, ◌∙◌, ap₂, inl, inr, arith}
use Rattle.std.proofs.lemmas.Nat.{mod-mul-add, shr_high}
use Rattle.blocks.specs.Fields.{number, field}
use Rattle.belt.specs.Words.{rotated, h, g}
use Rattle.belt.specs.Table.{table}
use Rattle.belt.specs.Wordwise.{Turn, h-octet}

get_or-each : (f : ℕ → ℕ) → f 0 ≡ 0 → (xs : List ℕ) (k : ℕ) → get_or (map f xs) k 0 ≡ f (get_or xs k 0)
get_or-each f e [] k = sym e
get_or-each f e (x ∷ xs) zero = refl
get_or-each f e (x ∷ xs) (suc k) = get_or-each f e xs k

-- The table with every entry rotated by r, at x.
abbrev pub turned : ℕ → List ℕ
turned r = map (λ y. rotated r y) table

turned_at : (r : ℕ) → rotated r 0 ≡ 0 → (x : ℕ) → get_or (turned r) x 0 ≡ rotated r (h x)
unfolding h
turned_at r e x = get_or-each (λ y. rotated r y) e table x

-- The four tables, at x.
pub entry : (t x : ℕ) → t < 4 → get_or (get_or (turned 5 ∷ turned 13 ∷ turned 21 ∷ turned 29 ∷ []) t []) x 0 ≡ rotated (5 + 8 * t) (h x)
entry zero x b = turned_at 5 refl x
entry (suc zero) x b = turned_at 13 refl x
entry (suc (suc zero)) x b = turned_at 21 refl x
entry (suc (suc (suc zero))) x b = turned_at 29 refl x
entry (suc (suc (suc (suc t)))) x b = absurd (omega arith)

-- A word of two parts, rotated: the parts change places.
parts : (r t hi lo : ℕ) → t * 2 ^ r ≡ hi * 2 ^ 32 + lo * 2 ^ r → lo * 2 ^ r < 2 ^ 32
    → t ≡ hi * 2 ^ (32 - r) + lo → lo < 2 ^ (32 - r) → rotated r t ≡ lo * 2 ^ r + hi
parts r t hi lo e p f q =
    ap₂ ◌+◌ (ap (λ n. n % 2 ^ 32) e ∙ mod-mul-add hi (2 ^ 32) (lo * 2 ^ r) p) (ap (λ n. n / 2 ^ (32 - r)) f ∙ shr_high hi (32 - r) lo q)

-- An octet, rotated.
module _ (x : ℕ) (b : x < 256) where
  pub octet-5 : rotated 5 x ≡ x * 2 ^ 5
  octet-5 = omega arith

  pub octet-13 : rotated 13 x ≡ x * 2 ^ 13
  octet-13 = omega arith

  pub octet-21 : rotated 21 x ≡ x * 2 ^ 21
  octet-21 = omega arith

  pub octet-29 : rotated 29 x ≡ x % 8 * 2 ^ 29 + x / 8
  octet-29 = parts 29 x (x / 8) (x % 8) (omega arith) (omega arith) (omega arith) (omega arith)

-- No octet is rotated to more than the octet of all bits is.
pub most : (t y : ℕ) → t < 4 → y < 256 → rotated (5 + 8 * t) y ≤ rotated (5 + 8 * t) 255
most zero y b h = rw (octet-5 y h) (omega arith)
most (suc zero) y b h = rw (octet-13 y h) (omega arith)
most (suc (suc zero)) y b h = rw (octet-21 y h) (omega arith)
most (suc (suc (suc zero))) y b h = rw (octet-29 y h) (omega arith)
most (suc (suc (suc (suc t)))) y b h = absurd (omega arith)

abbrev word : ℕ → ℕ → ℕ → ℕ → ℕ
word p q r s = number (p ∷ q ∷ r ∷ s ∷ [])

module _ (p q r s : ℕ) (hp : p < 256) (hq : q < 256) (hr : r < 256) (hs : s < 256) where
  pub word-5 : rotated 5 p + rotated 13 q + rotated 21 r + rotated 29 s ≡ rotated 5 (word p q r s)
  word-5 =
      rw (octet-5 p hp, octet-13 q hq, octet-21 r hr, octet-29 s hs)
      (rw (parts 5 (word p q r s) (s / 8) (p + q * 256 + r * 65536 + s % 8 * 16777216) (omega arith) (omega arith) (omega arith) (omega arith)) (omega arith))

  pub word-13 : rotated 13 p + rotated 21 q + rotated 29 r + rotated 5 s ≡ rotated 13 (word p q r s)
  word-13 =
      rw (octet-13 p hp, octet-21 q hq, octet-29 r hr, octet-5 s hs)
      (rw (parts 13 (word p q r s) (r / 8 + s * 32) (p + q * 256 + r % 8 * 65536) (omega arith) (omega arith) (omega arith) (omega arith)) (omega arith))

  pub word-21 : rotated 21 p + rotated 29 q + rotated 5 r + rotated 13 s ≡ rotated 21 (word p q r s)
  word-21 =
      rw (octet-21 p hp, octet-29 q hq, octet-5 r hr, octet-13 s hs)
      (rw (parts 21 (word p q r s) (q / 8 + r * 32 + s * 8192) (p + q % 8 * 256) (omega arith) (omega arith) (omega arith) (omega arith)) (omega arith))

-- The rotations of the four octets of a word that is rotated by r.
abbrev pub turns : ℕ → ℕ → ℕ
turns r k = 5 + 8 * ((r / 8 + k) % 4)

whole : (r p q s t : ℕ) → Turn r → p < 256 → q < 256 → s < 256 → t < 256
    → rotated (5 + 8 * (r / 8)) p + rotated (turns r 1) q + rotated (turns r 2) s + rotated (turns r 3) t ≡ rotated r (word p q s t)
whole r p q s t (inl e) hp hq hs ht = rw e (word-5 p q s t hp hq hs ht)
whole r p q s t (inr (inl e)) hp hq hs ht = rw e (word-13 p q s t hp hq hs ht)
whole r p q s t (inr (inr e)) hp hq hs ht = rw e (word-21 p q s t hp hq hs ht)

-- The four together fill a word.
filled : (r : ℕ) → Turn r
    → rotated (5 + 8 * (r / 8)) 255 + rotated (turns r 1) 255 + rotated (turns r 2) 255 + rotated (turns r 3) 255 ≡ 4294967295
filled r (inl e) = rw e
filled r (inr (inl e)) = rw e
filled r (inr (inr e)) = rw e

below : (b₀ b₁ b₂ b₃ e₀ e₁ e₂ e₃ n : ℕ) → b₀ + b₁ + b₂ + b₃ ≡ n → e₀ ≤ b₀ → e₁ ≤ b₁ → e₂ ≤ b₂ → e₃ ≤ b₃ → e₀ + e₁ + e₂ + e₃ ≤ n
below b₀ b₁ b₂ b₃ e₀ e₁ e₂ e₃ n s l₀ l₁ l₂ l₃ = omega arith

pub room : (r : ℕ) → Turn r → (e₀ e₁ e₂ e₃ : ℕ)
    → e₀ ≤ rotated (5 + 8 * (r / 8)) 255 → e₁ ≤ rotated (turns r 1) 255 → e₂ ≤ rotated (turns r 2) 255 → e₃ ≤ rotated (turns r 3) 255
    → e₀ + e₁ + e₂ + e₃ ≤ 4294967295
room r turn e₀ e₁ e₂ e₃ a b c d = below _ _ _ _ e₀ e₁ e₂ e₃ 4294967295 (filled r turn) a b c d

-- Four entries at the octets of u add up to `g r`.
pub sum : (r u : ℕ) (os : List ℕ) (e₀ e₁ e₂ e₃ : ℕ) → Turn r → os ≡ field 4 u
    → e₀ ≡ rotated (5 + 8 * (r / 8)) (h (get_or os 0 0)) → e₁ ≡ rotated (turns r 1) (h (get_or os 1 0)) → e₂ ≡ rotated (turns r 2) (h (get_or os 2 0)) → e₃ ≡ rotated (turns r 3) (h (get_or os 3 0))
    → e₀ + e₁ + e₂ + e₃ ≡ g r u
unfolding g
sum r u os e₀ e₁ e₂ e₃ turn eo a b c d =
    ap₂ ◌+◌ (ap₂ ◌+◌ (ap₂ ◌+◌ a b) c) d
    ∙ ap (λ l. rotated (5 + 8 * (r / 8)) (h (get_or l 0 0)) + rotated (turns r 1) (h (get_or l 1 0)) + rotated (turns r 2) (h (get_or l 2 0)) + rotated (turns r 3) (h (get_or l 3 0))) eo
    ∙ whole r (h (get_or (field 4 u) 0 0)) (h (get_or (field 4 u) 1 0)) (h (get_or (field 4 u) 2 0)) (h (get_or (field 4 u) 3 0)) turn
    (h-octet _) (h-octet _) (h-octet _) (h-octet _)
