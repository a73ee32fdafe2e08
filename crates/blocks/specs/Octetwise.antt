-- Lengths, octets and undoing of `xor_each` and `reverse`.
use Rattle.std.specs.Prelude.{◌≡◌, ℕ, zero, suc, ◌+◌, ◌-◌, ◌<◌, ◌≤◌, List, [], ◌∷◌, ◌++◌, reverse, length, take, drop, replicate, bit_or, bit_xor, slice_index, refl}
use Rattle.std.proofs.Common.{sym, ap, ap₂, ◌∙◌, ⊎_elim, arith, lit<}
use Rattle.std.specs.Int.Bits.{xor_self, xor_zero_r, xor_zero_l, xor_assoc, or_add_and}
use Rattle.std.proofs.lemmas.Nat.{xor_comm, xor_lt, and_le_l, and_le_r}
use Rattle.std.proofs.lemmas.List.{get_or-reverse, length-reverse, get_or_past, get_or-drop}
use Rattle.std.proofs.lemmas.Bool.{cases_lt}
use Rattle.blocks.specs.Octets.{Octets, Sixteen, xor_each}

-- The first list may be the shorter one: `xor_each` stops at its end.
pub length-xor_each-front : (xs ys : List ℕ) → length xs ≤ length ys → length (xor_each xs ys) ≡ length xs
length-xor_each-front [] ys h = refl
length-xor_each-front (x ∷ xs) [] h = absurd (omega arith)
length-xor_each-front (x ∷ xs) (y ∷ ys) h = ap suc (length-xor_each-front xs ys (omega arith))

pub get_or-xor_each-front : (xs ys : List ℕ) (k : ℕ) → length xs ≤ length ys → k < length xs → slice_index (xor_each xs ys) k ≡ bit_xor (slice_index xs k) (slice_index ys k)
get_or-xor_each-front [] ys k h l = absurd (omega arith)
get_or-xor_each-front (x ∷ xs) [] k h l = absurd (omega arith)
get_or-xor_each-front (x ∷ xs) (y ∷ ys) zero h l = refl
get_or-xor_each-front (x ∷ xs) (y ∷ ys) (suc k) h l = get_or-xor_each-front xs ys k (omega arith) (omega arith)

pub xor-undo : (x y : ℕ) → bit_xor (bit_xor x y) y ≡ x
xor-undo x y = xor_assoc x y y ∙ ap (bit_xor x) (xor_self y) ∙ xor_zero_r x

pub xor_each-undo-front : (xs ys : List ℕ) → length xs ≤ length ys → xor_each (xor_each xs ys) ys ≡ xs
xor_each-undo-front [] ys h = refl
xor_each-undo-front (x ∷ xs) [] h = absurd (omega arith)
xor_each-undo-front (x ∷ xs) (y ∷ ys) h = ap₂ ◌∷◌ (xor-undo x y) (xor_each-undo-front xs ys (omega arith))

pub octets-xor_each : (xs ys : List ℕ) → Octets xs → Octets ys → Octets (xor_each xs ys)
octets-xor_each [] ys o u = λ k. lit< tt
octets-xor_each (x ∷ xs) [] o u = λ k. lit< tt
octets-xor_each (x ∷ xs) (y ∷ ys) o u =
    λ k. elim k as (λ m. slice_index (bit_xor x y ∷ xor_each xs ys) m < 256) [ zero ↦ xor_lt 8 x y (o 0) (u 0) | suc m ↦ octets-xor_each xs ys (λ j. o (suc j)) (λ j. u (suc j)) m ]

pub xor_each-comm : (xs ys : List ℕ) → xor_each xs ys ≡ xor_each ys xs
xor_each-comm [] [] = refl
xor_each-comm [] (y ∷ ys) = refl
xor_each-comm (x ∷ xs) [] = refl
xor_each-comm (x ∷ xs) (y ∷ ys) = ap₂ ◌∷◌ (xor_comm x y) (xor_each-comm xs ys)

pub xor_each-append : (xs us ys vs : List ℕ) → length xs ≡ length ys → xor_each (xs ++ us) (ys ++ vs) ≡ xor_each xs ys ++ xor_each us vs
xor_each-append [] us [] vs e = refl
xor_each-append [] us (y ∷ ys) vs e = absurd (omega arith)
xor_each-append (x ∷ xs) us [] vs e = absurd (omega arith)
xor_each-append (x ∷ xs) us (y ∷ ys) vs e = ap (λ r. bit_xor x y ∷ r) (xor_each-append xs us ys vs (omega arith))

pub xor_each-zeros : (xs : List ℕ) (n : ℕ) → length xs ≡ n → xor_each xs (replicate n 0) ≡ xs
xor_each-zeros [] n e = refl
xor_each-zeros (x ∷ xs) zero e = absurd (omega arith)
xor_each-zeros (x ∷ xs) (suc n) e = ap₂ ◌∷◌ (xor_zero_r x) (xor_each-zeros xs n (omega arith))

-- Lists of one length.
pub length-xor_each : (xs ys : List ℕ) → length xs ≡ length ys → length (xor_each xs ys) ≡ length xs
length-xor_each xs ys e = length-xor_each-front xs ys (omega arith)

pub get_or-xor_each : (xs ys : List ℕ) (k : ℕ) → length xs ≡ length ys → slice_index (xor_each xs ys) k ≡ bit_xor (slice_index xs k) (slice_index ys k)
get_or-xor_each [] [] k e = refl
get_or-xor_each [] (y ∷ ys) k e = absurd (omega arith)
get_or-xor_each (x ∷ xs) [] k e = absurd (omega arith)
get_or-xor_each (x ∷ xs) (y ∷ ys) zero e = refl
get_or-xor_each (x ∷ xs) (y ∷ ys) (suc k) e = get_or-xor_each xs ys k (omega arith)

pub xor_each-undo : (xs ys : List ℕ) → length xs ≡ length ys → xor_each (xor_each xs ys) ys ≡ xs
xor_each-undo xs ys e = xor_each-undo-front xs ys (omega arith)

pub xor_each-sixteen : (xs ys : List ℕ) → Sixteen xs → Sixteen ys → Sixteen (xor_each xs ys)
xor_each-sixteen xs ys p q = (length-xor_each xs ys (omega arith) ∙ p.0, octets-xor_each xs ys p.1 q.1)

pub reverse-sixteen : (xs : List ℕ) → Sixteen xs → Sixteen (reverse xs)
reverse-sixteen xs p = (
  length-reverse xs ∙ p.0,
  λ k. ⊎_elim
      (λ (h : k < length xs). rw (get_or-reverse xs k 0 h) (p.1 (length xs - 1 - k)))
      (λ (h : length xs ≤ k). rw (get_or_past (reverse xs) k 0 (rw length-reverse h)) (omega arith))
      (cases_lt k (length xs)),
)

pub xor_each-assoc : (xs ys zs : List ℕ) → xor_each (xor_each xs ys) zs ≡ xor_each xs (xor_each ys zs)
xor_each-assoc [] ys zs = refl
xor_each-assoc (x ∷ xs) [] zs = refl
xor_each-assoc (x ∷ xs) (y ∷ ys) [] = refl
xor_each-assoc (x ∷ xs) (y ∷ ys) (z ∷ zs) = ap₂ ◌∷◌ (xor_assoc x y z) (xor_each-assoc xs ys zs)

pub zeros-xor_each : (n : ℕ) (xs : List ℕ) → length xs ≡ n → xor_each (replicate n 0) xs ≡ xs
zeros-xor_each n xs e = xor_each-comm (replicate n 0) xs ∙ xor_each-zeros xs n e

-- Two octets that leave nothing of each other are one, and an or is nothing only where both are.
pub xor-none : (x y : ℕ) → bit_xor x y ≡ 0 → x ≡ y
xor-none x y e = sym (xor-undo x y) ∙ ap (λ z. bit_xor z y) e ∙ xor_zero_l y

pub or-none : (x y : ℕ) → bit_or x y ≡ 0 → (x ≡ 0) × (y ≡ 0)
or-none x y e =
    let h = or_add_and x y in
    let l = and_le_l x y in
    let r = and_le_r x y in (omega arith, omega arith)

-- Octets of parts.
pub octets-drop : (n : ℕ) (x : List ℕ) → Octets x → Octets (drop n x)
octets-drop n x o = λ k. rw (get_or-drop n x k 0) (o (n + k))

pub octets-take : (n : ℕ) (x : List ℕ) → Octets x → Octets (take n x)
octets-take zero x o = λ k. lit< tt
octets-take (suc n) [] o = o
octets-take (suc n) (y ∷ x) o = λ k. elim k as (λ m. slice_index (y ∷ take n x) m < 256) [ zero ↦ o 0 | suc m ↦ octets-take n x (λ j. o (suc j)) m ]

pub octets-zeros : (n : ℕ) → Octets (replicate n 0)
octets-zeros zero = λ k. lit< tt
octets-zeros (suc n) = λ k. elim k as (λ m. slice_index (replicate (suc n) 0) m < 256) [ zero ↦ lit< tt | suc m ↦ octets-zeros n m ]
