-- Numbers and their octets undo each other, over any width; and the same octets as `to_le_bytes` and `from_le_bytes` write them.
use Rattle.std.proofs.Common.{◌≡◌, ℕ, zero, suc, ◌+◌, ◌/◌, ◌%◌, ◌^◌, ◌<◌, List, [], ◌∷◌, ◌++◌, length, get_or, sym, refl, ap, ◌∙◌, subst, ap₂, pow-suc, arith, lit<}
use Rattle.std.proofs.lemmas.Nat.{shr-shr}
use Rattle.blocks.specs.Octets.{Octets, part}
use Rattle.blocks.specs.Fields.{field, number}

pub length-field : (w n : ℕ) → length (field w n) ≡ w
length-field zero n = refl
length-field (suc w) n = ap suc (length-field w (n / 256))

pub octets-append : (x y : List ℕ) → Octets x → Octets y → Octets (x ++ y)
octets-append [] y o u = u
octets-append (a ∷ x) y o u = λ k. elim k as (λ m. get_or (a ∷ (x ++ y)) m 0 < 256) [ zero ↦ o 0 | suc m ↦ octets-append x y (λ j. o (suc j)) u m ]

pub octets-field : (w n : ℕ) → Octets (field w n)
octets-field zero n k = lit< tt
octets-field (suc w) n zero = omega arith
octets-field (suc w) n (suc k) = octets-field w (n / 256) k

pub number-field : (w n : ℕ) → n < 256 ^ w → number (field w n) ≡ n
number-field zero n h = omega arith
number-field (suc w) n h =
    let e : number (field w (n / 256)) ≡ n / 256 = number-field w (n / 256) (omega (arith, pow-suc 256 w)) in
    omega arith

pub field-number : (bs : List ℕ) → Octets bs → field (length bs) (number bs) ≡ bs
field-number [] o = refl
field-number (b ∷ bs) o =
    let h : b < 256 = o 0 in
    ap₂ ◌∷◌ (omega arith) (ap (field (length bs)) (omega arith) ∙ field-number bs (λ k. o (suc k)))

pub number_lt : (bs : List ℕ) → Octets bs → number bs < 256 ^ length bs
number_lt [] o = lit< tt
number_lt (b ∷ bs) o =
    let h : b < 256 = o 0 in
    let i : number bs < 256 ^ length bs = number_lt bs (λ k. o (suc k)) in
    omega (arith, pow-suc 256 (length bs))

pub octets-part : (i n : ℕ) (x : List ℕ) → Octets x → Octets (part i n x)
octets-part i zero x o k = lit< tt
octets-part i (suc n) x o zero = o i
octets-part i (suc n) x o (suc k) = octets-part (suc i) n x o k

-- The same at a width that is the length.
pub field-number-at : (w : ℕ) (bs : List ℕ) → length bs ≡ w → Octets bs → field w (number bs) ≡ bs
field-number-at w bs e o = subst (λ n. field n (number bs) ≡ bs) e (field-number bs o)

-- The octets of a number from bit k on, each by one quotient.
abbrev pub shifted : ℕ → ℕ → ℕ → List ℕ
shifted zero k n = []
shifted (suc w) k n = (n / 2 ^ k % 256) ∷ shifted w (k + 8) n

pub field-shifted : (w k n : ℕ) → field w (n / 2 ^ k) ≡ shifted w k n
field-shifted zero k n = refl
field-shifted (suc w) k n =
    ap (λ l. (n / 2 ^ k % 256) ∷ l) (ap (field w) (shr-shr n k 8) ∙ field-shifted w (k + 8) n)

-- A list by its parts.
part-later : (i n y : ℕ) (ys : List ℕ) → part (suc i) n (y ∷ ys) ≡ part i n ys
part-later i zero y ys = refl
part-later i (suc n) y ys = ap (λ l. get_or ys i 0 ∷ l) (part-later (suc i) n y ys)

part-all : (x : List ℕ) → part 0 (length x) x ≡ x
part-all [] = refl
part-all (y ∷ ys) = ap (λ l. y ∷ l) (part-later 0 (length ys) y ys ∙ part-all ys)

pub listed : (n : ℕ) (x : List ℕ) → length x ≡ n → part 0 n x ≡ x
listed n x e = subst (λ m. part 0 m x ≡ x) e (part-all x)

-- A number that is the sum of its octets' part reads them.
module _ (w r : ℕ) (x : List ℕ) (long : length x ≡ w) (octet : Octets x) (sum : r ≡ number (part 0 w x)) where
  pub reads : r ≡ number x
  reads = sum ∙ ap number (listed w x long)

  pub reads-back : field w r ≡ x
  reads-back = ap (field w) reads ∙ field-number-at w x long octet

-- Octets that are the quotients of a number write it.
module _ (w n : ℕ) (x : List ℕ) (fits : n < 256 ^ suc w) (each : x ≡ (n % 256) ∷ shifted w 8 n) where
  pub writes : x ≡ field (suc w) n
  writes = each ∙ ap (λ l. (n % 256) ∷ l) (sym (field-shifted w 8 n))

  pub writes-back : number x ≡ n
  writes-back = ap number writes ∙ number-field (suc w) n fits
