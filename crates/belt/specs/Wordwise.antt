-- Laws of the words: what undoes a sum and a difference, and the bounds.
use Rattle.std.specs.Prelude.{◌≡◌, ℕ, zero, suc, ◌/◌, ◌%◌, ◌^◌, ◌<◌, Bool, true, ◌&&◌, ◌⊎◌, List, [], ◌∷◌, map, nat_lt, slice_index, refl}
use Rattle.std.proofs.Common.{inl, inr, arith, lit<}
use Rattle.std.proofs.lemmas.Nat.{xor_lt}
use Rattle.std.proofs.lemmas.Bool.{ltb-true, and_parts}
use Rattle.blocks.specs.Fields.{number, field}
use Rattle.belt.specs.Words.{◌⊞◌, ◌⊟◌, ◌⊕◌, rotated, h, g}
use Rattle.belt.specs.Table.{table}

pub add-undo : (x y : ℕ) → x < 2 ^ 32 → y < 2 ^ 32 → (x ⊞ y) ⊟ y ≡ x
add-undo x y p q = omega arith

pub sub-undo : (x y : ℕ) → x < 2 ^ 32 → y < 2 ^ 32 → (x ⊟ y) ⊞ y ≡ x
sub-undo x y p q = omega arith

pub moved_sum : (x y e : ℕ) → e < 2 ^ 32 → (y ⊟ e) ⊞ (x ⊞ e) ≡ x ⊞ y
moved_sum x y e q = omega arith

pub add-word : (x y : ℕ) → x ⊞ y < 2 ^ 32
add-word x y = omega arith

pub sub_word : (x y : ℕ) → x ⊟ y < 2 ^ 32
sub_word x y = omega arith

pub xor-word : (x y : ℕ) → x < 2 ^ 32 → y < 2 ^ 32 → x ⊕ y < 2 ^ 32
xor-word = xor_lt 32

-- Each entry of the table is an octet: one test over the whole table.
abbrev small : List ℕ → Bool
small [] = true
small (x ∷ xs) = nat_lt x 256 && small xs

small_at : (xs : List ℕ) → small xs ≡ true → (k : ℕ) → slice_index xs k < 256
small_at [] t k = lit< tt
small_at (x ∷ xs) t zero = ltb-true x 256 (and_parts (nat_lt x 256) (small xs) t).0
small_at (x ∷ xs) t (suc k) = small_at xs (and_parts (nat_lt x 256) (small xs) t).1 k

-- The rotations that the rounds use.
abbrev pub Turn : ℕ → Type 0
Turn r = (r ≡ 5) ⊎ ((r ≡ 13) ⊎ (r ≡ 21))

pub h-octet : (x : ℕ) → h x < 256
unfolding h
h-octet x = small_at table refl x

rotated-word : (r t : ℕ) → Turn r → t < 2 ^ 32 → rotated r t < 2 ^ 32
rotated-word r t (inl e) b = rw e (omega arith)
rotated-word r t (inr (inl e)) b = rw e (omega arith)
rotated-word r t (inr (inr e)) b = rw e (omega arith)

g-word : (r u : ℕ) → Turn r → g r u < 2 ^ 32
unfolding g
g-word r u which =
    rotated-word r (number (map h (field 4 u))) which
    (omega (arith, h-octet (u % 256), h-octet (u / 256 % 256), h-octet (u / 256 / 256 % 256), h-octet (u / 256 / 256 / 256 % 256)))

pub g5-word : (u : ℕ) → g 5 u < 2 ^ 32
g5-word u = g-word 5 u (inl refl)

pub g13-word : (u : ℕ) → g 13 u < 2 ^ 32
g13-word u = g-word 13 u (inr (inl refl))

pub g21-word : (u : ℕ) → g 21 u < 2 ^ 32
g21-word u = g-word 21 u (inr (inr refl))
