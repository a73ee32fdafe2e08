-- A short piece that is filled up, in mixes.
use Rattle.std.proofs.Common.{◌≡◌, ℕ, ◌+◌, List, [], ◌∷◌, ◌++◌, length, take, drop, replicate, fold, sym, refl, ap, ◌∙◌, ap₂, arith}
use lib.Bits.{bit_or, bit_xor, xor_self}
use Rattle.std.proofs.lemmas.List.{length-drop, length-take-le, drop-replicate, take-append-drop}
use Rattle.blocks.specs.Octets.{xor_each}
use Rattle.modes.specs.Modes.{zeroed}
use Rattle.blocks.specs.Octetwise.{xor_each-append, xor_each-comm, xor_each-zeros, xor-none, or-none}

-- q and then n zeros, mixed with c: only the front of c changes.
pub xor-filled : (q c : List ℕ) (n : ℕ) → length q + n ≡ length c → xor_each (q ++ replicate n 0) c ≡ xor_each q (take (length q) c) ++ drop (length q) c
xor-filled q c n e =
    let k = length q in
    ap (xor_each (q ++ replicate n 0)) (sym (take-append-drop k c))
    ∙ xor_each-append q (replicate n 0) (take k c) (drop k c) (sym (length-take-le k c (omega arith)))
    ∙ ap (λ z. xor_each q (take k c) ++ z)
    (xor_each-comm (replicate n 0) (drop k c) ∙ xor_each-zeros (drop k c) n (omega (arith, length-drop k c)))

-- A short piece, filled up with the last ones of sixteen zeros.
pub zero-filled : (q : List ℕ) → q ++ drop (length q) (replicate 16 0) ≡ zeroed q
zero-filled q = ap (λ z. q ++ z) (drop-replicate (length q) 16 0)

-- The or of all octets of a mix is nothing exactly where the two are the same.
pub or-all : (xs ys : List ℕ) (d : ℕ) → length xs ≡ length ys → fold bit_or d (xor_each xs ys) ≡ 0 → (d ≡ 0) × (xs ≡ ys)
or-all [] [] d l e = (e, refl)
or-all [] (y ∷ ys) d l e = absurd (omega arith)
or-all (x ∷ xs) [] d l e = absurd (omega arith)
or-all (x ∷ xs) (y ∷ ys) d l e =
    let rest = or-all xs ys (bit_or d (bit_xor x y)) (omega arith) e in
    let p = or-none d (bit_xor x y) rest.0 in (p.0, ap₂ ◌∷◌ (xor-none x y p.1) rest.1)

pub or-same : (xs : List ℕ) → fold bit_or 0 (xor_each xs xs) ≡ 0
or-same [] = refl
or-same (x ∷ xs) = ap (λ z. fold bit_or (bit_or 0 z) (xor_each xs xs)) (xor_self x) ∙ or-same xs
