-- The checksum over a step on sixteen octets, whose image is f.
use Rattle.std.specs.Prelude.{ℕ, ◌-◌, cond, List, [], ◌∷◌, ◌++◌, length, take, drop, replicate, Ok, Err, Result, ◌==◌, nat_le}
use Rattle.blocks.specs.Octets.{xor_each, longest}
use Rattle.blocks.specs.declared.answers.Refusal.{Refusal}
use Rattle.blocks.specs.declared.answers.Refusal.TheVariants.{LongMessage}
use Rattle.modes.specs.Pieces.{pieces}

-- Of the four words of r: the last three, and then the mix of the first two. It marks a whole last piece.
abbrev pub whole_mark : List ℕ → List ℕ
whole_mark r = drop 4 r ++ xor_each (take 4 r) (take 4 (drop 4 r))

-- The mix of the first word and the last, and then the first three. It marks a short last piece.
abbrev pub short_mark : List ℕ → List ℕ
short_mark r = xor_each (take 4 r) (drop 12 r) ++ take 12 r

-- A short piece, filled up with the octet 128 and zeros.
abbrev pub padded : List ℕ → List ℕ
padded q = q ++ 128 ∷ replicate (15 - length q) 0

-- The last piece goes into the state s under its mark.
abbrev pub closed : List ℕ → List ℕ → List ℕ → List ℕ
closed r s q =
    cond (length q == 16)
    (xor_each (xor_each s q) (whole_mark r))
    (xor_each (xor_each s (padded q)) (short_mark r))

-- Each piece before the last is mixed into the state, which is then stepped: from the piece p on.
abbrev pub absorbed : (List ℕ → List ℕ) → List ℕ → List ℕ → List ℕ → List (List ℕ) → List ℕ
absorbed f r s p [] = closed r s p
absorbed f r s p (q ∷ qs) = absorbed f r (f (xor_each s p)) q qs

-- The state goes from sixteen zeros, and r is their image. (The empty message has one piece, an empty one.)
abbrev pub checksum : (List ℕ → List ℕ) → List ℕ → List ℕ
checksum f x =
    let zeros = replicate 16 0 in
    take 8 (f (absorbed f (f zeros) zeros (take 16 x) (pieces (drop 16 x))))

abbrev pub checksum_answer : (List ℕ → List ℕ) → List ℕ → Result (List ℕ) Refusal
checksum_answer f x = cond (nat_le (length x) longest) (Ok (checksum f x)) (Err LongMessage)
