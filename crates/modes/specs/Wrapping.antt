-- Wrapping and unwrapping by steps on the whole text; f is any function from sixteen octets to sixteen octets.
use Rattle.std.specs.Prelude.{ℕ, zero, suc, ◌+◌, ◌-◌, ◌*◌, ◌/◌, List, ◌++◌, length, take, drop, replicate}
use Rattle.blocks.specs.Octets.{xor_each}
use Rattle.blocks.specs.Fields.{field}

-- The number of a step as sixteen octets.
unfoldable pub step_number : ℕ → List ℕ
step_number i = field 16 i

-- The exclusive or of the first k blocks of sixteen octets.
abbrev pub mixed : ℕ → List ℕ → List ℕ
mixed zero r = replicate 16 0
mixed (suc k) r = xor_each (take 16 r) (mixed k (drop 16 r))

-- The exclusive or of every block but the last, which may be short.
abbrev pub mixed_all : List ℕ → List ℕ
mixed_all r = mixed ((length r - 1) / 16) r

-- Step i of the wrapping: s is the mix of the blocks. The last sixteen octets take in the image of s and the step's number, the text moves
-- by sixteen octets toward its front, so that its first sixteen fall off, and s comes last.
unfoldable pub wrap_step : (List ℕ → List ℕ) → ℕ → List ℕ → List ℕ
wrap_step f i r =
    let m = length r in
    let s = mixed_all r in
    drop 16 (take (m - 16) r ++ xor_each (drop (m - 16) r) (xor_each (f s) (step_number i))) ++ s

-- Step i of the unwrapping: s is the last sixteen octets. The text moves by sixteen octets toward its end, so that s falls off, the octets
-- that are last now take in the image of s and the step's number, and s mixed with the blocks comes first.
unfoldable pub unwrap_step : (List ℕ → List ℕ) → ℕ → List ℕ → List ℕ
unwrap_step f i r =
    let m = length r in
    let s = drop (m - 16) r in
    let t = take (m - 32) r ++ xor_each (drop (m - 32) (take (m - 16) r)) (xor_each (f s) (step_number i)) in
    xor_each s (mixed_all t) ++ t

-- The steps 1 to n, and the steps n down to 1.
abbrev pub wrap_steps : (List ℕ → List ℕ) → ℕ → List ℕ → List ℕ
wrap_steps f zero r = r
wrap_steps f (suc n) r = wrap_step f (suc n) (wrap_steps f n r)

abbrev pub unwrap_steps : (List ℕ → List ℕ) → ℕ → List ℕ → List ℕ
unwrap_steps f zero r = r
unwrap_steps f (suc n) r = unwrap_steps f n (unwrap_step f (suc n) r)

-- Two steps for each block of a text of m octets, the short one too.
abbrev pub rounds : ℕ → ℕ
rounds m = 2 * ((m + 15) / 16)

-- What a key text x becomes under a header: all steps on the key text with the header after it.
abbrev pub wrapped : (List ℕ → List ℕ) → List ℕ → List ℕ → List ℕ
wrapped f header x = wrap_steps f (rounds (length (x ++ header))) (x ++ header)

-- All steps back: a key text, and sixteen octets that are the header if y was wrapped under it.
abbrev pub unwrapped : (List ℕ → List ℕ) → List ℕ → List ℕ
unwrapped f y = unwrap_steps f (rounds (length y)) y

-- The key text that all steps back find: all but the last sixteen octets.
abbrev pub key_found : (List ℕ → List ℕ) → List ℕ → List ℕ
key_found f y = take (length y - 16) (unwrapped f y)
