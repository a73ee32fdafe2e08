-- Keys of 16, 24 and 32 octets, and their expansion to 32.
use Rattle.std.specs.Prelude.{ℕ, ◌+◌, Bool, cond, ◌||◌, List, [], ◌∷◌, ◌++◌, length, Ok, Err, Result, ◌==◌}
use Rattle.blocks.specs.Octets.{xor_each}
use Rattle.blocks.specs.declared.answers.Refusal.{Refusal}
use Rattle.blocks.specs.declared.answers.Refusal.TheVariants.{KeyLength}
use Rattle.belt.specs.Words.{four, word_at}
use Rattle.belt.specs.declared.cipher.BeltBlock.{BeltBlock}

-- The lengths that a key can have.
abbrev pub key_length : ℕ → Bool
key_length n = n == 16 || (n == 24 || n == 32)

-- The exclusive or of the three words from place j on, as octets.
abbrev pub mixed : List ℕ → ℕ → List ℕ
mixed key j = xor_each (xor_each (four key j) (four key (j + 4))) (four key (j + 8))

-- 16 octets are written twice, 24 are followed by the mix of their first three words and that of their last three, 32 stay.
abbrev pub expanded : List ℕ → List ℕ
expanded key =
    cond (length key == 16) (key ++ key)
    (cond (length key == 24) (key ++ (mixed key 0 ++ mixed key 12))
    key)

-- The eight words of an expanded key.
abbrev pub key_words : List ℕ → List ℕ
key_words x =
    word_at x 0 ∷ word_at x 4 ∷ word_at x 8 ∷ word_at x 12 ∷ word_at x 16 ∷ word_at x 20 ∷ word_at x 24 ∷ word_at x 28 ∷ []

-- What expanding a key answers.
abbrev pub expand_answer : List ℕ → Result (List ℕ) Refusal
expand_answer key = cond (key_length (length key)) (Ok (expanded key)) (Err KeyLength)

-- What making a block from a key answers.
abbrev pub block_answer : List ℕ → Result BeltBlock Refusal
block_answer key = cond (key_length (length key)) (Ok (record { key = key_words (expanded key) })) (Err KeyLength)
