-- The key transformation: a new key from a key, its level and a header.
use Rattle.std.specs.Prelude.{ℕ, Bool, cond, ◌&&◌, List, [], ◌∷◌, ◌++◌, length, take, Some, None, Ok, Err, Option, Result, ◌==◌, nat_le}
use Rattle.blocks.specs.declared.answers.Refusal.{Refusal}
use Rattle.blocks.specs.declared.answers.Refusal.TheVariants.{ShortOutput, KeyLength}
use Rattle.belt.specs.Keys.{key_length, expanded}
use Rattle.belt.specs.Compression.{σ₂}

-- Whether the two lengths are these.
abbrev pub lengths : ℕ → ℕ → ℕ → ℕ → Bool
lengths n m a b = n == a && m == b

-- The word for a key of n octets and a new key of m: six pairs have one.
abbrev pub word_for : ℕ → ℕ → Option (List ℕ)
word_for n m =
    cond (lengths n m 16 16) (Some (0xB1 ∷ 0x94 ∷ 0xBA ∷ 0xC8 ∷ []))
    (cond (lengths n m 24 16) (Some (0x5B ∷ 0xE3 ∷ 0xD6 ∷ 0x12 ∷ []))
    (cond (lengths n m 24 24) (Some (0x5C ∷ 0xB0 ∷ 0xC0 ∷ 0xFF ∷ []))
    (cond (lengths n m 32 16) (Some (0xE1 ∷ 0x2B ∷ 0xDC ∷ 0x1A ∷ []))
    (cond (lengths n m 32 24) (Some (0xC1 ∷ 0xAB ∷ 0x76 ∷ 0x38 ∷ []))
    (cond (lengths n m 32 32) (Some (0xF3 ∷ 0x3C ∷ 0x65 ∷ 0x7B ∷ [])) None)))))

-- The first m octets of σ₂ of the word, the level, the header and the expanded key; nothing where no word is.
abbrev pub under_word : Option (List ℕ) → List ℕ → List ℕ → List ℕ → ℕ → List ℕ
under_word (Some word) key level header m = take m (σ₂ (((word ++ level) ++ header) ++ expanded key))
under_word None key level header m = []

abbrev pub transformed : List ℕ → List ℕ → List ℕ → ℕ → List ℕ
transformed key level header m = under_word (word_for (length key) m) key level header m

-- What transforming answers: both lengths are those of keys and the new key is not longer, and the output has room for it.
abbrev pub transform_answer : ℕ → ℕ → ℕ → Result ℕ Refusal
transform_answer n m room =
    cond (key_length n && (key_length m && nat_le m n)) (cond (nat_le m room) (Ok m) (Err ShortOutput)) (Err KeyLength)
