-- Calls with a raw key: the key's length is tested before all else.
use Rattle.std.specs.Prelude.{ℕ, cond, List, ◌++◌, length, Ok, Err, Result, nat_le}
use Rattle.blocks.specs.Octets.{longest}
use Rattle.blocks.specs.Fields.{field}
use Rattle.blocks.specs.Steps.{Step}
use Rattle.blocks.specs.declared.answers.Refusal.{Refusal}
use Rattle.blocks.specs.declared.answers.Refusal.TheVariants.{KeyLength, LongMessage, ShortOutput}
use Rattle.belt.specs.Cipher.{belt}
use Rattle.belt.specs.Keys.{key_length, key_words, expanded}

-- The answer of a call under a key.
abbrev pub keyed : List ℕ → Result ℕ Refusal → Result ℕ Refusal
keyed key answer = cond (key_length (length key)) answer (Err KeyLength)

-- What the BelT block means under a key.
abbrev pub under : List ℕ → Step
under key = belt (key_words (expanded key))

-- Sixteen octets as two numbers: the first for octets 0 to 7, each least octet first.
unfoldable pub sixteen : ℕ → ℕ → List ℕ
sixteen first second = field 8 first ++ field 8 second

-- A call that writes `size` octets about a message of `n`, into an output of `room`.
abbrev pub digest_answer : ℕ → ℕ → ℕ → Result ℕ Refusal
digest_answer size n room = cond (nat_le n longest) (cond (nat_le size room) (Ok size) (Err ShortOutput)) (Err LongMessage)
