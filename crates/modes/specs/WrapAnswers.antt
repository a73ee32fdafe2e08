-- What wrapping and unwrapping answer.
use Rattle.std.specs.Prelude.{◌≡◌, ℕ, ◌+◌, ◌-◌, ◌≤◌, Bool, cond, ◌&&◌, List, length, take, drop, Ok, Err, Result, nat_le}
use Rattle.blocks.specs.Same.{same}
use Rattle.blocks.specs.declared.answers.Refusal.{Refusal}
use Rattle.blocks.specs.declared.answers.Refusal.TheVariants.{ShortOutput, KeyTextLength, WrappedLength, HeaderDiffers}
use Rattle.modes.specs.Wrapping.{unwrapped}

-- The lengths of a key text: 16 to 256 octets.
abbrev pub key_text_length : ℕ → Bool
key_text_length n = nat_le 16 n && nat_le n 256

-- Wrapping a key text of n octets: the length is a key text's, and the output has room for 16 octets more.
abbrev pub wrap_answer : ℕ → ℕ → Result ℕ Refusal
wrap_answer n room =
    cond (key_text_length n) (cond (nat_le (n + 16) room) (Ok (n + 16)) (Err ShortOutput)) (Err KeyTextLength)

-- Unwrapping a text of m octets: its length, then the room in output and scratch, then whether the header agrees.
abbrev pub by_tests : ℕ → ℕ → ℕ → Bool → Result ℕ Refusal
by_tests m scratch room agrees =
    cond (nat_le 32 m && nat_le m 272)
    (cond (nat_le (m - 16) room && nat_le 272 scratch) (cond agrees (Ok (m - 16)) (Err HeaderDiffers)) (Err ShortOutput))
    (Err WrappedLength)

-- The header agrees where the steps back leave it in the last sixteen octets.
abbrev pub unwrap_answer : (List ℕ → List ℕ) → List ℕ → List ℕ → ℕ → ℕ → Result ℕ Refusal
unwrap_answer f header y scratch room =
    by_tests (length y) scratch room (same (drop (length y - 16) (unwrapped f y)) header)

-- Accepted with n octets, the key text is so long, fits the room, and stands at the front of the scratch.
abbrev pub Within : Result ℕ Refusal → List ℕ → List ℕ → ℕ → Type 0
Within (Ok n) key scratch room = (take n scratch ≡ key) × (n ≤ room) × (n ≤ length scratch)
Within (Err e) key scratch room = Unit {0}
