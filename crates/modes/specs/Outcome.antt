-- What a mode's call answers.
use Rattle.std.specs.Prelude.{◌≡◌, ℕ, ◌≤◌, ◌⊎◌, cond, List, [], length, Ok, Err, Result, nat_le}
use Rattle.blocks.specs.Octets.{longest}
use Rattle.blocks.specs.declared.answers.Refusal.{Refusal}
use Rattle.blocks.specs.declared.answers.Refusal.TheVariants.{LongMessage, ShortMessage, ShortOutput}

-- A message of `size` octets under a mode that takes at least `least`, with an output of `room` octets: the number of octets written, or the first
-- rule that is broken.
abbrev pub mode_answer : ℕ → ℕ → ℕ → Result ℕ Refusal
mode_answer least size room =
    cond (nat_le size longest)
    (cond (nat_le least size)
    (cond (nat_le size room) (Ok size) (Err ShortOutput))
    (Err ShortMessage))
    (Err LongMessage)

-- What may follow the whole pieces of a text: nothing, or again a text that the mode takes.
abbrev pub MayFollow : ℕ → List ℕ → Type 0
MayFollow least x = (x ≡ []) ⊎ (least ≤ length x)
