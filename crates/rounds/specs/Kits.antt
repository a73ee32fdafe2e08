-- The kit: a site key, unwrapped and transformed into the site's tag, seal and check keys.
use Rattle.std.specs.Prelude.{ℕ, ◌*◌, cond, List, ◌∷◌, ◌++◌, length, replicate, Ok, Err, Result, nat_le}
use Rattle.blocks.specs.Fields.{field}
use Rattle.blocks.specs.declared.answers.Refusal.{Refusal}
use Rattle.blocks.specs.declared.answers.Refusal.TheVariants.{KeyLength}
use Rattle.belt.specs.Keys.{key_length}
use Rattle.belt.specs.Transformation.{transformed}
use Rattle.modes.specs.WrapAnswers.{unwrap_answer}

-- The header of the new key number i: its number, the site, thirteen zeros.
abbrev pub kit_header : ℕ → ℕ → List ℕ
kit_header i site = i ∷ (field 2 site ++ replicate 13 0)

-- A new key: the transformation of the site key at level zero and at its own length.
unfoldable pub kit_key : List ℕ → ℕ → ℕ → List ℕ
kit_key key i site = transformed key (replicate 12 0) (kit_header i site) (length key)

-- The three keys one after another: tag, seal, check.
abbrev pub kit_keys : List ℕ → ℕ → List ℕ
kit_keys key site = kit_key key 1 site ++ (kit_key key 2 site ++ kit_key key 3 site)

-- The output that the kit wants, whatever the key's length, and what it then tells unwrapping of its room.
abbrev pub kit_size : ℕ
kit_size = 96

abbrev pub kit_room : ℕ → ℕ
kit_room room = cond (nat_le kit_size room) 256 0

-- Unwrapping's answer, where the key text is a key.
abbrev pub key_only : Result ℕ Refusal → Result ℕ Refusal
key_only (Ok n) = cond (key_length n) (Ok (3 * n)) (Err KeyLength)
key_only (Err e) = Err e

-- What the kit answers: unwrapping's refusals in unwrapping's order, and then 34.
abbrev pub kit_answer : (List ℕ → List ℕ) → List ℕ → List ℕ → ℕ → ℕ → Result ℕ Refusal
kit_answer f header text scratch room = key_only (unwrap_answer f header text scratch (kit_room room))
