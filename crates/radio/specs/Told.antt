-- What a call tells the firmware.
use Rattle.std.specs.Prelude.{◌≡◌, ℕ, List, Result}
use Rattle.std.specs.Fn.{Once}
use denote.Ref.{MutBor}
use Rattle.blocks.specs.Answers.{answer_number}
use Rattle.blocks.specs.Written.{written}
use Rattle.blocks.specs.declared.answers.Refusal.{Refusal}
use Rattle.belt.specs.Keys.{key_words, expanded}
use Rattle.belt.specs.declared.cipher.BeltBlock.{BeltBlock}

-- The number of its answer; and in the output the text of an accepted call, or the output as it was after a refusal.
pub record Told (answer : Result ℕ Refusal) (text old : List ℕ) (number : ℕ) (new : List ℕ) : Type 0 where
  pub told : number ≡ answer_number answer
  pub left : new ≡ written answer text old

module _ {F : Type 0} (g : Once F (MutBor BeltBlock × (MutBor (List ℕ) × Unit {0})) (Result ℕ Refusal × (MutBor BeltBlock × (MutBor (List ℕ) × Unit {0})))) where
  -- Every call of f with the block of this key, on this output, answers so and writes so.
  abbrev pub Gives : F → List ℕ → List ℕ → Result ℕ Refusal → List ℕ → Type 0
  Gives f key old answer text =
      (b b' : MutBor BeltBlock) (o o' : MutBor (List ℕ)) (r : Result ℕ Refusal) → b.now.key ≡ key_words (expanded key) → o.now ≡ old
      → g.post f (b, (o, tt)) (r, (b', (o', tt))) → (r ≡ answer) × (o'.now ≡ written answer text old)
