-- A call under a key, from the making of its block and the call below.
use Rattle.std.proofs.Common.{◌≡◌, ℕ, Bool, true, false, cond, List, length, Ok, Err, Result, sym, refl, ap, ◌∙◌, ap₂, arith}
use Rattle.std.proofs.lemmas.Bool.{cond-true, cond-false}
use Rattle.blocks.specs.Answers.{refusal_number, answer_number}
use Rattle.blocks.specs.Written.{written}
use Rattle.blocks.specs.declared.answers.Refusal.{Refusal}
use Rattle.blocks.specs.declared.answers.Refusal.TheVariants.{KeyLength}
use Rattle.belt.specs.Keys.{key_length, key_words, expanded, block_answer}
use Rattle.belt.specs.declared.cipher.BeltBlock.{BeltBlock}
use Rattle.radio.specs.Keyed.{keyed}
use Rattle.radio.specs.Told.{Told}

made : (t : Bool) (x b : BeltBlock) → Ok b ≡ cond t (Ok x) (Err KeyLength) → (t ≡ true) × (b ≡ x)
made true x b h = (refl, cc)
made false x b h = let z : ◌≡◌ {A = ℕ} 0 1 = cc in absurd (omega arith)

unmade : (t : Bool) (x : BeltBlock) (e : Refusal) → Err e ≡ cond t (Ok x) (Err KeyLength) → (t ≡ false) × (e ≡ KeyLength)
unmade true x e h = let z : ◌≡◌ {A = ℕ} 0 1 = cc in absurd (omega arith)
unmade false x e h = (refl, cc)

module _ (key : List ℕ) (answer : List ℕ → Result ℕ Refusal) (text : List ℕ → List ℕ) (out after : List ℕ) (n : ℕ) where
  -- the call below is made with the block of the key
  pub told : (b : BeltBlock) (r : Result ℕ Refusal) → Ok b ≡ block_answer key → n ≡ answer_number r → r ≡ answer b.key → after ≡ written r (text b.key) out
      → Told (keyed key (answer (key_words (expanded key)))) (text (key_words (expanded key))) out n after
  told b r h en er et =
      let m = made _ _ b h in
      let k : b.key ≡ key_words (expanded key) = ap (λ (x : BeltBlock). x.key) m.1 in
      let a : r ≡ keyed key (answer (key_words (expanded key))) = er ∙ ap answer k ∙ sym (cond-true (key_length (length key)) _ _ m.0) in
      record { told = en ∙ ap answer_number a; left = et ∙ ap₂ (λ x t. written x t out) a (ap text k) }

  -- there is no such block
  pub untold : (e : Refusal) → Err e ≡ block_answer key → n ≡ refusal_number e → after ≡ out
      → Told (keyed key (answer (key_words (expanded key)))) (text (key_words (expanded key))) out n after
  untold e h en eo =
      let m = unmade _ _ e h in
      let a : keyed key (answer (key_words (expanded key))) ≡ Err KeyLength = cond-false (key_length (length key)) _ _ m.0 in
      record { told = en ∙ ap refusal_number m.1 ∙ sym (ap answer_number a); left = eo ∙ sym (ap (λ x. written x (text (key_words (expanded key))) out) a) }
