-- Laws of what a report is sealed with, from those of its blocks.
use Rattle.std.proofs.Common.{◌≡◌, ℕ, ◌≤◌, List, ◌++◌, length, Ok, Result, ap, ◌∙◌, arith}
use Rattle.std.proofs.lemmas.List.{append-nil, drop_all}
use Rattle.std.proofs.lemmas.Bool.Decides.{nat_tests}
use Rattle.blocks.specs.Octets.{Octets, Sixteen}
use Rattle.blocks.specs.Written.{written}
use Rattle.blocks.specs.declared.answers.Refusal.{Refusal}
use Rattle.modes.specs.Outcome.{mode_answer}
use Rattle.modes.proofs.Eight.{checksum-eight}
use Rattle.modes.proofs.Laws.{cbc-keeps, cbc-decrypt-undoes, cbc-encrypt-undoes}
use Rattle.reports.specs.Sealing.{Sealer, LawfulSealer, enciphered, deciphered, sum_of}

-- What may be enciphered under a start.
pub record Mixable (start x : List ℕ) : Type 0 where
  pub from : Sixteen start
  pub long : 16 ≤ length x
  pub octets : Octets x

module _ (s : Sealer) (law : LawfulSealer s) where
  pub sum_is : (x : List ℕ) → Octets x → length (sum_of s.check x) ≡ 8
  unfolding sum_of
  sum_is x o = (checksum-eight s.check law.lands x o).0

  pub forth : (start x : List ℕ) → Mixable start x → (length (enciphered s.seal start x) ≡ length x) × Octets (enciphered s.seal start x)
  unfolding enciphered
  forth start x h = (cbc-keeps s.seal law.reversible start h.from).0 x h.octets h.long

  pub back : (start x : List ℕ) → Mixable start x → (length (deciphered s.seal start x) ≡ length x) × Octets (deciphered s.seal start x)
  unfolding deciphered
  back start x h = (cbc-keeps s.seal law.reversible start h.from).1 x h.octets h.long

  pub undone : (start x : List ℕ) → Mixable start x → deciphered s.seal start (enciphered s.seal start x) ≡ x
  unfolding enciphered deciphered
  undone start x h = cbc-decrypt-undoes s.seal law.reversible start h.from x h.octets h.long

  pub met : (start x : List ℕ) → Mixable start x → enciphered s.seal start (deciphered s.seal start x) ≡ x
  unfolding enciphered deciphered
  met start x h = cbc-encrypt-undoes s.seal law.reversible start h.from x h.octets h.long

-- A call of a mode whose output is as long as its message leaves the text there.
accepts : (n room : ℕ) → 16 ≤ n → n ≤ 65536 → n ≤ room → mode_answer 16 n room ≡ Ok n
accepts n room a b c = grind (arith, nat_tests)

pub all_written : (r : Result ℕ Refusal) (n : ℕ) (text out new : List ℕ) → r ≡ mode_answer 16 n (length out) → 16 ≤ n → n ≤ 65536 → length out ≡ n
    → new ≡ written r text out → new ≡ text
all_written r n text out new is a b l e =
    e ∙ ap (λ (q : Result ℕ Refusal). written q text out) (is ∙ accepts n (length out) a b (omega arith))
    ∙ ap (λ z. text ++ z) (drop_all n out (omega arith)) ∙ append-nil text
