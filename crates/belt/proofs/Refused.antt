-- A key that cannot be expanded makes no block and no new key, for the same reason.
use Rattle.std.proofs.Common.{◌≡◌, ℕ, List, length, Err, arith}
use Rattle.std.proofs.lemmas.Bool.Decides.{nat_tests}
use Rattle.blocks.specs.declared.answers.Refusal.{Refusal}
use Rattle.belt.specs.Keys.{expand_answer, block_answer}
use Rattle.belt.specs.Transformation.{transform_answer}

pub refused : (key : List ℕ) (e : Refusal) → Err e ≡ expand_answer key → Err e ≡ block_answer key
refused key e h = grind (arith, nat_tests)

pub untransformed : (key : List ℕ) (m room : ℕ) (e : Refusal) → Err e ≡ expand_answer key → Err e ≡ transform_answer (length key) m room
untransformed key m room e h = grind (arith, nat_tests)
