-- What a call leaves in the caller's output.
use Rattle.std.specs.Prelude.{ℕ, List, ◌++◌, drop, Ok, Err, Result}
use Rattle.blocks.specs.declared.answers.Refusal.{Refusal}

-- Accepted with so many octets: the text, and past it the output as it was. Refused: all as it was.
abbrev pub written : Result ℕ Refusal → List ℕ → List ℕ → List ℕ
written (Ok n) text out = text ++ drop n out
written (Err e) text out = out
