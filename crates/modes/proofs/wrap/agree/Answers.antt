use Rattle.std.proofs.Common.{◌≡◌, fold, sym, ap, ◌∙◌, arith, rules}
use lib.Bits.{bit_or}
use Rattle.std.proofs.lemmas.Bool.{eqb-true, eq-eqb}
use Rattle.blocks.specs.Octets.{xor_each}
use Rattle.modes.proofs.Mixes.{or-all, or-same}
use Rattle.modes.proofs.wrap.agree.Goals as goal

pub returns : goal.returns
returns c =
    let folded : c.fold.result ≡ fold bit_or 0 c.xor.result = search rules in
    let mixed : c.fold.result ≡ fold bit_or 0 (xor_each c.args.a c.args.b) = folded ∙ ap (fold bit_or 0) c.xor.ensures in (
      (λ e. (or-all c.args.a c.args.b 0 (omega arith) (sym mixed ∙ eqb-true c.fold.result 0 e)).1),
      (λ e. eq-eqb c.fold.result 0 (mixed ∙ ap (λ z. fold bit_or 0 (xor_each z c.args.b)) e ∙ or-same c.args.b)),
    )
