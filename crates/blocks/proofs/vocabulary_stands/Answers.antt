use Rattle.blocks.proofs.Numbers.{number-field, field-number}
use Rattle.blocks.specs.Reversed.{one-preimage}
use Rattle.blocks.proofs.vocabulary_stands.Goals as goal

pub returns-clause-one : goal.returns-clause-one
returns-clause-one c = one-preimage

pub returns-clause-fields : goal.returns-clause-fields
returns-clause-fields c = (number-field, field-number)
