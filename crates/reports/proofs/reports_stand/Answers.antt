use Rattle.std.proofs.Common.{refl}
use Rattle.reports.specs.Sealing.{sealed, enciphered, sum_of}
use Rattle.reports.proofs.Opens.{odd-lengths}
use Rattle.reports.proofs.reports_stand.Goals as goal

pub returns : goal.returns
unfolding sealed enciphered sum_of
returns c = record { empty = refl; lengths = odd-lengths }
