-- Faults: what is wrong with a text, in which layer, and where.
use Rattle.std.specs.Prelude.{ℕ, Bool, cond, Some, None, Err, Option, Result}
use Rattle.blocks.specs.declared.answers.Refusal.{Refusal}
use Rattle.reports.specs.declared.fault.Fault.{Fault}
use Rattle.reports.specs.declared.fault.Layer.{Layer}
use Rattle.reports.specs.declared.fault.Layer.TheVariants as layer

-- The number of each layer.
abbrev pub layer_number : Layer → ℕ
layer_number layer.Text = 1
layer_number layer.Body = 2
layer_number layer.Book = 3

-- A fault of the text, of the body, or of the book, at a place.
abbrev pub in_text : Refusal → ℕ → Fault
in_text why at = record { refusal = why; layer = layer.Text; place = at }

abbrev pub in_body : Refusal → ℕ → Fault
in_body why at = record { refusal = why; layer = layer.Body; place = at }

abbrev pub in_book : Refusal → ℕ → Fault
in_book why at = record { refusal = why; layer = layer.Book; place = at }

-- A rule that holds, or else its fault.
abbrev pub rule : Bool → Fault → Option Fault
rule b f = cond b None (Some f)

-- The first fault of two.
abbrev pub or_else : Option Fault → Option Fault → Option Fault
or_else None x = x
or_else (Some f) x = Some f

-- The first fault, or else what comes after.
abbrev pub unless : {A : Type 0} → Option Fault → Result A Fault → Result A Fault
unless None x = x
unless (Some f) x = Err f
