-- What the readers of a connection will hand on: what they hold, and then what the connection has
-- left. `None` if the connection does not say, as a socket does not.
use Rattle.std.specs.Prelude.{ℕ, List, Option}
use Rattle.std.specs.Io.KnownBytes.{prepend_known}
use Rattle.circular_buffer.specs.Buffer.{Buffer}
use Rattle.shell.specs.declared.by_line.ByLine.{ByLine}
use Rattle.shell.specs.declared.counted.Counted.{Counted}
use Rattle.shell.specs.declared.paced.Paced.{Paced}
use Rattle.shell.specs.declared.recalling.Recalling.{Recalling}
use Rattle.shell.specs.declared.timed.Patient.{Patient}
use Rattle.shell.specs.declared.timed.Until.{Until}

abbrev pub by_line_held : {I : Type 0} → ByLine I → List ℕ
by_line_held r = r.ahead

abbrev pub by_line_remaining : {I : Type 0} → (I → Option (List ℕ)) → ByLine I
    → Option (List ℕ)
by_line_remaining remaining r = prepend_known r.ahead (remaining r.input)

abbrev pub patient_input : {I S : Type 0} → Patient I S → I
patient_input r = r.input

abbrev pub until_input : {S C : Type 0} → Until S C → S
until_input r = r.input

abbrev pub paced_held : {S N R : Type 0} → Paced S N R → List ℕ
paced_held r = r.ahead

abbrev pub paced_remaining : {S N R : Type 0} → (S → Option (List ℕ)) → Paced S N R
    → Option (List ℕ)
paced_remaining remaining r = prepend_known r.ahead (remaining r.input)

-- what a counting writer writes to
abbrev pub counted_out : {W : Type 0} → Counted W → W
counted_out c = c.out

abbrev pub recalling_input : {I : Type 0} → Recalling I → I
recalling_input r = r.input

-- what is kept of what was read, if there was memory for it
abbrev pub recalled : {I : Type 0} → Recalling I → Option (Buffer ℕ)
recalled r = r.last
