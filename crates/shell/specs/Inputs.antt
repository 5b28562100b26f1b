-- What a client or a network is yet to be read of, wherever the reader is.
use Rattle.std.specs.Prelude.{ℕ, List, [], Option, Some}
use Rattle.shell.specs.Readers.{by_line_remaining, paced_remaining, patient_input, until_input}
use Rattle.shell.specs.declared.client_input.ClientInput.{ClientInput}
use Rattle.shell.specs.declared.client_input.Phase.{Phase as ClientPhase}
use Rattle.shell.specs.declared.client_input.Phase.TheVariants as client
use Rattle.shell.specs.declared.network_input.NetworkInput.{NetworkInput}
use Rattle.shell.specs.declared.network_input.Phase.{Phase as NetworkPhase}
use Rattle.shell.specs.declared.network_input.Phase.TheVariants as network

-- one that is over has nothing left
abbrev pub client_left : {S N R : Type 0} → (S → Option (List ℕ)) → ClientPhase S N R
    → Option (List ℕ)
client_left remaining (client.Login login) =
    by_line_remaining (λ until. remaining (until_input until)) login
client_left remaining (client.Session session) = paced_remaining remaining session
client_left remaining client.Over = Some []

abbrev pub client_remaining : {S N R : Type 0} → (S → Option (List ℕ)) → ClientInput S N R
    → Option (List ℕ)
client_remaining remaining r = client_left remaining r.phase

abbrev pub network_left : {S A C : Type 0} → (S → Option (List ℕ)) → NetworkPhase S A C
    → Option (List ℕ)
network_left remaining (network.Registering until) = remaining (until_input until)
network_left remaining (network.Live patient) = remaining (patient_input patient)
network_left remaining network.Over = Some []

abbrev pub network_remaining : {S A C : Type 0} → (S → Option (List ℕ)) → NetworkInput S A C
    → Option (List ℕ)
network_remaining remaining r = network_left remaining r.phase
