-- The text of all figures, as Prometheus reads it (exposition format 0.0.4). Which figures there are,
-- and their names, are our own choice.
use Rattle.std.specs.Prelude.{◌++◌, ◌∷◌, ℕ, List, [], Option, Some, codes, if◌then◌else◌}
use Rattle.std.specs.Prelude.{option_map}
use Rattle.std.specs.List.{flat_map}
use Rattle.std.specs.Option.{option_map_or}
use Rattle.std.specs.Fmt.{decimal}
use Rattle.figures.specs.Labels.{labels_of}
use Rattle.figures.specs.declared.text.Measure.{Measure}
use Rattle.figures.specs.declared.text.Measure.TheVariants.{Online, Sessions, Messages, Bytes}
use Rattle.figures.specs.declared.text.NetworkFigures.{NetworkFigures}
use Rattle.figures.specs.declared.text.Totals.{Totals}

-- a line of comment on a figure
unfoldable pub comment_of : List ℕ → List ℕ → List ℕ → List ℕ
comment_of kind name text = kind ++ (name ++ (32 ∷ (text ++ 10 ∷ [])))

-- the text before the samples of a figure: what it is, and of which type
abbrev pub head_of : List ℕ → List ℕ → List ℕ → List ℕ
head_of name help kind = comment_of (codes "# HELP ") name help ++ comment_of (codes "# TYPE ") name kind

-- a number, and the end of its line
abbrev pub number_end : ℕ → List ℕ
number_end n = 32 ∷ (decimal n ++ 10 ∷ [])

-- ---- what is measured of each network

abbrev pub name_of : Measure → List ℕ
name_of Online = codes "bnc_network_online"
name_of Sessions = codes "bnc_sessions"
name_of Messages = codes "bnc_kept_messages"
name_of Bytes = codes "bnc_kept_bytes"

abbrev pub help_of : Measure → List ℕ
help_of Online = codes "Whether the network has let us in."
help_of Sessions = codes "Clients of the network that are served."
help_of Messages = codes "Messages that are kept of the network."
help_of Bytes = codes "Bytes of the messages that are kept of the network."

-- what is measured, if it is known
abbrev pub measured : Measure → NetworkFigures → Option ℕ
measured Online n = Some (if n.is_online then 1 else 0)
measured Sessions n = Some n.sessions
measured Messages n = option_map (λ (k : ℕ × ℕ). k.0) n.kept
measured Bytes n = option_map (λ (k : ℕ × ℕ). k.1) n.kept

-- the sample of a network
unfoldable pub sample_of : Measure → NetworkFigures → ℕ → List ℕ
sample_of measure n value =
    name_of measure ++ (labels_of n.user.now n.network.now ++ number_end value)

abbrev pub sample_at : Measure → NetworkFigures → List ℕ
sample_at measure n = option_map_or (sample_of measure n) (measured measure n) []

-- a figure of all networks
abbrev pub family_of : Measure → List NetworkFigures → List ℕ
family_of measure networks =
    head_of (name_of measure) (help_of measure) (codes "gauge")
    ++ flat_map (sample_at measure) networks

unfoldable pub families_of : List NetworkFigures → List ℕ
families_of networks =
    family_of Online networks
    ++ (family_of Sessions networks
    ++ (family_of Messages networks ++ family_of Bytes networks))

-- ---- what is counted since the program began

abbrev pub total_of : List ℕ → List ℕ → ℕ → List ℕ
total_of name help value = head_of name help (codes "counter") ++ (name ++ number_end value)

unfoldable pub totals_of : Totals → List ℕ
totals_of totals =
    total_of (codes "bnc_cuts_total") (codes "Sessions that were cut, since their client took too little.") totals.cuts
    ++ (total_of (codes "bnc_refusals_total") (codes "Connections and logins that were refused.") totals.refusals
    ++ (total_of (codes "bnc_dials_total") (codes "Dials of networks.") totals.dials
    ++ total_of (codes "bnc_log_lines_lost_total") (codes "Lines of the log that were lost.") totals.lost))

-- all of it
abbrev pub figures_of : List NetworkFigures → Totals → List ℕ
figures_of networks totals = families_of networks ++ totals_of totals
