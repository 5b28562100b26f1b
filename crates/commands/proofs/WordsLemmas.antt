-- The command line that is read.
use Rattle.clap.specs.declared.error.kind.ErrorKind.TheVariants as kind
use Rattle.clap.{proofs.OnLiterals.clap_on_literals, specs.Words.{App, IsAmong, Row, Text}}
use Rattle.clap.specs.Words.{fault_of, first_of, is_simple, is_simple_and_free, subcommand_of}
use Rattle.{clap.specs.declared.error.kind.ErrorKind.ErrorKind, client_caps.specs.Caps.no_caps}
use Rattle.client_caps.specs.{Request.request_of, declared.caps.Caps.Caps}
use Rattle.commands.specs.Command.{AsksFor, IsAsked, IsAttach, IsCauseOf, IsCommandCause}
use Rattle.commands.specs.Command.{IsCommandOf, IsExplained, IsHistory, IsOfKind, IsOptionsCause}
use Rattle.commands.specs.Command.{IsTextCause, bnc_app, spaced}
use Rattle.commands.specs.declared.words.Command.{Command, TheVariants.{Attach, AttachBy, View}}
use Rattle.commands.specs.declared.words.Command.TheVariants.{Control as ControlIt}
use Rattle.commands.specs.declared.words.WordsFault.{WordsFault, TheVariants.{Bad, Help}}
use Rattle.{commands.specs.declared.words.WordsFault.TheVariants.OutOfMemory, std.proofs.Common.◌≡◌}
use Rattle.std.proofs.Common.{◌⊎◌, Err, List, None, Ok, Option, Result, Some, arith, codes, inl}
use Rattle.std.{proofs.Common.{inr, option_map, refl, subst, true, ℕ}, specs.Prelude.IfErr}
use Rattle.std.specs.Prelude.{IfNone, IfOk, IfSome}

-- the grammar is one whose parse `clap`'s contract states
pub is_simple-bnc_app : is_simple bnc_app ≡ true
unfolding clap_on_literals
is_simple-bnc_app = refl

pub is_free-bnc_app : is_simple_and_free bnc_app ≡ true
unfolding clap_on_literals
is_free-bnc_app = refl

abbrev both : {S A B : Type 0} → (S → A) → (S → B) → S → A × B
both f g s = (f s, g s)

-- running out of memory is no question for help or the version
memory_is_not_asked : (k : ErrorKind) → k ≡ kind.OutOfMemory → IsAsked k → ⊥
memory_is_not_asked k memory asked = grind arith

-- an error of `clap` is the cause of what it is reported as
pub cause_at : (app : App) (words : List Text) (k : ErrorKind) (fault : WordsFault) → app ≡ bnc_app
    → (k ≡ kind.OutOfMemory) ⊎ IsAmong k (fault_of app words) → IsOfKind k fault
    → IsCauseOf words fault
cause_at app words k (Help text) same (inl memory) is = absurd (memory_is_not_asked k memory is)
cause_at app words k (Help text) same (inr among) is = (k, is, rw same at among)
cause_at app words k Bad same (inl memory) is = absurd (is.0 memory)
cause_at app words k Bad same (inr among) is = inl (k, is.1, rw same at among)
cause_at app words k OutOfMemory same found is = tt

-- what a parse by the grammar entered
pub asked_at : {S : Type 0} {whole : App} (app : App) (words : List Text) (o : Option S) (f : S → Text)
    (g : S → List Row) (name : Text) (rows : List Row) → app ≡ whole
    → option_map (both f g) o ≡ subcommand_of app words → Some name ≡ option_map f o
    → Some rows ≡ option_map {T = Text × List Row} (λ p. p.1) (option_map (both f g) o)
    → subcommand_of whole words ≡ Some (name, rows)
asked_at app words o f g name rows same given first second = grind arith

-- an attach whose options ask for nothing asks for nothing
no_attach : (rows : List Row) → ((caps : Caps) (n : ℕ) → IsAttach rows caps n → ⊥)
    → (command : Command) → IsCommandOf (codes "attach") rows command → ⊥
no_attach rows none (Attach caps n) asks = none caps n asks.1
no_attach rows none (AttachBy caps n file) asks = none caps n asks.1
no_attach rows none _ asks = cc

pub options_cause : (rows : List Row) (fault : WordsFault) → IsOptionsCause rows fault
    → IsCommandCause (codes "attach") rows fault
options_cause rows Bad none = no_attach rows none
options_cause rows OutOfMemory none = tt
options_cause rows (Help text) none = absurd none

-- the commands whose argument is a file alone
abbrev pub HasFile : Text → Type 0
HasFile name =
    (name ≡ codes "check")
    ⊎ ((name ≡ codes "serve") ⊎ ((name ≡ codes "setup") ⊎ (name ≡ codes "log")))

-- nor does one of these without a file
no_file : (name : Text) (rows : List Row) → HasFile name
    → first_of (codes "file") rows ≡ None → (command : Command) → IsCommandOf name rows command → ⊥
no_file name rows (inl is) none View asks = cc
no_file name rows (inl is) none _ asks = cc
no_file name rows (inr (inl is)) none View asks = cc
no_file name rows (inr (inl is)) none _ asks = cc
no_file name rows (inr (inr (inl is))) none View asks = cc
no_file name rows (inr (inr (inl is))) none _ asks = cc
no_file name rows (inr (inr (inr is))) none View asks = cc
no_file name rows (inr (inr (inr is))) none _ asks = cc

pub file_cause : (name : Text) (rows : List Row) (fault : WordsFault) → HasFile name
    → IsTextCause (first_of (codes "file") rows) fault → IsCommandCause name rows fault
file_cause name rows Bad has none = no_file name rows has none
file_cause name rows OutOfMemory has none = tt
file_cause name rows (Help text) has none = absurd none

-- nor does a control without a file or a word
no_control : (rows : List Row)
    → (first_of (codes "file") rows ≡ None) ⊎ (first_of (codes "word") rows ≡ None)
    → (command : Command) → IsCommandOf (codes "control") rows command → ⊥
no_control rows (inl none) (ControlIt control) asks = cc
no_control rows (inr none) (ControlIt control) asks = cc
no_control rows none _ asks = cc

pub without_file : (rows : List Row) (fault : WordsFault)
    → IsTextCause (first_of (codes "file") rows) fault
    → IsCommandCause (codes "control") rows fault
without_file rows Bad none = no_control rows (inl none)
without_file rows OutOfMemory none = tt
without_file rows (Help text) none = absurd none

pub without_word : (rows : List Row) (fault : WordsFault)
    → IsTextCause (first_of (codes "word") rows) fault
    → IsCommandCause (codes "control") rows fault
without_word rows Bad none = no_control rows (inr none)
without_word rows OutOfMemory none = tt
without_word rows (Help text) none = absurd none

-- what the command asks for is what the words ask for
pub words_ask : (words : List Text) (name : Text) (rows : List Row) (r : Result Command WordsFault)
    → subcommand_of bnc_app words ≡ Some (name, rows) → IfOk r (IsCommandOf name rows)
    → IfOk r (AsksFor words)
words_ask words name rows (Ok command) asked h = (name, rows, asked, h)
words_ask words name rows (Err fault) asked h = tt

asks_nothing : (words : List Text) (name : Text) (rows : List Row) → subcommand_of bnc_app words
    ≡ Some (name, rows) → ((command : Command) → IsCommandOf name rows command → ⊥)
    → (command : Command) → AsksFor words command → ⊥
asks_nothing words name rows asked none command asks =
    let same : ◌≡◌ {A = Text × List Row} (asks.0, asks.1) (name, rows) = cc in
    none command (subst (λ (p : Text × List Row). IsCommandOf p.0 p.1 command) same asks.3)

pub words_cause : (words : List Text) (name : Text) (rows : List Row)
    (r : Result Command WordsFault) → subcommand_of bnc_app words ≡ Some (name, rows)
    → IfErr r (IsCommandCause name rows) → IfErr r (IsCauseOf words)
words_cause words name rows (Ok command) asked h = tt
words_cause words name rows (Err Bad) asked h = inr (asks_nothing words name rows asked h)
words_cause words name rows (Err OutOfMemory) asked h = tt
words_cause words name rows (Err (Help text)) asked h = absurd h

-- the report of such an error explains the words
pub explained_at : {T E : Type 0} (app : App) (words : List Text) (k : ErrorKind)
    (told : Result (Option T) E) → app ≡ bnc_app → (k ≡ kind.OutOfMemory)
    ⊎ IsAmong k (fault_of app words) → IfOk told (λ text. IfNone text (IsAsked k))
    → IfOk told (λ text. IfSome text (λ _. (IsAsked k → ⊥) × (k ≡ kind.OutOfMemory → ⊥)))
    → IfOk told (IsExplained words)
explained_at app words k (Ok None) same (inl memory) text fault =
    absurd (memory_is_not_asked k memory text)
explained_at app words k (Ok None) same (inr among) text fault = inr (k, text, rw same at among)
explained_at app words k (Ok (Some told)) same (inl memory) text fault = absurd (fault.1 memory)
explained_at app words k (Ok (Some told)) same (inr among) text fault =
    (k, fault.0, rw same at among)
explained_at app words k (Err e) same found text fault = tt

-- one text for an option
pub one_list : (rows : List Row) (caps : Caps) (n : ℕ) (list : Text) → first_of (codes "caps") rows
    ≡ Some list → IsAttach rows caps n → request_of no_caps (spaced list) ≡ Some caps
one_list rows caps n list e asks = let same : list ≡ asks.0 = cc in rw same asks.2

pub one_number : (rows : List Row) (caps : Caps) (n : ℕ) (text : Text)
    → first_of (codes "history") rows ≡ Some text → IsAttach rows caps n → IsHistory text n
one_number rows caps n text e asks = let same : text ≡ asks.3 = cc in rw same asks.5
