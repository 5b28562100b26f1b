-- Which nick a registration asks for, after this many whose nick was not taken. Their order is our
-- own choice.
use Rattle.std.specs.Prelude.{◌≡◌, ◌+◌, ◌<◌, ℕ}
use Rattle.shell.specs.declared.nick_tries.NickChoice.{NickChoice}
use Rattle.shell.specs.declared.nick_tries.NickChoice.TheVariants as choice

-- the wanted one first, then the further ones in their order, each once, and then the cut one
abbrev pub IsChoice : ℕ → ℕ → NickChoice → Type 0
IsChoice refused further choice.Wanted = refused ≡ 0
IsChoice refused further (choice.Further place) = (refused ≡ place + 1) × (place < further)
IsChoice refused further choice.Cut = further < refused
