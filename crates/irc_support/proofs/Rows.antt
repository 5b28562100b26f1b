-- The definitions at tokens, mode texts and words as networks send them.
use Prim.Native.String.{String}
use Rattle.{irc_line.specs.Line.Parts, std.specs.Prelude.{Bool, map, option_map, ℕ}}
use Rattle.irc_names.specs.declared.case_mapping.CaseMapping.TheVariants.{Ascii, Rfc1459}
use Rattle.irc_support.specs.{ChanModes.kind_of, ModeChanges.{ChangeParts, changes}, Text.is_word}
use Rattle.irc_support.specs.{ChanModes.takes_parameter, Ranks.{has_rank, rank_count, ranks_that}}
use Rattle.irc_support.specs.{Line.{changes_in, settings_after, words_in}, NamesReply.{Word, words}}
use Rattle.irc_support.specs.Ranking.{Ranking, rank_of_symbol, ranking_of, spelled_by, symbol_of}
use Rattle.irc_support.specs.{Ranking.rank_of_letter, Settings.{is_channel, key_by, mapping_of}}
use Rattle.{irc_support.specs.Tokens.{Token, set_tokens, token_of, value_of}, std.proofs.Common.[]}
use Rattle.irc_support.specs.declared.kind.Kind.TheVariants.{C, D, Prefix, Unknown}
use Rattle.std.proofs.Common.{◌∷◌, ◌≡◌, List, None, Option, Some, codes, false, get_or, refl, true}

-- ---- tokens

abbrev bare : String → Token
bare name = (codes name, None)

abbrev valued : String → String → Token
valued name value = (codes name, Some (codes value))

-- the settings after a 005 line with these parameters
abbrev with_line : List Token → List String → List Token
with_line settings params = set_tokens settings (map codes params)

tokens_in_order :
    (with_line [] ("Me" ∷ "A=1" ∷ "B" ∷ "-A" ∷ "A=2" ∷ "C=" ∷ "=x" ∷ "text" ∷ [])
    ≡ bare "B" ∷ valued "A" "2" ∷ valued "C" "" ∷ [])
    -- a name that is there keeps its place; a value may hold `=`
    × (with_line (bare "A" ∷ bare "B" ∷ []) ("Me" ∷ "A=x=y" ∷ "-" ∷ "end" ∷ [])
    ≡ valued "A" "x=y" ∷ bare "B" ∷ [])
    × (token_of (codes "A=x=y") ≡ valued "A" "x=y")
    -- neither our nick nor the closing text is a token
    × (with_line [] ("A" ∷ "B" ∷ []) ≡ [])
    -- a token without `=` is kept as it came, and read as an empty value
    × (with_line [] ("Me" ∷ "NAMESX" ∷ "A=1" ∷ "text" ∷ []) ≡ bare "NAMESX" ∷ valued "A" "1" ∷ [])
    × (value_of (bare "NAMESX" ∷ []) (codes "NAMESX") ≡ Some [])
    × (value_of (bare "NAMESX" ∷ []) (codes "namesx") ≡ None)
unfolding set_tokens
tokens_in_order = (refl, refl, refl, refl, refl, refl, refl)

-- ---- ranks

abbrev prefix : String → List Token
prefix value = valued "PREFIX" value ∷ []

abbrev ranks : String → String → Ranking
ranks letters symbols = record { letters = codes letters; symbols = codes symbols }

-- an odd value, one with a symbol twice, no token, and 17 ranks are the default
ranks_of_prefix : (ranking_of (prefix "(ov)@") ≡ ranks "ov" "@+")
    × (ranking_of (prefix "(ohv)@@+") ≡ ranks "ov" "@+")
    × (ranking_of [] ≡ ranks "ov" "@+")
    × (ranking_of (prefix "(abcdefghijklmnopq)!\"#$%&'()*+-./;<=") ≡ ranks "ov" "@+")
    × (ranking_of (prefix "") ≡ ranks "" "")
    × (ranking_of (bare "PREFIX" ∷ []) ≡ ranks "" "")
    × (ranking_of (prefix "(qaohv)~&@%+") ≡ ranks "qaohv" "~&@%+")
    × (rank_of_letter (prefix "(qaohv)~&@%+") 111 ≡ Some 2)
    × (symbol_of (prefix "(qaohv)~&@%+") 2 ≡ Some 64)
    × (rank_of_symbol (prefix "(abcdefghijklmnop)!\"#$%&'()*+-./;<") 60 ≡ Some 15)
    × (spelled_by (codes "(ov)@") ≡ None)
    -- `)` can be a symbol
    × (spelled_by (codes "(ov)()") ≡ Some (ranks "ov" "()"))
unfolding ranking_of spelled_by
ranks_of_prefix = (refl, refl, refl, refl, refl, refl, refl, refl, refl, refl, refl, refl)

-- ---- kinds of modes

-- a letter of PREFIX that CHANMODES has too; a missing and a further list
abbrev odd_modes : List Token
odd_modes = valued "CHANMODES" "beIo,k,,mz,q" ∷ []

kinds_of_letters : (kind_of [] 111 ≡ Prefix)
    × (kind_of [] 108 ≡ C)
    × (kind_of [] 122 ≡ Unknown)
    × (takes_parameter C true ≡ true)
    × (takes_parameter C false ≡ false)
    × (kind_of odd_modes 111 ≡ Prefix)
    × (kind_of odd_modes 122 ≡ D)
    × (kind_of odd_modes 113 ≡ Unknown)
    × (kind_of (bare "CHANMODES" ∷ []) 98 ≡ Unknown)
unfolding kind_of ranking_of spelled_by
kinds_of_letters = (refl, refl, refl, refl, refl, refl, refl, refl, refl)

-- ---- names

abbrev mapping : String → List Token
mapping name = valued "CASEMAPPING" name ∷ []

names_and_keys : (mapping_of [] ≡ Rfc1459)
    × (mapping_of (mapping "rfc7613") ≡ Ascii)
    × (key_by (mapping "strict-rfc1459") (codes "A[~") ≡ codes "a{~")
    × (key_by [] (codes "A[~") ≡ codes "a{^")
    × (is_channel [] (codes "#c") ≡ true)
    × (is_channel (valued "CHANTYPES" "#" ∷ []) (codes "&c") ≡ false)
    × (is_channel [] (codes "#a,b") ≡ false)
    -- what STATUSMSG allows before a channel's name is no part of it
    × (is_channel (valued "STATUSMSG" "@+" ∷ []) (codes "@#c") ≡ false)
    × (is_word (codes "a:b") ≡ true)
    × (is_word (codes ":a") ≡ false)
unfolding mapping_of is_channel is_word
names_and_keys = (refl, refl, refl, refl, refl, refl, refl, refl, refl, refl)

-- ---- mode changes

abbrev change : Bool → String → Option String → ChangeParts
change plus letter param =
    record { plus = plus; letter = get_or (codes letter) 0 0; param = option_map codes param }

-- the changes of a mode text and its parameters
abbrev changed : List String → List ChangeParts
changed params = changes [] (map codes params)

abbrev line : String → List String → Parts
line command params = record {
  tags = None;
  source = Some (codes "s");
  command = codes command;
  params = map codes params;
}

changes_of_modes :
    (changed ("-l+v" ∷ "bob" ∷ []) ≡ change false "l" None ∷ change true "v" (Some "bob") ∷ [])
    × (changed ("+lo" ∷ "5" ∷ "bob" ∷ [])
    ≡ change true "l" (Some "5") ∷ change true "o" (Some "bob") ∷ [])
    -- no sign is plus; a letter that finds no parameter left has none
    × (changed ("mo" ∷ []) ≡ change true "m" None ∷ change true "o" None ∷ [])
    -- an unknown letter takes nothing
    × (changed ("+zo" ∷ "bob" ∷ []) ≡ change true "z" None ∷ change true "o" (Some "bob") ∷ [])
    -- list modes take a parameter set and unset, and ask for the list without one
    × (changed ("+b-b+b" ∷ "x!*@*" ∷ "*!y@*" ∷ [])
    ≡ change true "b" (Some "x!*@*") ∷ change false "b" (Some "*!y@*") ∷ change true "b" None ∷ [])
    × (changes_in [] (line "324" ("Me" ∷ "#c" ∷ "+kl" ∷ "key" ∷ "9" ∷ []))
    ≡ change true "k" (Some "key") ∷ change true "l" (Some "9") ∷ [])
    × (settings_after [] (line "006" ("Me" ∷ "A=1" ∷ "text" ∷ [])) ≡ [])
unfolding changes kind_of ranking_of spelled_by
changes_of_modes = (refl, refl, refl, refl, refl, refl, refl)

-- ---- name lists

abbrev member : List ℕ → String → Word
member ranks nick = record { ranks = ranks; nick = codes nick }

words_of_a_name_list : (words [] (codes "Me @+bob  +eve!e@h @")
    ≡ member [] "Me" ∷ member (0 ∷ 1 ∷ []) "bob" ∷ member (1 ∷ []) "eve" ∷ member (0 ∷ []) "" ∷ [])
    -- symbols in any order, each once for each time that it occurs
    × (words [] (codes "+@+bob") ≡ member (0 ∷ 1 ∷ []) "bob" ∷ [])
    -- a set is listed highest first
    × (ranks_that (has_rank (1 ∷ 0 ∷ [])) ≡ 0 ∷ 1 ∷ [])
    -- `:s 353 Me = #c :@bob`, and the same without the channel's symbol
    × (words_in [] (line "353" ("Me" ∷ "=" ∷ "#c" ∷ "@bob" ∷ [])) ≡ member (0 ∷ []) "bob" ∷ [])
    × (words_in [] (line "353" ("Me" ∷ "#c" ∷ "@bob" ∷ [])) ≡ [])
unfolding words ranks_that rank_count ranking_of spelled_by
words_of_a_name_list = (refl, refl, refl, refl, refl)
