-- Worked rows: what lines say, and what is found by looking back, by computation.
mod Transcripts
use Transcripts.*
use Transcripts.{reading}

-- what a line says, under the default settings
abbrev tells : String → Told
tells line = told [] (Received (parts_of (codes line)))

-- a name with this key, spelled so
abbrev named : String → String → Name
named key spelled = record { key = codes key; spelled = codes spelled }

what_lines_tell : (tells ":s 001 Me :hi" ≡ Welcomed (codes "Me"))
    × (tells ":s 001 @me :hi" ≡ Silent)
    × (tells ":s 005 Me A=1 -B :are supported"
    ≡ Supports (map codes ("Me" ∷ "A=1" ∷ "-B" ∷ "are supported" ∷ [])))
    × (tells ":s 376 Me :end" ≡ Settles)
    × (tells ":s 422 Me :none" ≡ Settles)
    × (tells ":Bob!b@h join #C" ≡ Joined (named "#c" "#C") true (named "bob" "Bob") None)
    × (tells ":bob!b@h JOIN #c bobacc :Bob B"
    ≡ Joined (named "#c" "#c") true (named "bob" "bob") (Some (Some (codes "bobacc"))))
    × (tells ":bob!b@h JOIN #c * :Bob B"
    ≡ Joined (named "#c" "#c") true (named "bob" "bob") (Some None))
    × (tells ":bob!b@h JOIN c" ≡ Joined (named "c" "c") false (named "bob" "bob") None)
    -- a JOIN fixes the settings also if it says nothing else
    × (tells ":@bob!b@h JOIN #c" ≡ Settles)
    × (tells ":bob@h PART #C :bye" ≡ Parted (codes "#c") (codes "bob"))
    × (tells ":s KICK #c Bob :out" ≡ Kicked (codes "#c") (codes "bob"))
    × (tells ":s KICK #c @bob :out" ≡ Silent)
    × (tells ":bob!b@h QUIT :bye" ≡ Quits (codes "bob"))
    × (tells "QUIT :bye" ≡ Silent)
    × (tells ":bob!b@h NICK Rob" ≡ Renamed (codes "bob") (named "rob" "Rob"))
    × (tells ":bob!b@h NICK @rob" ≡ Silent)
    × (tells ":s 353 Me = #c :Me @+bob!b@h @ +~x" ≡ Present (codes "#c")
    (record { person = named "me" "Me"; ranks = [] }
    ∷ record { person = named "bob" "bob"; ranks = 0 ∷ 1 ∷ [] } ∷ []))
    × (tells ":bob!b@h ACCOUNT bobacc" ≡ HasAccount (codes "bob") (Some (codes "bobacc")))
    × (tells ":bob!b@h ACCOUNT *" ≡ HasAccount (codes "bob") None)
    × (tells ":bob!b@h AWAY :gone fishing" ≡ IsAway (codes "bob") (Some (codes "gone fishing")))
    × (tells ":bob!b@h AWAY" ≡ IsAway (codes "bob") None)
    × (tells ":bob!b@h PRIVMSG #c :JOIN #c" ≡ Silent)
    × (tells ":s TOPIC #c :Hello all" ≡ Titled (codes "#c") (Some (codes "Hello all")))
    × (tells ":s TOPIC #c :" ≡ Titled (codes "#c") None)
    × (tells ":s TOPIC #c" ≡ Silent)
    × (tells ":s 332 Me #c :Hello all" ≡ Titled (codes "#c") (Some (codes "Hello all")))
    × (tells ":s 331 Me #c :No topic is set" ≡ Titled (codes "#c") None)
    -- the parameters follow the letters in order: `-v` takes `eve`, `+b` and `+k` find none
    × (tells ":s MODE #c +ol-v+bk Bob 5 eve" ≡ Changed (codes "#c")
    (record { plus = true; rank = 0; person = codes "bob" }
    ∷ record { plus = false; rank = 1; person = codes "eve" } ∷ [])
    (record { letter = 108; setting = Some (Some (codes "5")) } ∷ []))
    × (tells ":s 324 Me #c +nk key" ≡ Listed (codes "#c")
    (record { letter = 110; setting = Some None }
    ∷ record { letter = 107; setting = Some (Some (codes "key")) } ∷ []))
    × (tells ":s 324 Me #c" ≡ Listed (codes "#c") [])
unfolding reading
what_lines_tell = assumption

-- ranks go along with a NICK, and a MODE finds them under the new one
abbrev renamed : List String
renamed = joined ++ ":s 353 Me = #c :Me @+bob" ∷ ":bob!b@h NICK rob" ∷ ":s MODE #c -o rob" ∷ []

-- two NICKs in a row
abbrev two_nicks : List String
two_nicks = with_bob ++ ":bob!b@h NICK rob" ∷ ":rob!b@h NICK Bob2" ∷ []

-- when we join anew the members start with us alone, without ranks
abbrev joined_anew : List String
joined_anew = with_bob ++ ":s MODE #c +oo bob Me" ∷ ":Me!m@h JOIN #c" ∷ []

-- our own JOIN of a name that is no channel's but has the key of one that we are on takes our ranks
abbrev other_spelling : List String
other_spelling = ":s 001 Me :hi" ∷ ":s 005 Me CHANTYPES=[# :x" ∷ ":s 376 Me :end"
    ∷ ":Me!m@h JOIN [c" ∷ ":s MODE [c +ov Me Me" ∷ []

who_is_a_member : (members ("bob" ∷ "me" ∷ "rob" ∷ []) renamed ≡ "me" ∷ "rob" ∷ [])
    -- our own nick changes too
    × (members ("bob" ∷ "rob" ∷ "bob2" ∷ "me" ∷ "moi" ∷ [])
    (two_nicks ++ ":Me!m@h NICK Moi" ∷ []) ≡ "bob2" ∷ "moi" ∷ [])
    -- a KICK names the nick in any case
    × (members ("bob" ∷ "rob" ∷ "bob2" ∷ "me" ∷ []) (two_nicks ++ ":s KICK #c bOB2 :out" ∷ [])
    ≡ "me" ∷ [])
    -- another's NICK onto our own nick says nothing, nor does an actor that is not nameable
    × (members ("bob" ∷ "me" ∷ "@x" ∷ [])
    (with_bob ++ ":bob!b@h NICK Me" ∷ ":@x!u@h JOIN #c" ∷ []) ≡ "bob" ∷ "me" ∷ [])
    × (members ("bob" ∷ "me" ∷ []) joined_anew ≡ "me" ∷ [])
    -- a name list of a channel that we left says nothing
    × (members ("bob" ∷ "me" ∷ [])
    (with_bob ++ ":Me!m@h PART #c" ∷ ":s 353 Me = #c :Me bob" ∷ []) ≡ [])
    -- names are compared by their keys
    × (members ("a{b" ∷ "me" ∷ []) (joined ++ ":a[b!x@h JOIN #C" ∷ ":A{B!x@h PART #c" ∷ [])
    ≡ "me" ∷ [])
    × (name_traced (take 2 (read two_nicks)) (codes "bob2") ≡ Some (codes "bob"))
unfolding reading
who_is_a_member = assumption

ranks_held : (member "#c" "rob" renamed ≡ plain (1 ∷ []) "rob")
    -- a NICK onto another's nick: who was called so before is gone
    × (member "#c" "eve" (with_bob ++ ":eve!e@h JOIN #c" ∷ ":s MODE #c +o eve"
    ∷ ":bob!b@h NICK eve" ∷ []) ≡ plain [] "eve")
    × (member "#c" "me" joined_anew ≡ plain [] "Me")
    -- a name list after a PART counts
    × (member "#c" "bob" (with_bob ++ ":bob!b@h PART #c" ∷ ":s 353 Me = #c :+bob @Me" ∷ [])
    ≡ plain (1 ∷ []) "bob")
    -- the last word of a name list on a person decides each rank
    × (member "#c" "bob" (joined ++ ":s 353 Me = #c :@bob +bob" ∷ ":bob!b@h JOIN #c" ∷ [])
    ≡ plain [] "bob")
    × (member "#c" "bob" (with_bob ++ ":s MODE #c +lo 5 bob" ∷ ":s MODE #c -l+v bob" ∷ [])
    ≡ plain (0 ∷ 1 ∷ []) "bob")
    × (member "{c" "me" other_spelling ≡ plain (0 ∷ 1 ∷ []) "Me")
    × (member "{c" "me" (other_spelling ++ ":Me!m@h JOIN {c" ∷ []) ≡ plain [] "Me")
unfolding reading
ranks_held = assumption

-- the name of the channel with this key, if we are on it
abbrev on : String → List String → Option Text
on key lines = name_on (read lines) (codes key)

-- own nick, ready, settings: a loss keeps them, a welcome begins anew, a late 005 says nothing
standings : (on "#c" (welcome ++ ":Me!m@h JOIN #C" ∷ ":bob!b@h JOIN #c" ∷ []) ≡ Some (codes "#C"))
    × (on "&c" (welcome ++ ":Me!m@h JOIN &c" ∷ []) ≡ None)
    × (on "#c" (joined ++ ":Me!m@h QUIT :bye" ∷ []) ≡ None)
    × (on "#c" (joined ++ ":s KICK #c me :out" ∷ []) ≡ None)
    × (name_on (readings_of (Lost ∷ heard joined)) (codes "#c") ≡ None)
    × (on "#c" (joined ++ ":t 001 You :hi" ∷ []) ≡ None)
    × (on "{c" (other_spelling ++ ":Me!m@h JOIN {c" ∷ []) ≡ Some (codes "[c"))
    × (standing (Lost ∷ heard joined) ≡ standing (heard joined))
    × (standing (heard (joined ++ ":t 001 You :hi" ∷ []))
    ≡ record { own = Some (codes "You"); ready = false; settings = [] })
    × (standing (heard (":s 001 @x :hi" ∷ ":s 376 Me :end" ∷ ":s 005 Me A=1 :are supported" ∷ []))
    ≡ record { own = None; ready = false; settings = [] })
    × ((standing (heard (joined ++ ":s 005 Me CASEMAPPING=ascii :are supported" ∷ []))).settings
    ≡ (standing (heard joined)).settings)
    -- a JOIN without a source fixes the settings
    × (standing (heard (":s 001 Me :hi" ∷ "JOIN" ∷ ":s 005 Me A=1 :are supported" ∷ []))
    ≡ record { own = Some (codes "Me"); ready = true; settings = [] })
    × ((standing (heard (with_bob ++ ":Me!m@h NICK Moi" ∷ []))).own ≡ Some (codes "Moi"))
unfolding reading
standings = assumption

-- the settings of these letters
abbrev modes : String → List String → List (Option (Option Text))
modes letters lines = map (mode_of (read lines) (codes "#c")) (codes letters)

abbrev topic : List String → Option Text
topic lines = topic_of (read lines) (codes "#c")

-- an account over two channels and a PART of one
abbrev two_channels : List String
two_channels = joined ++ ":Me!m@h JOIN #d" ∷ ":bob!b@h JOIN #c bobacc :Bob" ∷ ":bob!b@h JOIN #d"
    ∷ ":bob!b@h PART #c" ∷ []

what_is_known : (topic (joined ++ ":s 332 Me #c :Hello all" ∷ ":s TOPIC #c" ∷ [])
    ≡ Some (codes "Hello all"))
    × (topic (joined ++ ":s 332 Me #c :Hello all" ∷ ":s 331 Me #c :No topic is set" ∷ []) ≡ None)
    × (topic (joined ++ ":s TOPIC #c :Hello" ∷ ":s TOPIC #c :" ∷ []) ≡ None)
    -- 324 lists what is on, and all else is off; a change without the parameter that it needs says
    -- nothing
    × (modes "klnt" (joined ++ ":s MODE #c +ntl 5" ∷ ":s 324 Me #c +kl key 9" ∷ ":s MODE #c -k"
    ∷ []) ≡ Some (Some (codes "key")) ∷ Some (Some (codes "9")) ∷ None ∷ None ∷ [])
    -- a key is unset with a parameter; `a b` is no word
    × (modes "kb" (joined ++ ":s 324 Me #c +k key" ∷ ":s MODE #c -k x" ∷ ":s MODE #c +k :a b"
    ∷ ":s MODE #c +b bob" ∷ []) ≡ None ∷ None ∷ [])
    × (modes "n" (joined ++ ":s MODE #c +n" ∷ ":Me!m@h JOIN #c" ∷ []) ≡ None ∷ [])
    -- a limit takes its parameter when it is set, and none when it is unset
    × (modes "l" (with_bob ++ ":s MODE #c +lo 5 bob" ∷ ":s MODE #c -l+v bob" ∷ []) ≡ None ∷ [])
    × (member "#d" "bob" two_channels
    ≡ Some ([], Some (codes "bob"), Some (codes "bobacc"), None))
    × (members ("bob" ∷ "me" ∷ []) two_channels ≡ "me" ∷ [])
    -- known under a new nick; `*` is no account
    × (member "#c" "rob" (joined ++ ":bob!b@h JOIN #c bobacc :Bob" ∷ ":bob!b@h NICK Rob"
    ∷ ":rob!b@h ACCOUNT *" ∷ ":rob!b@h AWAY :lunch" ∷ [])
    ≡ Some ([], Some (codes "Rob"), None, Some (codes "lunch")))
    -- an account is forgotten when the last channel is left
    × (member "#c" "bob" (joined ++ ":bob!b@h JOIN #c bobacc :Bob" ∷ ":bob!b@h PART #c"
    ∷ ":bob!b@h JOIN #c" ∷ []) ≡ plain [] "bob")
    -- what is said about somebody out of sight is not known later
    × (member "#c" "bob" (joined ++ ":bob!b@h ACCOUNT bobacc" ∷ ":bob!b@h JOIN #x bobacc :Bob"
    ∷ ":bob!b@h JOIN #c" ∷ []) ≡ plain [] "bob")
    -- a spelling is that of the last JOIN, name list or NICK
    × (member "#c" "bob" (joined ++ ":bob!b@h JOIN #c" ∷ ":s 353 Me = #c :@BOB" ∷ [])
    ≡ plain (0 ∷ []) "BOB")
    -- an AWAY without a text ends it; ACCOUNT without a word says nothing
    × (member "#c" "bob" (joined ++ ":bob!b@h JOIN #c bobacc :Bob" ∷ ":bob!b@h AWAY :lunch"
    ∷ ":bob!b@h away" ∷ ":bob!b@h ACCOUNT :a b" ∷ [])
    ≡ Some ([], Some (codes "bob"), Some (codes "bobacc"), None))
unfolding reading
what_is_known = assumption

-- whether multi-prefix, extended-join, account-notify and away-notify are held
abbrev caps : Bool → Bool → Bool → Bool → HeldCaps
caps ranks join note away =
    record { multi_prefix = ranks; extended_join = join; account_notify = note; away_notify = away }

-- which ranks a client with these capabilities is shown that came before the last k lines, if
-- the lines come after a name list that gives bob two ranks
abbrev seen_by : HeldCaps → ℕ → String → List String → List ℕ
seen_by held k key lines =
    let rs : List Reading = read (joined ++ ":s 353 Me = #c :Me @+bob" ∷ lines) in
    thinned_ranks held (was_shown rs k (codes "#c") (codes key))
    (ranks_that (rank_decided rs (codes "#c") (codes key)))

-- by none of them
abbrev seen : ℕ → String → List String → List ℕ
seen = seen_by (caps false false false false)

abbrev account : HeldCaps → Option Text
account held = (kept_person held (record {
  spelled = Some (codes "bob");
  account = Some (codes "bobacc");
  away = Some (codes "lunch");
})).account

-- at the boundary the highest is shown, with multi-prefix all are
what_is_seen : (seen 0 "bob" [] ≡ 0 ∷ [])
    × (seen_by all_caps 0 "bob" [] ≡ 0 ∷ 1 ∷ [])
    -- the voice was not shown, and is not when the higher rank is taken
    × (seen 1 "bob" (":s MODE #c -o bob" ∷ []) ≡ [])
    -- who comes after that is shown it
    × (seen 0 "bob" (":s MODE #c -o bob" ∷ []) ≡ 1 ∷ [])
    -- a name list shows it, and so does the MODE that gives it, also under a new nick
    × (seen 2 "bob" (":s MODE #c -o bob" ∷ ":s 353 Me = #c :Me +bob" ∷ []) ≡ 1 ∷ [])
    × (seen 2 "rob" (":s MODE #c -v+v bob bob" ∷ ":bob!b@h NICK rob" ∷ []) ≡ 0 ∷ 1 ∷ [])
    -- a name list and a MODE of another channel show nothing of this one
    × (seen 4 "bob" (":Me!m@h JOIN #d" ∷ ":s 353 Me = #d :Me +bob" ∷ ":s MODE #d +v bob"
    ∷ ":s MODE #c -o bob" ∷ []) ≡ [])
    -- what was shown goes along with a NICK, and a list after it shows the new name
    × (seen 2 "rob" (":bob!b@h NICK rob" ∷ ":s MODE #c -o rob" ∷ []) ≡ [])
    × (seen 3 "rob" (":bob!b@h NICK rob" ∷ ":s MODE #c -o rob" ∷ ":s 353 Me = #c :Me +rob" ∷ [])
    ≡ 1 ∷ [])
    -- who goes and comes again holds what is given since
    × (seen 3 "bob" (":bob!b@h PART #c" ∷ ":bob!b@h JOIN #c" ∷ ":s MODE #c +v bob" ∷ []) ≡ 1 ∷ [])
    × (seen 3 "bob" (":bob!b@h PART #c" ∷ ":bob!b@h JOIN #c" ∷ ":s 353 Me = #c :Me @+bob" ∷ [])
    ≡ 0 ∷ [])
    -- one of the capabilities that report accounts keeps none
    × (account (caps true true false true) ≡ None)
    × (account (caps true false true true) ≡ None)
    × (account (caps false true true false) ≡ Some (codes "bobacc"))
unfolding reading
what_is_seen = assumption
