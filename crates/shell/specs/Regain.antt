-- A nick that is asked for again. Times are milliseconds since any moment.
use Rattle.std.specs.Prelude.{◌≡◌, ◌+◌, ◌-◌, ◌^◌, ◌<◌, ◌≤◌, ◌&&◌, ℕ, Bool, true, false, not, List}
use Rattle.std.specs.Prelude.{codes, if◌then◌else◌, min, slice_get}
use Rattle.std.specs.Option.{option_map_or}
use Rattle.std.specs.Ordering.{eq_by_cmp, nat_cmp}
use Rattle.std.specs.Cmp.Lexicographic.{slice_cmp}
use Rattle.irc_line.specs.Line.{Parts, has_command, nick_of}
use Rattle.irc_names.specs.CaseMapping.{key_of}
use Rattle.irc_names.specs.declared.case_mapping.CaseMapping.{CaseMapping}
use Rattle.shell.specs.declared.regain.Holder.{Holder}
use Rattle.shell.specs.declared.regain.Holder.TheVariants as holder
use Rattle.shell.specs.declared.regain.NickNews.{NickNews}
use Rattle.shell.specs.declared.regain.NickNews.TheVariants as news
use Rattle.shell.specs.declared.regain.Regain.{Regain}
use Rattle.shell.specs.declared.regain.WhenAsked.{WhenAsked}
use Rattle.shell.specs.declared.regain.WhenAsked.TheVariants as asked

-- two names are one name under the mapping
abbrev pub is_name : CaseMapping → List ℕ → List ℕ → Bool
is_name mapping nick name = eq_by_cmp (slice_cmp nat_cmp) (key_of mapping name) (key_of mapping nick)

-- the line comes from who has this nick
abbrev pub is_from : CaseMapping → List ℕ → Parts → Bool
is_from mapping nick line =
    option_map_or (λ source. is_name mapping nick (nick_of source)) line.source false

-- the parameter at this place is the nick
abbrev pub names : CaseMapping → List ℕ → ℕ → Parts → Bool
names mapping nick place line =
    option_map_or (is_name mapping nick) (slice_get line.params place) false

-- Who has the nick leaves or takes another one (RFC 2812, sections 3.1.7 and 3.1.2), or the network
-- will never give it to us: 432 ERR_ERRONEUSNICKNAME, whose second parameter is the nick.
abbrev pub news_of : CaseMapping → List ℕ → Parts → NickNews
news_of mapping nick line =
    if has_command line (codes "QUIT")
    then (if is_from mapping nick line then news.Freed else news.Nothing) else
    if has_command line (codes "NICK")
    then (if is_from mapping nick line && not (names mapping nick 0 line)
    then news.Freed else news.Nothing) else
    if has_command line (codes "432") && names mapping nick 1 line then news.Never else news.Nothing

-- what is to be done about the nick at a time: nothing once that is over; it is asked for when its
-- time has come
abbrev pub IsAskedAt : Regain → ℕ → WhenAsked → Type 0
IsAskedAt r now asked.Never = r.is_over ≡ true
IsAskedAt r now (asked.After left) =
    (r.is_over ≡ false) × (now < r.at) × (left ≡ r.at - now)
IsAskedAt r now asked.Now = (r.is_over ≡ false) × (r.at ≤ now)

-- after a registration under another nick: it is asked for after a minute, and then after two
abbrev pub begun : ℕ → Regain
begun now = record {
  at = min (now + 60000) (2 ^ 64 - 1);
  rest = 120000;
  is_freed = false;
  is_over = false;
}

-- Whether a nick may be asked for when it is its turn, by who of ours has it and by whether the
-- network has shown that its holder left: never one that a connection of ours has which stays.
abbrev pub may_be_asked : Holder → Bool → Bool
may_be_asked holder.Nobody freed = true
may_be_asked holder.Stays freed = false
may_be_asked holder.Leaves freed = freed

-- the next look at who has it comes this much later, and the tries after it start again at a second
abbrev pub looking_again : ℕ → ℕ → Regain → Regain
looking_again wait now r = record r {
  at = min (now + wait) (2 ^ 64 - 1);
  rest = 1000;
  is_freed = false;
}

-- after a look at who of ours has it
abbrev pub with_holder : Holder → ℕ → Regain → Regain
with_holder holder.Nobody now r = r
with_holder holder.Stays now r = looking_again 5000 now r
with_holder holder.Leaves now r = if r.is_freed then r else looking_again 1000 now r

-- after news: a nick that is free is asked for at once; one that we have, that a client decided about,
-- or that the network never gives, is no longer asked for
abbrev pub with_news : NickNews → ℕ → Regain → Regain
with_news news.Nothing now r = r
with_news news.Freed now r = record r { at = now; is_freed = true }
with_news _ now r = record r { is_over = true }
