-- Views after lines that change several channels.
use Rattle.std.specs.Prelude.{Bool, if◌then◌else◌}
use Rattle.std.specs.FinMap as fin
use Rattle.std.proofs.Common.{Option, Some, None}
use Rattle.irc_support.specs.Text.{Text}
use Rattle.net_view.specs.Changes.{
  told_person,
  fresh_channel,
  without_member,
  renamed_channel,
  renamed_in,
  spelled_as,
}
use Rattle.net_view.specs.Step.{is_seen}
use Rattle.net_view.specs.View.{View}
use Rattle.network_tables.specs.Shown.{shown}

-- somebody quit
abbrev pub quitted_view : View → Text → View
quitted_view v n = record v {
  channels = shown (without_member n) v.channels;
  people = fin.remove
      v.people n;
}

-- we left a channel: who shares none of the others is forgotten
abbrev pub left_view : View → Text → View
left_view v c = record v {
  channels = fin.remove v.channels c;
  people = fin.retain_keys v.people (is_seen (fin.remove v.channels c));
}

-- we joined a channel
abbrev pub entered_view : View → Text → Text → Text → Text → Option (Option Text) → View
entered_view v c name n nick account =
    let cs = fin.insert v.channels c (fresh_channel name n) in
    let joiner = told_person (Some (Some nick)) account None (fin.get v.people n) in
    record v { channels = cs; people = fin.retain_keys (fin.insert v.people n joiner) (is_seen cs) }

-- a NICK that counts; ours, or another's
abbrev pub renamed_view : View → Bool → Text → Text → Text → View
renamed_view v ours old new nick = record {
  own = if ours then Some nick else v.own;
  ready = v.ready;
  settings = v.settings;
  channels = shown (renamed_channel old new) v.channels;
  people = renamed_in (spelled_as nick) old new v.people;
}
