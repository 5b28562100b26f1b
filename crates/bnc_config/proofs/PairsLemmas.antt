-- The pairs of a table in a tree.
use Rattle.bnc_config.specs.Allowed.{all_members, is_text_where, member_count}
use Rattle.bnc_config.specs.Document.{pairs_of}
use Rattle.bnc_config.specs.Settings.{are_channel_keys}
use Rattle.bnc_config.specs.Text.{is_channel_key}
use Rattle.std.proofs.Common.{List, arith, length, refl, true, ◌∷◌, ◌≡◌, ◌≤◌, []}
use Rattle.toml.proofs.Views.{Entry}
use Rattle.toml.specs.Data.{Members, member, no_members}
use Rattle.toml.specs.View.{members_view}

-- one member for each entry
pub member_count_view : (es : List Entry) → member_count (members_view es) ≡ length es
member_count_view [] = refl
member_count_view (e ∷ es) = rw (member_count_view es)

-- the texts of members that all are channels' keys
pub pairs_of_allowed : (members : Members)
    → all_members (is_text_where is_channel_key) members ≡ true
    → are_channel_keys (pairs_of members) ≡ true
pairs_of_allowed no_members h = refl
pairs_of_allowed (member name d members) h = grind (arith, pairs_of_allowed members)

-- no more texts than members
pub few_pairs_of : (members : Members) → length (pairs_of members) ≤ member_count members
few_pairs_of no_members = omega arith
few_pairs_of (member name d members) = grind (arith, few_pairs_of members)
