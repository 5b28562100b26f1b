-- What is got under each key, line by line, and what the lines of the greeting say to a view.
pub mod WordsRead
unfoldable pub use WordsRead.*
use Rattle.net_view.proofs.Commands

-- an account that is written is read back, and that there is none too
pub account_written : (known : Option Text) → IfSome known IsAccount
    → account_said (unwrap_or known (codes "*")) ≡ Some known
unfolding is_word
account_written known h = grind (arith, h, λ (name : Text). is_same name (codes "*"))

pub filled_said : (text : Text) → IsFilled text → unless_empty text ≡ Some text
filled_said text f = grind (arith, f)

-- all words of some rows
abbrev pub all_of : List (List Text) → List Text
all_of rows = flat_map (λ row. row) rows

rows_whole : (fit : List Text → Bool) (words row : List Text)
    → all_of (rows_from fit row words) ≡ row ++ words
rows_whole fit [] row = refl
rows_whole fit (w ∷ words) row =
    grind (arith, rows_whole fit words, append_assoc row (w ∷ []) words)

-- nothing is lost or changed by the rows
pub rows_all : (fit : List Text → Bool) (words : List Text) → all_of (rows_of fit words) ≡ words
rows_all fit words = grind (arith, rows_whole)

-- ---- the lines of what is got under each key

-- entries of this map
abbrev pub AreIn : {X : Type 0} → fin.FinMap bytes_cmp X → List (Text × X) → Type 0
AreIn m es = Each (λ e. fin.get m e.0 ≡ Some e.1) es

pub all_in : {X : Type 0} (m : fin.FinMap bytes_cmp X) → AreIn m (fin.entries m)
all_in m = entries_got (λ e. fin.get m e.0 ≡ Some e.1) m (λ e is. is)

-- of what is got under a key each gives only what has a property
pub each_entry : {X Y : Type 0} (P : Y → Type 0) (m : fin.FinMap bytes_cmp X) (gives : X → List Y)
    → ((k : Text) (x : X) → fin.get m k ≡ Some x → Each P (gives x))
    → Each P (flat_map (λ (e : Text × X). gives e.1) (fin.entries m))
each_entry P m gives h = flat P _ (λ e. gives e.1) (λ e at. h e.0 e.1 at) (fin.entries m) (all_in m)

-- the lines of what is got under each key, of which each leads a step on
module _ {X S : Type 0} (m : fin.FinMap bytes_cmp X) (state : S → View) (lines : X → List Parts)
    (step : S → Text × X → S) (Is : S → Type 0) (one : (k : Text) (x : X) → fin.get m k ≡ Some x
    → (s : S) → Is s → Leads (state s) (lines x) (state (step s (k, x))) × Is (step s (k, x))) where
  some_lead : (es : List (Text × X)) → AreIn m es → (s : S) → Is s
      → Leads (state s) (flat_map (λ (e : Text × X). lines e.1) es) (state (fold step s es))
  some_lead [] each s is = no_lines _
  some_lead (e ∷ es) each s is =
      let next = one e.0 e.1 each.0 s is in
      and_then (lines e.1) _ next.0 (some_lead es each.1 (step s e) next.1)

  pub all_lead : (s : S) → Is s → Leads (state s)
      (flat_map (λ (e : Text × X). lines e.1) (fin.entries m)) (state (fold step s (fin.entries m)))
  all_lead = some_lead (fin.entries m) (all_in m)

-- ---- the greeting brings a client to where the view is, on no channel

-- welcomed under this nick, with these settings
abbrev settling : Text → List Token → View
settling nick settings = alone (record { own = Some nick; ready = false; settings = settings })

module _ (v : View) (src : IsSource v) where
  abbrev nick : Text
  nick = src.nick

  abbrev tokens_line : List Text → Parts
  tokens_line row = reply v (codes "005") (row ++ codes "are supported by this server" ∷ [])

  rows_lead : (rows : List (List Text)) (settings : List Token) → Leads (settling nick settings)
      (map tokens_line rows) (settling nick (fold after_param settings (all_of rows)))
  unfolding set_tokens
  rows_lead [] settings = no_lines _
  rows_lead (row ∷ rows) settings =
      let line = tokens_line row in
      let w = settling nick settings in
      let end = codes "are supported by this server" ∷ [] in
      let read = take_at row end _ (omega (arith, length-append row end)) in leading_to
      (and_then (line ∷ []) (map tokens_line rows) (one_line w line (Supports line.params)
      (settling nick (fold after_param settings row)) (Commands.told_of_isupport settings line refl)
      (λ is. after_supports w is.sets is.sound.known line.params ∙ ap (λ ps. settling nick
      (fold after_param settings ps)) read)) (rows_lead rows (fold after_param settings row)))
      (λ _. ap (settling nick) (sym (fold-append after_param settings row (all_of rows))))

  welcome_leads : (w : View) (params : List Text)
      → Leads w (reply v (codes "001") params ∷ []) (settling nick [])
  welcome_leads w params =
      let line = reply v (codes "001") params in
      one_line w line (Welcomed nick) _ (Commands.told_of_welcome w.settings line refl
      ∙ simp (src.own, src.sound.own nick src.own)) (λ _. emptied w (Welcomed nick) (λ c. refl))

  pub four_lead : (w : View) → Leads w (greeting_of v) (settling nick [])
  unfolding state_lines
  four_lead w =
      let u = settling nick [] in
      let rest = and_then _ _
      (unread_line u _ refl) (and_then _ _ (unread_line u _ refl) (unread_line u _ refl)) in
      and_then _ _ (welcome_leads w (codes "Welcome to the bouncer" ∷ [])) rest

  pub settings_lead : Leads (settling nick []) (settings_lines v) (settling nick v.settings)
  settings_lead =
      let words = map token_text v.settings in leading_to (rows_lead (rows_of is_token_row words)
      []) (λ _. simp (rows_all is_token_row words, tokens_read v.settings src.formed.tokens))

  -- the end; nobody is seen yet, whatever would be known
  pub end_leads : (facts : Text → Person)
      → Leads (settling nick v.settings) (no_motd v ∷ []) (read_view v fin.empty facts)
  end_leads facts =
      let w = settling nick v.settings in
      let nobody : people_read fin.empty facts ≡ fin.empty = same_by_keys (λ n.
      grind (arith, fin.get-empty, get_read fin.empty facts n, no_keys)) in
      one_line w (no_motd v) Settles _ (Commands.told_of_no_motd v.settings (no_motd v) refl) (λ is.
      after_settled w is.sets is.sound.known ∙ simp (nobody, src.own, src.ready))
