-- The client that the words of a line name.
use Rattle.std.proofs.Common.{Bool, IfNone, IfSome, List, None, Option, Some, [], ap, arith, codes, drop}
use Rattle.std.proofs.Common.{false, length, refl, subst, sym, true, ℕ, ◌-◌, ◌==◌, ◌∙◌, ◌∷◌, ◌≡◌, ◌≤◌}
use Rattle.std.specs.{List.list_any, Net.Addr.is_ipv4}
use Rattle.std.specs.declared.net.ip_addr.IpAddr.{IpAddr}
use Rattle.proxy_line.specs.ProxyLine.{AreEnds, IsProxyLine, NamesClient, behind, family_name}
use Rattle.proxy_line.specs.ProxyLine.{text_of, word_of}
use Rattle.proxy_line.specs.declared.line.Origin.{Origin}
use Rattle.proxy_line.specs.declared.line.Origin.TheVariants.{Address, Unknown}

-- the first two words of a text, and what comes after them
pub record IsCut (text proxy rest family ends : List ℕ) : Type 0 where
  pub proxy_is : proxy ≡ word_of text
  pub rest_is : rest ≡ behind text
  pub family_is : family ≡ word_of rest
  pub ends_is : ends ≡ behind rest

family_word : (text proxy rest family ends : List ℕ) → IsCut text proxy rest family ends
    → family ≡ word_of (behind text)
family_word text proxy rest family ends cut = cut.family_is ∙ ap word_of cut.rest_is

ends_text : (text proxy rest family ends : List ℕ) → IsCut text proxy rest family ends
    → ends ≡ behind (behind text)
ends_text text proxy rest family ends cut = cut.ends_is ∙ ap behind cut.rest_is

-- one name is that of one family
same_family : (a b : Bool) → family_name a ≡ family_name b → a ≡ b
same_family true true e = refl
same_family false false e = refl
same_family true false e = grind arith
same_family false true e = grind arith

pub names_address : (text proxy rest family ends : List ℕ) (is_v4 : Bool) (a : IpAddr)
    → IsCut text proxy rest family ends → proxy ≡ codes "PROXY" → family ≡ family_name is_v4
    → AreEnds is_v4 ends a → NamesClient text (Address a)
names_address text proxy rest family ends is_v4 a cut p f e = (
  sym cut.proxy_is ∙ p,
  sym (family_word text proxy rest family ends cut) ∙ f ∙ ap family_name (sym e.family),
  subst (λ v. AreEnds v (behind (behind text)) a) (sym e.family)
      (subst (λ l. AreEnds is_v4 l a) (ends_text text proxy rest family ends cut) e),
)

pub names_unknown : (text proxy rest family ends : List ℕ) → IsCut text proxy rest family ends
    → proxy ≡ codes "PROXY" → family ≡ codes "UNKNOWN" → NamesClient text Unknown
names_unknown text proxy rest family ends cut p f =
    (sym cut.proxy_is ∙ p, sym (family_word text proxy rest family ends cut) ∙ f)

pub no_proxy : (text proxy rest family ends : List ℕ) → IsCut text proxy rest family ends
    → (proxy ≡ codes "PROXY" → ⊥) → (client : Origin) → NamesClient text client → ⊥
no_proxy text proxy rest family ends cut none (Address a) h = none (cut.proxy_is ∙ h.0)
no_proxy text proxy rest family ends cut none Unknown h = none (cut.proxy_is ∙ h.0)

pub no_family : (text proxy rest family ends : List ℕ) → IsCut text proxy rest family ends
    → (family ≡ codes "UNKNOWN" → ⊥) → ((v : Bool) → family ≡ family_name v → ⊥)
    → (client : Origin) → NamesClient text client → ⊥
no_family text proxy rest family ends cut other none (Address a) h =
    none (is_ipv4 a) (family_word text proxy rest family ends cut ∙ h.1)
no_family text proxy rest family ends cut other none Unknown h =
    other (family_word text proxy rest family ends cut ∙ h.1)

pub no_ends : (text proxy rest family ends : List ℕ) (is_v4 : Bool)
    → IsCut text proxy rest family ends
    → (family ≡ codes "UNKNOWN" → ⊥) → family ≡ family_name is_v4
    → ((a : IpAddr) → AreEnds is_v4 ends a → ⊥) → (client : Origin) → NamesClient text client → ⊥
no_ends text proxy rest family ends is_v4 cut other f none (Address a) h =
    let same : is_ipv4 a ≡ is_v4 =
    same_family (is_ipv4 a) is_v4 (sym h.1 ∙ sym (family_word text proxy rest family ends cut) ∙ f) in
    none a
    (subst (λ l. AreEnds is_v4 l a) (sym (ends_text text proxy rest family ends cut))
    (subst (λ v. AreEnds v (behind (behind text)) a) same h.2))
no_ends text proxy rest family ends is_v4 cut other f none Unknown h =
    other (family_word text proxy rest family ends cut ∙ h.1)

-- a line of at most 107 bytes, cut before its CR LF
pub record IsText (line text : List ℕ) : Type 0 where
  pub short : length line ≤ 107
  pub is : text ≡ text_of line
  pub ended : drop (length line - 2) line ≡ 13 ∷ 10 ∷ []
  pub one_line : list_any (λ b. b == 10) text ≡ false

pub line_names : (line text : List ℕ) (r : Option Origin) → IsText line text
    → IfSome r (NamesClient text) → IfSome r (IsProxyLine line)
line_names line text None h names = tt
line_names line text (Some client) h names = record {
  short = h.short;
  ended = h.ended;
  one_line = subst (λ t. list_any (λ b. b == 10) t ≡ false) h.is h.one_line;
  names = subst (λ t. NamesClient t client) h.is names;
}

pub line_names_none : (line text : List ℕ) (r : Option Origin) → IsText line text
    → IfNone r ((client : Origin) → NamesClient text client → ⊥)
    → IfNone r ((client : Origin) → IsProxyLine line client → ⊥)
line_names_none line text (Some client) h none = tt
line_names_none line text None h none =
    λ client l. none client (subst (λ t. NamesClient t client) (sym h.is) l.names)
