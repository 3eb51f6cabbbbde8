-- What the words of `mint` ask for, and which of them is the first that is wrong.
use Rattle.std.proofs.Common.{◌≡◌, ◌⊎◌, codes, ℕ, ◌<◌, ◌≤◌, List, Option, Some, None, Result, Ok, Err, arith, subst, inl, inr, sym, ◌∙◌}
use Rattle.keyed_seal.specs.Keys.{Entries, key_of}
use Rattle.prin_term.specs.Principal.{Principal}
use Rattle.prin_text.specs.Labels.{Labels, Rows}
use Rattle.prin_text.specs.Meaning.{Written, Atom, Group, Pair, RoleOf, IsAtom, IsNamed, IsProper, IsTextWithin}
use Rattle.prin_text.specs.Reading.{principal_in}
use Rattle.prin_text.specs.declared.fault.TextCause.{TextCause}
use Rattle.prin_text.specs.declared.fault.TextFault.{TextFault}
use Rattle.prin_text.specs.declared.fault.TextFault.TheVariants as texts
use Rattle.prin_text.specs.declared.fault.TextFault.TheVariants.{Bad}
use Rattle.prin_text.proofs.Whole.{meant_is_read}
use Rattle.prin_term.specs.Principal.{Key, Name, And, Quoting, InRole, For}
use Rattle.std.specs.Prelude.{IfErr}
use Rattle.stmt_codec.specs.Certificates.{Certificate, IsWithinLimits}
use Rattle.prin_text.specs.Held.{HoldsRows}
use Rattle.node_commands.specs.Words.{MintWords}
use Rattle.node_commands.specs.Minting.{Begins, AsksFor, IsBadQuote, IsFirstWrong, IsMinted, IsMoment, IsNobody, IsQuoted, IsStopped, IsWrong, Mints, rank}
use Rattle.node_commands.specs.declared.minting.MintWord.{MintWord}
use Rattle.node_commands.specs.declared.minting.MintWord.TheVariants as word
use Rattle.node_commands.specs.declared.minting.MintStop.{MintStop}
use Rattle.node_commands.specs.declared.minting.MintStop.TheVariants as stops
use Rattle.node_commands.specs.declared.minting.MintEnd.{MintEnd}
use Rattle.node_commands.specs.declared.minting.MintEnd.TheVariants as ends

-- ---- texts

-- a text that is refused is no principal
pub nobody : (labels : Labels) (text : List ℕ) (f : TextFault) → principal_in labels text ≡ Err f → IsNobody labels text
nobody labels text f refused = λ p is. absurd (cc (refused, meant_is_read labels text p is))

-- one that is bad is none
pub bad_text : (labels : Labels) (text : List ℕ) (f : TextFault) (at : ℕ) (cause : TextCause) → f ≡ Bad at cause → (f ≡ texts.NoMemory) ⊎ (principal_in labels text ≡ Err f) → IsNobody labels text
bad_text labels text f at cause bad (inl e) = absurd (cc (bad, e))
bad_text labels text f at cause bad (inr e) = nobody labels text f e

-- who is quoted is not badly quoted
pub well_quoted : (labels : Labels) (text : Option (List ℕ)) (p : Option Principal) → IsQuoted labels text p → IsBadQuote labels text → ⊥
well_quoted labels None p is bad = bad
well_quoted labels (Some text) None is bad = is
well_quoted labels (Some text) (Some p) is bad = bad p is

-- ---- the first that is wrong

module _ (issuers : Entries) (labels : Labels) (m : MintWords) where
  -- none of the words is wrong that are looked at before the place
  rights : (n : ℕ) → (0 < n → IsWrong issuers labels m word.Issuer → ⊥) → (1 < n → IsWrong issuers labels m word.Time → ⊥) → (2 < n → IsWrong issuers labels m word.Quoted → ⊥) → (3 < n → IsWrong issuers labels m word.Left → ⊥) →
      (4 < n → IsWrong issuers labels m word.Right → ⊥) → n ≤ 5 → (v : MintWord) → rank v < n → IsWrong issuers labels m v → ⊥
  rights n issuer time quoted left right few word.Issuer lt = issuer lt
  rights n issuer time quoted left right few word.Time lt = time lt
  rights n issuer time quoted left right few word.Quoted lt = quoted lt
  rights n issuer time quoted left right few word.Left lt = left lt
  rights n issuer time quoted left right few word.Right lt = right lt
  rights n issuer time quoted left right few word.Large lt = λ wrong. omega (arith, lt, few)

  module _ (key : List ℕ) (known : key_of issuers m.issuer ≡ Some key) where
    not_unknown : key_of issuers m.issuer ≡ None → ⊥
    not_unknown none = absurd (cc (known, none))

    module _ (from until : ℕ) (begins : Begins m.from from) (moment : IsMoment m.until until) where
      not_none : ((f u : ℕ) → Begins m.from f → IsMoment m.until u → ⊥) → ⊥
      not_none none = none from until begins moment

      pub quoted_wrong : IsBadQuote labels m.quoted → IsFirstWrong issuers labels m word.Quoted
      quoted_wrong bad = record {
        wrong = bad;
        right_before = rights 2 (λ lt. not_unknown) (λ lt. not_none) (λ lt. omega (arith, lt)) (λ lt. omega (arith, lt)) (λ lt. omega (arith, lt)) (omega arith);
      }

      module _ (quoted : Option Principal) (is_quoted : IsQuoted labels m.quoted quoted) where
        pub left_wrong : IsNobody labels m.left → IsFirstWrong issuers labels m word.Left
        left_wrong bad = record {
          wrong = bad;
          right_before = rights 3 (λ lt. not_unknown) (λ lt. not_none) (λ lt. well_quoted labels m.quoted quoted is_quoted) (λ lt. omega (arith, lt)) (λ lt. omega (arith, lt)) (omega arith);
        }

        pub right_wrong : (left : Principal) → IsTextWithin labels left m.left → IsNobody labels m.right → IsFirstWrong issuers labels m word.Right
        right_wrong left is_left bad = record {
          wrong = bad;
          right_before = rights 4 (λ lt. not_unknown) (λ lt. not_none) (λ lt. well_quoted labels m.quoted quoted is_quoted) (λ lt none. none left is_left) (λ lt. omega (arith, lt)) (omega arith);
        }

    pub large_wrong : (c : Certificate) → AsksFor labels m c → IsWrong issuers labels m word.Large → IsFirstWrong issuers labels m word.Large
    large_wrong c asks large = record {
      wrong = large;
      right_before = rights 5 (λ lt. not_unknown) (λ lt none. none c.from c.until asks.begins asks.moment) (λ lt. well_quoted labels m.quoted c.quoted asks.quoted) (λ lt none. none c.left asks.left) (λ lt none. none c.right asks.right) (omega arith);
    }

-- ---- why there is no certificate

module _ (issuers : Entries) (labels : Labels) (m : MintWords) where
  -- memory was refused, or a word that is then the first that is wrong
  stops_by : (w : MintWord) (stop : MintStop) {Why : Type 0} → (Why → IsFirstWrong issuers labels m w) → (stop ≡ stops.NoMemory) ⊎ ((stop ≡ stops.Wrong w) × Why) → IsStopped issuers labels m stop
  stops_by w stop first (inl e) = subst (IsStopped issuers labels m) (sym e) tt
  stops_by w stop first (inr is) = subst (IsStopped issuers labels m) (sym is.0) (first is.1)

  module _ (key : List ℕ) (known : key_of issuers m.issuer ≡ Some key) where
    pub quoted_stops : (from until : ℕ) → Begins m.from from → IsMoment m.until until → (stop : MintStop) → (stop ≡ stops.NoMemory) ⊎ ((stop ≡ stops.Wrong word.Quoted) × IsBadQuote labels m.quoted) → IsStopped issuers labels m stop
    quoted_stops from until begins moment stop = stops_by word.Quoted stop (quoted_wrong issuers labels m key known from until begins moment)

    pub left_stops : (from until : ℕ) → Begins m.from from → IsMoment m.until until → (quoted : Option Principal) → IsQuoted labels m.quoted quoted → (stop : MintStop) → (stop ≡ stops.NoMemory) ⊎ ((stop ≡ stops.Wrong word.Left) × IsNobody labels m.left) → IsStopped issuers labels m stop
    left_stops from until begins moment quoted is_quoted stop = stops_by word.Left stop (left_wrong issuers labels m key known from until begins moment quoted is_quoted)

    pub right_stops : (from until : ℕ) → Begins m.from from → IsMoment m.until until → (quoted : Option Principal) → IsQuoted labels m.quoted quoted → (left : Principal) → IsTextWithin labels left m.left → (stop : MintStop) →
        (stop ≡ stops.NoMemory) ⊎ ((stop ≡ stops.Wrong word.Right) × IsNobody labels m.right) → IsStopped issuers labels m stop
    right_stops from until begins moment quoted is_quoted left is_left stop = stops_by word.Right stop (right_wrong issuers labels m key known from until begins moment quoted is_quoted left is_left)

    pub sealed_stops : {T : Type 0} (c : Certificate) → AsksFor labels m c → (r : Result T MintStop) → IfErr r (λ stop. (stop ≡ stops.NoMemory) ⊎ ((stop ≡ stops.Wrong word.Large) × ¬ IsWithinLimits c)) → IfErr r (IsStopped issuers labels m)
    sealed_stops c asks (Ok x) h = h
    sealed_stops c asks (Err stop) h = stops_by word.Large stop (λ large. large_wrong issuers labels m key known c asks (c, asks, large)) h

-- ---- any tables in which look-ups find the same

module _ (a b : Labels) (names : HoldsRows a.names b.names) (roles : HoldsRows a.roles b.roles) where
  same_named : (rows more : Rows) → HoldsRows rows more → (sort : List ℕ) (n : ℕ) (word : List ℕ) → IsNamed rows sort n word → IsNamed more sort n word
  same_named rows more held sort n word (inl is) = inl is
  same_named rows more held sort n word (inr is) = inr (is.0, sym (held.numbers word) ∙ is.1)

  same_atom : (p : Principal) (word : List ℕ) → IsAtom a p word → IsAtom b p word
  same_atom (Key k) word is = is
  same_atom (Name n) word is = same_named a.names b.names names (codes "name:") n word is
  same_atom (And p q) word is = is
  same_atom (Quoting p q) word is = is
  same_atom (InRole p r) word is = is
  same_atom (For p q) word is = is

  same_proper : (w : Written) → IsProper a w → IsProper b w
  same_proper (Atom p word) is = same_atom p word is
  same_proper (Group w) is = same_proper w is
  same_proper (Pair kind x y) is = (is.0, (same_proper x is.1.0, same_proper y is.1.1))
  same_proper (RoleOf x r word) is = (is.0, same_proper x is.1, same_named a.roles b.roles roles (codes "role:") r word is.2)

  pub same_text : (p : Principal) (text : List ℕ) → IsTextWithin a p text → IsTextWithin b p text
  same_text p text is = record {
    text = record { written = is.text.written; proper = same_proper is.text.written is.text.proper; means = is.text.means; spaced = is.text.spaced };
    nodes_fit = is.nodes_fit;
    depth_fits = is.depth_fits;
  }

-- the texts that these tables have mean the same
record AreAlike (a b : Labels) : Type 0 where
  there : (p : Principal) (text : List ℕ) → IsTextWithin a p text → IsTextWithin b p text
  back : (p : Principal) (text : List ℕ) → IsTextWithin b p text → IsTextWithin a p text

turned : (rows more : Rows) → HoldsRows rows more → HoldsRows more rows
turned rows more held = record { texts = λ n. sym (held.texts n); numbers = λ t. sym (held.numbers t); count = sym held.count }

alike : (a b : Labels) → HoldsRows a.names b.names → HoldsRows a.roles b.roles → AreAlike a b
alike a b names roles = record { there = same_text a b names roles; back = same_text b a (turned a.names b.names names) (turned a.roles b.roles roles) }

turned_alike : (a b : Labels) → AreAlike a b → AreAlike b a
turned_alike a b same = record { there = same.back; back = same.there }

same_quoted : (a b : Labels) → AreAlike a b → (text : Option (List ℕ)) (p : Option Principal) → IsQuoted a text p → IsQuoted b text p
same_quoted a b same None None is = is
same_quoted a b same None (Some p) is = is
same_quoted a b same (Some text) None is = is
same_quoted a b same (Some text) (Some p) is = same.there p text is

same_bad : (a b : Labels) → AreAlike a b → (text : Option (List ℕ)) → IsBadQuote a text → IsBadQuote b text
same_bad a b same None is = is
same_bad a b same (Some text) is = λ p there. is p (same.back p text there)

same_asked : (a b : Labels) → AreAlike a b → (m : MintWords) (c : Certificate) → AsksFor a m c → AsksFor b m c
same_asked a b same m c is = record {
  issuer = is.issuer;
  serial = is.serial;
  begins = is.begins;
  moment = is.moment;
  quoted = same_quoted a b same m.quoted c.quoted is.quoted;
  left = same.there c.left m.left is.left;
  right = same.there c.right m.right is.right;
}

-- the same keys
abbrev SameKeys : Entries → Entries → Type 0
SameKeys ks ls = (number : ℕ) → key_of ks number ≡ key_of ls number

same_wrong : (ks ls : Entries) (a b : Labels) → SameKeys ks ls → AreAlike a b → (m : MintWords) (w : MintWord) → IsWrong ks a m w → IsWrong ls b m w
same_wrong ks ls a b keys same m word.Issuer is = sym (keys m.issuer) ∙ is
same_wrong ks ls a b keys same m word.Time is = is
same_wrong ks ls a b keys same m word.Quoted is = same_bad a b same m.quoted is
same_wrong ks ls a b keys same m word.Left is = λ p there. is p (same.back p m.left there)
same_wrong ks ls a b keys same m word.Right is = λ p there. is p (same.back p m.right there)
same_wrong ks ls a b keys same m word.Large is = (is.0, same_asked a b same m is.0 is.1, is.2)

same_first : (ks ls : Entries) (a b : Labels) → SameKeys ks ls → AreAlike a b → (m : MintWords) (w : MintWord) → IsFirstWrong ks a m w → IsFirstWrong ls b m w
same_first ks ls a b keys same m w is = record {
  wrong = same_wrong ks ls a b keys same m w is.wrong;
  right_before = λ v lt wrong. is.right_before v lt (same_wrong ls ks b a (λ n. sym (keys n)) (turned_alike a b same) m v wrong);
}

same_minted : (ks ls : Entries) (a b : Labels) → SameKeys ks ls → AreAlike a b → (m : MintWords) (bytes : List ℕ) → IsMinted ks a m bytes → IsMinted ls b m bytes
same_minted ks ls a b keys same m bytes is = record {
  certificate = is.certificate;
  asked = same_asked a b same m is.certificate is.asked;
  opens = record { key = is.opens.key; known = sym (keys is.certificate.issuer) ∙ is.opens.known; seal = is.opens.seal };
}

-- what is printed by one table is what is printed by the other
pub same_mints : (ks ls : Entries) (a b : Labels) → SameKeys ks ls → HoldsRows a.names b.names → HoldsRows a.roles b.roles → (m : MintWords) (out0 out1 : Option (List ℕ)) (end : MintEnd) → Mints ks a m out0 out1 end → Mints ls b m out0 out1 end
same_mints ks ls a b keys names roles m out0 out1 ends.Done is = (is.0, same_minted ks ls a b keys (alike a b names roles) m is.0 is.1, is.2)
same_mints ks ls a b keys names roles m out0 out1 (ends.Refused w) is = (same_first ks ls a b keys (alike a b names roles) m w is.0, is.1)
same_mints ks ls a b keys names roles m out0 out1 ends.WriteFault is = (is.0, same_minted ks ls a b keys (alike a b names roles) m is.0 is.1, is.2)
same_mints ks ls a b keys names roles m out0 out1 ends.NoMemory is = is
