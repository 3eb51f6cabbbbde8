-- What the lines about keys add, in what the program holds and in what it stands for.
use Rattle.std.proofs.Common.{◌≡◌, ℕ, Bool, true, false, cond, eqb, List, [], ◌∷◌, ◌++◌, length, get_or, set, Option, Some, None, Result, Ok, Err, refl, sym, ap, subst, ◌∙◌, arith}
use Rattle.std.specs.List.{AllZip, position}
use Rattle.std.specs.Prelude.{◌==◌, ◌<◌, ◌≤◌, is_some, nat_le}
use Rattle.std.proofs.lemmas.Bool.{le-leb, lt-leb}
use Rattle.std.proofs.lemmas.Slice.Zip.{AllZip-long}
use Rattle.byte_fields.specs.Steps.{◌>>=◌, with_value}
use Rattle.keyed_seal.specs.Keys.{Entries, Keys}
use Rattle.prin_text.specs.declared.lines.fault.FileCause.{FileCause}
use Rattle.prin_text.specs.declared.lines.fault.FileCause.TheVariants.{Limit}
use Rattle.prin_text.specs.declared.lines.line_fault.LineFault.{LineFault}
use Rattle.prin_text.specs.FileLines.{key_cause, unless}
use Rattle.prin_text.specs.Held.{HoldsKeys}
use Rattle.prin_text.specs.LineView.{TakesLine}
use Rattle.prin_text.proofs.Taken.{lifted, unless-mapped}
use Rattle.relay_path.specs.declared.domain_draft.DomainDraft.{DomainDraft}
use Rattle.relay_path.specs.declared.limits.TheConstants.{MAX_ISSUERS, MAX_LINKS, MAX_NODES}
use Rattle.relay_path.specs.Domains.{DomainKnows, domain_of}
use Rattle.relay_path.specs.PathFile.{changed, domain_cause}
use Rattle.relay_path.specs.PathView.{AreDomainDrafts, IsDomainDraft}
use Rattle.relay_path.proofs.Drafts.{IsPlaced, placed, unplaced}

pub same_number : (x : DomainDraft) (d : DomainKnows) → IsDomainDraft x d → x.number ≡ d.number
same_number x d is = is.number

-- the draft of a number stands at the place
abbrev pub IsAtPlace : List DomainDraft → List DomainKnows → ℕ → ℕ → Type 0
IsAtPlace drafts above n place = IsPlaced IsDomainDraft (λ x. x.number) same_number drafts above n place

pub at_place : (drafts : List DomainDraft) (above : List DomainKnows) (n place : ℕ) → AreDomainDrafts drafts above → position (λ d. d.number == n) drafts ≡ Some place → IsAtPlace drafts above n place
at_place drafts above n place all e = placed IsDomainDraft (λ x. x.number) same_number drafts above n place all e

pub at_no_place : (drafts : List DomainDraft) (above : List DomainKnows) (n : ℕ) → AreDomainDrafts drafts above → position (λ d. d.number == n) drafts ≡ None → domain_of above n ≡ None
at_no_place drafts above n all e = unplaced IsDomainDraft (λ x. x.number) same_number drafts above n all e

-- two changes that agree on the domain of the number
same_at : (b : Bool) (x d : DomainKnows) (rest : Option DomainKnows) (tail xs ys : List DomainKnows) (f g : DomainKnows → DomainKnows) → cond b (Some x) rest ≡ Some d → f d ≡ g d → (b ≡ false → xs ≡ ys)
    → cond b (f x ∷ tail) (x ∷ xs) ≡ cond b (g x ∷ tail) (x ∷ ys)
same_at true x d rest tail xs ys f g e agree later =
    let same : x ≡ d = cc e in
    ap (λ (k : DomainKnows). f k ∷ tail) same ∙ ap (λ (k : DomainKnows). k ∷ tail) agree ∙ ap (λ (k : DomainKnows). g k ∷ tail) (sym same)
same_at false x d rest tail xs ys f g e agree later = ap (λ (l : List DomainKnows). x ∷ l) (later refl)

pub changed_same : (ds : List DomainKnows) (n : ℕ) (f g : DomainKnows → DomainKnows) (d : DomainKnows) → domain_of ds n ≡ Some d → f d ≡ g d → changed n f ds ≡ changed n g ds
changed_same [] n f g d e agree = refl
changed_same (x ∷ ds) n f g d e agree =
    same_at (eqb x.number n) x d (domain_of ds n) ds (changed n f ds) (changed n g ds) f g e agree
    (λ other. changed_same ds n f g d (sym (ap (λ (b : Bool). cond b (Some x) (domain_of ds n)) other) ∙ e) agree)

-- one part of the domain at a place: its keys, and how they are put there
module _ (most : ℕ) (keys_of : DomainDraft → Keys) (entries_of : DomainKnows → Entries) (put : DomainDraft → Keys → DomainDraft) (given : DomainKnows → Entries → DomainKnows)
    (holds : (x : DomainDraft) (d : DomainKnows) → IsDomainDraft x d → HoldsKeys (keys_of x) (entries_of d) × ((keys_of x).room ≡ most))
    (puts : (x : DomainDraft) (d : DomainKnows) (ks : Keys) (es : Entries) → IsDomainDraft x d → HoldsKeys ks es → ks.room ≡ most → IsDomainDraft (put x ks) (given d es))
    (drafts new : List DomainDraft) (above : List DomainKnows) (number place : ℕ) (placed_at : IsAtPlace drafts above number place) (old : DomainDraft) (ks : Keys) (there : old ≡ get_or drafts place old) (new_is : new ≡ set drafts place (put old ks)) where
  stood : IsDomainDraft old placed_at.domain
  stood = subst (λ (x : DomainDraft). IsDomainDraft x placed_at.domain) (sym there) (placed_at.stands old)

  pub key_taken : (n : ℕ) (key : List ℕ) (r : Result Unit LineFault) → ((es : Entries) → HoldsKeys (keys_of old) es → TakesLine HoldsKeys r ks (unless (key_cause (keys_of old).room es n) (es ++ (n, key) ∷ []))) → ks.room ≡ (keys_of old).room
      → TakesLine AreDomainDrafts r new (unless (key_cause most (entries_of placed_at.domain) n) (changed number (λ d. given d (entries_of d ++ (n, key) ∷ [])) above))
  key_taken n key r takes room =
      let d = placed_at.domain in
      let h = holds old d stood in
      let cause = key_cause most (entries_of d) n in
      let f : Entries → List DomainKnows = λ es. changed number (λ k. given k es) above in
      let more : Entries = entries_of d ++ (n, key) ∷ [] in
      let took = subst (λ (m : ℕ). TakesLine HoldsKeys r ks (unless (key_cause m (entries_of d) n) more)) h.1 (takes (entries_of d) h.0) in
      let whole = lifted HoldsKeys AreDomainDrafts f r ks new (unless cause more) took
      (λ es held. subst (λ (l : List DomainDraft). AreDomainDrafts l (f es)) (sym new_is) (placed_at.change (put old ks) (λ k. given k es) (puts old d ks es stood held (room ∙ h.1)))) in
      let same : f more ≡ changed number (λ k. given k (entries_of k ++ (n, key) ∷ [])) above = changed_same above number (λ k. given k more) (λ k. given k (entries_of k ++ (n, key) ∷ [])) d placed_at.is refl in
      subst (TakesLine AreDomainDrafts r new) (unless-mapped f cause more ∙ ap (unless cause) same) whole

-- ---- issuers, nodes and peers

pub issuers_hold : (x : DomainDraft) (d : DomainKnows) → IsDomainDraft x d → HoldsKeys x.issuers d.issuers × (x.issuers.room ≡ MAX_ISSUERS)
issuers_hold x d is = (is.issuers, is.issuers_room)

pub nodes_hold : (x : DomainDraft) (d : DomainKnows) → IsDomainDraft x d → HoldsKeys x.nodes d.nodes × (x.nodes.room ≡ MAX_NODES)
nodes_hold x d is = (is.nodes, is.nodes_room)

pub peers_hold : (x : DomainDraft) (d : DomainKnows) → IsDomainDraft x d → HoldsKeys x.peers d.peers × (x.peers.room ≡ MAX_LINKS)
peers_hold x d is = (is.peers, is.peers_room)

pub issuers_put : (x : DomainDraft) (d : DomainKnows) (ks : Keys) (es : Entries) → IsDomainDraft x d → HoldsKeys ks es → ks.room ≡ MAX_ISSUERS → IsDomainDraft (record x { issuers = ks }) (record d { issuers = es })
issuers_put x d ks es is held room = record { number = is.number; issuers = held; nodes = is.nodes; peers = is.peers; issuers_room = room; nodes_room = is.nodes_room; peers_room = is.peers_room }

pub nodes_put : (x : DomainDraft) (d : DomainKnows) (ks : Keys) (es : Entries) → IsDomainDraft x d → HoldsKeys ks es → ks.room ≡ MAX_NODES → IsDomainDraft (record x { nodes = ks }) (record d { nodes = es })
nodes_put x d ks es is held room = record { number = is.number; issuers = is.issuers; nodes = held; peers = is.peers; issuers_room = is.issuers_room; nodes_room = room; peers_room = is.peers_room }

pub peers_put : (x : DomainDraft) (d : DomainKnows) (ks : Keys) (es : Entries) → IsDomainDraft x d → HoldsKeys ks es → ks.room ≡ MAX_LINKS → IsDomainDraft (record x { peers = ks }) (record d { peers = es })
peers_put x d ks es is held room = record { number = is.number; issuers = is.issuers; nodes = is.nodes; peers = held; issuers_room = is.issuers_room; nodes_room = is.nodes_room; peers_room = room }

-- where the program found it, or did not
pub found_in : (drafts seen : List DomainDraft) (n : ℕ) (o p : Option ℕ) → seen ≡ drafts → o ≡ position (λ d. d.number == n) seen → o ≡ p → position (λ d. d.number == n) drafts ≡ p
found_in drafts seen n o p same is e = ap (position (λ d. d.number == n)) (sym same) ∙ sym is ∙ e

-- whether there is a domain of the number
pub has_is : (drafts : List DomainDraft) (above : List DomainKnows) (n : ℕ) (o : Option ℕ) → AreDomainDrafts drafts above → o ≡ position (λ d. d.number == n) drafts → is_some o ≡ is_some (domain_of above n)
has_is drafts above n None all e = let none = at_no_place drafts above n all (sym e) in rw none refl
has_is drafts above n (Some place) all e = let p = at_place drafts above n place all (sym e) in rw p.is refl

-- ---- one domain more

module _ (drafts : List DomainDraft) (above more : List DomainKnows) (n : ℕ) (all : AreDomainDrafts drafts above) (new : is_some (domain_of above n) ≡ false) where
  pub too_many : 16 ≤ length drafts → unless (domain_cause above n) more ≡ Err Limit
  unfolding domain_cause
  too_many full =
      let test : nat_le 16 (length above) ≡ true = le-leb 16 (length above) (omega (arith, full, AllZip-long IsDomainDraft drafts above all)) in
      rw (new, test) refl

  pub few_enough : length drafts < 16 → unless (domain_cause above n) more ≡ Ok more
  unfolding domain_cause
  few_enough few =
      let test : nat_le 16 (length above) ≡ false = lt-leb 16 (length above) (omega (arith, few, AllZip-long IsDomainDraft drafts above all)) in
      rw (new, test) refl
