-- The first entries of an access list, and what is asked about its entries.
use Rattle.std.proofs.Common.{◌≡◌, inl, inr, ℕ, zero, suc, ◌+◌, ◌<◌, ◌≤◌, ◌∷◌, [], Bool, true, List, length, map, replicate, Contains, All, Option, None, Some, slice_get, refl, sym, ◌∙◌, ap, subst, arith}
use Rattle.std.proofs.lemmas.Bool.{cases_lt}
use Rattle.std.proofs.lemmas.Option.{same_Some, slice_get_within, slice_get-map, get_or_from_slice_get}
use Rattle.std.specs.Option.{option_map, MatchOption}
use Rattle.std.specs.Prelude.{Any}
use Rattle.std.proofs.lemmas.List.{length-map}
use Rattle.std.proofs.lemmas.List.Elements.{All-contains}
use Rattle.prin_term.specs.declared.term.Anchor.{Anchor}
use Rattle.prin_term.specs.Principal.{Principal, subterms, node_count}
use Rattle.prin_term.specs.declared.limits.TheConstants.{ENTRY_NODES}
use Rattle.prin_term.specs.View.{Grant}
use Rattle.stmt_codec.specs.Certificates.{Certificate}
use Rattle.taos_calculus.specs.Rules.{Claim}
use Rattle.taos_calculus.specs.Monitor.{MaySpeak, HasRight, FirstEntry}
use Rattle.taos_calculus.specs.Question.{Question, question_of, claims_of, claim_of, picked, IsTermOf, MayAnswer}
use Rattle.denial_link.specs.Revived.{claims, AsksWith}
use Rattle.denial_link.specs.Links.{NoEntryWith, NoneBefore, IsReached, Lacks, IsFirstLink, missing}
use Rattle.denial_link.specs.declared.link.Link.TheVariants.{Missing}
use Rattle.denial_link.proofs.Members.{has-at}
use Rattle.denial_link.proofs.Reaching.{part_itself, Reaches}

module _ (list : List Grant) (right : ℕ) (P : Grant → Type 0) where
  pub first_here : (n : ℕ) (e : Grant) → NoneBefore list right P n → slice_get list n ≡ Some e → HasRight e right → P e → (x : Grant) × FirstEntry list right P n x
  first_here n e none s r p = (e, record { stands = s; has_right = r; holds = p; first = none })

  pub none_more : (n : ℕ) (e : Grant) → NoneBefore list right P n → slice_get list n ≡ Some e → (HasRight e right → P e → ⊥) → NoneBefore list right P (n + 1)
  none_more n e none s not k d lt t r p =
      elim (cases_lt k n) [
        | inl l ↦ none k d l t r p
        | inr l ↦
            let at : k ≡ n = omega arith in
            let one : d ≡ e = same_Some d e (sym t ∙ ap (slice_get list) at ∙ s) in
            not (subst (λ (x : Grant). HasRight x right) one r) (subst P one p)
      ]

  pub none_at_all : (n : ℕ) → NoneBefore list right P n → length list ≤ n → NoEntryWith list right P
  none_at_all n none le k e s r p = none k e (omega (arith, slice_get_within list k e s)) s r p

-- none before the end is none at all
pub found_at_all : (o : Option ℕ) (list : List Grant) (right end : ℕ) (P : Grant → Type 0) → MatchOption o (NoneBefore list right P end) (λ k. (k < end) × (e : Grant) × FirstEntry list right P k e) →
    length list ≤ end → MatchOption o (NoEntryWith list right P) (λ k. (e : Grant) × FirstEntry list right P k e)
found_at_all None list right end P h le = none_at_all list right P end h le
found_at_all (Some k) list right end P h le = (h.1, h.2)

-- ---- a question about the live certificates and others

abbrev HasPart : Principal → List Principal → Type 0
HasPart p ps = Any (λ (who : Principal). Contains (subterms who) p) ps

module _ (anchors : List Anchor) (certs : List Certificate) (moment : ℕ) (places : List ℕ) (subject : Principal) (list : List Grant) (q : Question)
    (asks : AsksWith q anchors certs moment places subject list) where
  pub asks_subject : IsTermOf q subject
  asks_subject = inl (subst (λ (p : Principal). Contains (subterms p) subject) (sym asks.subject_is) (part_itself subject))

  pub asks_entry : (k : ℕ) (e : Grant) → slice_get list k ≡ Some e → IsTermOf q e.who
  asks_entry k e s =
      let stands = slice_get-map (λ (g : Grant). g.who) list k ∙ ap (option_map (λ (g : Grant). g.who)) s in
      let part : HasPart e.who (map (λ (g : Grant). g.who) list) = (
        k,
        e.who,
        omega (arith, slice_get_within list k e s, length-map list (λ (g : Grant). g.who)),
        get_or_from_slice_get (map (λ (g : Grant). g.who) list) k e.who e.who stands,
        part_itself e.who,
      ) in
      inr (subst (HasPart e.who) (sym asks.list_is) part)

-- ---- a question about all certificates

all_picked : {X : Type 0} (at : ℕ) (xs : List X) (n : ℕ) → n ≡ length xs → map (λ (c : ℕ × X). c.1) (picked at xs (replicate n true)) ≡ xs
all_picked at [] n e = refl
all_picked at (x ∷ xs) zero e = absurd (omega (arith, e))
all_picked {X} at (x ∷ xs) (suc n) e = ap (λ (l : List X). x ∷ l) (all_picked (at + 1) xs n (omega (arith, e)))

module _ (anchors : List Anchor) (certs : List Certificate) (subject : Principal) (list : List Grant) (q : Question) (all : List Bool)
    (asked : q ≡ question_of anchors certs all subject list) where
  pub part_of_subject : (p : Principal) → Contains (subterms subject) p → IsTermOf q p
  part_of_subject p h = subst (λ (x : Question). IsTermOf x p) (sym asked) (inl h)

  pub part_of_entry : (k : ℕ) (e : Grant) → slice_get list k ≡ Some e → (p : Principal) → Contains (subterms e.who) p → IsTermOf q p
  part_of_entry k e s p h =
      let stands = slice_get-map (λ (g : Grant). g.who) list k ∙ ap (option_map (λ (g : Grant). g.who)) s in
      subst (λ (x : Question). IsTermOf x p) (sym asked)
      (inr (k, e.who, omega (arith, slice_get_within list k e s, length-map list (λ (g : Grant). g.who)), get_or_from_slice_get (map (λ (g : Grant). g.who) list) k e.who e.who stands, h))

  pub entry_is_term : (k : ℕ) (e : Grant) → slice_get list k ≡ Some e → IsTermOf q e.who
  entry_is_term k e s = part_of_entry k e s e.who (part_itself e.who)

module _ (anchors : List Anchor) (certs : List Certificate) (subject : Principal) (list : List Grant) (q : Question) (n : ℕ) (all : List Bool)
    (asked : q ≡ question_of anchors certs all subject list) (marks : all ≡ replicate n true) (count : n ≡ length certs) where
  asked_all : q ≡ question_of anchors certs (replicate n true) subject list
  asked_all = asked ∙ ap (λ (m : List Bool). question_of anchors certs m subject list) marks

  claims_all : claims_of (question_of anchors certs (replicate n true) subject list) ≡ claims certs
  claims_all = all_picked 0 (map claim_of certs) n (count ∙ sym (length-map certs claim_of))

  answers_all : (P : List Anchor → List Claim → Type 0) → P q.anchors (claims_of q) → P anchors (claims certs)
  answers_all P h = subst (λ (said : List Claim). P anchors said) claims_all (subst (λ (x : Question). P x.anchors (claims_of x)) asked_all h)

  asks_all : (P : List Anchor → List Claim → Type 0) → P anchors (claims certs) → P q.anchors (claims_of q)
  asks_all P h = subst (λ (x : Question). P x.anchors (claims_of x)) (sym asked_all) (subst (λ (said : List Claim). P anchors said) (sym claims_all) h)

  module _ (right k : ℕ) (e d : Grant) (stands : slice_get list k ≡ Some d) where
    abbrev Speaks : Grant → Type 0
    Speaks g = MaySpeak anchors (claims certs) subject g.who

    pub link_missing : (moment m : ℕ) → FirstEntry list right (λ (g : Grant). Unit {0}) k e → NoEntryWith list right Speaks → Lacks (Reaches q subject) d.who m → IsFirstLink anchors certs moment subject list right (Missing k m)
    link_missing moment m f none lacks =
        missing e f none
        (subst (λ (g : Grant). Lacks (IsReached anchors (claims certs) subject) g.who m) (sym (same_Some e d (sym f.stands ∙ stands)))
        (answers_all (λ known said. Lacks (IsReached known said subject) d.who m) lacks))

  pub none_by_all : (right : ℕ) → NoEntryWith list right (λ (g : Grant). MayAnswer q subject g.who) → NoEntryWith list right (λ (g : Grant). MaySpeak anchors (claims certs) subject g.who)
  none_by_all right none j g s r speaks = none j g s r (asks_all (λ known said. MaySpeak known said subject g.who) speaks)

-- ---- an entry

pub small_entry : (list : List Grant) (k : ℕ) (d : Grant) → All (λ (e : Grant). node_count e.who ≤ ENTRY_NODES) list → slice_get list k ≡ Some d → node_count d.who < 256
small_entry list k d fit s =
    let small : node_count d.who ≤ ENTRY_NODES = All-contains (λ (e : Grant). node_count e.who ≤ ENTRY_NODES) list d fit (has-at list k d s) in
    omega (arith, small)
