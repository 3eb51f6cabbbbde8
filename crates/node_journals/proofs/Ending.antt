-- How the Asks of a drill's load end, and how many proofs are kept.
use Rattle.std.proofs.Common.{◌≡◌, ℕ, suc, ◌+◌, List, [], ◌∷◌, length, take, count_by, Some, slice_get, refl, sym, ◌∙◌, ap, subst, inl, inr, arith, cond}
use Rattle.std.proofs.lemmas.Bool.{cases_order}
use Rattle.std.proofs.lemmas.List.Sums.{sum_by-cons}
use Rattle.std.proofs.lemmas.Option.{none-some, same_Some, slice_get_within}
use Rattle.prin_term.specs.declared.term.Anchor.{Anchor}
use Rattle.prin_term.specs.Principal.{Principal, Key}
use Rattle.prin_term.specs.View.{Grant}
use Rattle.stmt_codec.specs.Certificates.{Certificate, live}
use Rattle.taos_calculus.specs.Monitor.{Grants}
use Rattle.denial_link.specs.declared.link.Link.{Link}
use Rattle.denial_link.specs.declared.link.Link.TheVariants.{NoEntry}
use Rattle.denial_link.specs.Revived.{claims}
use Rattle.denial_link.specs.Links.{IsFirstLink, no_entry, expired, early, missing}
use Rattle.proof_cache.specs.Cached.{Cached}
use Rattle.agent_core.specs.declared.told.Told.{Told}
use Rattle.agent_core.specs.declared.asked.Denial.{Denial}
use Rattle.agent_core.specs.State.{Plan, Asks, Keeps}
use Rattle.agent_core.specs.Journals.{Entry, entry, Stands, IsJudged, granted, denied}
use Rattle.agent_core.specs.Asked.{IsDeniedBy, IsDeniedAt, Names}
use Rattle.taos_drill.specs.Opened.{reader}
use Rattle.taos_drill.specs.Sent.{drill_certificate}
use Rattle.node_journals.specs.Load.{load_ask, IsLoadList, AsksAt, IsLoadEntry, asks, keeps, IsLoadJournal, KeepsInTime, KeepsOnce, is_ask, is_keep}
use Rattle.node_journals.specs.JournalLaws.{AsksAreOfTheirOwn, VerdictsAreListed, EndsAreListed, KeepsAreKept, OneForEach, EntriesAreCounted}
use Rattle.node_journals.proofs.Fronts.{stands_after}
use Rattle.node_journals.proofs.States.{load_judged, not_ask}
use Rattle.node_journals.proofs.Made.{denied_by, reader_granted, not_denied, only}
use Rattle.node_journals.proofs.Caching.{kept_told}
use Rattle.node_journals.proofs.Hitting.{later_is_hit}

pub judged_by_own : AsksAreOfTheirOwn
judged_by_own plan journal load place k n list told before s = load_judged plan journal load before s.rest k n list told s.is

-- nothing is granted by an empty list
none_granted : (k : ℕ) (anchors : List Anchor) → Grants anchors (claims (live (drill_certificate k ∷ []) 1000)) (Key k) [] 1 → ⊥
none_granted k anchors g = none-some g.entry g.stands

no_entry_there : (k : ℕ) (anchors : List Anchor) → IsFirstLink anchors (drill_certificate k ∷ []) 1000 (Key k) [] 1 NoEntry
no_entry_there k anchors = no_entry (λ i e at right u. none-some e at)

pub verdict_listed : VerdictsAreListed
verdict_listed plan journal load place k n list told before s =
    let judged : IsJudged plan before (load_ask k n list) 1000 (drill_certificate k ∷ []) = load_judged plan journal load before s.rest k n list told s.is in (
      λ reads. granted judged (subst (λ (xs : List Grant). Grants plan.anchors (claims (live (drill_certificate k ∷ []) 1000)) (Key k) xs 1) (sym reads)
          (subst (λ (anchors : List Anchor). Grants anchors (claims (live (drill_certificate k ∷ []) 1000)) (Key k) (reader ∷ []) 1) (sym load.planned.anchors) (reader_granted k))),
      λ empty. denied judged
          (subst (λ (xs : List Grant). Grants plan.anchors (claims (live (drill_certificate k ∷ []) 1000)) (Key k) xs 1 → ⊥) (sym empty) (none_granted k plan.anchors))
          (subst (λ (xs : List Grant). IsFirstLink plan.anchors (drill_certificate k ∷ []) 1000 (Key k) xs 1 NoEntry) (sym empty) (no_entry_there k plan.anchors)),
    )

-- what a denial by an empty list names
denied_nothing : (anchors : List Anchor) (certs : List Certificate) (moment : ℕ) (subject : Principal) (right : ℕ) (link : Link) (denial : Denial) →
    IsFirstLink anchors certs moment subject [] right link → Names certs link denial → denial ≡ Denial.NoEntry
denied_nothing anchors certs moment subject right link denial (no_entry h) names = names
denied_nothing anchors certs moment subject right link denial (expired {k} {c} e first needed out) names = absurd (none-some e first.stands)
denied_nothing anchors certs moment subject right link denial (early {k} {c} e first needed out) names = absurd (none-some e first.stands)
denied_nothing anchors certs moment subject right link denial (missing {k} {n} e first others lacks) names = absurd (none-some e first.stands)

-- an entry of a list of the load
entry_is : (list : List Grant) (e : ℕ) (g : Grant) → IsLoadList list → slice_get list e ≡ Some g → (list ≡ reader ∷ []) × (e ≡ 0)
entry_is list e g l at =
    elim l [
      | inl reads ↦ (reads, (only reader e g (subst (λ (xs : List Grant). slice_get xs e ≡ Some g) reads at)).0)
      | inr empty ↦ absurd (none-some g (subst (λ (xs : List Grant). slice_get xs e ≡ Some g) empty at))
    ]

module _ (plan : Plan) (journal : List Entry) (load : IsLoadJournal plan journal) where
  denied_empty : (at k n : ℕ) (list : List Grant) (denial : Denial) → IsLoadList list → IsDeniedAt plan journal (load_ask k n list) at denial →
      (list ≡ []) × (denial ≡ Denial.NoEntry)
  denied_empty at k n list denial l d =
      elim l [
        | inl reads ↦ absurd (not_denied plan journal load at k n denial (subst (λ (xs : List Grant). IsDeniedAt plan journal (load_ask k n xs) at denial) reads d))
        | inr empty ↦
            let by : IsDeniedBy plan.anchors (drill_certificate k ∷ []) 1000 (load_ask k n []) denial =
            denied_by plan journal load k n at [] denial (subst (λ (xs : List Grant). IsDeniedAt plan journal (load_ask k n xs) at denial) empty d) in
            (empty, denied_nothing plan.anchors (drill_certificate k ∷ []) 1000 (Key k) 1 by.link denial by.first by.names)
      ]

  kept_at : (place p e : ℕ) (c : Cached) (told : Told) → slice_get journal place ≡ Some (entry (Keeps p e c) told) → IsLoadEntry plan journal place → told ≡ Told.Kept
  kept_at place p e c told there (asks {channel} {seq} {list} {told = t} l at) =
      absurd (not_ask (load_ask channel seq list) p e c t told (same_Some (entry (Keeps p e c) told) (entry (Asks (load_ask channel seq list)) t) (sym there ∙ at)))
  kept_at place p e c told there (keeps {channel} {seq} {at = q} {e = f} {list} {c = d} {told = t} l g at) =
      let same : entry (Keeps p e c) told ≡ entry (Keeps q f d) t = same_Some (entry (Keeps p e c) told) (entry (Keeps q f d) t) (sym there ∙ at) in
      let s : Stands journal place (take place journal) (entry (Keeps q f d) t) = stands_after journal place (entry (Keeps q f d) t) at in
      ap (λ (x : Entry). x.told) same ∙ kept_told plan journal load (take place journal) s.rest channel seq q f list d t s.is l g

  not_hit : (e : ℕ) → Told.Miss ≡ Told.Hit e → ⊥
  not_hit e h = cc

  one_for_each : KeepsInTime journal → KeepsOnce journal → (i j k m n p q e f : ℕ) (c d : Cached) (t u : Told) →
      AsksAt journal p k m (reader ∷ []) Told.Miss → AsksAt journal q k n (reader ∷ []) Told.Miss →
      slice_get journal i ≡ Some (entry (Keeps p e c) t) → slice_get journal j ≡ Some (entry (Keeps q f d) u) → i ≡ j
  one_for_each in_time once i j k m n p q e f c d t u first second here there =
      elim (cases_order p q) [
        | inl same ↦ once i j p e f c d t u here (subst (λ (x : ℕ). slice_get journal j ≡ Some (entry (Keeps x f d) u)) (sym same) there)
        | inr apart ↦ elim apart [
          | inl below ↦ let (h, hit) = later_is_hit plan journal load in_time p q k m n Told.Miss Told.Miss below first second in absurd (not_hit h hit)
          | inr above ↦ let (h, hit) = later_is_hit plan journal load in_time q p k n m Told.Miss Told.Miss above second first in absurd (not_hit h hit)
        ]
      ]

pub ends_listed : EndsAreListed
ends_listed plan journal load place k n list l = (
  λ e c g. entry_is list e g.granted.proof.grant l g.granted.proof.stands,
  λ e c h. entry_is list e h.proof.grant l h.proof.stands,
  λ denial d. denied_empty plan journal load place k n list denial l d,
)

pub keeps_kept : KeepsAreKept
keeps_kept plan journal load place p e c told there =
    kept_at plan journal load place p e c told there (load.entries place (slice_get_within journal place (entry (Keeps p e c) told) there))

pub one_each : OneForEach
one_each plan journal load in_time once i j k m n p q e f c d t u first second here there =
    one_for_each plan journal load in_time once i j k m n p q e f c d t u first second here there

-- ---- counts

-- each is one of two
abbrev IsOne : Entry → Type 0
IsOne x = cond (is_ask x) 1 0 + cond (is_keep x) 1 0 ≡ 1

one_more : (a b l m n c d : ℕ) → a + b ≡ 1 → l ≡ m + n → c ≡ a + m → d ≡ b + n → suc l ≡ c + d
one_more a b l m n c d one rest here there = omega arith

counted : (xs : List Entry) → ((i : ℕ) (x : Entry) → slice_get xs i ≡ Some x → IsOne x) → length xs ≡ count_by is_ask xs + count_by is_keep xs
counted [] all = refl
counted (x ∷ xs) all =
    one_more (cond (is_ask x) 1 0) (cond (is_keep x) 1 0) (length xs) (count_by is_ask xs) (count_by is_keep xs)
    (count_by is_ask (x ∷ xs)) (count_by is_keep (x ∷ xs)) (all 0 x refl) (counted xs (λ i y at. all (suc i) y at))
    (sum_by-cons (λ y. cond (is_ask y) 1 0) x xs) (sum_by-cons (λ y. cond (is_keep y) 1 0) x xs)

is_one : (plan : Plan) (journal : List Entry) (place : ℕ) (x : Entry) → slice_get journal place ≡ Some x → IsLoadEntry plan journal place → IsOne x
is_one plan journal place x there (asks {channel} {seq} {list} {told} l at) =
    subst IsOne (same_Some (entry (Asks (load_ask channel seq list)) told) x (sym at ∙ there)) refl
is_one plan journal place x there (keeps {at = p} {e} {c} {told} l g at) =
    subst IsOne (same_Some (entry (Keeps p e c) told) x (sym at ∙ there)) refl

pub entries_counted : EntriesAreCounted
entries_counted plan journal load =
    counted journal (λ i x at. is_one plan journal i x at (load.entries i (slice_get_within journal i x at)))
