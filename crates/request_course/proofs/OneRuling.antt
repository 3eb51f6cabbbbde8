-- What comes of a request at its object where nobody else steps a cell: one thing, up to the proof that is made for a grant.
use Rattle.std.proofs.Common.{◌≡◌, ◌⊎◌, ℕ, ◌<◌, Bool, true, false, List, length, Option, Some, slice_get, find, refl, sym, ap, ap₂, subst, ◌∙◌, inl, inr, arith}
use Rattle.std.proofs.lemmas.Bool.{cases_lt}
use Rattle.std.proofs.lemmas.Option.{same_Some}
use Rattle.object_core.specs.Objects.{ObjectEntry}
use Rattle.object_core.specs.declared.ruling.Ruling.TheVariants as rulings
use Rattle.prin_term.specs.Principal.{Principal, subterms}
use Rattle.prin_term.specs.View.{Grant}
use Rattle.proof_cache.specs.Cache.{is_for}
use Rattle.proof_cache.specs.Cached.{Cached}
use Rattle.stmt_codec.specs.Certificates.{Certificate, digest_of, live}
use Rattle.taos_calculus.specs.Monitor.{MaySpeak, FirstEntry, Grants}
use Rattle.denial_link.specs.declared.link.Link.{Link}
use Rattle.denial_link.specs.declared.link.Link.TheVariants as links
use Rattle.denial_link.specs.Links.{IsFirstLink}
use Rattle.denial_link.specs.Revived.{claims}
use Rattle.denial_link.proofs.Once.{one_link}
use Rattle.taos_wire.specs.Reply as replies
use Rattle.taos_wire.specs.Reply.{Reply, LinkSent}
use Rattle.agent_core.specs.declared.told.Told.{Told}
use Rattle.agent_core.specs.declared.asked.Denial.{Denial}
use Rattle.agent_core.specs.declared.asked.Denial.TheVariants as denials
use Rattle.agent_core.specs.State.{Plan, Ask, Asks, Keeps, Judged}
use Rattle.agent_core.specs.Caches.{unlapsed}
use Rattle.agent_core.specs.Journals.{Entry, entry, told_at, cache_after, IsJudged}
use Rattle.agent_core.specs.Asked.{Names}
use Rattle.request_course.specs.Cells.{Journals}
use Rattle.request_course.specs.Asking.{TellsDenial, shard_full}
use Rattle.request_course.specs.AtObject.{Seeking, ruled_as, asks_for, gives_for, told_or, object_full}
use Rattle.request_course.specs.Choices.{SameChoice}
use Rattle.request_course.proofs.Growing.{add_shard, add_object}
use Rattle.request_course.proofs.Walks.{Performs, performs_agree}

-- ---- what an ask is judged by, once

same_judged : (plan : Plan) (before : List Entry) (a : Ask) (m p : ℕ) (cs ds : List Certificate) → IsJudged plan before a m cs → IsJudged plan before a p ds → (m ≡ p) × (cs ≡ ds)
same_judged plan before a m p cs ds x y = apart (sym x ∙ y)
  where
    apart : Judged m cs ≡ Judged p ds → (m ≡ p) × (cs ≡ ds)
    apart e = (cc, cc)

-- a proof that is kept for an entry
pub record HitBy (plan : Plan) (k : List Entry) (a : Ask) (e : ℕ) (c : Cached) : Type 0 where
  pub moment : ℕ
  pub certs : List Certificate
  pub grant : Grant
  pub judged : IsJudged plan k a moment certs
  pub stands : slice_get a.list e ≡ Some grant
  pub found : find (is_for a.subject grant.who) (unlapsed moment (cache_after plan k)) ≡ Some c

-- an entry that is granted first
pub record MissBy (plan : Plan) (k : List Entry) (a : Ask) (e : ℕ) : Type 0 where
  pub moment : ℕ
  pub certs : List Certificate
  pub grant : Grant
  pub judged : IsJudged plan k a moment certs
  pub first : FirstEntry a.list a.right (λ (h : Grant). MaySpeak plan.anchors (claims (live certs moment)) a.subject h.who) e grant

-- a denial, and what is told of it
pub record DeniedBy (plan : Plan) (k : List Entry) (a : Ask) (told : LinkSent) : Type 0 where
  pub moment : ℕ
  pub certs : List Certificate
  pub link : Link
  pub denial : Denial
  pub judged : IsJudged plan k a moment certs
  pub none : Grants plan.anchors (claims (live certs moment)) a.subject a.list a.right → ⊥
  pub first : IsFirstLink plan.anchors certs moment a.subject a.list a.right link
  pub names : Names certs link denial
  pub tells : TellsDenial a.list denial told

module _ (plan : Plan) (k : List Entry) (a : Ask) where
  same_hit : (e : ℕ) (c d : Cached) → HitBy plan k a e c → HitBy plan k a e d → c ≡ d
  same_hit e c d x y =
      let j = same_judged plan k a x.moment y.moment x.certs y.certs x.judged y.judged in
      let g : x.grant ≡ y.grant = same_Some x.grant y.grant (sym x.stands ∙ y.stands) in
      same_Some c d (sym x.found ∙ ap₂ (λ (h : Grant) (m : ℕ). find (is_for a.subject h.who) (unlapsed m (cache_after plan k))) g j.0 ∙ y.found)

  same_first : (e f : ℕ) → MissBy plan k a e → MissBy plan k a f → e ≡ f
  same_first e f x y =
      let j = same_judged plan k a x.moment y.moment x.certs y.certs x.judged y.judged in
      let held = ap₂ (λ (m : ℕ) (cs : List Certificate). claims (live cs m)) j.0 j.1 in
      let first = subst (λ cs. FirstEntry a.list a.right (λ (h : Grant). MaySpeak plan.anchors cs a.subject h.who) f y.grant) (sym held) y.first in
      elim (cases_lt e f) [
        | inl lt ↦ absurd (first.first e x.grant lt x.first.stands x.first.has_right x.first.holds)
        | inr ge ↦ elim (cases_lt f e) [
          | inl lt ↦ absurd (x.first.first f y.grant lt first.stands first.has_right first.holds)
          | inr le ↦ omega (arith, ge, le)
        ]
      ]

  not_both : (e : ℕ) (told : LinkSent) → MissBy plan k a e → DeniedBy plan k a told → ⊥
  not_both e told x y =
      let j = same_judged plan k a x.moment y.moment x.certs y.certs x.judged y.judged in
      let held = ap₂ (λ (m : ℕ) (cs : List Certificate). claims (live cs m)) j.0 j.1 in
      y.none (subst (λ cs. Grants plan.anchors cs a.subject a.list a.right) held (record { place = e; entry = x.grant; stands = x.first.stands; has_right = x.first.has_right; speaks = x.first.holds }))

  same_name : (certs : List Certificate) (link : Link) (x y : Denial) → Names certs link x → Names certs link y → x ≡ y
  same_name certs (links.Expired e place) x y (c, at, is) (d, there, also) = is ∙ ap (λ (z : Certificate). denials.Expired e (digest_of z)) (same_Some c d (sym at ∙ there)) ∙ sym also
  same_name certs (links.Early e place) x y (c, at, is) (d, there, also) = is ∙ ap (λ (z : Certificate). denials.Early e (digest_of z)) (same_Some c d (sym at ∙ there)) ∙ sym also
  same_name certs (links.Missing e node) x y is also = is ∙ sym also
  same_name certs links.NoEntry x y is also = is ∙ sym also

  same_told : (list : List Grant) (denial : Denial) (x y : LinkSent) → TellsDenial list denial x → TellsDenial list denial y → x ≡ y
  same_told list (denials.Expired e digest) x y is also = is ∙ sym also
  same_told list (denials.Early e digest) x y is also = is ∙ sym also
  same_told list (denials.Missing e node) x y (g, part, at, there, is) (h, other, stands, also, so) =
      let same : g ≡ h = same_Some g h (sym at ∙ stands) in
      let parts : part ≡ other = same_Some part other (sym there ∙ ap (λ (z : Grant). slice_get (subterms z.who) node) same ∙ also) in
      is ∙ ap (λ (z : Principal). replies.Missing e z) parts ∙ sym so
  same_told list denials.NoEntry x y is also = is ∙ sym also

  same_denial : (s t : LinkSent) → DeniedBy plan k a s → DeniedBy plan k a t → s ≡ t
  same_denial s t x y =
      let j = same_judged plan k a x.moment y.moment x.certs y.certs x.judged y.judged in
      let first = subst (λ (m : ℕ). IsFirstLink plan.anchors x.certs m a.subject a.list a.right y.link) (sym j.0)
      (subst (λ (cs : List Certificate). IsFirstLink plan.anchors cs y.moment a.subject a.list a.right y.link) (sym j.1) y.first) in
      let link : x.link ≡ y.link = one_link plan.anchors x.certs x.moment a.subject a.list a.right x.link y.link x.first first in
      let names = subst (λ (l : Link). Names x.certs l y.denial) (sym link) (subst (λ (cs : List Certificate). Names cs y.link y.denial) (sym j.1) y.names) in
      let denial : x.denial ≡ y.denial = same_name x.certs x.link x.denial y.denial x.names names in
      same_told a.list x.denial s t x.tells (subst (λ (d : Denial). TellsDenial a.list d t) (sym denial) y.tells)

-- ---- what comes of what is sought, from these journals on

-- the journals and the reply are these
abbrev pub Leaves : Journals → Reply → Journals → Reply → Type 0
Leaves M want J reply = (J ≡ M) × (reply ≡ want)

module _ (plans : List Plan) (plan : Plan) (x : Seeking) (K : Journals) where
  abbrev pub there : List ObjectEntry
  there = K.objects x.request.object

  abbrev pub the_ask : Ask
  the_ask = asks_for x there

  -- what became of a proof that was made
  abbrev pub SettledAs : Bool → Journals → ℕ → ℕ → Cached → Journals → Type 0
  SettledAs true M place e c N = N ≡ M
  SettledAs false M place e c N =
      ((length (M.shards x.shard) ≡ plan.limit) × (N ≡ M))
      ⊎ ((length (M.shards x.shard) < plan.limit) × (N ≡ add_shard M x.shard (entry (Keeps place e c) (told_at plan (M.shards x.shard) (Keeps place e c)))))

  pub record Granting (M : Journals) (place : ℕ) (kept : Bool) (e : ℕ) (c : Cached) (J : Journals) (reply : Reply) : Type 0 where
    pub N : Journals
    pub settles : SettledAs kept M place e c N
    pub refused : Option Reply
    pub performed : Performs plans x.request.op x.certs x.reading (add_object N x.request.object (ruled_as x.shard place x.request.op (rulings.Granted e))) J refused
    pub said : reply ≡ told_or refused (replies.Granted kept e x.shard place c.proof c.cites (gives_for x there))

  -- by what was told of the Ask
  abbrev pub ByAsk : ℕ → Told → Journals → Reply → Option Cached → Type 0
  ByAsk place (Told.Replayed last) J reply choice = Leaves (add_shard K x.shard (entry (Asks the_ask) (Told.Replayed last))) (replies.Replayed last) J reply
  ByAsk place (Told.Full held) J reply choice = Leaves (add_shard K x.shard (entry (Asks the_ask) (Told.Full held))) (replies.ChannelFull held) J reply
  ByAsk place (Told.Hit e) J reply choice = (c : Cached) × HitBy plan (K.shards x.shard) the_ask e c × Granting (add_shard K x.shard (entry (Asks the_ask) (Told.Hit e))) place true e c J reply
  ByAsk place Told.Miss J reply choice =
      ((e : ℕ) × (c : Cached) × MissBy plan (K.shards x.shard) the_ask e × (choice ≡ Some c) × Granting (add_shard K x.shard (entry (Asks the_ask) Told.Miss)) place false e c J reply)
      ⊎ ((told : LinkSent) × DeniedBy plan (K.shards x.shard) the_ask told
      × Leaves (add_object (add_shard K x.shard (entry (Asks the_ask) Told.Miss)) x.request.object (ruled_as x.shard place x.request.op rulings.Denied)) (replies.Denied x.shard place told) J reply)
  ByAsk place _ J reply choice = ⊥

  pub record Asked (J : Journals) (reply : Reply) (choice : Option Cached) : Type 0 where
    pub room : length (K.shards x.shard) < plan.limit
    pub place : ℕ
    pub at : place ≡ length (K.shards x.shard)
    pub told : Told
    pub tells : told ≡ told_at plan (K.shards x.shard) (Asks the_ask)
    pub by : ByAsk place told J reply choice

  abbrev pub Guarded : Journals → Reply → Option Cached → Type 0
  Guarded J reply choice =
      ((length there ≡ x.fixed.limit) × Leaves K (object_full x.request.object x.fixed.limit) J reply)
      ⊎ ((length there < x.fixed.limit) × (((length (K.shards x.shard) ≡ plan.limit) × Leaves K (shard_full x.shard plan.limit) J reply) ⊎ Asked J reply choice))

  -- ---- two of them

  module _ (J L : Journals) (reply other : Reply) where
    abbrev Same : Type 0
    Same = (J ≡ L) × (reply ≡ other)

    both_leave : (M : Journals) (want : Reply) → Leaves M want J reply → Leaves M want L other → Same
    both_leave M want u v = (u.0 ∙ sym v.0, u.1 ∙ sym v.1)

    same_settled : (kept : Bool) (M : Journals) (place e : ℕ) (c : Cached) (N O : Journals) → SettledAs kept M place e c N → SettledAs kept M place e c O → N ≡ O
    same_settled true M place e c N O u v = u ∙ sym v
    same_settled false M place e c N O (inl u) (inl v) = u.1 ∙ sym v.1
    same_settled false M place e c N O (inl u) (inr v) = absurd (omega (arith, u.0, v.0))
    same_settled false M place e c N O (inr u) (inl v) = absurd (omega (arith, u.0, v.0))
    same_settled false M place e c N O (inr u) (inr v) = u.1 ∙ sym v.1

    both_grant : (M : Journals) (place : ℕ) (kept : Bool) (e : ℕ) (c : Cached) → Granting M place kept e c J reply → Granting M place kept e c L other → Same
    both_grant M place kept e c u v =
        let same : u.N ≡ v.N = same_settled kept M place e c u.N v.N u.settles v.settles in
        let from = λ (I : Journals). add_object I x.request.object (ruled_as x.shard place x.request.op (rulings.Granted e)) in
        let performed = subst (λ (I : Journals). Performs plans x.request.op x.certs x.reading (from I) L v.refused) (sym same) v.performed in
        let ends = performs_agree plans x.request.op x.certs x.reading (from u.N) J L u.refused v.refused u.performed performed in
        (ends.0, u.said ∙ ap (λ (o : Option Reply). told_or o (replies.Granted kept e x.shard place c.proof c.cites (gives_for x there))) ends.1 ∙ sym v.said)

    grants_alike : (M : Journals) (place : ℕ) (kept : Bool) (e f : ℕ) (c d : Cached) → e ≡ f → c ≡ d → Granting M place kept e c J reply → Granting M place kept f d L other → Same
    grants_alike M place kept e f c d same alike u v =
        both_grant M place kept e c u (subst (λ (g : ℕ). Granting M place kept g c L other) (sym same) (subst (λ (z : Cached). Granting M place kept f z L other) (sym alike) v))

    same_choice : (choice chosen : Option Cached) (c d : Cached) → SameChoice choice chosen → choice ≡ Some c → chosen ≡ Some d → c ≡ d
    same_choice choice chosen c d same u v = subst (λ (o : Option Cached). SameChoice (Some c) o) v (subst (λ (o : Option Cached). SameChoice o chosen) u same)

    asks_alike : (place : ℕ) (told : Told) (choice chosen : Option Cached) → SameChoice choice chosen → ByAsk place told J reply choice → ByAsk place told L other chosen → Same
    asks_alike place (Told.Replayed last) choice chosen same u v = both_leave (add_shard K x.shard (entry (Asks the_ask) (Told.Replayed last))) (replies.Replayed last) u v
    asks_alike place (Told.Full held) choice chosen same u v = both_leave (add_shard K x.shard (entry (Asks the_ask) (Told.Full held))) (replies.ChannelFull held) u v
    asks_alike place (Told.Hit e) choice chosen same (c, hit, u) (d, also, v) =
        grants_alike (add_shard K x.shard (entry (Asks the_ask) (Told.Hit e))) place true e e c d refl (same_hit plan (K.shards x.shard) the_ask e c d hit also) u v
    asks_alike place Told.Miss choice chosen same (inl (e, c, miss, is, u)) (inl (f, d, also, so, v)) =
        grants_alike (add_shard K x.shard (entry (Asks the_ask) Told.Miss)) place false e f c d (same_first plan (K.shards x.shard) the_ask e f miss also) (same_choice choice chosen c d same is so) u v
    asks_alike place Told.Miss choice chosen same (inl (e, c, miss, is, u)) (inr (told, none, v)) = absurd (not_both plan (K.shards x.shard) the_ask e told miss none)
    asks_alike place Told.Miss choice chosen same (inr (told, none, u)) (inl (e, c, miss, is, v)) = absurd (not_both plan (K.shards x.shard) the_ask e told miss none)
    asks_alike place Told.Miss choice chosen same (inr (s, none, u)) (inr (t, never, v)) =
        (u.0 ∙ sym v.0, u.1 ∙ ap (λ (l : LinkSent). replies.Denied x.shard place l) (same_denial plan (K.shards x.shard) the_ask s t none never) ∙ sym v.1)
    asks_alike place _ choice chosen same u v = absurd u

    asked_alike : (choice chosen : Option Cached) → SameChoice choice chosen → Asked J reply choice → Asked L other chosen → Same
    asked_alike choice chosen same u v =
        let place : v.place ≡ u.place = v.at ∙ sym u.at in
        let told : v.told ≡ u.told = v.tells ∙ sym u.tells in
        asks_alike u.place u.told choice chosen same u.by (subst (λ (p : ℕ). ByAsk p u.told L other chosen) place (subst (λ (t : Told). ByAsk v.place t L other chosen) told v.by))

    pub guarded_agree : (choice chosen : Option Cached) → SameChoice choice chosen → Guarded J reply choice → Guarded L other chosen → Same
    guarded_agree choice chosen same (inl (at, u)) (inl (also, v)) = both_leave K (object_full x.request.object x.fixed.limit) u v
    guarded_agree choice chosen same (inl (at, u)) (inr (room, v)) = absurd (omega (arith, at, room))
    guarded_agree choice chosen same (inr (room, u)) (inl (at, v)) = absurd (omega (arith, at, room))
    guarded_agree choice chosen same (inr (room, inl (at, u))) (inr (more, inl (also, v))) = both_leave K (shard_full x.shard plan.limit) u v
    guarded_agree choice chosen same (inr (room, inl (at, u))) (inr (more, inr v)) = absurd (omega (arith, at, v.room))
    guarded_agree choice chosen same (inr (room, inr u)) (inr (more, inl (at, v))) = absurd (omega (arith, at, u.room))
    guarded_agree choice chosen same (inr (room, inr u)) (inr (more, inr v)) = asked_alike choice chosen same u v
