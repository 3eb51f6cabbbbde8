-- A course where nobody else steps a cell: one, by the same readings and the same answers of the link.
use Rattle.std.proofs.Common.{◌≡◌, ◌≢◌, ◌⊎◌, ℕ, List, ◌∷◌, ◌++◌, Option, None, Some, Err, refl, sym, ap, subst, ◌∙◌, inl, inr}
use Rattle.std.proofs.lemmas.Option.{none-some, same_Some}
use Rattle.byte_fields.specs.declared.fault.FormatFault.TheVariants as wire
use Rattle.keyed_seal.specs.Keys.{key_of}
use Rattle.object_core.specs.Shelving.{ObjectFixed, fixed_at}
use Rattle.proof_cache.specs.Cached.{Cached}
use Rattle.stmt_codec.specs.Certificates.{Certificate}
use Rattle.taos_wire.specs.Request.{Request, Spells, IsAsked, IsSealed}
use Rattle.taos_wire.specs.RequestReading.{request_of}
use Rattle.taos_wire.specs.Reply as replies
use Rattle.taos_wire.specs.Reply.{Reply, Sent, sealed, unsealed}
use Rattle.taos_wire.proofs.RequestLaws.{spelled_once}
use Rattle.agent_core.specs.State.{Plan}
use Rattle.request_course.specs.AtObject.{Seeking}
use Rattle.request_course.specs.Cells.{Node, home, HasPlan, Journals, AreLegal}
use Rattle.request_course.specs.Credentials.{LinkCall}
use Rattle.request_course.specs.Choices.{SameChoice, choice_of}
use Rattle.request_course.specs.Course.{Used, CourseAfter, malformed, unknown_channel, bad_seal, cert_refused, relay_failed, unknown_object, ruled}
use Rattle.request_course.proofs.CertWalks.{End, Opened, RefusedAt, FailedAt, Certs, certs_agree, all_opened, first_refused, first_failed}
use Rattle.request_course.proofs.Growing.{Grows, grown_none}
use Rattle.request_course.proofs.LoneRuling.{guarded_by}
use Rattle.request_course.proofs.OneRuling.{Guarded, guarded_agree}

-- what is sought by a request with these certificates, at a reading
abbrev seeking_by : Node → Request → List Certificate → ObjectFixed → ℕ → Seeking
seeking_by n r certs fixed reading = record { request = r; certs = certs; reading = reading; shard = home n r.channel; fixed = fixed }

heads : (x y : ℕ) (xs ys : List ℕ) → x ∷ xs ≡ y ∷ ys → (x ≡ y) × (xs ≡ ys)
heads x y xs ys e = (cc, cc)

-- of all readings and calls: what a course left, what it sent, and the journals after it
pub record Left : Type 0 where
  pub readings : List ℕ
  pub calls : List LinkCall
  pub journals : Journals
  pub sent : Sent
  pub choice : Option Cached

module _ (n : Node) (K : Journals) (payload : List ℕ) (readings : List ℕ) (calls : List LinkCall) where
  -- nothing was read of the clock, and no entry was added
  abbrev pub Still : Sent → Left → Type 0
  Still want l = (l.readings ≡ readings) × (l.journals ≡ K) × (l.sent ≡ want)

  -- nor was the link called
  abbrev pub Quiet : Sent → Left → Type 0
  Quiet want l = (l.calls ≡ calls) × Still want l

  pub record ToRuling (r : Request) (key : List ℕ) (certs : List Certificate) (fixed : ObjectFixed) (l : Left) : Type 0 where
    reading : ℕ
    read : readings ≡ reading ∷ l.readings
    plan : Plan
    planned : HasPlan n (home n r.channel) plan
    reply : Reply
    said : l.sent ≡ sealed key r reply
    guarded : Guarded n.plans plan (seeking_by n r certs fixed reading) K l.journals reply l.choice

  abbrev pub ToObject : Request → List ℕ → List Certificate → Left → Type 0
  ToObject r key certs l =
      ((fixed_at n.objects r.object ≡ None) × Still (sealed key r (replies.UnknownObject r.object)) l)
      ⊎ ((fixed : ObjectFixed) × (fixed_at n.objects r.object ≡ Some fixed) × ToRuling r key certs fixed l)

  abbrev pub ToEnd : Request → List ℕ → End → Left → Type 0
  ToEnd r key (Opened certs) l = ToObject r key certs l
  ToEnd r key (RefusedAt index code) l = Still (sealed key r (replies.CertRefused index code)) l
  ToEnd r key (FailedAt index) l = Still (sealed key r (replies.RelayFailed index)) l

  abbrev pub ToCerts : Request → List ℕ → Left → Type 0
  ToCerts r key l = (end : End) × Certs n.relay_key r.certs calls l.calls end × ToEnd r key end l

  abbrev pub ToSeal : Request → List ℕ → Left → Type 0
  ToSeal r key l = ((IsSealed key payload → ⊥) × Quiet (unsealed replies.BadSeal) l) ⊎ (IsSealed key payload × ToCerts r key l)

  abbrev pub ToKey : Request → Left → Type 0
  ToKey r l = ((key_of n.channels r.channel ≡ None) × Quiet (unsealed (replies.UnknownChannel r.channel)) l) ⊎ ((key : List ℕ) × (key_of n.channels r.channel ≡ Some key) × ToSeal r key l)

  abbrev pub Goes : Left → Type 0
  Goes l =
      (((r : Request) → Spells r payload → ⊥) × ((offset : ℕ) × (request_of payload ≡ Err (wire.Malformed offset)) × Quiet (unsealed (replies.Malformed offset)) l))
      ⊎ ((r : Request) × Spells r payload × ToKey r l)

  -- ---- two of them

  module _ (l m : Left) (choices : SameChoice l.choice m.choice) where
    -- both left the same
    abbrev pub Same : Type 0
    Same = (l.readings ≡ m.readings) × (l.calls ≡ m.calls) × (l.journals ≡ m.journals) × (l.sent ≡ m.sent)

    both_still : (want : Sent) → l.calls ≡ m.calls → Still want l → Still want m → Same
    both_still want same x y = (x.0 ∙ sym y.0, same, x.1 ∙ sym y.1, x.2 ∙ sym y.2)

    both_quiet : (want : Sent) → Quiet want l → Quiet want m → Same
    both_quiet want x y = both_still want (x.0 ∙ sym y.0) x.1 y.1

    rulings_agree : (r : Request) (key : List ℕ) (certs : List Certificate) (fixed : ObjectFixed) → l.calls ≡ m.calls → ToRuling r key certs fixed l → ToRuling r key certs fixed m → Same
    rulings_agree r key certs fixed same x y =
        let (reading, rest) = heads y.reading x.reading m.readings l.readings (sym y.read ∙ x.read) in
        let plan : y.plan ≡ x.plan = same_Some y.plan x.plan (sym y.planned ∙ x.planned) in
        let guarded = subst (λ (t : ℕ). Guarded n.plans x.plan (seeking_by n r certs fixed t) K m.journals y.reply m.choice) reading
        (subst (λ (p : Plan). Guarded n.plans p (seeking_by n r certs fixed y.reading) K m.journals y.reply m.choice) plan y.guarded) in
        let ends = guarded_agree n.plans x.plan (seeking_by n r certs fixed x.reading) K l.journals m.journals x.reply y.reply l.choice m.choice choices x.guarded guarded in
        (sym rest, same, ends.0, x.said ∙ ap (sealed key r) ends.1 ∙ sym y.said)

    objects_agree : (r : Request) (key : List ℕ) (certs : List Certificate) → l.calls ≡ m.calls → ToObject r key certs l → ToObject r key certs m → Same
    objects_agree r key certs same (inl (none, x)) (inl (never, y)) = both_still (sealed key r (replies.UnknownObject r.object)) same x y
    objects_agree r key certs same (inl (none, x)) (inr (fixed, is, y)) = absurd (none-some fixed (sym none ∙ is))
    objects_agree r key certs same (inr (fixed, is, x)) (inl (none, y)) = absurd (none-some fixed (sym none ∙ is))
    objects_agree r key certs same (inr (fixed, is, x)) (inr (other, also, y)) =
        rulings_agree r key certs fixed same x (subst (λ (f : ObjectFixed). ToRuling r key certs f m) (same_Some other fixed (sym also ∙ is)) y)

    ends_agree : (r : Request) (key : List ℕ) (end : End) → l.calls ≡ m.calls → ToEnd r key end l → ToEnd r key end m → Same
    ends_agree r key (Opened certs) same x y = objects_agree r key certs same x y
    ends_agree r key (RefusedAt index code) same x y = both_still (sealed key r (replies.CertRefused index code)) same x y
    ends_agree r key (FailedAt index) same x y = both_still (sealed key r (replies.RelayFailed index)) same x y

    seals_agree : (r : Request) (key : List ℕ) → ToSeal r key l → ToSeal r key m → Same
    seals_agree r key (inl (not, x)) (inl (never, y)) = both_quiet (unsealed replies.BadSeal) x y
    seals_agree r key (inl (not, x)) (inr (is, y)) = absurd (not is)
    seals_agree r key (inr (is, x)) (inl (not, y)) = absurd (not is)
    seals_agree r key (inr (is, (end, certs, x))) (inr (also, (other, opened, y))) =
        let same = certs_agree n.relay_key r.certs calls l.calls m.calls end other certs opened in
        ends_agree r key end same.0 x (subst (λ (e : End). ToEnd r key e m) (sym same.1) y)

    keys_agree : (r : Request) → ToKey r l → ToKey r m → Same
    keys_agree r (inl (none, x)) (inl (never, y)) = both_quiet (unsealed (replies.UnknownChannel r.channel)) x y
    keys_agree r (inl (none, x)) (inr (key, is, y)) = absurd (none-some key (sym none ∙ is))
    keys_agree r (inr (key, is, x)) (inl (none, y)) = absurd (none-some key (sym none ∙ is))
    keys_agree r (inr (key, is, x)) (inr (other, also, y)) = seals_agree r key x (subst (λ (k : List ℕ). ToSeal r k m) (same_Some other key (sym also ∙ is)) y)

    one_offset : (a b : ℕ) → request_of payload ≡ Err (wire.Malformed a) → request_of payload ≡ Err (wire.Malformed b) → a ≡ b
    one_offset a b x y = let both = sym x ∙ y in cc

    pub goes_agree : Goes l → Goes m → Same
    goes_agree (inl (none, (offset, is, x))) (inl (never, (other, also, y))) =
        both_quiet (unsealed (replies.Malformed offset)) x (subst (λ (k : ℕ). Quiet (unsealed (replies.Malformed k)) m) (one_offset other offset also is) y)
    goes_agree (inl (none, x)) (inr (r, spelled, y)) = absurd (none r spelled)
    goes_agree (inr (r, spelled, x)) (inl (none, y)) = absurd (none r spelled)
    goes_agree (inr (r, spelled, x)) (inr (q, also, y)) = keys_agree r x (subst (λ (z : Request). ToKey z m) (spelled_once q r payload also spelled) y)

-- ---- a course goes so

-- what a course left
abbrev pub left_by : List ℕ → List LinkCall → Journals → Sent → Option Cached → Left
left_by more rest J sent choice = record { readings = more; calls = rest; journals = J; sent = sent; choice = choice }

module _ (n : Node) (K J : Journals) (payload : List ℕ) (legal : AreLegal n J) (more : List ℕ) (rest : List LinkCall) where
  abbrev All : Used → Sent → Option Cached → Type 0
  All used sent choice = Goes n K payload (used.readings ++ more) (used.calls ++ rest) (left_by more rest J sent choice)

  asked_so : {r : Request} {key : List ℕ} (used : Used) (sent : Sent) (choice : Option Cached) → IsAsked n.channels payload r key → ToCerts n K payload (used.readings ++ more) (used.calls ++ rest) r key (left_by more rest J sent choice) → All used sent choice
  asked_so {r} {key} used sent choice asked x = inr (r, asked.spelled, inr (key, asked.keyed, inr (asked.seal, x)))

  pub goes_by : (used : Used) (sent : Sent) (c : CourseAfter n K J payload used sent) → sent.reply ≢ replies.NoMemory → Grows K J used.places → All used sent (choice_of c)
  goes_by used sent (malformed {offset} none reads) known g = inl (none, (offset, reads, (refl, (refl, grown_none K J g, refl))))
  goes_by used sent (unknown_channel r spelled none) known g = inr (r, spelled, inl (none, (refl, (refl, grown_none K J g, refl))))
  goes_by used sent (bad_seal r key spelled keyed other) known g = inr (r, spelled, inr (key, keyed, inl (other, (refl, (refl, grown_none K J g, refl)))))
  goes_by used sent (cert_refused {r} {key} {calls} {index} {code} asked first) known g =
      asked_so used sent None asked (RefusedAt index code, first_refused n.relay_key r.certs calls rest index code first, (refl, grown_none K J g, refl))
  goes_by used sent (relay_failed {r} {key} {calls} {index} asked first) known g =
      asked_so used sent None asked (FailedAt index, first_failed n.relay_key r.certs calls rest index first, (refl, grown_none K J g, refl))
  goes_by used sent (unknown_object {r} {key} {calls} {certs} opened none) known g =
      asked_so used sent None opened.asked (Opened certs, all_opened n.relay_key r.certs calls rest certs opened.opened, inl (none, (refl, grown_none K J g, refl)))
  goes_by used sent (ruled {own} {reply} t reading plan planned is) known g =
      asked_so used sent (choice_of (ruled t reading plan planned is)) t.arrived.presented.asked (
        Opened t.certs,
        all_opened n.relay_key t.request.certs t.calls rest t.certs t.arrived.presented.opened,
        inr (
          t.object,
          t.arrived.there,
          record {
            reading = reading;
            read = refl;
            plan = plan;
            planned = planned;
            reply = reply;
            said = refl;
            guarded = guarded_by n.plans plan (seeking_by n t.request t.certs t.object reading) K J planned legal.shards (legal.objects t.request.object t.object t.arrived.there) own reply is known g;
          },
        ),
      )
  goes_by used sent _ known g = absurd (known refl)
