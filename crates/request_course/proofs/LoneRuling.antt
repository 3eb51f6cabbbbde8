-- What came of a request at its object, told by the entries that were there before, where nobody else steps a cell.
use Rattle.std.proofs.Common.{◌≡◌, ◌≢◌, ℕ, ◌<◌, ◌≤◌, Bool, true, false, List, [], ◌∷◌, ◌++◌, length, map, All, Option, None, Some, slice_get, find, refl, sym, ap, subst, ◌∙◌, inl, inr, arith, append-nil, length-append}
use Rattle.std.proofs.lemmas.List.Elements.{All-nil, All-cons, All-head, All-tail}
use Rattle.std.proofs.lemmas.Option.{slice_get_within}
use Rattle.object_core.specs.Objects.{ObjectEntry}
use Rattle.object_core.specs.declared.ruling.Ruling.TheVariants as rulings
use Rattle.proof_cache.specs.Cache.{is_for}
use Rattle.proof_cache.specs.Cached.{Cached}
use Rattle.taos_wire.specs.Reply as replies
use Rattle.taos_wire.specs.Reply.{Reply, LinkSent}
use Rattle.agent_core.specs.declared.told.Told.{Told}
use Rattle.agent_core.specs.declared.asked.Denial.{Denial}
use Rattle.agent_core.specs.declared.asked.Settled.{Settled}
use Rattle.agent_core.specs.State.{Plan, Ask, Asks, Keeps}
use Rattle.agent_core.specs.Caches.{unlapsed}
use Rattle.agent_core.specs.Journals.{Entry, entry, Stands, told_at, cache_after, MayFollow, IsJudged}
use Rattle.agent_core.specs.Asked.{IsHitAt, IsGrantedAt, IsDeniedAt, IsToldOf, IsGrant, by_kept, was_kept, was_dropped, had_no_room}
use Rattle.request_course.specs.Cells.{Journals, Place, OfShard, OfObject, in_shard, in_object, AreLegalShards}
use Rattle.request_course.specs.Asking.{TellsDenial, IsUnruled, full, replayed, channel_full}
use Rattle.request_course.specs.AtObject.{Seeking, Own, places_at, ruled_as, asks_for, gives_for, told_or, LeavesOut, IsAskedWith, IsGuardedAfter, object_is_full, no_ruling, denied, granted}
use Rattle.request_course.specs.Effects.{ShardStep, its_place, IsPerformed}
use Rattle.request_course.specs.Operations.{effect_of}
use Rattle.request_course.specs.Choices.{made, made_for}
use Rattle.request_course.proofs.Going.{longer_by}
use Rattle.request_course.proofs.Growing.{Grows, grown_none, same_front, add_shard, add_object, shard_next, shard_on, object_next, object_on, unchanged_in}
use Rattle.request_course.proofs.Walks.{performs}
use Rattle.request_course.proofs.OneRuling.{Guarded, Asked, ByAsk, Granting, SettledAs}

module _ (plans : List Plan) (plan : Plan) (x : Seeking) (K J : Journals) (planned : slice_get plans x.shard ≡ Some plan) (legal : AreLegalShards plans J.shards) where
  abbrev there : List ObjectEntry
  there = K.objects x.request.object

  abbrev the_ask : Ask
  the_ask = asks_for x there

  abbrev AskedTo : Reply → Option Cached → Type 0
  AskedTo reply choice = Asked plans plan x K J reply choice

  abbrev IsBy : ℕ → Told → Reply → Option Cached → Type 0
  IsBy place told reply choice = ByAsk plans plan x K place told J reply choice

  some : 0 < length plans
  some = omega (arith, slice_get_within plans x.shard plan planned)

  may_stand : (place : ℕ) (before : List Entry) (e : Entry) → Stands (J.shards x.shard) place before e → MayFollow plan before e
  may_stand place before e s = legal x.shard plan planned before e s.rest s.is

  -- the Ask is the next entry of its shard
  asked_by : (place : ℕ) (before : List Entry) (told : Told) (ps : List Place) (reply : Reply) (choice : Option Cached) → Grows K J (in_shard x.shard place ∷ ps) → Stands (J.shards x.shard) place before (entry (Asks the_ask) told) → IsBy place told reply choice → AskedTo reply choice
  asked_by place before told ps reply choice g s by =
      let next = shard_next K J ps x.shard place before (entry (Asks the_ask) told) g s in
      let may = may_stand place before (entry (Asks the_ask) told) s in
      record {
        room = subst (λ (l : List Entry). length l < plan.limit) next.front may.room;
        place = place;
        at = next.at;
        told = told;
        tells = subst (λ (l : List Entry). told ≡ told_at plan l (Asks the_ask)) next.front may.tells;
        by = by;
      }

  -- ---- there is no ruling

  in_shards : (o : ℕ) (own : List ℕ) → All (λ (p : Place). p.cell ≢ OfObject o) (map (in_shard x.shard) own)
  in_shards o [] = All-nil (λ (p : Place). p.cell ≢ OfObject o)
  in_shards o (p ∷ own) = All-cons (λ (p : Place). p.cell ≢ OfObject o) (in_shard x.shard p) (map (in_shard x.shard) own) (λ e. cc) (in_shards o own)

  unruled_front : (own : List ℕ) (before : List ObjectEntry) (reply : Reply) → reply ≢ replies.NoMemory → Grows K J ((map (in_shard x.shard) own ++ []) ++ []) → IsAskedWith there (J.objects x.request.object) before x.fixed.limit own reply → before ≡ there
  unruled_front own before reply known g b =
      let all = subst (All (λ (p : Place). p.cell ≢ OfObject x.request.object)) (sym (append-nil (map (in_shard x.shard) own ++ []) ∙ append-nil (map (in_shard x.shard) own))) (in_shards x.request.object own) in
      let same : length (J.objects x.request.object) ≡ length there = unchanged_in K J ((map (in_shard x.shard) own ++ []) ++ []) (OfObject x.request.object) g all in
      same_front there before (b.after (inr known)) (omega (arith, same, longer_by (b.after (inr known)), longer_by b.begins))

  by_unruled : (own : List ℕ) (reply : Reply) (choice : Option Cached) → IsUnruled plan (J.shards x.shard) x.shard the_ask own reply → reply ≢ replies.NoMemory → Grows K J ((map (in_shard x.shard) own ++ []) ++ []) → length there < x.fixed.limit → Guarded plans plan x K J reply choice
  by_unruled own reply choice (full at) known g room =
      let same = grown_none K J g in
      inr (room, inl (ap (λ (I : Journals). length (I.shards x.shard)) (sym same) ∙ at, (same, refl)))
  by_unruled own reply choice (replayed {place} {last} t) known g room =
      inr (room, inr (asked_by place t.0 (Told.Replayed last) [] reply choice g t.1 (grown_none _ J (shard_on K J [] x.shard place t.0 (entry (Asks the_ask) (Told.Replayed last)) g t.1), refl)))
  by_unruled own reply choice (channel_full {place} {held} t) known g room =
      inr (room, inr (asked_by place t.0 (Told.Full held) [] reply choice g t.1 (grown_none _ J (shard_on K J [] x.shard place t.0 (entry (Asks the_ask) (Told.Full held)) g t.1), refl)))
  by_unruled own reply choice _ known _ room = absurd (known refl)

  -- ---- it is denied

  by_denied : (place at : ℕ) (denial : Denial) (told : LinkSent) (choice : Option Cached) (before : List ObjectEntry) →
      IsDeniedAt plan (J.shards x.shard) the_ask place denial → TellsDenial the_ask.list denial told → Stands (J.objects x.request.object) at before (ruled_as x.shard place x.request.op rulings.Denied) →
      Grows K J (in_shard x.shard place ∷ in_object x.request.object at ∷ []) → AskedTo (replies.Denied x.shard place told) choice
  by_denied place at denial told choice before d tells s g =
      let e = entry (Asks the_ask) Told.Miss in
      let o = x.request.object in
      let ps = in_object o at ∷ [] in
      let next = shard_next K J ps x.shard place d.before e g d.stands in
      let h = shard_on K J ps x.shard place d.before e g d.stands in
      asked_by place d.before Told.Miss ps (replies.Denied x.shard place told) choice g d.stands
      (inr (
        told,
        record {
          moment = d.moment;
          certs = d.certs;
          link = d.denied.link;
          denial = denial;
          judged = subst (λ (l : List Entry). IsJudged plan l the_ask d.moment d.certs) next.front d.judged;
          none = d.denied.none;
          first = d.denied.first;
          names = d.denied.names;
          tells = tells;
        },
        (grown_none _ J (object_on (add_shard K x.shard e) J [] o at before (ruled_as x.shard place x.request.op rulings.Denied) h s), refl),
      ))

  denied_front : (place at : ℕ) (a : Ask) (before : List ObjectEntry) (shards : List Entry) (e : ObjectEntry) → Stands (J.shards x.shard) place shards (entry (Asks a) Told.Miss) → Stands (J.objects x.request.object) at before e →
      Grows K J (in_shard x.shard place ∷ in_object x.request.object at ∷ []) → before ≡ there
  denied_front place at a before shards e d s g =
      (object_next _ J [] x.request.object at before e (shard_on K J (in_object x.request.object at ∷ []) x.shard place shards (entry (Asks a) Told.Miss) g d) s).front

  -- ---- it is granted

  module _ (at : ℕ) (steps : List ShardStep) where
    abbrev after_ask : List Place
    after_ask = in_object x.request.object at ∷ map its_place steps

    abbrev all_places : List ℕ → List Place
    all_places asks = (map (in_shard x.shard) asks ++ in_object x.request.object at ∷ []) ++ map its_place steps

    module _ (a : Ask) (place e : ℕ) (c : Cached) (before : List ObjectEntry) (o : ObjectEntry) (s : Stands (J.objects x.request.object) at before o) where
      front_after : (shards : List Entry) (told : Told) → Stands (J.shards x.shard) place shards (entry (Asks a) told) → Grows K J (in_shard x.shard place ∷ after_ask) → before ≡ there
      front_after shards told d g = (object_next _ J (map its_place steps) x.request.object at before o (shard_on K J after_ask x.shard place shards (entry (Asks a) told) g d) s).front

      front_kept : (shards others : List Entry) (told said : Told) (keep : ℕ) → Stands (J.shards x.shard) place shards (entry (Asks a) told) → Stands (J.shards x.shard) keep others (entry (Keeps place e c) said) →
          Grows K J (in_shard x.shard place ∷ in_shard x.shard keep ∷ after_ask) → before ≡ there
      front_kept shards others told said keep d k g =
          let h = shard_on K J (in_shard x.shard keep ∷ after_ask) x.shard place shards (entry (Asks a) told) g d in
          (object_next _ J (map its_place steps) x.request.object at before o (shard_on _ J after_ask x.shard keep others (entry (Keeps place e c) said) h k) s).front

      grant_front : (kept : Bool) (settled : Settled) (asks : List ℕ) → IsGrant plan (J.shards x.shard) a place e c kept settled asks → Grows K J (all_places asks) → before ≡ there
      grant_front kept settled asks (by_kept h) g = front_after h.before (Told.Hit e) h.stands g
      grant_front kept settled asks (was_kept {keep} m t) g = front_kept m.before t.0 Told.Miss Told.Kept keep m.stands t.1 g
      grant_front kept settled asks (was_dropped {keep} {cause} m t) g = front_kept m.before t.0 Told.Miss (Told.Dropped cause) keep m.stands t.1 g
      grant_front kept settled asks (had_no_room m at_limit) g = front_after m.before Told.Miss m.stands g

    module _ (place e : ℕ) (c : Cached) (before : List ObjectEntry) (refused : Option Reply) (s : Stands (J.objects x.request.object) at before (ruled_as x.shard place x.request.op (rulings.Granted e)))
        (p : IsPerformed plans J.shards x.request.op (effect_of x.request.op x.certs x.reading) steps refused) where
      abbrev its_reply : Bool → Reply
      its_reply kept = told_or refused (replies.Granted kept e x.shard place c.proof c.cites (gives_for x there))

      -- from the journals in which it is settled
      granting : (M N : Journals) (kept : Bool) → SettledAs plans plan x K kept M place e c N → Grows N J after_ask → Granting plans plan x K M place kept e c J (its_reply kept)
      granting M N kept settles g = record {
        N = N;
        settles = settles;
        refused = refused;
        performed = performs plans x.request.op x.certs x.reading (add_object N x.request.object (ruled_as x.shard place x.request.op (rulings.Granted e))) J legal some steps refused
            (object_on N J (map its_place steps) x.request.object at before (ruled_as x.shard place x.request.op (rulings.Granted e)) g s) p;
        said = refl;
      }

      hit_by : (h : IsHitAt plan (J.shards x.shard) the_ask place e c) → Grows K J (in_shard x.shard place ∷ after_ask) → AskedTo (its_reply true) None
      hit_by h g =
          let a = entry (Asks the_ask) (Told.Hit e) in
          let next = shard_next K J after_ask x.shard place h.before a g h.stands in
          let M = add_shard K x.shard a in
          asked_by place h.before (Told.Hit e) after_ask (its_reply true) None g h.stands (
            c,
            record {
              moment = h.moment;
              certs = h.certs;
              grant = h.proof.grant;
              judged = subst (λ (l : List Entry). IsJudged plan l the_ask h.moment h.certs) next.front h.judged;
              stands = h.proof.stands;
              found = subst (λ (l : List Entry). find (is_for the_ask.subject h.proof.grant.who) (unlapsed h.moment (cache_after plan l)) ≡ Some c) next.front h.found;
            },
            granting M M true refl (shard_on K J after_ask x.shard place h.before a g h.stands),
          )

      miss_by : (ps : List Place) (m : IsGrantedAt plan (J.shards x.shard) the_ask place e c) → Grows K J (in_shard x.shard place ∷ ps) → Granting plans plan x K (add_shard K x.shard (entry (Asks the_ask) Told.Miss)) place false e c J (its_reply false) → AskedTo (its_reply false) (Some c)
      miss_by ps m g then =
          let next = shard_next K J ps x.shard place m.before (entry (Asks the_ask) Told.Miss) g m.stands in
          asked_by place m.before Told.Miss ps (its_reply false) (Some c) g m.stands
          (inl (
            e,
            c,
            record {
              moment = m.moment;
              certs = m.certs;
              grant = m.granted.grant;
              judged = subst (λ (l : List Entry). IsJudged plan l the_ask m.moment m.certs) next.front m.judged;
              first = m.granted.first;
            },
            refl,
            then,
          ))

      -- the proof was to be kept
      keep_by : (keep : ℕ) (said : Told) (m : IsGrantedAt plan (J.shards x.shard) the_ask place e c) (t : IsToldOf plan (J.shards x.shard) the_ask (Keeps place e c) keep said) → Grows K J (in_shard x.shard place ∷ in_shard x.shard keep ∷ after_ask) → AskedTo (its_reply false) (Some c)
      keep_by keep said m t g =
          let a = entry (Asks the_ask) Told.Miss in
          let k = entry (Keeps place e c) said in
          let M = add_shard K x.shard a in
          let h = shard_on K J (in_shard x.shard keep ∷ after_ask) x.shard place m.before a g m.stands in
          let next = shard_next M J after_ask x.shard keep t.0 k h t.1 in
          let may = may_stand keep t.0 k t.1 in
          let tells : said ≡ told_at plan (M.shards x.shard) (Keeps place e c) = subst (λ (l : List Entry). said ≡ told_at plan l (Keeps place e c)) next.front may.tells in
          miss_by (in_shard x.shard keep ∷ after_ask) m g
          (granting M (add_shard M x.shard k) false (inr (subst (λ (l : List Entry). length l < plan.limit) next.front may.room, ap (λ (told : Told). add_shard M x.shard (entry (Keeps place e c) told)) tells))
          (shard_on M J after_ask x.shard keep t.0 k h t.1))

      elsewhere : (ss : List ShardStep) → All (λ (t : ShardStep). t.shard ≢ x.shard) ss → All (λ (q : Place). q.cell ≢ OfShard x.shard) (map its_place ss)
      elsewhere [] all = All-nil (λ (q : Place). q.cell ≢ OfShard x.shard)
      elsewhere (t ∷ ss) all = All-cons (λ (q : Place). q.cell ≢ OfShard x.shard) (its_place t) (map its_place ss)
          (λ same. All-head (λ (u : ShardStep). u.shard ≢ x.shard) t ss all (one_shard t.shard x.shard same)) (elsewhere ss (All-tail (λ (u : ShardStep). u.shard ≢ x.shard) t ss all))
        where
          one_shard : (s t : ℕ) → OfShard s ≡ OfShard t → s ≡ t
          one_shard s t e = cc

      -- there was no room for it
      roomless_by : (m : IsGrantedAt plan (J.shards x.shard) the_ask place e c) → length (J.shards x.shard) ≡ plan.limit → All (λ (t : ShardStep). t.shard ≢ x.shard) steps → Grows K J (in_shard x.shard place ∷ after_ask) → AskedTo (its_reply false) (Some c)
      roomless_by m at_limit out g =
          let a = entry (Asks the_ask) Told.Miss in
          let M = add_shard K x.shard a in
          let h = shard_on K J after_ask x.shard place m.before a g m.stands in
          let same : length (J.shards x.shard) ≡ length (M.shards x.shard) = unchanged_in M J after_ask (OfShard x.shard) h
          (All-cons (λ (q : Place). q.cell ≢ OfShard x.shard) (in_object x.request.object at) (map its_place steps) (λ e. cc) (elsewhere steps out)) in
          miss_by after_ask m g (granting M M false (inl (sym same ∙ at_limit, refl)) h)

      grant_by : (kept : Bool) (settled : Settled) (asks : List ℕ) → IsGrant plan (J.shards x.shard) the_ask place e c kept settled asks → LeavesOut settled x.shard steps → Grows K J (all_places asks) → AskedTo (its_reply kept) (made kept c)
      grant_by kept settled asks (by_kept h) out g = hit_by h g
      grant_by kept settled asks (was_kept {keep} m t) out g = keep_by keep Told.Kept m t g
      grant_by kept settled asks (was_dropped {keep} {cause} m t) out g = keep_by keep (Told.Dropped cause) m t g
      grant_by kept settled asks (had_no_room m at_limit) out g = roomless_by m at_limit out g

  -- ---- the whole

  module _ (within : length (J.objects x.request.object) ≤ x.fixed.limit) where
    room_before : (at : ℕ) (before : List ObjectEntry) (e : ObjectEntry) → Stands (J.objects x.request.object) at before e → before ≡ there → length there < x.fixed.limit
    room_before at before e s is = omega (arith, within, ap (λ (l : List ObjectEntry). length l) s.is, length-append before (e ∷ s.rest), ap (λ (l : List ObjectEntry). length l) is)

    pub guarded_by : (own : Own) (reply : Reply) (r : IsGuardedAfter plans plan (K, J) x own reply) → reply ≢ replies.NoMemory → Grows K J (places_at x own) → Guarded plans plan x K J reply (made_for r)
    guarded_by own reply (object_is_full at) known g =
        let same = grown_none K J g in
        inl (ap (λ (I : Journals). length (I.objects x.request.object)) (sym same) ∙ at, (same, refl))
    guarded_by own reply (no_ruling {own = asks} before b u) known g =
        let is = unruled_front asks before reply known g b in
        by_unruled asks reply None (subst (λ (l : List ObjectEntry). IsUnruled plan (J.shards x.shard) x.shard (asks_for x l) asks reply) is u) known g (subst (λ (l : List ObjectEntry). length l < x.fixed.limit) is (b.room (inr known)))
    guarded_by own reply (denied {place} {at} {denial} {told} before s d tells) known g =
        let e = ruled_as x.shard place x.request.op rulings.Denied in
        let is = denied_front place at (asks_for x before) before d.before e d.stands s g in
        let here = subst (λ (l : List ObjectEntry). IsDeniedAt plan (J.shards x.shard) (asks_for x l) place denial) is d in
        let said = subst (λ (l : List ObjectEntry). TellsDenial (asks_for x l).list denial told) is tells in
        inr (room_before at before e s is, inr (by_denied place at denial told None before here said s g))
    guarded_by own reply (granted {place} {at} {entry = n} {c} {kept} {settled} {asks} {steps} {refused} before s r p out) known g =
        let e = ruled_as x.shard place x.request.op (rulings.Granted n) in
        let is = grant_front at steps (asks_for x before) place n c before e s kept settled asks r g in
        let here = subst (λ (l : List ObjectEntry). IsGrant plan (J.shards x.shard) (asks_for x l) place n c kept settled asks) is r in
        let asked = grant_by at steps place n c before refused s p kept settled asks here out g in
        inr (
          room_before at before e s is,
          inr (subst (λ (l : List ObjectEntry). AskedTo (told_or refused (replies.Granted kept n x.shard place c.proof c.cites (gives_for x l))) (made kept c)) (sym is) asked),
        )
