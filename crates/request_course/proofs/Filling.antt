-- A journal that a turn found full has no place of a later one.
use Rattle.std.proofs.Common.{◌≡◌, ◌≢◌, ℕ, ◌<◌, ◌≤◌, Bool, true, false, List, [], ◌∷◌, ◌++◌, length, map, get_or, slice_get, All, AllPairs, Contains, Option, Some, refl, sym, ap, subst, subst₂, ◌∙◌, arith, inl, inr, append_assoc, length-append}
use Rattle.std.proofs.lemmas.List.Elements.{All-nil, All-cons, All-head, All-tail, All-append, All-contains, filter_map-append}
use Rattle.std.proofs.lemmas.List.Quantifiers.{all_pairs_push}
use Rattle.std.proofs.lemmas.Option.{same_Some, get_or_from_slice_get, slice_get_within}
use Rattle.taos_wire.specs.Reply as replies
use Rattle.taos_wire.specs.Reply.{Reply, Granted, Sent, status_of}
use Rattle.object_core.specs.Objects.{ObjectEntry}
use Rattle.object_core.specs.Operation.{Op}
use Rattle.object_core.specs.declared.ruling.Ruling.TheVariants as rulings
use Rattle.object_core.specs.Shelving.{ObjectFixed, fixed_at}
use Rattle.stmt_codec.specs.Certificates.{Certificate}
use Rattle.proof_cache.specs.Cached.{Cached}
use Rattle.agent_core.specs.declared.asked.Settled.{Settled}
use Rattle.agent_core.specs.declared.told.Told.{Told}
use Rattle.agent_core.specs.State.{Plan, Ask, Event, Asks}
use Rattle.agent_core.specs.Journals.{Entry, Stands, entry}
use Rattle.agent_core.specs.Asked.{IsGrant, by_kept, was_kept, was_dropped, had_no_room}
use Rattle.request_course.specs.Asking.{IsUnruled, full, replayed, channel_full, untold, unanswered, shard_full}
use Rattle.request_course.specs.AtObject.{Seeking, Own, own_at, places_at, ruled_as, told_or, object_full, gives_for, IsGuarded, object_is_full, no_ruling, denied, granted}
use Rattle.request_course.specs.Cells.{Node, HasPlan, Journals, Cell, OfShard, OfObject, Place, in_shard, in_object, number_in, numbers_in, entries_in, AreLegal, Extends}
use Rattle.request_course.specs.Course.{Used, Course, ruled, plain, pulled}
use Rattle.request_course.specs.Effects.{ShardStep, its_place, step_at, IsStep, IsPerformed, through, not_held, no_room, no_place}
use Rattle.request_course.specs.Operations.{effect_of}
use Rattle.request_course.specs.Run.{Turn, IsCourse, IsMade, WasMade, FoundFull, IsFilledBefore}
use Rattle.request_course.specs.Laws.{NoEntryAfterFull}
use Rattle.request_course.proofs.Going.{numbers_here}
use Rattle.request_course.proofs.Places.{stands_at, was_there, numbers_all, ruling_place, the_only}
use Rattle.request_course.proofs.Roomless.{other_reply, room_status}
use Rattle.request_course.proofs.Short.{short}
use Rattle.request_course.proofs.Staying.{Turned}

-- ---- what status 10, and a grant without a place for its proof, say of the journal

same_number : (h s l m : ℕ) → shard_full h l ≡ shard_full s m → h ≡ s
same_number h s l m e = cc

same_object : (h s l m : ℕ) → object_full h l ≡ object_full s m → h ≡ s
same_object h s l m e = cc

which : (a b h s l m : ℕ) → replies.JournalFull a h l ≡ replies.JournalFull b s m → a ≡ b
which a b h s l m e = cc

two_sorts : (h s l m : ℕ) → object_full h l ≡ shard_full s m → ⊥
two_sorts h s l m e = let same = which 0 1 h s l m e in absurd (omega (arith, same))

no_number : (q : ℕ) → [] ≡ q ∷ [] → ⊥
no_number q e = cc

none_in : (k : ℕ) → Contains [] k → ⊥
none_in k (i, lt, is) = absurd (omega (arith, lt))

-- the journal of the cell stands at its limit
abbrev IsFull : Node → Journals → Cell → Type 0
IsFull n J (OfShard s) = (plan : Plan) × HasPlan n s plan × (length (J.shards s) ≡ plan.limit)
IsFull n J (OfObject o) = (f : ObjectFixed) × (fixed_at n.objects o ≡ Some f) × (length (J.objects o) ≡ f.limit)

module _ (n : Node) (J : Journals) (h : ℕ) (plan : Plan) (planned : HasPlan n h plan) (a : Ask) where
  unruled_full : (own : List ℕ) (reply : Reply) → IsUnruled plan (J.shards h) h a own reply → (s limit : ℕ) → reply ≡ shard_full s limit → IsFull n J (OfShard s)
  unruled_full own reply (full at) s limit e = subst (λ (k : ℕ). IsFull n J (OfShard k)) (same_number h s plan.limit limit e) (plan, planned, at)
  unruled_full own reply _ s limit e = absurd cc

  no_object_full : (own : List ℕ) (reply : Reply) → IsUnruled plan (J.shards h) h a own reply → (o limit : ℕ) → reply ≡ object_full o limit → ⊥
  no_object_full own reply (full at) o limit e = two_sorts o h limit plan.limit (sym e)
  no_object_full own reply _ o limit e = cc

  not_made : (own : List ℕ) (reply : Reply) → IsUnruled plan (J.shards h) h a own reply → (s : ℕ) → IsMade s reply → ⊥
  not_made own reply (full at) s made = made
  not_made own reply _ s made = made

  two_first : (p k q : ℕ) (rest : List ℕ) → p ∷ k ∷ rest ≡ q ∷ [] → ⊥
  two_first p k q rest e = absurd cc

  -- a proof that was made and has no place found no room
  unkept_full : (place entry : ℕ) (c : Cached) (kept : Bool) (settled : Settled) (own : List ℕ) → IsGrant plan (J.shards h) a place entry c kept settled own →
      (s : ℕ) (content : List ℕ) → IsMade s (Granted kept entry h place c.proof c.cites content) → (q : ℕ) (rest : List ℕ) → own ++ rest ≡ q ∷ [] → IsFull n J (OfShard s)
  unkept_full place entry c kept settled own (by_kept hit) s content made q rest one = absurd made
  unkept_full place entry c kept settled own (was_kept {keep} g t) s content made q rest one = absurd (two_first place keep q rest one)
  unkept_full place entry c kept settled own (was_dropped {keep} g t) s content made q rest one = absurd (two_first place keep q rest one)
  unkept_full place entry c kept settled own (had_no_room g at) s content made q rest one = subst (λ (k : ℕ). IsFull n J (OfShard k)) made (plan, planned, at)

  not_miss : (b : Ask) (e : ℕ) → entry (Asks a) (Told.Hit e) ≡ entry (Asks b) Told.Miss → ⊥
  not_miss b e same = two_tales e (ap (λ (x : Entry). x.told) same)
    where
      two_tales : (e : ℕ) → Told.Hit e ≡ Told.Miss → ⊥
      two_tales e same = cc

  -- one that was made is not one that was kept before
  missed_full : (place e : ℕ) (c : Cached) (kept : Bool) (settled : Settled) (own : List ℕ) → IsGrant plan (J.shards h) a place e c kept settled own →
      (b : Ask) → slice_get (J.shards h) place ≡ Some (entry (Asks b) Told.Miss) → (q : ℕ) (rest : List ℕ) → own ++ rest ≡ q ∷ [] → IsFull n J (OfShard h)
  missed_full place e c kept settled own (by_kept hit) b missed q rest one =
      absurd (not_miss b e (same_Some (entry (Asks a) (Told.Hit e)) (entry (Asks b) Told.Miss) (sym (stands_at hit.stands) ∙ missed)))
  missed_full place e c kept settled own (was_kept {keep} g t) b missed q rest one = absurd (two_first place keep q rest one)
  missed_full place e c kept settled own (was_dropped {keep} g t) b missed q rest one = absurd (two_first place keep q rest one)
  missed_full place e c kept settled own (had_no_room g at) b missed q rest one = (plan, planned, at)

-- what was made is told by a grant
made_grants : (s : ℕ) (reply : Reply) → IsMade s reply → status_of reply ≡ 0
made_grants s (Granted false entry shard place proof cites content) made = refl
made_grants s _ made = absurd made

module _ (n : Node) (J : Journals) (op : Op) (certs : List Certificate) (reading : ℕ) (told : Reply) where
  performed_full : (steps : List ShardStep) (refused : Option Reply) → IsPerformed n.plans J.shards op (effect_of op certs reading) steps refused → (s limit : ℕ) → (told ≡ shard_full s limit → ⊥) → told_or refused told ≡ shard_full s limit → IsFull n J (OfShard s)
  performed_full steps refused (through w lets) s limit not e = absurd (not e)
  performed_full steps refused (not_held digest is w none) s limit not e = absurd cc
  performed_full steps refused (no_room {shard} {told = said} {reply} lacks f) s limit not e = absurd (other_reply shard said reply (shard_full s limit) 10 lacks refl (omega arith) e)
  performed_full steps refused (no_place {shard} {limit = l} f) s limit not e = subst (λ (k : ℕ). IsFull n J (OfShard k)) (same_number shard s l limit e) (f.plan, f.planned, f.full)

  performed_object : (steps : List ShardStep) (refused : Option Reply) → IsPerformed n.plans J.shards op (effect_of op certs reading) steps refused → (o limit : ℕ) → (told ≡ object_full o limit → ⊥) → told_or refused told ≡ object_full o limit → ⊥
  performed_object steps refused (through w lets) o limit not e = not e
  performed_object steps refused (not_held digest is w none) o limit not e = cc
  performed_object steps refused (no_room {shard} {told = said} {reply} lacks f) o limit not e = other_reply shard said reply (object_full o limit) 10 lacks refl (omega arith) e
  performed_object steps refused (no_place {shard} {limit = l} f) o limit not e = two_sorts o shard limit l (sym e)

  performed_made : (steps : List ShardStep) (refused : Option Reply) → IsPerformed n.plans J.shards op (effect_of op certs reading) steps refused → (s : ℕ) → IsMade s (told_or refused told) → IsMade s told
  performed_made steps refused (through w lets) s made = made
  performed_made steps refused (no_room {shard} {told = said} {reply} lacks f) s made = let granted = made_grants s reply made in let status = room_status shard said reply lacks in absurd (omega (arith, granted, status))
  performed_made steps refused _ s made = absurd made

-- the numbers of the ask come first among those of its shard
numbers_first : (x : Seeking) (own : Own) → (rest : List ℕ) × (numbers_in (OfShard x.shard) (places_at x own) ≡ own.asks ++ rest)
numbers_first x own =
    let asks = map (in_shard x.shard) own.asks in
    let ruling = map (in_object x.request.object) own.ruling in
    let steps = map its_place own.steps in (
      numbers_in (OfShard x.shard) ruling ++ numbers_in (OfShard x.shard) steps,
      filter_map-append (number_in (OfShard x.shard)) (asks ++ ruling) steps
          ∙ ap (λ (l : List ℕ). l ++ numbers_in (OfShard x.shard) steps) (filter_map-append (number_in (OfShard x.shard)) asks ruling ∙ ap (λ (l : List ℕ). l ++ numbers_in (OfShard x.shard) ruling) (numbers_here x.shard own.asks))
          ∙ append_assoc own.asks (numbers_in (OfShard x.shard) ruling) (numbers_in (OfShard x.shard) steps),
    )

module _ (n : Node) (J : Journals) (plan : Plan) (x : Seeking) (planned : HasPlan n x.shard plan) (there : fixed_at n.objects x.request.object ≡ Some x.fixed) where
  guarded_full : (own : Own) (reply : Reply) → IsGuarded n.plans plan J x own reply → (s limit : ℕ) → reply ≡ shard_full s limit → IsFull n J (OfShard s)
  guarded_full own reply (object_is_full at) s limit e = absurd (two_sorts x.request.object s x.fixed.limit limit e)
  guarded_full own reply (no_ruling {own = asks} before b u) s limit e = unruled_full n J x.shard plan planned _ asks reply u s limit e
  guarded_full own reply (denied before st d tells) s limit e = absurd cc
  guarded_full own reply (granted {place} {entry} {c} {kept} {steps = ss} {refused} before st g p out) s limit e =
      performed_full n J x.request.op x.certs x.reading (Granted kept entry x.shard place c.proof c.cites (gives_for x before)) ss refused p s limit (λ same. cc) e

  guarded_object : (own : Own) (reply : Reply) → IsGuarded n.plans plan J x own reply → (o limit : ℕ) → reply ≡ object_full o limit → IsFull n J (OfObject o)
  guarded_object own reply (object_is_full at) o limit e = subst (λ (k : ℕ). IsFull n J (OfObject k)) (same_object x.request.object o x.fixed.limit limit e) (x.fixed, there, at)
  guarded_object own reply (no_ruling {own = asks} before b u) o limit e = absurd (no_object_full n J x.shard plan planned _ asks reply u o limit e)
  guarded_object own reply (denied before st d tells) o limit e = absurd cc
  guarded_object own reply (granted {place} {entry} {c} {kept} {steps = ss} {refused} before st g p out) o limit e =
      absurd (performed_object n J x.request.op x.certs x.reading (Granted kept entry x.shard place c.proof c.cites (gives_for x before)) ss refused p o limit (λ same. cc) e)

  guarded_unkept : (own : Own) (reply : Reply) → IsGuarded n.plans plan J x own reply → (s : ℕ) → IsMade s reply → (q : ℕ) → numbers_in (OfShard s) (places_at x own) ≡ q ∷ [] → IsFull n J (OfShard s)
  guarded_unkept own reply (object_is_full at) s made q one = absurd made
  guarded_unkept own reply (no_ruling {own = asks} before b u) s made q one = absurd (not_made n J x.shard plan planned _ asks reply u s made)
  guarded_unkept own reply (denied before st d tells) s made q one = absurd made
  guarded_unkept own reply (granted {place} {at} {entry} {c} {kept} {settled} {asks} {steps} {refused} before st g p out) s made q one =
      let was = performed_made n J x.request.op x.certs x.reading (Granted kept entry x.shard place c.proof c.cites (gives_for x before)) steps refused p s made in
      let here = made_here kept entry x.shard place c (gives_for x before) s was in
      let (rest, first) = numbers_first x (own_at asks (at ∷ []) steps) in
      unkept_full n J x.shard plan planned _ place entry c kept settled asks g s (gives_for x before) was q rest
      (sym first ∙ subst (λ (k : ℕ). numbers_in (OfShard k) (places_at x (own_at asks (at ∷ []) steps)) ≡ q ∷ []) (sym here) one)
    where
      made_here : (kept : Bool) (entry shard place : ℕ) (c : Cached) (content : List ℕ) (s : ℕ) → IsMade s (Granted kept entry shard place c.proof c.cites content) → shard ≡ s
      made_here true entry shard place c content s made = absurd made
      made_here false entry shard place c content s made = made

  -- the entry of the ruling is the one that was made at the place
  is_ruled : (s q o n at : ℕ) (op : Op) (chosen : ℕ) (e : ObjectEntry) → o ≡ x.request.object → n ≡ at → slice_get (J.objects o) n ≡ Some (ruled_as s q op (rulings.Granted chosen)) →
      slice_get (J.objects x.request.object) at ≡ Some e → e ≡ ruled_as s q op (rulings.Granted chosen)
  is_ruled s q o n at op chosen e same here one two =
      same_Some e (ruled_as s q op (rulings.Granted chosen)) (sym two ∙ subst₂ (λ (t k : ℕ). slice_get (J.objects t) k ≡ Some (ruled_as s q op (rulings.Granted chosen))) same here one)

  guarded_missed : (own : Own) (reply : Reply) → IsGuarded n.plans plan J x own reply → (s q : ℕ) → WasMade J s q (places_at x own) → numbers_in (OfShard s) (places_at x own) ≡ q ∷ [] → IsFull n J (OfShard s)
  guarded_missed own reply (object_is_full at) s q was one = absurd (no_number q one)
  guarded_missed own reply (no_ruling {own = asks} before b u) s q was one =
      absurd (none_in was.at (ruling_place x (own_at asks [] []) was.object was.at was.owned).1)
  guarded_missed own reply (denied {place} {at} before st d tells) s q was one =
      let (same, there) = ruling_place x (own_at (place ∷ []) (at ∷ []) []) was.object was.at was.owned in
      absurd (not_granted was.chosen (ap (λ (e : ObjectEntry). e.ruling) (is_ruled s q was.object was.at at was.op was.chosen _ same (the_only at was.at there) was.granted (stands_at st))))
    where
      not_granted : (chosen : ℕ) → rulings.Denied ≡ rulings.Granted chosen → ⊥
      not_granted chosen e = cc
  guarded_missed own reply (granted {place} {at} {entry = e} {c} {kept} {settled} {asks} {steps} {refused} before st g p out) s q was one =
      let (same, there) = ruling_place x (own_at asks (at ∷ []) steps) was.object was.at was.owned in
      let is = is_ruled s q was.object was.at at was.op was.chosen _ same (the_only at was.at there) was.granted (stands_at st) in
      let here : x.shard ≡ s = ap (λ (e : ObjectEntry). e.shard) is in
      let at_q : place ≡ q = ap (λ (e : ObjectEntry). e.place) is in
      let (rest, first) = numbers_first x (own_at asks (at ∷ []) steps) in
      let own_one = sym first ∙ subst (λ (k : ℕ). numbers_in (OfShard k) (places_at x (own_at asks (at ∷ []) steps)) ≡ q ∷ []) (sym here) one in
      let missed = subst₂ (λ (t k : ℕ). slice_get (J.shards t) k ≡ Some (entry (Asks was.ask) Told.Miss)) (sym here) (sym at_q) was.missed in
      subst (λ (k : ℕ). IsFull n J (OfShard k)) here (missed_full n J x.shard plan planned _ place e c kept settled asks g was.ask missed q rest own_one)

-- what has no place, and says neither, found nothing full
stopped_short : (n : Node) (J : Journals) (frame : List ℕ) (used : Used) (sent : Sent) (cell : Cell) → used.places ≡ [] →
    ((s limit : ℕ) → sent.reply ≡ shard_full s limit → ⊥) → ((o limit : ℕ) → sent.reply ≡ object_full o limit → ⊥) →
    FoundFull J cell (record { frame = frame; used = used; sent = sent }) → IsFull n J cell
stopped_short n J frame used sent (OfShard s) none shards objects (inl (limit, e)) = absurd (shards s limit e)
stopped_short n J frame used sent (OfShard s) none shards objects (inr (q, one, how)) = absurd (no_number q (ap (numbers_in (OfShard s)) (sym none) ∙ one))
stopped_short n J frame used sent (OfObject o) none shards objects (limit, e) = absurd (objects o limit e)

found_full : (n : Node) (J : Journals) (payload : List ℕ) (used : Used) (sent : Sent) (cell : Cell) → Course n J payload used sent → FoundFull J cell (record { frame = payload; used = used; sent = sent }) → IsFull n J cell
found_full n J payload used sent (OfShard s) (ruled {own} {reply} t reading plan planned r) (inl (limit, e)) = guarded_full n J plan _ planned t.arrived.there own reply r s limit e
found_full n J payload used sent (OfShard s) (ruled {own} {reply} t reading plan planned r) (inr (q, one, inl made)) = guarded_unkept n J plan _ planned t.arrived.there own reply r s made q one
found_full n J payload used sent (OfShard s) (ruled {own} {reply} t reading plan planned r) (inr (q, one, inr was)) = guarded_missed n J plan _ planned t.arrived.there own reply r s q was one
found_full n J payload used sent (OfObject o) (ruled {own} {reply} t reading plan planned r) (limit, e) = guarded_object n J plan _ planned t.arrived.there own reply r o limit e
found_full n J payload used sent cell _ found = stopped_short n J payload used sent cell refl (λ s limit e. cc) (λ o limit e. cc) found

turn_full : (n : Node) (J : Journals) (payload : List ℕ) (used : Used) (sent : Sent) (cell : Cell) → Turned n J payload used sent → FoundFull J cell (record { frame = payload; used = used; sent = sent }) → IsFull n J cell
turn_full n J payload used sent cell (plain c) found = found_full n J payload used sent cell c found
turn_full n J payload used sent (OfShard s) (pulled {used = later} asked opened c) found = found_full n J _ later sent (OfShard s) c found
turn_full n J payload used sent (OfObject o) (pulled {used = later} asked opened c) found = found_full n J _ later sent (OfObject o) c found
turn_full n J payload used sent cell _ found = stopped_short n J payload used sent cell refl (λ s limit e. cc) (λ o limit e. cc) found

-- ---- the places of a course are there

stands_within : {E : Type 0} {journal before : List E} {place : ℕ} {e : E} → Stands journal place before e → place < length journal
stands_within {before = before} {e = e} s = omega (arith, ap (λ l. length l) s.is, length-append before (e ∷ s.rest), s.placed)

abbrev AreIn : List Entry → List ℕ → Type 0
AreIn journal own = All (λ (p : ℕ). p < length journal) own

one_in : (journal : List Entry) (place : ℕ) → place < length journal → AreIn journal (place ∷ [])
one_in journal place within = All-cons (λ (p : ℕ). p < length journal) place [] within (All-nil (λ (p : ℕ). p < length journal))

two_in : (journal : List Entry) (place keep : ℕ) → place < length journal → keep < length journal → AreIn journal (place ∷ keep ∷ [])
two_in journal place keep within also = All-cons (λ (p : ℕ). p < length journal) place (keep ∷ []) within (one_in journal keep also)

grant_there : (plan : Plan) (journal : List Entry) (a : Ask) (place entry : ℕ) (c : Cached) (kept : Bool) (settled : Settled) (own : List ℕ) → IsGrant plan journal a place entry c kept settled own → AreIn journal own
grant_there plan journal a place entry c kept settled own (by_kept h) = one_in journal place (stands_within h.stands)
grant_there plan journal a place entry c kept settled own (was_kept {keep} g t) = two_in journal place keep (stands_within g.stands) (stands_within t.1)
grant_there plan journal a place entry c kept settled own (was_dropped {keep} g t) = two_in journal place keep (stands_within g.stands) (stands_within t.1)
grant_there plan journal a place entry c kept settled own (had_no_room g at) = one_in journal place (stands_within g.stands)

unruled_there : (plan : Plan) (journal : List Entry) (shard : ℕ) (a : Ask) (own : List ℕ) (reply : Reply) → IsUnruled plan journal shard a own reply → AreIn journal own
unruled_there plan journal shard a own reply (full at) = All-nil (λ (p : ℕ). p < length journal)
unruled_there plan journal shard a own reply (replayed {place} {last} t) = one_in journal place (stands_within t.1)
unruled_there plan journal shard a own reply (channel_full {place} {held} t) = one_in journal place (stands_within t.1)
unruled_there plan journal shard a own reply (untold {place} {entry} {c} {kept} {settled} {own = places} g) = grant_there plan journal a place entry c kept settled places g
unruled_there plan journal shard a own reply (unanswered {own = places} (inl none)) = subst (AreIn journal) (sym none) (All-nil (λ (p : ℕ). p < length journal))
unruled_there plan journal shard a own reply (unanswered {own = places} (inr (place, before, stands, verdict, is))) = subst (AreIn journal) (sym is) (one_in journal place (stands_within stands))

abbrev IsThere : Journals → Place → Type 0
IsThere J p = p.number < entries_in J p.cell

abbrev AreThere : Journals → List Place → Type 0
AreThere J places = All (IsThere J) places

in_journal : (J : Journals) (h : ℕ) (own : List ℕ) → AreIn (J.shards h) own → AreThere J (map (in_shard h) own)
in_journal J h [] all = All-nil (IsThere J)
in_journal J h (p ∷ own) all = All-cons (IsThere J) (in_shard h p) (map (in_shard h) own)
    (All-head (λ (q : ℕ). q < length (J.shards h)) p own all) (in_journal J h own (All-tail (λ (q : ℕ). q < length (J.shards h)) p own all))

steps_there : (J : Journals) (effect : Option Event) (steps : List ShardStep) → All (IsStep J.shards effect) steps → AreThere J (map its_place steps)
steps_there J effect [] all = All-nil (IsThere J)
steps_there J effect (s ∷ steps) all = All-cons (IsThere J) (its_place s) (map its_place steps) (stands_within (All-head (IsStep J.shards effect) s steps all).stands) (steps_there J effect steps (All-tail (IsStep J.shards effect) s steps all))

performed_there : (plans : List Plan) (J : Journals) (op : Op) (certs : List Certificate) (reading : ℕ) (steps : List ShardStep) (refused : Option Reply) → IsPerformed plans J.shards op (effect_of op certs reading) steps refused → AreThere J (map its_place steps)
performed_there plans J op certs reading steps refused (through w lets) = steps_there J _ steps w.are_done.stand
performed_there plans J op certs reading steps refused (not_held digest is w none) = steps_there J _ steps w.are_done.stand
performed_there plans J op certs reading steps refused (no_room {shard = s} {told} lacks f) =
    steps_there J _ steps (subst (All (IsStep J.shards _)) (sym f.steps_are)
    (All-append (IsStep J.shards _) f.done (step_at s f.place told ∷ []) f.are_done.stand (All-cons (IsStep J.shards _) (step_at s f.place told) [] f.refused (All-nil (IsStep J.shards _)))))
performed_there plans J op certs reading steps refused (no_place f) = steps_there J _ steps f.are_done.stand

places_there : (J : Journals) (x : Seeking) (asks ruling : List ℕ) (steps : List ShardStep) → AreIn (J.shards x.shard) asks → AreThere J (map (in_object x.request.object) ruling) → AreThere J (map its_place steps) → AreThere J (places_at x (own_at asks ruling steps))
places_there J x asks ruling steps a r s =
    All-append (IsThere J) (map (in_shard x.shard) asks ++ map (in_object x.request.object) ruling) (map its_place steps)
    (All-append (IsThere J) (map (in_shard x.shard) asks) (map (in_object x.request.object) ruling) (in_journal J x.shard asks a) r) s

one_there : (J : Journals) (o at : ℕ) → at < length (J.objects o) → AreThere J (map (in_object o) (at ∷ []))
one_there J o at within = All-cons (IsThere J) (in_object o at) [] within (All-nil (IsThere J))

guarded_there : (plans : List Plan) (plan : Plan) (J : Journals) (x : Seeking) (own : Own) (reply : Reply) → IsGuarded plans plan J x own reply → AreThere J (places_at x own)
guarded_there plans plan J x own reply (object_is_full stopped) = All-nil (IsThere J)
guarded_there plans plan J x own reply (no_ruling {own = asks} before b u) = places_there J x asks [] [] (unruled_there plan (J.shards x.shard) x.shard _ asks reply u) (All-nil (IsThere J)) (All-nil (IsThere J))
guarded_there plans plan J x own reply (denied {place} {at} before s d tells) = places_there J x (place ∷ []) (at ∷ []) [] (one_in (J.shards x.shard) place (stands_within d.stands)) (one_there J x.request.object at (stands_within s)) (All-nil (IsThere J))
guarded_there plans plan J x own reply (granted {place} {at} {entry} {c} {kept} {settled} {asks} {steps} {refused} before s g p out) =
    places_there J x asks (at ∷ []) steps (grant_there plan (J.shards x.shard) _ place entry c kept settled asks g) (one_there J x.request.object at (stands_within s)) (performed_there plans J x.request.op x.certs x.reading steps refused p)

course_there : (n : Node) (J : Journals) (payload : List ℕ) (used : Used) (sent : Sent) → Course n J payload used sent → AreThere J used.places
course_there n J payload used sent (ruled {own} {reply} t reading plan planned r) = guarded_there n.plans plan J _ own reply r
course_there n J payload used sent _ = All-nil (IsThere J)

turn_there : (n : Node) (J : Journals) (payload : List ℕ) (used : Used) (sent : Sent) → Turned n J payload used sent → AreThere J used.places
turn_there n J payload used sent (plain c) = course_there n J payload used sent c
turn_there n J payload used sent (pulled {used = later} asked opened c) = course_there n J _ later sent c
turn_there n J payload used sent _ = All-nil (IsThere J)

-- ---- one turn more

-- what a turn found full, it found full when its entries had come
found_before : (n : Node) (J K : Journals) → Extends J K → (t : Turn) → IsCourse n J t → (cell : Cell) → FoundFull K cell t → FoundFull J cell t
found_before n J K goes t course (OfObject o) found = found
found_before n J K goes t course (OfShard s) (inl told) = inl told
found_before n J K goes t course (OfShard s) (inr (q, one, inl made)) = inr (q, one, inl made)
found_before n J K goes t course (OfShard s) (inr (q, one, inr was)) =
    let there = turn_there n J t.frame t.used t.sent course in
    let In : ℕ → Type 0 = λ (k : ℕ). k < length (J.shards s) in
    let within = All-head In q [] (subst (All In) one (numbers_all In (OfShard s) t.used.places (λ k d lt same. omega (arith, there k d lt, ap (entries_in J) same)))) in
    inr (
      q,
      one,
      inr (record {
        ask = was.ask;
        missed = was_there (J.shards s) (K.shards s) q _ (goes.shards s) within was.missed;
        object = was.object;
        at = was.at;
        owned = was.owned;
        op = was.op;
        chosen = was.chosen;
        granted = was_there (J.objects was.object) (K.objects was.object) was.at _ (goes.objects was.object)
            (All-contains (IsThere J) t.used.places (in_object was.object was.at) there was.owned) was.granted;
      }),
    )

pub filled_stays : (n : Node) (J K : Journals) → Extends J K → (turns : List Turn) → All (IsCourse n J) turns → AllPairs (IsFilledBefore J) turns → AllPairs (IsFilledBefore K) turns
filled_stays n J K goes turns courses filled i j d lt within cell found =
    filled i j d lt within cell (found_before n J K goes (get_or turns i d) (courses i d (omega (arith, lt, within))) cell found)

module _ (n : Node) (J K : Journals) (goes : Extends J K) (legal : AreLegal n K) (t : Turn) (course : IsCourse n K t) (new : All (λ (p : Place). entries_in J p.cell ≤ p.number) t.used.places) where
  -- a full journal does not go on
  limits : (cell : Cell) → IsFull n J cell → entries_in K cell ≤ entries_in J cell
  limits (OfShard s) (plan, planned, at) = omega (arith, at, short plan (K.shards s) (legal.shards s plan planned))
  limits (OfObject o) (f, there, at) = omega (arith, at, legal.objects o f there)

  -- a new place would stand past the limit
  comes_after : (u : Turn) → IsCourse n J u → IsFilledBefore K u t
  comes_after u done cell found =
      let less = limits cell (turn_full n J u.frame u.used u.sent cell done (found_before n J K goes u done cell found)) in
      λ k d lt same. omega (arith, new k d lt, turn_there n K t.frame t.used t.sent course k d lt, ap (entries_in J) same, ap (entries_in K) same, less)

pub none_filled : (J : Journals) → AllPairs (IsFilledBefore J) []
none_filled J = λ i j d lt within. absurd (omega (arith, within))

pub filled_more : (n : Node) (J K : Journals) → Extends J K → AreLegal n K → (turns : List Turn) → All (IsCourse n J) turns → AllPairs (IsFilledBefore J) turns →
    (t : Turn) → IsCourse n K t → All (λ (p : Place). entries_in J p.cell ≤ p.number) t.used.places → AllPairs (IsFilledBefore K) (turns ++ t ∷ [])
filled_more n J K goes legal turns courses filled t course new =
    all_pairs_push (IsFilledBefore K) turns t (filled_stays n J K goes turns courses filled) (λ k d lt. comes_after n J K goes legal t course new _ (courses k d lt))

pub no_entry_after_full : (n : Node) → NoEntryAfterFull n
no_entry_after_full n J used frames replies outcome a i j earlier later before first second cell p found has same =
    let was : get_or a.turns i earlier ≡ earlier = get_or_from_slice_get a.turns i earlier earlier first in
    let is : get_or a.turns j earlier ≡ later = get_or_from_slice_get a.turns j later earlier second in
    let apart = a.filled i j earlier before (slice_get_within a.turns j later second) cell (subst (FoundFull J cell) (sym was) found) in
    All-contains (λ (q : Place). q.cell ≢ cell) later.used.places p (subst (λ (t : Turn). All (λ (q : Place). q.cell ≢ cell) t.used.places) is apart) has same
