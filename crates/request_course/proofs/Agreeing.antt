-- Courses of one payload do not differ in their status.
use Rattle.std.proofs.Common.{◌≡◌, ◌≢◌, ◌⊎◌, ℕ, ◌+◌, List, [], ◌∷◌, ◌++◌, length, drop, map, All, Option, None, Some, refl, sym, ap, ap₂, subst, subst₂, ◌∙◌, inl, inr, arith, length-append}
use Rattle.std.proofs.Math.Seq.{drop-append_seam, get_or-append_seam}
use Rattle.std.proofs.lemmas.List.{same_from_push}
use Rattle.std.proofs.lemmas.List.Elements.{All-head, All-tail, All-append, All-cons, All-nil}
use Rattle.std.proofs.lemmas.Option.{none-some, same_Some}
use Rattle.keyed_seal.specs.Keys.{key_of}
use Rattle.object_core.specs.Objects.{ObjectEntry}
use Rattle.object_core.specs.Operation.{Op, Discard}
use Rattle.object_core.specs.Shelving.{ObjectFixed, fixed_at}
use Rattle.object_core.specs.declared.ruling.Ruling.{Ruling}
use Rattle.object_core.specs.declared.ruling.Ruling.TheVariants as rulings
use Rattle.taos_wire.specs.Request.{Request, Spells, IsSealed}
use Rattle.taos_wire.specs.Reply.{Reply, Sent, status_of}
use Rattle.taos_wire.proofs.RequestLaws.{spelled_once}
use Rattle.stmt_codec.specs.Certificates.{Certificate}
use Rattle.agent_core.specs.declared.told.Told.{Told}
use Rattle.agent_core.specs.State.{Plan, Ask, Event, Asks}
use Rattle.agent_core.specs.Journals.{Entry, entry, Stands}
use Rattle.request_course.specs.Asking.{IsUnruled, full, replayed, channel_full}
use Rattle.request_course.specs.AtObject.{Seeking, Own, places_at, ruled_as, told_or, IsGuarded, object_is_full, no_ruling, denied, granted}
use Rattle.request_course.specs.Cells.{Node, home, Journals, Place, OfShard, OfObject, in_shard, in_object}
use Rattle.request_course.specs.Credentials.{LinkCall, AreOpened, IsFirstRefused, IsFirstFailed}
use Rattle.request_course.specs.Course.{Used, uses, Course, malformed, unknown_channel, bad_seal, cert_refused, relay_failed, unknown_object, ruled}
use Rattle.request_course.specs.Effects.{ShardStep, step_at, its_place, shards_of, IsDone, lacks_room, LetsGo, IsStep, IsPerformed, through, not_held, no_room, no_place}
use Rattle.request_course.specs.Operations.{effect_of, targets_of}
use Rattle.request_course.specs.Laws.{CoursesAgree}
use Rattle.request_course.proofs.Firsts.{opened_or_refused, opened_or_failed, refused_or_link}
use Rattle.request_course.proofs.Roomless.{never_done}

-- ---- entries at one place

module _ {E : Type 0} (journal before others : List E) (place : ℕ) (e f : E) (s : Stands journal place before e) (t : Stands journal place others f) where
  one_journal : before ++ e ∷ s.rest ≡ others ++ f ∷ t.rest
  one_journal = sym s.is ∙ t.is

  one_length : length before ≡ length others
  one_length = s.placed ∙ sym t.placed

  same_rest : e ∷ s.rest ≡ f ∷ t.rest
  same_rest = sym (drop-append_seam before (e ∷ s.rest)) ∙ ap₂ drop one_length one_journal ∙ drop-append_seam others (f ∷ t.rest)

  pub same_entry : e ≡ f
  same_entry = head_of e f s.rest t.rest same_rest
    where
      head_of : (x y : E) (xs ys : List E) → x ∷ xs ≡ y ∷ ys → x ≡ y
      head_of x y xs ys e = cc

heads : {X : Type 0} (x y : X) (xs ys : List X) → x ∷ xs ≡ y ∷ ys → (x ≡ y) × (xs ≡ ys)
heads x y xs ys e = (cc, cc)

none_some : {X : Type 0} (x : X) (xs : List X) → [] ≡ x ∷ xs → ⊥
none_some x xs e = absurd cc

-- ---- an ask that has no ruling, by its status

-- by what its entry tells
data Ends : Told → ℕ → Type 0 where
  by_number : {last : ℕ} → Ends (Told.Replayed last) 5
  by_count : {held : ℕ} → Ends (Told.Full held) 7

same_end : (told said : Told) (s t : ℕ) → Ends told s → Ends said t → told ≡ said → s ≡ t
same_end told said s t by_number by_count e = absurd cc
same_end told said s t by_count by_number e = absurd cc
same_end told said s t _ _ e = refl

record Ended (journal : List Entry) (own : List ℕ) (status : ℕ) : Type 0 where
  place : ℕ
  before : List Entry
  event : Event
  told : Told
  at : own ≡ place ∷ []
  stands : Stands journal place before (entry event told)
  ends : Ends told status

abbrev IsUnruledBy : List Entry → List ℕ → ℕ → Type 0
IsUnruledBy journal own status = ((own ≡ []) × (status ≡ 10)) ⊎ Ended journal own status

unruled_ways : (plan : Plan) (journal : List Entry) (shard : ℕ) (a : Ask) (own : List ℕ) (reply : Reply) → IsUnruled plan journal shard a own reply → status_of reply ≢ 11 → IsUnruledBy journal own (status_of reply)
unruled_ways plan journal shard a own reply (full at) known = inl (refl, refl)
unruled_ways plan journal shard a own reply (replayed {place} {last} t) known = inr (record { place = place; before = t.0; event = Asks a; told = Told.Replayed last; at = refl; stands = t.1; ends = by_number })
unruled_ways plan journal shard a own reply (channel_full {place} {held} t) known = inr (record { place = place; before = t.0; event = Asks a; told = Told.Full held; at = refl; stands = t.1; ends = by_count })
unruled_ways plan journal shard a own reply _ known = absurd (known refl)

same_unruled : (journal : List Entry) (own : List ℕ) (s t : ℕ) → IsUnruledBy journal own s → IsUnruledBy journal own t → s ≡ t
same_unruled journal own s t (inl x) (inl y) = x.1 ∙ sym y.1
same_unruled journal own s t (inl x) (inr y) = absurd (none_some y.place [] (sym x.0 ∙ y.at))
same_unruled journal own s t (inr x) (inl y) = absurd (none_some x.place [] (sym y.0 ∙ x.at))
same_unruled journal own s t (inr x) (inr y) =
    let one = (heads x.place y.place [] [] (sym x.at ∙ y.at)).0 in
    let there = subst (λ (p : ℕ). Stands journal p y.before (entry y.event y.told)) (sym one) y.stands in
    same_end x.told y.told s t x.ends y.ends (ap (λ (e : Entry). e.told) (same_entry journal x.before y.before x.place (entry x.event x.told) (entry y.event y.told) x.stands there))

-- ---- what was performed, by its status

data Way (op : Op) (targets : List ℕ) (steps : List ShardStep) : ℕ → Type 0 where
  went : shards_of steps ≡ targets → All (λ (s : ShardStep). IsDone s.told) steps → ((digest : List ℕ) → op ≡ Discard digest → LetsGo steps) → Way op targets steps 0
  unheld : (digest : List ℕ) → op ≡ Discard digest → shards_of steps ≡ targets → All (λ (s : ShardStep). IsDone s.told) steps → (LetsGo steps → ⊥) → Way op targets steps 13
  roomless : (done : List ShardStep) (shard place : ℕ) (told : Told) (reply : Reply) → lacks_room shard told ≡ Some reply → steps ≡ done ++ step_at shard place told ∷ [] → Way op targets steps (status_of reply)
  placeless : (shard : ℕ) (rest : List ℕ) → targets ≡ shards_of steps ++ shard ∷ rest → All (λ (s : ShardStep). IsDone s.told) steps → Way op targets steps 10

way_of : (plans : List Plan) (J : ℕ → List Entry) (op : Op) (certs : List Certificate) (reading : ℕ) (told : Reply) (steps : List ShardStep) (refused : Option Reply) → status_of told ≡ 0 → IsPerformed plans J op (effect_of op certs reading) steps refused →
    Way op (targets_of plans op) steps (status_of (told_or refused told))
way_of plans J op certs reading told steps refused zero (through w lets) = subst (Way op (targets_of plans op) steps) (sym zero) (went w.order w.are_done.done lets)
way_of plans J op certs reading told steps refused zero (not_held digest is w none) = unheld digest is w.order w.are_done.done none
way_of plans J op certs reading told steps refused zero (no_room {shard} {told = said} {reply} lacks f) = roomless f.done shard f.place said reply lacks f.steps_are
way_of plans J op certs reading told steps refused zero (no_place {shard} f) = placeless shard f.rest f.order f.are_done.done

not_done : (steps done : List ShardStep) (shard place : ℕ) (told : Told) (reply : Reply) → lacks_room shard told ≡ Some reply → steps ≡ done ++ step_at shard place told ∷ [] → All (λ (s : ShardStep). IsDone s.told) steps → ⊥
not_done steps done shard place told reply lacks is all =
    let last = step_at shard place told in
    let more : length steps ≡ length done + 1 = ap (λ l. length l) is ∙ length-append done (last ∷ []) in
    let there = subst (All (λ (s : ShardStep). IsDone s.told)) is all (length done) last (omega (arith, length-append done (last ∷ []))) in
    never_done shard told reply lacks (subst (λ (s : ShardStep). IsDone s.told) (get_or-append_seam done last [] last) there)

no_more : (shards targets : List ℕ) (shard : ℕ) (rest : List ℕ) → shards ≡ targets → targets ≡ shards ++ shard ∷ rest → ⊥
no_more shards targets shard rest all is = absurd (omega (arith, ap (λ l. length l) all, ap (λ l. length l) is, length-append shards (shard ∷ rest)))

same_way : (op : Op) (targets : List ℕ) (steps : List ShardStep) (s t : ℕ) → Way op targets steps s → Way op targets steps t → s ≡ t
same_way op targets steps s t (went a b c) (went d e f) = refl
same_way op targets steps s t (went a b c) (unheld digest is d e none) = absurd (none (c digest is))
same_way op targets steps s t (went a b c) (roomless done shard place told reply lacks is) = absurd (not_done steps done shard place told reply lacks is b)
same_way op targets steps s t (went a b c) (placeless shard rest is d) = absurd (no_more (shards_of steps) targets shard rest a is)
same_way op targets steps s t (unheld digest is d e none) (went a b c) = absurd (none (c digest is))
same_way op targets steps s t (unheld digest is d e none) (unheld other also f g nobody) = refl
same_way op targets steps s t (unheld digest so d e none) (roomless done shard place told reply lacks is) = absurd (not_done steps done shard place told reply lacks is e)
same_way op targets steps s t (unheld digest so a e none) (placeless shard rest is d) = absurd (no_more (shards_of steps) targets shard rest a is)
same_way op targets steps s t (roomless done shard place told reply lacks is) (went a b c) = absurd (not_done steps done shard place told reply lacks is b)
same_way op targets steps s t (roomless done shard place told reply lacks is) (unheld digest so d e none) = absurd (not_done steps done shard place told reply lacks is e)
same_way op targets steps s t (roomless done shard place told reply lacks is) (roomless all other at said answer wants so) =
    let last = (same_from_push done all (step_at shard place told) (step_at other at said) (sym is ∙ so)).1 in
    let one = ap (λ (x : ShardStep). lacks_room x.shard x.told) last in
    ap status_of (same_Some reply answer (sym lacks ∙ one ∙ wants))
same_way op targets steps s t (roomless done shard place told reply lacks is) (placeless other rest so d) = absurd (not_done steps done shard place told reply lacks is d)
same_way op targets steps s t (placeless shard rest is d) (went a b c) = absurd (no_more (shards_of steps) targets shard rest a is)
same_way op targets steps s t (placeless shard rest is d) (unheld digest so a e none) = absurd (no_more (shards_of steps) targets shard rest a is)
same_way op targets steps s t (placeless other rest so d) (roomless done shard place told reply lacks is) = absurd (not_done steps done shard place told reply lacks is d)
same_way op targets steps s t (placeless shard rest is d) (placeless other more so e) = refl

-- steps that stand in the journals
abbrev pub IsEntry : (ℕ → List Entry) → ShardStep → Type 0
IsEntry J s = (event : Event) × (before : List Entry) × Stands (J s.shard) s.place before (entry event s.told)

as_entry : (J : ℕ → List Entry) (effect : Option Event) (steps : List ShardStep) → All (IsStep J effect) steps → All (IsEntry J) steps
as_entry J effect steps all k d lt = let s = all k d lt in (s.event, s.before, s.stands)

pub performed_entries : (plans : List Plan) (J : ℕ → List Entry) (op : Op) (certs : List Certificate) (reading : ℕ) (steps : List ShardStep) (refused : Option Reply) → IsPerformed plans J op (effect_of op certs reading) steps refused → All (IsEntry J) steps
performed_entries plans J op certs reading steps refused (through w lets) = as_entry J _ steps w.are_done.stand
performed_entries plans J op certs reading steps refused (not_held digest is w none) = as_entry J _ steps w.are_done.stand
performed_entries plans J op certs reading steps refused (no_room {shard} {told} lacks f) =
    let last = step_at shard f.place told in
    subst (All (IsEntry J)) (sym f.steps_are)
    (All-append (IsEntry J) f.done (last ∷ []) (as_entry J _ f.done f.are_done.stand) (All-cons (IsEntry J) last [] (f.refused.event, f.refused.before, f.refused.stands) (All-nil (IsEntry J))))
performed_entries plans J op certs reading steps refused (no_place f) = as_entry J _ steps f.are_done.stand

-- two steps at one place are one
pub one_step : (J : ℕ → List Entry) (a b : ShardStep) → IsEntry J a → IsEntry J b → its_place a ≡ its_place b → a ≡ b
one_step J a b (event, before, stands) (other, others, also) same =
    let shard : a.shard ≡ b.shard = shard_of a.shard b.shard (ap (λ (p : Place). p.cell) same) in
    let place : a.place ≡ b.place = ap (λ (p : Place). p.number) same in
    let there = subst₂ (λ (s p : ℕ). Stands (J s) p others (entry other b.told)) (sym shard) (sym place) also in
    let told : a.told ≡ b.told = ap (λ (e : Entry). e.told) (same_entry (J a.shard) before others a.place (entry event a.told) (entry other b.told) stands there) in
    ap₂ (λ (s p : ℕ). step_at s p a.told) shard place ∙ ap (step_at b.shard b.place) told
  where
    shard_of : (s t : ℕ) → OfShard s ≡ OfShard t → s ≡ t
    shard_of s t e = cc

same_steps : (J : ℕ → List Entry) (ss tt : List ShardStep) → All (IsEntry J) ss → All (IsEntry J) tt → map its_place ss ≡ map its_place tt → ss ≡ tt
same_steps J [] [] a b e = refl
same_steps J [] (t ∷ ts) a b e = absurd (none_some (its_place t) (map its_place ts) e)
same_steps J (s ∷ ss) [] a b e = absurd (none_some (its_place s) (map its_place ss) (sym e))
same_steps J (s ∷ ss) (t ∷ ts) a b e =
    let (first, more) = heads (its_place s) (its_place t) (map its_place ss) (map its_place ts) e in
    ap₂ (λ (x : ShardStep) (xs : List ShardStep). x ∷ xs) (one_step J s t (All-head (IsEntry J) s ss a) (All-head (IsEntry J) t ts b) first) (same_steps J ss ts (All-tail (IsEntry J) s ss a) (All-tail (IsEntry J) t ts b) more)

-- ---- all of a request, by its status

apart_cells : (s o p q : ℕ) → in_shard s p ≡ in_object o q → ⊥
apart_cells s o p q e = let cells = ap (λ (x : Place). x.cell) e in differ s o cells
  where
    differ : (s o : ℕ) → OfShard s ≡ OfObject o → ⊥
    differ s o e = cc

-- the object's place tells where the ask ends and the steps begin
split : (h o : ℕ) (xs ys : List ℕ) (p q : ℕ) (more others : List Place) → (map (in_shard h) xs ++ in_object o p ∷ []) ++ more ≡ (map (in_shard h) ys ++ in_object o q ∷ []) ++ others → (p ≡ q) × (more ≡ others)
split h o [] [] p q more others e = let (one, rest) = heads (in_object o p) (in_object o q) more others e in (ap (λ (x : Place). x.number) one, rest)
split h o [] (y ∷ ys) p q more others e = absurd (apart_cells h o y p (sym (heads (in_object o p) (in_shard h y) more ((map (in_shard h) ys ++ in_object o q ∷ []) ++ others) e).0))
split h o (x ∷ xs) [] p q more others e = absurd (apart_cells h o x q (heads (in_shard h x) (in_object o q) ((map (in_shard h) xs ++ in_object o p ∷ []) ++ more) others e).0)
split h o (x ∷ xs) (y ∷ ys) p q more others e = split h o xs ys p q more others (heads (in_shard h x) (in_shard h y) ((map (in_shard h) xs ++ in_object o p ∷ []) ++ more) ((map (in_shard h) ys ++ in_object o q ∷ []) ++ others) e).1

-- without a ruling there is no such place
unsplit : (h o : ℕ) (xs ys : List ℕ) (q : ℕ) (others : List Place) → (map (in_shard h) xs ++ []) ++ [] ≡ (map (in_shard h) ys ++ in_object o q ∷ []) ++ others → ⊥
unsplit h o [] [] q others e = none_some (in_object o q) others e
unsplit h o [] (y ∷ ys) q others e = none_some (in_shard h y) ((map (in_shard h) ys ++ in_object o q ∷ []) ++ others) e
unsplit h o (x ∷ xs) [] q others e = apart_cells h o x q (heads (in_shard h x) (in_object o q) ((map (in_shard h) xs ++ []) ++ []) others e).0
unsplit h o (x ∷ xs) (y ∷ ys) q others e = unsplit h o xs ys q others (heads (in_shard h x) (in_shard h y) ((map (in_shard h) xs ++ []) ++ []) ((map (in_shard h) ys ++ in_object o q ∷ []) ++ others) e).1

same_own : (h : ℕ) (xs ys : List ℕ) → (map (in_shard h) xs ++ []) ++ [] ≡ (map (in_shard h) ys ++ []) ++ [] → xs ≡ ys
same_own h [] [] e = refl
same_own h [] (y ∷ ys) e = absurd (none_some (in_shard h y) ((map (in_shard h) ys ++ []) ++ []) e)
same_own h (x ∷ xs) [] e = absurd (none_some (in_shard h x) ((map (in_shard h) xs ++ []) ++ []) (sym e))
same_own h (x ∷ xs) (y ∷ ys) e =
    let (one, more) = heads (in_shard h x) (in_shard h y) ((map (in_shard h) xs ++ []) ++ []) ((map (in_shard h) ys ++ []) ++ []) e in
    ap₂ (λ (p : ℕ) (ps : List ℕ). p ∷ ps) (ap (λ (p : Place). p.number) one) (same_own h xs ys more)

-- what the ruling says, and what became of it
abbrev IsRulingBy : Op → List ℕ → List ShardStep → Ruling → ℕ → Type 0
IsRulingBy op targets steps rulings.Denied status = status ≡ 1
IsRulingBy op targets steps (rulings.Granted entry) status = Way op targets steps status

module _ (plans : List Plan) (J : Journals) (h : ℕ) (r : Request) where
  record HasRuling (places : List Place) (status : ℕ) : Type 0 where
    asks : List ℕ
    at : ℕ
    steps : List ShardStep
    placed : places ≡ (map (in_shard h) asks ++ in_object r.object at ∷ []) ++ map its_place steps
    before : List ObjectEntry
    e : ObjectEntry
    stands : Stands (J.objects r.object) at before e
    entries : All (IsEntry J.shards) steps
    ways : IsRulingBy r.op (targets_of plans r.op) steps e.ruling status

  record HasNone (places : List Place) (status : ℕ) : Type 0 where
    own : List ℕ
    placed : places ≡ (map (in_shard h) own ++ []) ++ []
    ways : IsUnruledBy (J.shards h) own status

  abbrev IsGuardedBy : List Place → ℕ → Type 0
  IsGuardedBy places status = HasNone places status ⊎ HasRuling places status

  same_ruling : (op : Op) (targets : List ℕ) (ss tt : List ShardStep) (a b : Ruling) (s t : ℕ) → ss ≡ tt → a ≡ b → IsRulingBy op targets ss a s → IsRulingBy op targets tt b t → s ≡ t
  same_ruling op targets ss tt rulings.Denied rulings.Denied s t same alike x y = x ∙ sym y
  same_ruling op targets ss tt (rulings.Granted e) (rulings.Granted f) s t same alike x y = same_way op targets ss s t x (subst (λ (l : List ShardStep). Way op targets l t) (sym same) y)
  same_ruling op targets ss tt _ _ s t same alike x y = absurd cc

  same_guarded : (places : List Place) (s t : ℕ) → IsGuardedBy places s → IsGuardedBy places t → s ≡ t
  same_guarded places s t (inl x) (inl y) = same_unruled (J.shards h) x.own s t x.ways (subst (λ (o : List ℕ). IsUnruledBy (J.shards h) o t) (same_own h y.own x.own (sym y.placed ∙ x.placed)) y.ways)
  same_guarded places s t (inl x) (inr y) = absurd (unsplit h r.object x.own y.asks y.at (map its_place y.steps) (sym x.placed ∙ y.placed))
  same_guarded places s t (inr x) (inl y) = absurd (unsplit h r.object y.own x.asks x.at (map its_place x.steps) (sym y.placed ∙ x.placed))
  same_guarded places s t (inr x) (inr y) =
      let (one, more) = split h r.object x.asks y.asks x.at y.at (map its_place x.steps) (map its_place y.steps) (sym x.placed ∙ y.placed) in
      let there = subst (λ (p : ℕ). Stands (J.objects r.object) p y.before y.e) (sym one) y.stands in
      let alike = ap (λ (e : ObjectEntry). e.ruling) (same_entry (J.objects r.object) x.before y.before x.at x.e y.e x.stands there) in
      same_ruling r.op (targets_of plans r.op) x.steps y.steps x.e.ruling y.e.ruling s t (same_steps J.shards x.steps y.steps x.entries y.entries more) alike x.ways y.ways

guarded_ways : (plans : List Plan) (plan : Plan) (J : Journals) (x : Seeking) (own : Own) (reply : Reply) → IsGuarded plans plan J x own reply → status_of reply ≢ 11 → IsGuardedBy plans J x.shard x.request (places_at x own) (status_of reply)
guarded_ways plans plan J x own reply (object_is_full at) known = inl (record { own = []; placed = refl; ways = inl (refl, refl) })
guarded_ways plans plan J x own reply (no_ruling {own = asks} before b u) known = inl (record { own = asks; placed = refl; ways = unruled_ways plan (J.shards x.shard) x.shard _ asks reply u known })
guarded_ways plans plan J x own reply (denied {place} {at} before s d tells) known =
    inr (record { asks = place ∷ []; at = at; steps = []; placed = refl; before = before; e = ruled_as x.shard place x.request.op rulings.Denied; stands = s; entries = All-nil (IsEntry J.shards); ways = refl })
guarded_ways plans plan J x own reply (granted {place} {at} {entry} {c} {kept} {asks} {steps} {refused} before s g p out) known =
    inr (record {
      asks = asks;
      at = at;
      steps = steps;
      placed = refl;
      before = before;
      e = ruled_as x.shard place x.request.op (rulings.Granted entry);
      stands = s;
      entries = performed_entries plans J.shards x.request.op x.certs x.reading steps refused p;
      ways = way_of plans J.shards x.request.op x.certs x.reading _ steps refused refl p;
    })

-- ---- how far a payload came

module _ (n : Node) (payload : List ℕ) (calls : List LinkCall) (Rest : Request → ℕ → Type 0) where
  abbrev pub ToObject : Request → ℕ → Type 0
  ToObject r s = ((fixed_at n.objects r.object ≡ None) × (s ≡ 9)) ⊎ ((object : ObjectFixed) × (fixed_at n.objects r.object ≡ Some object) × Rest r s)

  abbrev pub ToCerts : Request → ℕ → Type 0
  ToCerts r s = (((index code : ℕ) × IsFirstRefused n.relay_key r.certs calls index code) × (s ≡ 6)) ⊎
      ((((index : ℕ) × IsFirstFailed n.relay_key r.certs calls index) × (s ≡ 8)) ⊎ (((certs : List Certificate) × AreOpened n.relay_key r.certs calls certs) × ToObject r s))

  abbrev pub ToSeal : Request → List ℕ → ℕ → Type 0
  ToSeal r key s = ((IsSealed key payload → ⊥) × (s ≡ 4)) ⊎ (IsSealed key payload × ToCerts r s)

  abbrev pub ToKey : Request → ℕ → Type 0
  ToKey r s = ((key_of n.channels r.channel ≡ None) × (s ≡ 3)) ⊎ ((key : List ℕ) × (key_of n.channels r.channel ≡ Some key) × ToSeal r key s)

  abbrev pub Comes : ℕ → Type 0
  Comes s = (((r : Request) → Spells r payload → ⊥) × (s ≡ 2)) ⊎ ((r : Request) × Spells r payload × ToKey r s)

  module _ (s t : ℕ) (agree : (r : Request) → Rest r s → Rest r t → s ≡ t) where
    objects_agree : (r : Request) → ToObject r s → ToObject r t → s ≡ t
    objects_agree r (inl x) (inl y) = x.1 ∙ sym y.1
    objects_agree r (inl x) (inr (o, is, rest)) = absurd (none-some o (sym x.0 ∙ is))
    objects_agree r (inr (o, is, rest)) (inl y) = absurd (none-some o (sym y.0 ∙ is))
    objects_agree r (inr (o, is, rest)) (inr (p, also, more)) = agree r rest more

    certs_agree : (r : Request) → ToCerts r s → ToCerts r t → s ≡ t
    certs_agree r (inl x) (inl y) = x.1 ∙ sym y.1
    certs_agree r (inl ((i, code, x), e)) (inr (inl ((j, y), f))) = absurd (refused_or_link n.relay_key r.certs calls i code j x y)
    certs_agree r (inl ((i, code, x), e)) (inr (inr ((cs, y), f))) = absurd (opened_or_refused n.relay_key r.certs calls cs i code y x)
    certs_agree r (inr (inl ((j, y), f))) (inl ((i, code, x), e)) = absurd (refused_or_link n.relay_key r.certs calls i code j x y)
    certs_agree r (inr (inr ((cs, y), f))) (inl ((i, code, x), e)) = absurd (opened_or_refused n.relay_key r.certs calls cs i code y x)
    certs_agree r (inr (inl x)) (inr (inl y)) = x.1 ∙ sym y.1
    certs_agree r (inr (inl ((j, y), f))) (inr (inr ((cs, x), e))) = absurd (opened_or_failed n.relay_key r.certs calls cs j x y)
    certs_agree r (inr (inr ((cs, x), e))) (inr (inl ((j, y), f))) = absurd (opened_or_failed n.relay_key r.certs calls cs j x y)
    certs_agree r (inr (inr (x, rest))) (inr (inr (y, more))) = objects_agree r rest more

    seals_agree : (r : Request) (key : List ℕ) → ToSeal r key s → ToSeal r key t → s ≡ t
    seals_agree r key (inl x) (inl y) = x.1 ∙ sym y.1
    seals_agree r key (inl x) (inr y) = absurd (x.0 y.0)
    seals_agree r key (inr x) (inl y) = absurd (y.0 x.0)
    seals_agree r key (inr x) (inr y) = certs_agree r x.1 y.1

    keys_agree : (r : Request) → ToKey r s → ToKey r t → s ≡ t
    keys_agree r (inl x) (inl y) = x.1 ∙ sym y.1
    keys_agree r (inl x) (inr (key, is, rest)) = absurd (none-some key (sym x.0 ∙ is))
    keys_agree r (inr (key, is, rest)) (inl y) = absurd (none-some key (sym y.0 ∙ is))
    keys_agree r (inr (key, is, rest)) (inr (other, also, more)) =
        seals_agree r key rest (subst (λ (k : List ℕ). ToSeal r k t) (same_Some other key (sym also ∙ is)) more)

    pub all_agree : Comes s → Comes t → s ≡ t
    all_agree (inl x) (inl y) = x.1 ∙ sym y.1
    all_agree (inl x) (inr (r, spelled, rest)) = absurd (x.0 r spelled)
    all_agree (inr (r, spelled, rest)) (inl y) = absurd (y.0 r spelled)
    all_agree (inr (r, spelled, rest)) (inr (q, also, more)) = keys_agree r rest (subst (λ (x : Request). ToKey x t) (spelled_once q r payload also spelled) more)

-- ---- courses

module _ (n : Node) (J : Journals) (payload : List ℕ) where
  abbrev Rest : List Place → Request → ℕ → Type 0
  Rest places r s = IsGuardedBy n.plans J (home n r.channel) r places s

  comes : (used : Used) (sent : Sent) → Course n J payload used sent → status_of sent.reply ≢ 11 → Comes n payload used.calls (Rest used.places) (status_of sent.reply)
  comes used sent (malformed none reads) known = inl (none, refl)
  comes used sent (unknown_channel r spelled none) known = inr (r, spelled, inl (none, refl))
  comes used sent (bad_seal r key spelled keyed other) known = inr (r, spelled, inr (key, keyed, inl (other, refl)))
  comes used sent (cert_refused {r} {key} {calls = by} {index} {code} asked first) known =
      inr (r, asked.spelled, inr (key, asked.keyed, inr (asked.seal, inl ((index, code, first), refl))))
  comes used sent (relay_failed {r} {key} {calls = by} {index} asked first) known =
      inr (r, asked.spelled, inr (key, asked.keyed, inr (asked.seal, inr (inl ((index, first), refl)))))
  comes used sent (unknown_object {r} {key} {calls = by} {certs} opened none) known =
      let asked = opened.asked in
      inr (r, asked.spelled, inr (key, asked.keyed, inr (asked.seal, inr (inr ((certs, opened.opened), inl (none, refl))))))
  comes used sent (ruled {own} {reply} t reading plan planned is) known =
      let opened = t.arrived.presented in
      let asked = opened.asked in
      inr (
        t.request,
        asked.spelled,
        inr (
          t.key,
          asked.keyed,
          inr (
            asked.seal,
            inr (inr (
              (t.certs, opened.opened),
              inr (t.object, t.arrived.there, guarded_ways n.plans plan J _ own reply is known),
            )),
          ),
        ),
      )
  comes used sent _ known = absurd (known refl)

pub courses_agree : (n : Node) → CoursesAgree n
courses_agree n J payload readings others calls places first second a b known also =
    let s = status_of first.reply in
    let t = status_of second.reply in
    all_agree n payload calls (Rest n J payload places) s t (λ r. same_guarded n.plans J (home n r.channel) r places s t)
    (comes n J payload (uses readings calls places) first a known) (comes n J payload (uses others calls places) second b also)
