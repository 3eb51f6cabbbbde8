-- How what was granted goes from shard to shard, entry by entry: in one way.
use Rattle.std.proofs.Common.{◌≡◌, ◌⊎◌, ℕ, ◌<◌, List, [], ◌∷◌, ◌++◌, length, map, Option, Some, None, slice_get, All, refl, sym, ap, subst, ◌∙◌, inl, inr, arith, append-nil}
use Rattle.std.specs.List.{range_with_len}
use Rattle.std.proofs.lemmas.List.{map_push}
use Rattle.std.proofs.lemmas.List.Elements.{All-head, All-tail, All-nil, All-cons}
use Rattle.std.proofs.lemmas.List.FromFn.{get_or-range_with_len, length-range_with_len}
use Rattle.std.proofs.lemmas.Nat.{mod_below}
use Rattle.std.proofs.lemmas.Option.{same_Some}
use Rattle.object_core.specs.Operation.{Op, Read, Write, SetList, Discard, Forget}
use Rattle.stmt_codec.specs.Certificates.{Certificate}
use Rattle.taos_wire.specs.Reply as replies
use Rattle.taos_wire.specs.Reply.{Reply}
use Rattle.agent_core.specs.declared.told.Told.{Told}
use Rattle.agent_core.specs.State.{Plan, Event}
use Rattle.agent_core.specs.Plans.{home}
use Rattle.agent_core.specs.Journals.{Entry, entry, told_at}
use Rattle.agent_core.proofs.Asks.{standing}
use Rattle.request_course.specs.Cells.{Journals, Place, in_shard, AreLegalShards}
use Rattle.request_course.specs.Asking.{shard_full}
use Rattle.request_course.specs.Operations.{effect_of, targets_of}
use Rattle.request_course.specs.Effects.{ShardStep, step_at, its_place, shards_of, IsDone, lacks_room, LetsGo, IsStep, IsPerformed, through, not_held, no_room, no_place}
use Rattle.request_course.proofs.Growing.{Grows, grown_none, add_shard, shard_next, shard_on}
use Rattle.request_course.proofs.Roomless.{never_done}

-- ---- a walk

-- the step was done, and then came this
abbrev pub Did : ℕ → Journals → List ShardStep → (Journals → List ShardStep → Type 0) → Event → Told → Type 0
Did s K steps Then event told = IsDone told × (rest : List ShardStep) × Then (add_shard K s (entry event told)) rest × (steps ≡ step_at s (length (K.shards s)) told ∷ rest)

-- there was no room for what the event brings, and nothing came: the reply says so
abbrev pub Lacked : Journals → ℕ → Journals → List ShardStep → Option Reply → Event → Told → Type 0
Lacked J s K steps stop event told =
    (reply : Reply) × (lacks_room s told ≡ Some reply) × (J ≡ add_shard K s (entry event told)) × (steps ≡ step_at s (length (K.shards s)) told ∷ []) × (stop ≡ Some reply)

module _ (J : Journals) (effect : Option Event) where
  -- a shard was stepped: the walk goes on, or this reply ends it
  pub record Took (plan : Plan) (s : ℕ) (K : Journals) (steps : List ShardStep) (stop : Option Reply) (Then : Journals → List ShardStep → Type 0) : Type 0 where
    pub room : length (K.shards s) < plan.limit
    pub event : Event
    pub effect_is : effect ≡ Some event
    pub told : Told
    pub tells : told ≡ told_at plan (K.shards s) event
    pub ends : Did s K steps Then event told ⊎ Lacked J s K steps stop event told

  -- a shard had no room for an entry
  abbrev pub Stuck : Plan → ℕ → Journals → List ShardStep → Option Reply → Type 0
  Stuck plan s K steps stop = (length (K.shards s) ≡ plan.limit) × (J ≡ K) × (steps ≡ []) × (stop ≡ Some (shard_full s plan.limit))

  module _ (plans : List Plan) where
    -- the shards were stepped, in order, from these journals on, all of them or up to one that ended it by a reply
    abbrev pub Walk : List ℕ → Journals → List ShardStep → Option Reply → Type 0
    Walk [] K steps stop = (J ≡ K) × (steps ≡ []) × (stop ≡ None)
    Walk (s ∷ ts) K steps stop = (plan : Plan) × (slice_get plans s ≡ Some plan) × (Stuck plan s K steps stop ⊎ Took plan s K steps stop (λ M rest. Walk ts M rest stop))

-- ---- two walks

same_event : (effect : Option Event) (e f : Event) → effect ≡ Some e → effect ≡ Some f → e ≡ f
same_event effect e f x y = same_Some e f (sym x ∙ y)

-- two walks end alike
abbrev Ends : Journals → Journals → List ShardStep → List ShardStep → Option Reply → Option Reply → Type 0
Ends J L a b p q = (J ≡ L) × (a ≡ b) × (p ≡ q)

module _ (J L : Journals) (effect : Option Event) (a b : List ShardStep) (p q : Option Reply) (plan : Plan) (s : ℕ) (K : Journals) where
  stuck_or_took : {Then : Journals → List ShardStep → Type 0} → Stuck J effect plan s K a p → Took L effect plan s K b q Then → ⊥
  stuck_or_took x y = omega (arith, x.0, y.room)

  took_or_stuck : {Then : Journals → List ShardStep → Type 0} → Took J effect plan s K a p Then → Stuck L effect plan s K b q → ⊥
  took_or_stuck x y = omega (arith, y.0, x.room)

  module _ (Then Other : Journals → List ShardStep → Type 0) (later : (M : Journals) (c d : List ShardStep) → Then M c → Other M d → (J ≡ L) × (c ≡ d) × (p ≡ q)) where
    done_alike : (event : Event) (told : Told) → Did s K a Then event told → Did s K b Other event told → Ends J L a b p q
    done_alike event told x y =
        let r = later (add_shard K s (entry event told)) x.1 y.1 x.2 y.2 in
        (r.0, x.3 ∙ ap (λ (l : List ShardStep). step_at s (length (K.shards s)) told ∷ l) r.1 ∙ sym y.3, r.2)

    told_alike : (event : Event) (told : Told) → Did s K a Then event told ⊎ Lacked J s K a p event told → Did s K b Other event told ⊎ Lacked L s K b q event told → Ends J L a b p q
    told_alike event told (inl x) (inl y) = done_alike event told x y
    told_alike event told (inl x) (inr y) = absurd (never_done s told y.0 y.1 x.0)
    told_alike event told (inr x) (inl y) = absurd (never_done s told x.0 x.1 y.0)
    told_alike event told (inr x) (inr y) = (x.2 ∙ sym y.2, x.3 ∙ sym y.3, x.4 ∙ sym x.1 ∙ y.1 ∙ sym y.4)

    took_alike : Took J effect plan s K a p Then → Took L effect plan s K b q Other → Ends J L a b p q
    took_alike x y =
        let event : y.event ≡ x.event = same_event effect y.event x.event y.effect_is x.effect_is in
        let told : y.told ≡ x.told = y.tells ∙ ap (told_at plan (K.shards s)) event ∙ sym x.tells in
        let ends = subst (λ (e : Event). Did s K b Other e y.told ⊎ Lacked L s K b q e y.told) event y.ends in
        told_alike x.event x.told x.ends (subst (λ (t : Told). Did s K b Other x.event t ⊎ Lacked L s K b q x.event t) told ends)

module _ (J L : Journals) (effect : Option Event) (plans : List Plan) where
  pub walks_agree : (ts : List ℕ) (K : Journals) (a b : List ShardStep) (p q : Option Reply) → Walk J effect plans ts K a p → Walk L effect plans ts K b q → Ends J L a b p q
  walks_agree [] K a b p q x y = (x.0 ∙ sym y.0, x.1 ∙ sym y.1, x.2 ∙ sym y.2)
  walks_agree (s ∷ ts) K a b p q (plan, at, x) (other, there, y) =
      sides (λ M c d u v. walks_agree ts M c d p q u v) x (subst (λ (o : Plan). Stuck L effect o s K b q ⊎ Took L effect o s K b q (λ M rest. Walk L effect plans ts M rest q)) (same_Some other plan (sym there ∙ at)) y)
    where
      sides : ((M : Journals) (c d : List ShardStep) → Walk J effect plans ts M c p → Walk L effect plans ts M d q → (J ≡ L) × (c ≡ d) × (p ≡ q)) →
          Stuck J effect plan s K a p ⊎ Took J effect plan s K a p (λ M rest. Walk J effect plans ts M rest p) →
          Stuck L effect plan s K b q ⊎ Took L effect plan s K b q (λ M rest. Walk L effect plans ts M rest q) → Ends J L a b p q
      sides later (inl u) (inl v) = (u.1 ∙ sym v.1, u.2 ∙ sym v.2, u.3 ∙ sym v.3)
      sides later (inl u) (inr v) = absurd (stuck_or_took J L effect a b p q plan s K u v)
      sides later (inr u) (inl v) = absurd (took_or_stuck J L effect a b p q plan s K u v)
      sides later (inr u) (inr v) = took_alike J L effect a b p q plan s K (λ M rest. Walk J effect plans ts M rest p) (λ M rest. Walk L effect plans ts M rest q) later u v

-- ---- what was performed is a walk

All-front : {X : Type 0} (P : X → Type 0) (front rest : List X) → All P (front ++ rest) → All P front
All-front P [] rest all = All-nil P
All-front P (x ∷ front) rest all = All-cons P x front (All-head P x (front ++ rest) all) (All-front P front rest (All-tail P x (front ++ rest) all))

All-at : {X : Type 0} (P : X → Type 0) (front : List X) (x : X) (rest : List X) → All P (front ++ x ∷ rest) → P x
All-at P [] x rest all = All-head P x rest all
All-at P (y ∷ front) x rest all = All-at P front x rest (All-tail P y (front ++ x ∷ rest) all)

module _ (J : Journals) (effect : Option Event) (plans : List Plan) (legal : AreLegalShards plans J.shards) where
  -- one step, and then what comes
  one_taken : (d : ShardStep) (K : Journals) (ps : List Place) (steps : List ShardStep) (stop : Option Reply) (Then : Journals → List ShardStep → Type 0) (plan : Plan) → slice_get plans d.shard ≡ Some plan → (s : IsStep J.shards effect d) → Grows K J (its_place d ∷ ps) →
      (d.place ≡ length (K.shards d.shard) → Did d.shard K steps Then s.event d.told ⊎ Lacked J d.shard K steps stop s.event d.told) →
      Took J effect plan d.shard K steps stop Then
  one_taken d K ps steps stop Then plan planned s g ends =
      let next = shard_next K J ps d.shard d.place s.before (entry s.event d.told) g s.stands in
      let may = legal d.shard plan planned s.before (entry s.event d.told) s.stands.rest s.stands.is in
      record {
        room = subst (λ (l : List Entry). length l < plan.limit) next.front may.room;
        event = s.event;
        effect_is = s.effect_is;
        told = d.told;
        tells = subst (λ (l : List Entry). d.told ≡ told_at plan l s.event) next.front may.tells;
        ends = ends next.at;
      }

  step_on : (d : ShardStep) (K : Journals) (ps : List Place) (s : IsStep J.shards effect d) → Grows K J (its_place d ∷ ps) → Grows (add_shard K d.shard (entry s.event d.told)) J ps
  step_on d K ps s g = shard_on K J ps d.shard d.place s.before (entry s.event d.told) g s.stands

  walk_on : (done : List ShardStep) (K : Journals) (more : List ℕ) (ps : List Place) (tail : List ShardStep) (stop : Option Reply) → All (IsStep J.shards effect) done → All (λ (s : ShardStep). IsDone s.told) done → All (λ (s : ℕ). s < length plans) (shards_of done) →
      Grows K J (map its_place done ++ ps) → ((M : Journals) → Grows M J ps → Walk J effect plans more M tail stop) → Walk J effect plans (shards_of done ++ more) K (done ++ tail) stop
  walk_on [] K more ps tail stop stand all there g behind = behind K g
  walk_on (d ∷ done) K more ps tail stop stand all there g behind =
      let s = All-head (IsStep J.shards effect) d done stand in
      let (plan, planned) = standing plans d.shard (All-head (λ (t : ℕ). t < length plans) d.shard (shards_of done) there) in
      let rest = walk_on done (add_shard K d.shard (entry s.event d.told)) more ps tail stop (All-tail (IsStep J.shards effect) d done stand) (All-tail (λ (t : ShardStep). IsDone t.told) d done all)
      (All-tail (λ (t : ℕ). t < length plans) d.shard (shards_of done) there) (step_on d K (map its_place done ++ ps) s g) behind in (
        plan,
        planned,
        inr (one_taken d K (map its_place done ++ ps) (d ∷ done ++ tail) stop (λ M l. Walk J effect plans (shards_of done ++ more) M l stop) plan planned s g
            (λ at. inl (All-head (λ (t : ShardStep). IsDone t.told) d done all, done ++ tail, rest, ap (λ (p : ℕ). step_at d.shard p d.told ∷ done ++ tail) at))),
      )

  -- the shards that are to be stepped are there
  module _ (targets : List ℕ) (there : All (λ (s : ℕ). s < length plans) targets) (K : Journals) (steps : List ShardStep) (g : Grows K J (map its_place steps)) where
    front_there : (front rest : List ℕ) → targets ≡ front ++ rest → All (λ (s : ℕ). s < length plans) front
    front_there front rest is = All-front (λ (s : ℕ). s < length plans) front rest (subst (All (λ (s : ℕ). s < length plans)) is there)

    walk_through : shards_of steps ≡ targets → All (IsStep J.shards effect) steps → All (λ (s : ShardStep). IsDone s.told) steps → Walk J effect plans targets K steps None
    walk_through order stand all =
        subst (λ (ts : List ℕ). Walk J effect plans ts K steps None) (append-nil (shards_of steps) ∙ order)
        (subst (λ (l : List ShardStep). Walk J effect plans (shards_of steps ++ []) K l None) (append-nil steps)
        (walk_on steps K [] [] [] None stand all (subst (All (λ (s : ℕ). s < length plans)) (sym order) there) (subst (Grows K J) (sym (append-nil (map its_place steps))) g) (λ M h. (grown_none M J h, refl, refl))))

    walk_stuck : (shard : ℕ) (rest : List ℕ) (plan : Plan) → targets ≡ shards_of steps ++ shard ∷ rest → slice_get plans shard ≡ Some plan → length (J.shards shard) ≡ plan.limit → All (IsStep J.shards effect) steps → All (λ (s : ShardStep). IsDone s.told) steps →
        Walk J effect plans targets K steps (Some (shard_full shard plan.limit))
    walk_stuck shard rest plan order planned full stand all =
        subst (λ (ts : List ℕ). Walk J effect plans ts K steps (Some (shard_full shard plan.limit))) (sym order)
        (subst (λ (l : List ShardStep). Walk J effect plans (shards_of steps ++ shard ∷ rest) K l (Some (shard_full shard plan.limit))) (append-nil steps)
        (walk_on steps K (shard ∷ rest) [] [] (Some (shard_full shard plan.limit)) stand all (front_there (shards_of steps) (shard ∷ rest) order) (subst (Grows K J) (sym (append-nil (map its_place steps))) g)
        (λ M h. (plan, planned, inl (ap (λ (I : Journals). length (I.shards shard)) (sym (grown_none M J h)) ∙ full, grown_none M J h, refl, refl)))))

    walk_full : (done : List ShardStep) (shard place : ℕ) (told : Told) (reply : Reply) (rest : List ℕ) → lacks_room shard told ≡ Some reply → targets ≡ shards_of done ++ shard ∷ rest → steps ≡ done ++ step_at shard place told ∷ [] → IsStep J.shards effect (step_at shard place told) →
        All (IsStep J.shards effect) done → All (λ (s : ShardStep). IsDone s.told) done → Walk J effect plans targets K steps (Some reply)
    walk_full done shard place told reply rest lacks order is s stand all =
        let last = step_at shard place told in
        let grows : Grows K J (map its_place done ++ in_shard shard place ∷ []) = subst (Grows K J) (ap (map its_place) is ∙ map_push its_place done last) g in
        let (plan, planned) = standing plans shard (All-at (λ (t : ℕ). t < length plans) (shards_of done) shard rest (subst (All (λ (t : ℕ). t < length plans)) order there)) in
        subst (λ (ts : List ℕ). Walk J effect plans ts K steps (Some reply)) (sym order)
        (subst (λ (l : List ShardStep). Walk J effect plans (shards_of done ++ shard ∷ rest) K l (Some reply)) (sym is)
        (walk_on done K (shard ∷ rest) (in_shard shard place ∷ []) (last ∷ []) (Some reply) stand all (front_there (shards_of done) (shard ∷ rest) order) grows
        (λ M h. (
          plan,
          planned,
          inr (one_taken last M [] (last ∷ []) (Some reply) (λ N l. Walk J effect plans rest N l (Some reply)) plan planned s h
              (λ at. inr (reply, lacks, grown_none _ J (step_on last M [] s h), ap (λ (p : ℕ). step_at shard p told ∷ []) at, refl))),
        ))))

-- ---- by the operation

below : (n : ℕ) → All (λ (s : ℕ). s < n) (range_with_len 0 n)
below n k d lt = let within : k < n = omega (arith, lt, length-range_with_len 0 n) in omega (arith, within, get_or-range_with_len 0 n k d within)

pub targets_there : (plans : List Plan) → 0 < length plans → (op : Op) → All (λ (s : ℕ). s < length plans) (targets_of plans op)
targets_there plans some Read = All-nil (λ (s : ℕ). s < length plans)
targets_there plans some (Write new) = All-nil (λ (s : ℕ). s < length plans)
targets_there plans some (SetList list) = All-nil (λ (s : ℕ). s < length plans)
targets_there plans some (Forget channel) = All-cons (λ (s : ℕ). s < length plans) (home plans channel) [] (mod_below channel (length plans) some) (All-nil (λ (s : ℕ). s < length plans))
targets_there plans some _ = below (length plans)

-- the reply in place of the grant, by where the walk ended
abbrev pub Refuses : Op → List ShardStep → Option Reply → Option Reply → Type 0
Refuses op steps None refused =
    ((refused ≡ None) × ((digest : List ℕ) → op ≡ Discard digest → LetsGo steps)) ⊎ ((digest : List ℕ) × (op ≡ Discard digest) × (LetsGo steps → ⊥) × (refused ≡ Some (replies.NotHeld digest)))
Refuses op steps (Some reply) refused = refused ≡ Some reply

same_digest : (op : Op) (d e : List ℕ) → op ≡ Discard d → op ≡ Discard e → d ≡ e
same_digest op d e x y = let both : Discard d ≡ Discard e = sym x ∙ y in cc

refuses_agree : (op : Op) (steps : List ShardStep) (stop a b : Option Reply) → Refuses op steps stop a → Refuses op steps stop b → a ≡ b
refuses_agree op steps None a b (inl x) (inl y) = x.0 ∙ sym y.0
refuses_agree op steps None a b (inl x) (inr (d, is, none, said)) = absurd (none (x.1 d is))
refuses_agree op steps None a b (inr (d, is, none, said)) (inl y) = absurd (none (y.1 d is))
refuses_agree op steps None a b (inr (d, is, none, said)) (inr (e, also, never, says)) = said ∙ ap (λ (l : List ℕ). Some (replies.NotHeld l)) (same_digest op d e is also) ∙ sym says
refuses_agree op steps (Some reply) a b x y = x ∙ sym y

-- what was performed, from these journals on
pub record Performs (plans : List Plan) (op : Op) (certs : List Certificate) (reading : ℕ) (K J : Journals) (refused : Option Reply) : Type 0 where
  pub steps : List ShardStep
  pub stop : Option Reply
  pub walk : Walk J (effect_of op certs reading) plans (targets_of plans op) K steps stop
  pub refuses : Refuses op steps stop refused

module _ (plans : List Plan) (op : Op) (certs : List Certificate) (reading : ℕ) (K : Journals) where
  pub performs_agree : (J L : Journals) (a b : Option Reply) → Performs plans op certs reading K J a → Performs plans op certs reading K L b → (J ≡ L) × (a ≡ b)
  performs_agree J L a b x y =
      let ends = walks_agree J L (effect_of op certs reading) plans (targets_of plans op) K x.steps y.steps x.stop y.stop x.walk y.walk in (
        ends.0,
        refuses_agree op x.steps x.stop a b x.refuses
            (subst (λ (p : Option Reply). Refuses op x.steps p b) (sym ends.2) (subst (λ (l : List ShardStep). Refuses op l y.stop b) (sym ends.1) y.refuses)),
      )

  pub performs : (J : Journals) → AreLegalShards plans J.shards → 0 < length plans → (steps : List ShardStep) (refused : Option Reply) → Grows K J (map its_place steps) → IsPerformed plans J.shards op (effect_of op certs reading) steps refused → Performs plans op certs reading K J refused
  performs J legal some steps refused g (through w lets) = record {
    steps = steps;
    stop = None;
    walk = walk_through J (effect_of op certs reading) plans legal (targets_of plans op) (targets_there plans some op) K steps g w.order w.are_done.stand w.are_done.done;
    refuses = inl (refl, lets);
  }
  performs J legal some steps refused g (not_held digest is w none) = record {
    steps = steps;
    stop = None;
    walk = walk_through J (effect_of op certs reading) plans legal (targets_of plans op) (targets_there plans some op) K steps g w.order w.are_done.stand w.are_done.done;
    refuses = inr (digest, is, none, refl);
  }
  performs J legal some steps refused g (no_room {shard} {told} {reply} lacks f) = record {
    steps = steps;
    stop = Some reply;
    walk = walk_full J (effect_of op certs reading) plans legal (targets_of plans op) (targets_there plans some op) K steps g f.done shard f.place told reply f.rest lacks f.order f.steps_are f.refused f.are_done.stand f.are_done.done;
    refuses = refl;
  }
  performs J legal some steps refused g (no_place {shard} {limit} f) = record {
    steps = steps;
    stop = Some (shard_full shard f.plan.limit);
    walk = walk_stuck J (effect_of op certs reading) plans legal (targets_of plans op) (targets_there plans some op) K steps g shard f.rest f.plan f.order f.planned f.full f.are_done.stand f.are_done.done;
    refuses = ap (λ (k : ℕ). Some (shard_full shard k)) f.limit_is;
  }
