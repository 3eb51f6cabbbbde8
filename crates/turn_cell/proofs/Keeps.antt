-- Each step keeps the rule.
use Rattle.std.proofs.Common.{◌≡◌, ◌≢◌, ℕ, zero, suc, ◌+◌, ◌-◌, ◌%◌, ◌^◌, ◌<◌, ◌≤◌, ◌⊎◌, List, [], ◌∷◌, ◌++◌, length, get_or, set, refl, sym, ap, ◌∙◌, subst, inl, inr, ⊎_elim, arith, length-set, get_or-set_other, get_or-set_same, Option, Some, None}
use Rattle.std.specs.List.{sum_by}
use mathlib.Core.Logic.{dite}
use mathlib.Core.Option.{some, none, some-injective, some-ne-none}
use native.Mathlib.Decide.{ℕ_discrete, dec_le}
use lib.ListN.{get_elem?}
use Rattle.std.proofs.Math.ListN.{replicate}
use lib.Seq.{set-get_or}
use Rattle.atomic_table.specs.Table.{State, Me, step, keeps, takes, gives, stepped, Allows, Splits, Joins, Final, Seen}
use Rattle.atomic_table.proofs.Lists.{at_set, at_snoc, at_longer, set_here, set_else, set_again}
use Rattle.turn_cell.specs.declared.shares.TheConstants.{ALL_SHARES}
use Rattle.turn_cell.specs.declared.steps.TheConstants.{WORDS}
use Rattle.turn_cell.specs.declared.view.Stage.{Stage}
use Rattle.turn_cell.specs.declared.view.Stage.TheVariants.{Idle, Waiting, Turn, Joined}
use Rattle.turn_cell.specs.declared.view.View.{View}
use Rattle.turn_cell.specs.Journal.{Grows, MayLeave, HasEach, times, once_within}
use Rattle.turn_cell.specs.Line.{Holds, tickets, IsLined}
use Rattle.turn_cell.specs.Rule.{AtTurn, KnowsTurn, IsJoined, spent, IsHome, IsAway, IsTold, IsInvariant, first_view}
use Rattle.turn_cell.specs.Steps.{at_stage, added, entered_of, ticket_of, gone_home, keeping, given, both, Draws, Looks, Calls, Settled}
use Rattle.turn_cell.proofs.Sums.{index_below, sum_set, sum_push, one_below, two_below, only_one, sum_below, times-append}
use Rattle.turn_cell.proofs.Journals.{grows_refl, grows_trans, grows_length, grows_between, grows_same, grows_leave, added_within, added_once, longer_has, longer_first, longer_second, once_within-le, once_within-none, once_within-one}
use Rattle.turn_cell.proofs.Lines.{ring, line_same, line_more, line_drawn, line_called}

-- what holds of each member stays so where one changes
each_set : {X : Type 0} (P : ℕ → X → Type 0) (xs : List X) (i : ℕ) (y : X) → P i y → ((j : ℕ) (x : X) → j ≢ i → get_elem? xs j ≡ some x → P j x) → (j : ℕ) (x : X) → get_elem? (set xs i y) j ≡ some x → P j x
each_set {X} P xs i y here others j x e = ⊎_elim (λ (t : (j ≡ i) × (y ≡ x)). subst (λ (z : ℕ × X). P z.0 z.1) (λ k. (sym t.0 k, t.1 k)) here)
    (λ (t : (j ≢ i) × (get_elem? xs j ≡ some x)). others j x t.0 t.1) (at_set xs i j y x e)

each_push : {X : Type 0} (P : ℕ → X → Type 0) (xs : List X) (y : X) → ((j : ℕ) → P j y) → ((j : ℕ) (x : X) → get_elem? xs j ≡ some x → P j x) → (j : ℕ) (x : X) → get_elem? (xs ++ y ∷ []) j ≡ some x → P j x
each_push P xs y here others j x e = ⊎_elim (others j x) (λ (t : y ≡ x). subst (P j) t (here j)) (at_snoc xs y x j e)

some_same : {X : Type 0} (x y : X) → Some x ≡ Some y → x ≡ y
some_same x y e = cc

sum_same : {X : Type 0} (f : X → ℕ) (xs : List X) (i : ℕ) (x y : X) → get_elem? xs i ≡ some x → f y ≡ f x → sum_by f (set xs i y) ≡ sum_by f xs
sum_same f xs i x y at same = omega (arith, sum_set f xs i x y at)

module _ {E : Type 0} where
  not_at_turn : (turn serving seat : ℕ) (core : List E) (stage : Stage E) → ¬ (KnowsTurn stage) → AtTurn turn serving core seat stage
  not_at_turn turn serving seat core Idle h = tt
  not_at_turn turn serving seat core (Waiting t) h = tt
  not_at_turn turn serving seat core (Turn t entered) h = absurd (h tt)
  not_at_turn turn serving seat core (Joined xs ys) h = tt

  turn_is : (turn serving seat : ℕ) (core : List E) (stage : Stage E) → AtTurn turn serving core seat stage → KnowsTurn stage → (seat ≡ turn) × Holds serving stage
  turn_is turn serving seat core Idle a k = absurd k
  turn_is turn serving seat core (Waiting t) a k = absurd k
  turn_is turn serving seat core (Turn t entered) a k = (a.0, a.1)
  turn_is turn serving seat core (Joined xs ys) a k = absurd k

  few_tickets : (stage : Stage E) → tickets stage ≤ 1
  few_tickets Idle = omega arith
  few_tickets (Waiting t) = omega arith
  few_tickets (Turn t entered) = omega arith
  few_tickets (Joined xs ys) = omega arith

  joined_more : (P Q : List E → Type 0) → ((xs : List E) → P xs → Q xs) → (seen : List E) (stage : Stage E) → IsJoined P seen stage → IsJoined Q seen stage
  joined_more P Q more seen Idle j = tt
  joined_more P Q more seen (Waiting t) j = tt
  joined_more P Q more seen (Turn t entered) j = tt
  joined_more P Q more seen (Joined xs ys) j = (more xs j.0, more ys j.1, j.2, j.3)

  abbrev first_or : List E → Stage E → List E
  first_or n (Joined xs ys) = xs
  first_or n _ = n

  abbrev second_or : List E → Stage E → List E
  second_or n (Joined xs ys) = ys
  second_or n _ = n

abbrev value_or : {V : Type 0} → V → List (ℕ × Option V) → V
value_or v [] = v
value_or v (x ∷ xs) = elim x.1 [ Some y ↦ y | None ↦ v ]

module _ {V F E : Type 0} (fixed : V → F) (journal : V → List E) (allows : F → List E → E → Type 0) (opening : V) where
  abbrev Rule : State (Option V) (View F E) → Type 0
  Rule = IsInvariant fixed journal allows opening

  abbrev Told : List E → View F E → Type 0
  Told = IsTold fixed journal allows opening

  abbrev Slot : List E → State (Option V) (View F E) → Type 0
  Slot core s = IsHome fixed journal opening core s ⊎ IsAway core s

  -- a view changes that does not know its turn
  slot_set : (core : List E) (s : State (Option V) (View F E)) (id : ℕ) (v w : View F E) (words : List ℕ) → get_or words 9 0 ≡ get_or s.words 9 0 → get_elem? s.views id ≡ some v → ¬ (KnowsTurn v.stage) → ¬ (KnowsTurn w.stage)
      → Slot core s → Slot core (record { words = words; homes = s.homes; views = set s.views id w })
  slot_set core s id v w words same at before after t = ⊎_elim (λ (h : IsHome fixed journal opening core s). inl (record {
    value = h.value;
    here = h.here;
    its_journal = h.its_journal;
    its_fixed = h.its_fixed;
    no_turn = each_set (λ j d. ¬ (KnowsTurn d.stage)) s.views id w after (λ j d _ e. h.no_turn j d e);
  }))
      (λ (a : IsAway core s). inr (record {
        turn = a.turn;
        holder = a.holder;
        there = set_else s.views id a.turn w (λ e. before (subst KnowsTurn (ap (λ (x : View F E). x.stage) (some-injective a.holder v (sym a.there ∙ (ap (get_elem? s.views) e ∙ at)))) a.knows)) ∙ a.there;
        knows = a.knows;
        out = a.out;
        one_turn = each_set (λ j d. AtTurn a.turn (get_or words 9 0) core j d.stage) s.views id w (not_at_turn a.turn (get_or words 9 0) id core w.stage after) (λ j d _ e. subst (λ (z : ℕ). AtTurn a.turn z core j d.stage) (sym same) (a.one_turn j d e));
      })) t

  slot_push : (core : List E) (s : State (Option V) (View F E)) (w : View F E) → ¬ (KnowsTurn w.stage) → Slot core s → Slot core (record { words = s.words; homes = s.homes; views = s.views ++ w ∷ [] })
  slot_push core s w after t = ⊎_elim (λ (h : IsHome fixed journal opening core s). inl (record {
    value = h.value;
    here = h.here;
    its_journal = h.its_journal;
    its_fixed = h.its_fixed;
    no_turn = each_push (λ j d. ¬ (KnowsTurn d.stage)) s.views w (λ j. after) h.no_turn;
  }))
      (λ (a : IsAway core s). inr (record {
        turn = a.turn;
        holder = a.holder;
        there = at_longer s.views (w ∷ []) a.turn a.holder a.there;
        knows = a.knows;
        out = a.out;
        one_turn = each_push (λ j d. AtTurn a.turn (get_or s.words 9 0) core j d.stage) s.views w (λ j. not_at_turn a.turn (get_or s.words 9 0) j core w.stage after) a.one_turn;
      })) t

  few_out : (s : State (Option V) (View F E)) (r : Rule s) → r.line.out < ring
  few_out s r = let few : sum_by (λ v. tickets v.stage) s.views ≤ sum_by (λ v. v.shares) s.views = sum_below (λ v. tickets v.stage) (λ v. v.shares) s.views (λ j y e. dite (ℕ_discrete y.shares 0)
      (λ z. let t : tickets y.stage ≡ 0 = ap (λ (x : View F E). tickets x.stage) ((r.told j y e).gone z) in omega arith)
      (λ z. let t = few_tickets y.stage in omega arith)) in let o = r.line.one_each in let a = r.shared in omega arith

  -- a new stage of the same view
  told_at : (core : List E) (v : View F E) (stage : Stage E) → 0 < v.shares → Told core v → IsJoined (λ xs. Grows allows (fixed opening) xs core) v.seen stage → Told core (at_stage stage v)
  told_at core v stage has t joined = let l = t.live has in record {
    live = λ _. record { its_fixed = l.its_fixed; its_start = l.its_start; begins = l.begins; grows = l.grows; own_seen = l.own_seen; joined = joined };
    gone = λ none. absurd (omega arith);
  }

  -- the next ticket was drawn
  drawn : (s : State (Option V) (View F E)) (r : Rule s) (id : ℕ) (c : List (ℕ × Option V)) (v : View F E) → get_elem? s.views id ≡ some v → v.stage ≡ Idle → 0 < v.shares
      → Rule (stepped s 8 ((get_or s.words 8 0 + 1) % 2 ^ 64) id c (at_stage (Waiting (get_or s.words 8 0)) v) keeps)
  drawn s r id c v at idle some_share = let ticket : ℕ = get_or s.words 8 0 in let serving : ℕ = get_or s.words 9 0 in let w : View F E = at_stage (Waiting ticket) v in let n : ℕ = (ticket + 1) % ring in let long_words = r.words in
      let same_serving : get_or (set s.words 8 n) 9 0 ≡ serving = get_or-set_other s.words 8 9 n 0 (λ e. omega arith) in
      let new_ticket : get_or (set s.words 8 n) 8 0 ≡ n = get_or-set_same s.words 8 n 0 (omega arith) in
      let none_held : tickets v.stage ≡ 0 = ap tickets idle in record {
        core = r.core;
        words = length-set s.words 8 n ∙ long_words;
        line = subst (λ (z : ℕ × ℕ). IsLined z.0 z.1 (set s.views id w)) (λ i. (sym same_serving i, sym new_ticket i)) (line_drawn serving ticket s.views id v w r.line at none_held refl (few_out s r));
        slot = slot_set r.core s id v w (set s.words 8 n) same_serving at (λ k. subst KnowsTurn idle k) (λ k. k) r.slot;
        told = each_set (λ j d. Told r.core d) s.views id w (told_at r.core v (Waiting ticket) some_share (r.told id v at) tt) (λ j d _ e. r.told j d e);
        shared = sum_same (λ v. v.shares) s.views id v w at refl ∙ r.shared;
        placed = λ place. sum_same (λ v. times place v.own) s.views id v w at refl ∙ r.placed place;
      }

  unchanged : (s : State (Option V) (View F E)) (r : Rule s) (i id : ℕ) (c : List (ℕ × Option V)) (v : View F E) → get_elem? s.views id ≡ some v → Rule (stepped s i (get_or s.words i 0) id c v keeps)
  unchanged s r i id c v at = let a : s.words ≡ set s.words i (get_or s.words i 0) = sym (set-get_or s.words i 0) in let b : s.views ≡ set s.views id v = sym (set_again s.views id v at) in
      subst (λ (z : List ℕ × List (View F E)). Rule (record { words = z.0; homes = s.homes; views = z.1 })) (λ k. (a k, b k)) r

  pub draws : (slots id : ℕ) (me : Me (Option V) (View F E)) → me.0.stage ≡ Idle → 0 < me.0.shares → Allows Rule slots id me 8 (λ n. (n + 1) % 2 ^ 64) (Draws (step slots 8 1 0 none) me)
  draws slots id me idle some_share s r long at fits = let ticket : ℕ = get_or s.words 8 0 in (at_stage (Waiting ticket) me.0, keeps, tt, drawn s r id me.1 me.0 at idle some_share, refl)

  -- where a view waits for the ticket that is served, the slot is at home
  is_home : (s : State (Option V) (View F E)) (r : Rule s) (id t : ℕ) (v : View F E) → get_elem? s.views id ≡ some v → v.stage ≡ Waiting t → get_or s.words 9 0 ≡ t → IsHome fixed journal opening r.core s
  is_home s r id t v at is turn = ⊎_elim (λ (h : IsHome fixed journal opening r.core s). h)
      (λ (a : IsAway r.core s). let k = turn_is a.turn (get_or s.words 9 0) a.turn r.core a.holder.stage (a.one_turn a.turn a.holder a.there) a.knows in
      let mine : Holds (get_or s.words 9 0) v.stage = subst (Holds (get_or s.words 9 0)) (sym is) (sym turn) in
      let same : a.turn ≡ id = r.line.alone a.turn id (get_or s.words 9 0) a.holder v a.there at k.1 mine in
      let here : a.holder ≡ v = some-injective a.holder v (sym a.there ∙ (ap (get_elem? s.views) same ∙ at)) in
      absurd (subst KnowsTurn (ap (λ (x : View F E). x.stage) here ∙ is) a.knows)) r.slot

  -- on its turn a view takes the slot
  taken : (s : State (Option V) (View F E)) (r : Rule s) (id t : ℕ) (v : View F E) (c : List (ℕ × Option V)) (at : get_elem? s.views id ≡ some v) → v.stage ≡ Waiting t → 0 < v.shares → get_or s.words 9 0 ≡ t
      → (h : IsHome fixed journal opening r.core s) → Rule (stepped s 9 (get_or s.words 9 0) id c (at_stage (Turn t (journal h.value)) v) (takes 4 (Some h.value)))
  taken s r id t v c at is has turn h = let w : View F E = at_stage (Turn t (journal h.value)) v in let serving : ℕ = get_or s.words 9 0 in let vs : List (View F E) = set s.views id w in
      let a : s.words ≡ set s.words 9 serving = sym (set-get_or s.words 9 0) in
      subst (λ (z : List ℕ). Rule (record { words = z; homes = set s.homes 4 none; views = vs })) a (record {
        core = r.core;
        words = r.words;
        line = line_same serving (get_or s.words 8 0) s.views id v w r.line at (sym (ap tickets is)) (λ u held. subst (Holds u) (sym is) held) (λ u held. subst (Holds u) is held);
        slot = inr (record {
          turn = id;
          holder = w;
          there = set_here s.views id w (index_below s.views id v at);
          knows = tt;
          out = set_here s.homes 4 none (index_below s.homes 4 (some (Some h.value)) h.here);
          one_turn = each_set (λ j d. AtTurn id serving r.core j d.stage) s.views id w (refl, sym turn, h.its_journal) (λ j d _ e. not_at_turn id serving j r.core d.stage (h.no_turn j d e));
        });
        told = each_set (λ j d. Told r.core d) s.views id w (told_at r.core v (Turn t (journal h.value)) has (r.told id v at) tt) (λ j d _ e. r.told j d e);
        shared = sum_same (λ v. v.shares) s.views id v w at refl ∙ r.shared;
        placed = λ place. sum_same (λ v. times place v.own) s.views id v w at refl ∙ r.placed place;
      })

  pub looks : (slots id : ℕ) (me : Me (Option V) (View F E)) (t : ℕ) → me.0.stage ≡ Waiting t → 0 < me.0.shares → Allows Rule slots id me 9 (λ n. n) (Looks fixed journal allows (step slots 9 0 0 none) me)
  looks slots id me t is has s r long at fits = dite (ℕ_discrete (get_or s.words 9 0) t)
      (λ turn. let h = is_home s r id t me.0 at is turn in let l = (r.told id me.0 at).live has in (
        at_stage (Turn t (journal h.value)) me.0,
        takes 4 (Some h.value),
        h.here,
        taken s r id t me.0 me.1 at is has turn h,
        λ u is'. let same : t ≡ u = ap (ticket_of) (sym is ∙ is') in (
          (λ _. record {
            value = h.value;
            after = ap (λ (z : ℕ). let m : Me (Option V) (View F E) = (at_stage (Turn z (journal h.value)) me.0, (4, Some h.value) ∷ me.1) in m) same;
            its_fixed = l.its_fixed ∙ ap Some (sym h.its_fixed);
            grows = subst (λ (z : F × List E). Grows allows z.0 me.0.seen z.1) (λ i. (sym h.its_fixed i, sym h.its_journal i)) l.grows;
          }),
          λ other. absurd (other (turn ∙ same)),
        ),
      ))
      (λ later. (me.0, keeps, tt, unchanged s r 9 id me.1 me.0 at, λ u is'. let same : t ≡ u = ap (ticket_of) (sym is ∙ is') in ((λ hit. absurd (later (hit ∙ sym same))), λ _. refl)))

  -- a pass with every share has seen all, and each place from the opening on is its own
  all_seen : (s : State (Option V) (View F E)) (r : Rule s) (id : ℕ) (v : View F E) → get_elem? s.views id ≡ some v → v.shares ≡ ALL_SHARES → (r.core ≡ v.seen) × ((place : ℕ) → times place v.own ≡ once_within (length (journal opening)) (length v.seen) place)
  all_seen s r id v at all = let l = (r.told id v at).live (omega arith) in
      let others : (j : ℕ) (d : View F E) → ¬ (j ≡ id) → get_elem? s.views j ≡ some d → d ≡ spent = λ j d ne e. (r.told j d e).gone (let t = two_below (λ x. x.shares) s.views j id d v ne e at in let h = r.shared in omega arith) in
      let owns : (place : ℕ) → times place v.own ≡ once_within (length (journal opening)) (length r.core) place = λ place. sym (only_one (λ x. times place x.own) s.views id v at (λ j d ne e. ap (λ (x : View F E). times place x.own) (others j d ne e))) ∙ r.placed place in
      let begins_length = grows_length allows (fixed opening) (journal opening) v.seen l.begins in
      let whole : length r.core ≤ length v.seen = dite (dec_le (length r.core) (length (journal opening)))
      (λ le. omega arith)
      (λ gt. let last : ℕ = length r.core - 1 in let is : once_within (length (journal opening)) (length r.core) last ≡ 1 = once_within-one (length (journal opening)) (length r.core) last (omega arith) (omega arith) in
      let own = owns last in let lt = l.own_seen last (omega arith) in omega arith) in
      let same : r.core ≡ v.seen = grows_same allows (fixed opening) v.seen r.core l.grows whole in
      (same, λ place. owns place ∙ ap (λ (z : List E). once_within (length (journal opening)) (length z) place) same)

  -- the same, in the words of the view
  owns_each : (s : State (Option V) (View F E)) (r : Rule s) (id : ℕ) (v : View F E) → get_elem? s.views id ≡ some v → v.shares ≡ ALL_SHARES → HasEach v.start (length v.seen) v.own
  owns_each s r id v at all place = let l = (r.told id v at).live (omega arith) in (all_seen s r id v at all).1 place ∙ ap (λ (z : ℕ). once_within z (length v.seen) place) (sym l.its_start)

  told_more : (core later : List E) (v : View F E) → Grows allows (fixed opening) core later → Told core v → Told later v
  told_more core later v g t = record {
    live = λ has. let l = t.live has in record {
      its_fixed = l.its_fixed;
      its_start = l.its_start;
      begins = l.begins;
      grows = grows_trans allows (fixed opening) v.seen core later l.grows g;
      own_seen = l.own_seen;
      joined = joined_more (λ xs. Grows allows (fixed opening) xs core) (λ xs. Grows allows (fixed opening) xs later) (λ xs a. grows_trans allows (fixed opening) xs core later a g) v.seen v.stage l.joined;
    };
    gone = t.gone;
  }

  is_away : (s : State (Option V) (View F E)) (r : Rule s) (id : ℕ) (v : View F E) → get_elem? s.views id ≡ some v → KnowsTurn v.stage → IsAway r.core s
  is_away s r id v at knows = ⊎_elim (λ (h : IsHome fixed journal opening r.core s). absurd (h.no_turn id v at knows)) (λ (a : IsAway r.core s). a) r.slot

  calls_at : (slots id t : ℕ) (v : View F E) (entered : List E) (value : V) → v.stage ≡ Turn t entered → 0 < v.shares → v.fixed ≡ Some (fixed value) → MayLeave allows (fixed value) entered (journal value)
      → Allows Rule slots id (v, (4, Some value) ∷ []) 9 (λ n. (n + 1) % 2 ^ 64) (Calls journal (step slots 9 1 0 none) (v, (4, Some value) ∷ []))
  calls_at slots id t v entered value is has own_fixed may s r long at fits =
      let serving : ℕ = get_or s.words 9 0 in let ticket : ℕ = get_or s.words 8 0 in let n : ℕ = (serving + 1) % ring in let j : List E = journal value in let w : View F E = gone_home entered j v in let long_words = r.words in
      let a = is_away s r id v at (subst KnowsTurn (sym is) tt) in
      let here = subst (AtTurn a.turn serving r.core id) is (a.one_turn id v at) in
      let l = (r.told id v at).live has in
      let same_fixed : fixed value ≡ fixed opening = some_same (fixed value) (fixed opening) (sym own_fixed ∙ l.its_fixed) in
      let grown : Grows allows (fixed opening) r.core j = subst (λ (z : F × List E). Grows allows z.0 z.1 j) (λ i. (same_fixed i, here.2 i)) (grows_leave allows (fixed value) entered j may) in
      let begins : Grows allows (fixed opening) (journal opening) j = grows_trans allows (fixed opening) (journal opening) v.seen j l.begins (grows_trans allows (fixed opening) v.seen r.core j l.grows grown) in
      let new_serving : get_or (set s.words 9 n) 9 0 ≡ n = get_or-set_same s.words 9 n 0 (omega arith) in
      let same_ticket : get_or (set s.words 9 n) 8 0 ≡ ticket = get_or-set_other s.words 9 8 n 0 (λ e. omega arith) in
      let core_length : length entered ≡ length r.core = ap length here.2 in
      let seen_length = grows_length allows (fixed opening) v.seen r.core l.grows in
      let grown_length = grows_length allows (fixed opening) r.core j grown in
      let opening_length = grows_length allows (fixed opening) (journal opening) v.seen l.begins in
      let kept : Rule (stepped s 9 n id ((4, Some value) ∷ []) w gives) = record {
        core = j;
        words = length-set s.words 9 n ∙ long_words;
        line = subst (λ (z : ℕ × ℕ). IsLined z.0 z.1 (set s.views id w)) (λ i. (sym new_serving i, sym same_ticket i))
            (line_called serving ticket s.views id v w r.line at fits (ap tickets is) (subst (Holds serving) (sym is) here.1) refl (λ u h. h) (few_out s r));
        slot = inl (record {
          value = value;
          here = set_here s.homes 4 (some (Some value)) (index_below s.homes 4 none a.out);
          its_journal = refl;
          its_fixed = same_fixed;
          no_turn = each_set (λ i d. ¬ (KnowsTurn d.stage)) s.views id w (λ k. k) (λ i d other e k. other ((turn_is a.turn serving i r.core d.stage (a.one_turn i d e) k).0 ∙ sym here.0));
        });
        told = each_set (λ i d. Told j d) s.views id w (record {
          live = λ _. record {
            its_fixed = l.its_fixed;
            its_start = l.its_start;
            begins = begins;
            grows = grows_refl allows (fixed opening) j;
            own_seen = λ place some_own. let apart = times-append place v.own (added entered j) in dite (ℕ_discrete (times place v.own) 0)
                (λ z. added_within place entered j (omega arith))
                (λ z. let lt = l.own_seen place (omega arith) in omega arith);
            joined = tt;
          };
          gone = λ none_left. absurd (omega arith);
        }) (λ i d _ e. told_more r.core j d grown (r.told i d e));
        shared = sum_same (λ x. x.shares) s.views id v w at refl ∙ r.shared;
        placed = λ place. let before = r.placed place in let moved = sum_set (λ x. times place x.own) s.views id v w at in let apart = times-append place v.own (added entered j) in
            let more = added_once allows (fixed value) (length (journal opening)) place entered j (omega arith) may in
            let same : once_within (length (journal opening)) (length entered) place ≡ once_within (length (journal opening)) (length r.core) place = ap (λ (z : ℕ). once_within (length (journal opening)) z place) core_length in omega arith;
      } in
      let whole : v.shares ≡ ALL_SHARES → HasEach v.start (length j) (v.own ++ added entered j) = λ all. owns_each (stepped s 9 n id ((4, Some value) ∷ []) w gives) kept id w (set_here s.views id w (index_below s.views id v at)) all in (
        w,
        gives,
        tt,
        kept,
        λ u entered' value' is' c'. let own : entered ≡ entered_of v.stage = sym (ap entered_of is) in let same_value : value ≡ value' = ap (value_or value) c' in (
          sym here.1 ∙ ap ticket_of (sym is ∙ is'),
          record {
            after = λ i. (gone_home (own i) (journal (same_value i)) v, []);
            whole = subst (λ (z : List E × V). v.shares ≡ ALL_SHARES → HasEach v.start (length (journal z.1)) (v.own ++ added z.0 (journal z.1))) (λ i. (own i, same_value i)) whole;
          },
        ),
      )

  pub calls : (slots id t : ℕ) (me : Me (Option V) (View F E)) (entered : List E) (value : V) → me.0.stage ≡ Turn t entered → me.1 ≡ (4, Some value) ∷ [] → 0 < me.0.shares → me.0.fixed ≡ Some (fixed value)
      → MayLeave allows (fixed value) entered (journal value) → Allows Rule slots id me 9 (λ n. (n + 1) % 2 ^ 64) (Calls journal (step slots 9 1 0 none) me)
  calls slots id t me entered value is held has own_fixed may = subst (λ (c : List (ℕ × Option V)). Allows Rule slots id (me.0, c) 9 (λ n. (n + 1) % 2 ^ 64) (Calls journal (step slots 9 1 0 none) (me.0, c))) (sym held)
      (calls_at slots id t me.0 entered value is has own_fixed may)

  pub splits : (id give : ℕ) (v : View F E) → v.stage ≡ Idle → 0 < give → give < v.shares → Splits Rule id v (keeping give v) (given give v)
  splits id give v idle least most s r at =
      let left : View F E = keeping give v in let right : View F E = given give v in let serving : ℕ = get_or s.words 9 0 in let ticket : ℕ = get_or s.words 8 0 in let cut : List (View F E) = set s.views id left in
      let middle : State (Option V) (View F E) = record { words = s.words; homes = s.homes; views = cut } in
      let l = (r.told id v at).live (omega arith) in record {
        core = r.core;
        words = r.words;
        line = line_more serving ticket cut right (line_same serving ticket s.views id v left r.line at refl (λ t h. h) (λ t h. h)) refl (λ t h. h);
        slot = slot_push r.core middle right (λ k. k) (slot_set r.core s id v left s.words refl at (λ k. subst KnowsTurn idle k) (λ k. subst KnowsTurn idle k) r.slot);
        told = each_push (λ j d. Told r.core d) cut right (λ j. record {
          live = λ _. record { its_fixed = l.its_fixed; its_start = l.its_start; begins = l.begins; grows = l.grows; own_seen = λ place h. absurd (omega arith); joined = tt };
          gone = λ none_left. absurd (omega arith);
        }) (each_set (λ j d. Told r.core d) s.views id left (record {
          live = λ _. record { its_fixed = l.its_fixed; its_start = l.its_start; begins = l.begins; grows = l.grows; own_seen = l.own_seen; joined = l.joined };
          gone = λ none_left. absurd (omega arith);
        }) (λ j d _ e. r.told j d e));
        shared = let a = sum_push (λ x. x.shares) cut right in let b = sum_set (λ x. x.shares) s.views id v left at in let c = r.shared in omega arith;
        placed = λ place. let a = sum_push (λ x. times place x.own) cut right in let b = sum_same (λ x. times place x.own) s.views id v left at refl in let c = r.placed place in omega arith;
      }

  pub joins : (id : ℕ) (v : View F E) (other : ℕ) (w : View F E) → v.stage ≡ Idle → 0 < v.shares → w.stage ≡ Idle → 0 < w.shares → Joins Rule id v other w (both v w) spent
  joins id v other w idle has idle' has' s r at apart there =
      let b : View F E = both v w in let serving : ℕ = get_or s.words 9 0 in let ticket : ℕ = get_or s.words 8 0 in let once : List (View F E) = set s.views id b in
      let middle : State (Option V) (View F E) = record { words = s.words; homes = s.homes; views = once } in
      let l = (r.told id v at).live has in
      let at' : get_elem? s.views other ≡ some w = sym (set_else s.views id other b apart) ∙ there in
      let l' = (r.told other w at').live has' in record {
        core = r.core;
        words = r.words;
        line = line_same serving ticket once other w spent (line_same serving ticket s.views id v b r.line at (sym (ap tickets idle)) (λ t h. absurd h) (λ t h. subst (Holds t) idle h)) there (sym (ap tickets idle')) (λ t h. absurd h) (λ t h. subst (Holds t) idle' h);
        slot = slot_set r.core middle other w spent s.words refl there (λ k. subst KnowsTurn idle' k) (λ k. k) (slot_set r.core s id v b s.words refl at (λ k. subst KnowsTurn idle k) (λ k. k) r.slot);
        told = each_set (λ j d. Told r.core d) once other spent (record { live = λ h. absurd (omega arith); gone = λ _. refl }) (λ j d _ e. each_set (λ i x. Told r.core x) s.views id b (record {
          live = λ _. record {
            its_fixed = l.its_fixed;
            its_start = l.its_start;
            begins = longer_has (λ z. Grows allows (fixed opening) (journal opening) z) v.seen w.seen l.begins l'.begins;
            grows = longer_has (λ z. Grows allows (fixed opening) z r.core) v.seen w.seen l.grows l'.grows;
            own_seen = λ place some_own. let pair = times-append place v.own w.own in let first_below = longer_first v.seen w.seen in let second_below = longer_second v.seen w.seen in dite (ℕ_discrete (times place v.own) 0)
                (λ z. let lt = l'.own_seen place (omega arith) in omega arith)
                (λ z. let lt = l.own_seen place (omega arith) in omega arith);
            joined = (l.grows, l'.grows, longer_first v.seen w.seen, longer_second v.seen w.seen);
          };
          gone = λ none_left. absurd (omega arith);
        }) (λ i x _ e'. r.told i x e') j d e);
        shared = let a = sum_set (λ x. x.shares) once other w spent there in let c = sum_set (λ x. x.shares) s.views id v b at in let d = r.shared in omega arith;
        placed = λ place. let a = sum_set (λ x. times place x.own) once other w spent there in let c = sum_set (λ x. times place x.own) s.views id v b at in let pair = times-append place v.own w.own in let d = r.placed place in omega arith;
      }

  pub settles : (slots id : ℕ) (me : Me (Option V) (View F E)) (xs ys : List E) → me.0.stage ≡ Joined xs ys → 0 < me.0.shares → Allows Rule slots id me 8 (λ n. n) (Settled allows (step slots 8 0 0 none) me)
  settles slots id me xs ys is has s r long at fits = let v : View F E = me.0 in let w : View F E = at_stage Idle v in let serving : ℕ = get_or s.words 9 0 in let ticket : ℕ = get_or s.words 8 0 in
      let l = (r.told id v at).live has in let a : s.words ≡ set s.words 8 ticket = sym (set-get_or s.words 8 0) in
      let joined = subst (IsJoined (λ z. Grows allows (fixed opening) z r.core) v.seen) is l.joined in (
        w,
        keeps,
        tt,
        subst (λ (z : List ℕ). Rule (record { words = z; homes = s.homes; views = set s.views id w })) a (record {
          core = r.core;
          words = r.words;
          line = line_same serving ticket s.views id v w r.line at (sym (ap tickets is)) (λ t h. absurd h) (λ t h. subst (Holds t) is h);
          slot = slot_set r.core s id v w s.words refl at (λ k. subst KnowsTurn is k) (λ k. k) r.slot;
          told = each_set (λ j d. Told r.core d) s.views id w (told_at r.core v Idle has (r.told id v at) tt) (λ j d _ e. r.told j d e);
          shared = sum_same (λ x. x.shares) s.views id v w at refl ∙ r.shared;
          placed = λ place. sum_same (λ x. times place x.own) s.views id v w at refl ∙ r.placed place;
        }),
        λ xs' ys' is'. let same : xs ≡ xs' = ap (first_or []) (sym is ∙ is') in let same' : ys ≡ ys' = ap (second_or []) (sym is ∙ is') in record {
          after = refl;
          grows = λ f e. let same_fixed : fixed opening ≡ f = some_same (fixed opening) f (sym l.its_fixed ∙ e) in
              subst (λ (z : F × (List E × List E)). Grows allows z.0 z.1.0 v.seen × Grows allows z.0 z.1.1 v.seen) (λ i. (same_fixed i, (same i, same' i)))
              (grows_between allows (fixed opening) xs v.seen r.core joined.0 l.grows joined.2, grows_between allows (fixed opening) ys v.seen r.core joined.1 l.grows joined.3);
          few = let a' = one_below (λ x. x.shares) s.views id v at in let b' = r.shared in omega arith;
          whole = λ all. owns_each s r id v at all;
          distinct = λ place. let a' = one_below (λ x. times place x.own) s.views id v at in let b' = r.placed place in let c' = once_within-le (length (journal opening)) (length r.core) place in omega arith;
        },
      )

  alone_here : (v d : View F E) (j : ℕ) → get_elem? (v ∷ []) j ≡ some d → v ≡ d
  alone_here v d j e = ⊎_elim (λ (n : get_elem? [] j ≡ some d). absurd (some-ne-none d (sym n))) (λ (h : v ≡ d). h) (at_snoc [] v d j e)

  alone_at : (v d : View F E) (j : ℕ) → get_elem? (v ∷ []) j ≡ some d → j ≡ 0
  alone_at v d zero e = refl
  alone_at v d (suc j) e = absurd (some-ne-none d (sym e))

  -- the rule holds of a new cell
  pub opens : Rule (record { words = replicate WORDS 0; homes = some None ∷ some None ∷ some None ∷ some None ∷ some (Some opening) ∷ some None ∷ some None ∷ some None ∷ some None ∷ []; views = first_view fixed journal opening ∷ [] })
  opens = let v : View F E = first_view fixed journal opening in record {
    core = journal opening;
    words = refl;
    line = record {
      out = 0;
      next = refl;
      one_each = refl;
      each_held = λ k lt. absurd (omega arith);
      in_line = λ seat t d e h. absurd (subst (λ (x : View F E). Holds t x.stage) (sym (alone_here v d seat e)) h);
      alone = λ seat other t d d' e e' h h'. alone_at v d seat e ∙ sym (alone_at v d' other e');
    };
    slot = inl (record { value = opening; here = refl; its_journal = refl; its_fixed = refl; no_turn = λ seat d e k. subst (λ (x : View F E). KnowsTurn x.stage) (sym (alone_here v d seat e)) k });
    told = λ seat d e. subst (λ (x : View F E). Told (journal opening) x) (alone_here v d seat e) (record {
      live = λ _. record { its_fixed = refl; its_start = refl; begins = grows_refl allows (fixed opening) (journal opening); grows = grows_refl allows (fixed opening) (journal opening); own_seen = λ place h. absurd (omega arith); joined = tt };
      gone = λ z. absurd (omega arith);
    });
    shared = refl;
    placed = λ place. sym (once_within-none (length (journal opening)) place);
  }

  -- the value that is at home at the end
  pub closes : (id : ℕ) (v : View F E) (words : List ℕ) (slots : List (Option V)) → v.shares ≡ ALL_SHARES → v.stage ≡ Idle → Final (Seen Rule id v) words slots
      → (value : V) × (get_elem? slots 4 ≡ some (Some value)) × (fixed value ≡ fixed opening) × (journal value ≡ v.seen) × ((place : ℕ) → times place v.own ≡ once_within (length (journal opening)) (length v.seen) place)
  closes id v words slots all idle f = let s = f.0 in let r = f.1.0 in let at = f.1.1 in let known = all_seen s r id v at all in
      ⊎_elim (λ (h : IsHome fixed journal opening r.core s). (h.value, f.4 4 (Some h.value) h.here, h.its_fixed, h.its_journal ∙ known.0, known.1))
      (λ (a : IsAway r.core s). absurd (dite (ℕ_discrete a.turn id)
      (λ e. subst KnowsTurn (ap (λ (x : View F E). x.stage) (some-injective a.holder v (sym a.there ∙ (ap (get_elem? s.views) e ∙ at))) ∙ idle) a.knows)
      (λ ne. subst (λ (x : View F E). KnowsTurn x.stage) ((r.told a.turn a.holder a.there).gone (let t = two_below (λ x. x.shares) s.views a.turn id a.holder v ne a.there at in let h = r.shared in omega arith)) a.knows)))
      r.slot
