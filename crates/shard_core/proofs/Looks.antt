-- What follows from what an Ask finds.
use Rattle.std.proofs.Common.{◌≡◌, ℕ, ◌+◌, ◌<◌, ◌≤◌, List, [], ◌∷◌, ◌++◌, length, get_or, set, filter, map, All, refl, sym, ap, ap₂, ◌∙◌, subst, arith}
use Rattle.std.specs.List.{slice_get, filter_map}
use Rattle.std.specs.declared.alloc.Global.{Global}
use Rattle.std.specs.declared.vec.Vec.{Vec}
use Rattle.std.specs.List.Sorted.{IsStrictlyIncreasing}
use Rattle.stmt_codec.specs.Certificates.{Certificate}
use Rattle.shard_core.specs.declared.held.name.Name.{Name}
use Rattle.shard_core.specs.declared.held.removal.Removal.TheVariants.{Ended}
use Rattle.shard_core.specs.declared.shard.asking.Look.{Look}
use Rattle.shard_core.specs.declared.shard.store.Row.{Row}
use Rattle.shard_core.specs.declared.shard.store.Store.{Store}
use Rattle.agent_core.specs.State.{Plan, State, Ask, Asks, Answer, Judged, asking, taking, brought, next}
use Rattle.agent_core.specs.Journals.{Entry}
use Rattle.shard_core.specs.Kept.{name_stays, certs_staying, IsRow, IsStore, now_at, state_of}
use Rattle.shard_core.specs.Looking.{IsLook, IsTaken, state_met}
use Rattle.shard_core.specs.Names.{book, named, certs_named, AreNames, name_in, brought_by}
use Rattle.agent_core.proofs.AtPlaces.{count_places}
use Rattle.shard_core.proofs.Bringing.{certs_joined, names_joined}
use Rattle.shard_core.proofs.Changing.{row_found, row_names, row_changed, row_staying}
use Rattle.shard_core.proofs.Channels.{here_changed, there_kept}
use Rattle.shard_core.proofs.KeptMore.{store_more}
use Rattle.shard_core.proofs.Judging.{asked_at, taken}
use Rattle.shard_core.proofs.Rows.{left_named, left_names, left_counted, row_fresh}

module _ (plan : Plan) (journal : List Entry) (store : Store) (is : IsStore (book plan journal) (state_of (book plan journal)) store) (a : Ask) (look : Look) (l : IsLook (book plan journal) store a look) where
  abbrev s : State
  s = state_of (book plan journal)

  abbrev now_state : State
  now_state = state_met (book plan journal) look.moment

  -- the row's last number is the channel's
  pub last_at : (row : Row) → row ≡ get_or store.rows.items look.place row → now_state.last a.channel ≡ row.last
  last_at row at = sym (is.rows_are look.place row a.channel (row_found plan journal s store is look.place a.channel row l.here at) l.here).last_is

  pub new_count : length (brought now_state a) ≡ length look.new.items
  new_count = sym (ap (λ (cs : List Certificate). length cs) l.new_are) ∙ count_places a.presented look.new.items l.new_within

  -- the Ask's number is new, and what it brings fits
  pub is_taken : (row : Row) → row ≡ get_or store.rows.items look.place row → row.last < a.seq →
      look.held + length look.new.items ≤ 32 → IsTaken now_state a
  is_taken row at less few = record { new = omega (arith, last_at row at, less); fits = omega (arith, l.held, new_count, few) }

  -- an Ask is answered at this state
  pub asked_now : next plan s (Asks a) ≡ asking now_state a
  asked_now = asked_at plan s a store.clock look.moment is.clock_is l.moment

  -- the row of the Ask's channel, among rows that are still these
  module _ (rows : Vec Row Global) (same : rows ≡ store.rows) (row : Row) (at : row ≡ get_or rows.items look.place row) where
    row_there : row ≡ get_or store.rows.items look.place row
    row_there = at ∙ ap (λ (v : Vec Row Global). get_or v.items look.place row) same

    pub row_named : AreNames (book plan journal) row.own.items
    row_named = row_names plan journal s store is look.place a.channel row l.here row_there

    pub row_stays : certs_staying (book plan journal) (Ended plan.keep look.moment) row.own.items ≡ now_state.own a.channel
    row_stays = row_staying plan journal s store is look.moment (omega (arith, l.moment)) look.place a.channel row l.here row_there

    pub row_held : look.held ≡ length (filter (name_stays (book plan journal) (Ended plan.keep look.moment)) row.own.items)
    row_held =
        l.held ∙ sym (left_counted (named (book plan journal)) (Ended plan.keep look.moment) row.own.items _ refl row_named ∙ ap (λ (cs : List Certificate). length cs) row_stays)

  -- the Ask's row afterwards
  module _ (e : Entry) (brings : brought_by e.event ≡ a.presented) (rows : Vec Row Global) (same : rows ≡ store.rows) (row row' : Row) (at : row ≡ get_or rows.items look.place row) (left : List Name)
      (stay : left ≡ filter (name_stays (book plan journal) (Ended plan.keep look.moment)) row.own.items) (stamp : ℕ) (last : row'.last ≡ a.seq) (stamped : row'.swept ≡ stamp)
      (names : row'.own.items ≡ left ++ map (name_in (length journal)) look.new.items) where
    own_are : certs_named (book plan journal) left ≡ now_state.own a.channel
    own_are = left_named (named (book plan journal)) (Ended plan.keep look.moment) row.own.items left stay ∙ row_stays rows same row at

    own_names : AreNames (book plan journal) left
    own_names = left_names (named (book plan journal)) (Ended plan.keep look.moment) row.own.items left stay (row_named rows same row at)

    row_taken : IsRow (now_at (book plan (journal ++ e ∷ [])) look.moment stamp) row' ((taking now_state a).last a.channel) ((taking now_state a).own a.channel)
    row_taken =
        let there : certs_named (book plan (journal ++ e ∷ [])) (left ++ map (name_in (length journal)) look.new.items) ≡ now_state.own a.channel ++ brought now_state a =
        certs_joined plan journal e left look.new.items own_names ∙
        ap₂ (λ (xs ys : List Certificate). xs ++ ys) own_are (ap (λ (cs : List Certificate). filter_map (slice_get cs) look.new.items) brings ∙ l.new_are) in
        let valid = names_joined plan journal e left look.new.items own_names (subst (λ (cs : List Certificate). All (λ p. p < length cs) look.new.items) (sym brings) l.new_within) in
        record {
          last_is = last ∙ sym (here_changed a.channel a.seq now_state.last);
          own_is = row_fresh plan (journal ++ e ∷ []) look.moment stamp row' stamped ∙ ap (certs_named (book plan (journal ++ e ∷ []))) names ∙ there ∙
              sym (here_changed a.channel (now_state.own a.channel ++ brought now_state a) now_state.own);
          names = subst (AreNames (book plan (journal ++ e ∷ []))) (sym names) valid;
          swept_before = omega (arith, stamped);
        }

    pub store_taken : (moved after : Store) → IsStore (book plan journal) now_state moved → IsStrictlyIncreasing plan.channels →
        moved.clock ≡ look.moment → moved.swept ≡ stamp →
        after.clock ≡ moved.clock → after.swept ≡ moved.swept → after.commons ≡ moved.commons → after.withdrawn ≡ moved.withdrawn → after.rows.items ≡ set moved.rows.items look.place row' →
        IsStore (book plan (journal ++ e ∷ [])) (taking now_state a) after
    store_taken moved after now_is up clock stamp_is clock_same swept_same commons_same barred set_row =
        let was = store_more plan journal (e ∷ []) now_state moved now_is in
        let changed : IsRow (now_at (book plan (journal ++ e ∷ [])) moved.clock moved.swept) row' ((taking now_state a).last a.channel) ((taking now_state a).own a.channel) =
        subst (λ n. IsRow (now_at (book plan (journal ++ e ∷ [])) moved.clock n) row' ((taking now_state a).last a.channel) ((taking now_state a).own a.channel)) (sym stamp_is)
        (subst (λ n. IsRow (now_at (book plan (journal ++ e ∷ [])) n stamp) row' ((taking now_state a).last a.channel) ((taking now_state a).own a.channel)) (sym clock) row_taken) in
        row_changed plan (journal ++ e ∷ []) now_state (taking now_state a) moved after was up look.place a.channel row' l.here
        set_row clock_same swept_same changed
        (λ c ne. sym (there_kept a.channel a.seq now_state.last c ne)) (λ c ne. sym (there_kept a.channel (now_state.own a.channel ++ brought now_state a) now_state.own c ne))
        refl (subst (λ v. certs_named (book plan (journal ++ e ∷ [])) v.items ≡ now_state.commons) (sym commons_same) was.commons_are)
        (subst (λ v. AreNames (book plan (journal ++ e ∷ [])) v.items) (sym commons_same) was.commons_names)
        (ap (λ v. v.items) barred ∙ was.withdrawn_are)

  -- an Ask that is taken is judged by what its channel holds, what it brings, and the commons
  pub judged_now : IsTaken now_state a → (next plan s (Asks a)).1 ≡ Judged look.moment ((now_state.own a.channel ++ brought now_state a) ++ now_state.commons)
  judged_now takes = ap (λ (r : State × Answer). r.1) (asked_now ∙ taken now_state a takes)
