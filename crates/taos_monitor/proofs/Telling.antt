-- What comes of an ask, by the reply that tells it.
use Rattle.std.proofs.Common.{◌≡◌, ℕ, ◌<◌, Bool, List, [], ◌∷◌, length, Option, None, refl, sym, ap, subst, ◌∙◌, inl, inr}
use Rattle.object_core.specs.Objects.{ObjectEntry, list_after}
use Rattle.taos_wire.specs.Reply as replies
use Rattle.taos_wire.specs.Reply.{Reply}
use Rattle.agent_core.specs.declared.asked.Verdict.{Verdict}
use Rattle.agent_core.specs.declared.asked.Verdict.TheVariants as verdict
use Rattle.agent_core.specs.declared.asked.Settled.{Settled}
use Rattle.agent_core.specs.State.{Plan, Ask}
use Rattle.agent_core.specs.Journals.{Entry}
use Rattle.agent_core.specs.Asked.{Ends, IsGrant, was_kept, was_dropped}
use Rattle.proof_cache.specs.Cached.{Cached, cached}
use Rattle.proof_cache.specs.declared.cached.Cached.{Cached as CachedValue}
use Rattle.std.specs.Arc.{arc_value}
use Rattle.taos_monitor.specs.declared.deciding.Ruled.{Ruled}
use Rattle.request_course.specs.Asking.{full, replayed, channel_full, untold, shard_full}
use Rattle.request_course.specs.AtObject.{Seeking, asks_for, gives_for}
use Rattle.taos_monitor.specs.Ruling.{Telling, IsToldBy, IsRuled, unruled, denied, granted, shard_of}

module _ (plan : Plan) (journal : List Entry) (x : Seeking) (before : List ObjectEntry) (room : length before < x.fixed.limit) where
  by_own : (ruled other : Option Ruled) (own wanted : List ℕ) (reply said : Reply) → ruled ≡ other → own ≡ wanted → reply ≡ said → IsRuled (shard_of plan journal) x before other wanted said →
      IsRuled (shard_of plan journal) x before ruled own reply
  by_own ruled other own wanted reply said one same alike r =
      subst (λ (o : Option Ruled). IsRuled (shard_of plan journal) x before o own reply) (sym one)
      (subst (λ (l : List ℕ). IsRuled (shard_of plan journal) x before other l reply) (sym same)
      (subst (IsRuled (shard_of plan journal) x before other wanted) (sym alike) r))

  -- what the reply comes from, by an ask at this place
  abbrev pub telling_of : ℕ → Bool → Telling
  telling_of place kept = record { result = gives_for x before; list = list_after x.fixed.plan before; shard = x.shard; place = place; kept = kept }

  pub ruled_by : (place : ℕ) (v : Verdict) (kept : Bool) (settled : Settled) (own : List ℕ) (ruled : Option Ruled) (reply : Reply) → Ends plan journal (asks_for x before) place v kept settled own → IsToldBy (telling_of place kept) v ruled reply →
      IsRuled (shard_of plan journal) x before ruled own reply
  ruled_by place (verdict.Granted e c) kept settled own ruled reply g (inl (some, told)) = by_own ruled _ own own reply _ some refl told (granted g)
  ruled_by place (verdict.Granted e c) kept settled own ruled reply g (inr (none, lacked)) = by_own ruled None own own reply replies.NoMemory none refl lacked (unruled room (untold g))
  ruled_by place (verdict.Denied denial) kept settled own ruled reply ((d, is), plain, never) (some, (told, tells, said)) = by_own ruled _ own (place ∷ []) reply _ some is said (denied d tells)
  ruled_by place (verdict.Replayed last) kept settled own ruled reply ((t, is), plain, never) (none, said) = by_own ruled None own (place ∷ []) reply _ none is said (unruled room (replayed t))
  ruled_by place (verdict.Full held) kept settled own ruled reply ((t, is), plain, never) (none, said) = by_own ruled None own (place ∷ []) reply _ none is said (unruled room (channel_full t))
  ruled_by place (verdict.JournalFull n) kept settled own ruled reply ((at_limit, n_is, place_is, is), plain, never) (none, said) =
      by_own ruled None own [] reply _ none is (said ∙ ap (λ (k : ℕ). shard_full x.shard k) n_is) (unruled room (full at_limit))

-- ---- where memory lacks for the reply, the Ask stands

some_places : (place : ℕ) (places : List ℕ) → place ∷ places ≡ [] → ⊥
some_places place places e = cc

told_apart : (shard limit : ℕ) → shard_full shard limit ≡ replies.NoMemory → ⊥
told_apart shard limit e = cc

module _ (plan : Plan) (journal : List Entry) (a : Ask) (place : ℕ) where
  pub has_places : (e : ℕ) (c : Cached) (kept : Bool) (settled : Settled) (own : List ℕ) → IsGrant plan journal a place e c kept settled own → own ≡ [] → ⊥
  has_places e c kept settled own (was_kept {keep} g t) none = some_places place (keep ∷ []) none
  has_places e c kept settled own (was_dropped {keep} g t) none = some_places place (keep ∷ []) none
  has_places e c kept settled own _ none = some_places place [] none

  pub never_lacking : (v : Verdict) (kept : Bool) (settled : Settled) (own : List ℕ) → Ends plan journal a place v kept settled own →
      (t : Telling) (ruled : Option Ruled) (reply : Reply) → IsToldBy t v ruled reply → reply ≡ replies.NoMemory → own ≡ [] → ⊥
  never_lacking (verdict.Granted e c) kept settled own g t ruled reply told lacks none = has_places e (cached (arc_value {X = CachedValue} c)) kept settled own g none
  never_lacking (verdict.Denied denial) kept settled own h t ruled reply told lacks none = some_places place [] (sym h.0.1 ∙ none)
  never_lacking (verdict.Replayed last) kept settled own h t ruled reply told lacks none = some_places place [] (sym h.0.1 ∙ none)
  never_lacking (verdict.Full held) kept settled own h t ruled reply told lacks none = some_places place [] (sym h.0.1 ∙ none)
  never_lacking (verdict.JournalFull n) kept settled own h t ruled reply told lacks none = told_apart t.shard n (sym told.1 ∙ lacks)
