-- A proof that is to be kept, and is journaled.
use Rattle.std.proofs.Common.{◌≡◌, ℕ, ◌+◌, ◌<◌, ◌≤◌, List, [], ◌∷◌, ◌++◌, length, map, take, drop, find, not, Option, None, Some, Contains, vec_capacity, refl, sym, ap, ap₂, ◌∙◌, subst, arith}
use Rattle.std.specs.declared.alloc.Global.{Global}
use Rattle.std.specs.declared.sync.Arc.{Arc}
use Rattle.std.specs.declared.vec.Vec.{Vec}
use Rattle.std.specs.Arc.{arc_value}
use Rattle.std.specs.Option.{option_map}
use Rattle.std.proofs.lemmas.Option.{same_Some, none-some}
use Rattle.stmt_codec.specs.Certificates.{Certificate, digest_of}
use Rattle.proof_cache.specs.Cached.{Cached, cached}
use Rattle.proof_cache.specs.declared.cached.Cached.{Cached as CachedValue}
use Rattle.proof_cache.proofs.Lists.{split_at}
use Rattle.agent_core.specs.declared.event.Event.TheVariants as code
use Rattle.agent_core.specs.declared.event.ShardEntry.{ShardEntry}
use Rattle.shard_core.specs.declared.shard.store.Store.{Store}
use Rattle.agent_core.specs.declared.told.Told.{Told}
use Rattle.agent_core.specs.declared.told.DropCause.{DropCause}
use Rattle.agent_core.specs.Held.{among, channel_of}
use Rattle.agent_core.specs.Journals.{Entry, entry, state_after, IsKeepable, IsLegalJournal, MayFollow}
use Rattle.shard_core.specs.Kept.{IsKept, Tells}
use Rattle.agent_core.specs.State.{Plan, State, Asks, Keeps, Plain, first_missing, own_of, settled_by}
use Rattle.agent_core.specs.Views.{entry_of}
use Rattle.shard_core.proofs.KeptMore.{store_more, tells_more}

-- the subject of a proof for an Ask speaks on a channel of the plan
pub channel_there : (plan : Plan) (journal : List Entry) → IsLegalJournal plan journal → (ask e : ℕ) (c : Cached) → IsKeepable plan journal ask e c →
    (channel : ℕ) → channel_of c.subject ≡ Some channel → Contains plan.channels channel
channel_there plan journal legal ask e c k channel on =
    let x : Entry = entry (Asks k.asked) k.told in
    let may : MayFollow plan (take ask journal) x = legal (take ask journal) x (drop (ask + 1) journal) (split_at journal ask x k.stands) in
    let same : k.asked.channel ≡ channel = same_Some k.asked.channel channel (sym may.meant.0 ∙ (ap channel_of (sym k.subject_is) ∙ on)) in
    subst (Contains plan.channels) same may.meant.1

module _ (plan : Plan) (before : Vec ShardEntry Global) (store : Store) (kept : IsKept plan before store) (room : length before.items < plan.limit)
    (ask e : ℕ) (p : Arc CachedValue Global) (meant : IsKeepable plan (map entry_of before.items) ask e (cached (arc_value {X = CachedValue} p))) where
  pub keep_tells : (told : Told) (after : Vec ShardEntry Global) → after.items ≡ before.items ++ record { event = code.Keep ask e p; told = told } ∷ [] → vec_capacity before ≤ vec_capacity after →
      told ≡ settled_by (first_missing (state_after plan (map entry_of before.items)) (cached (arc_value {X = CachedValue} p))) (state_after plan (map entry_of before.items)).clock (cached (arc_value {X = CachedValue} p)).lease →
      Tells plan before (Keeps ask e (cached (arc_value {X = CachedValue} p))) told after store
  keep_tells told after added capacity tells =
      let journal : List Entry = map entry_of before.items in
      let s : State = state_after plan journal in
      let x : ShardEntry = record { event = code.Keep ask e p; told = told } in
      tells_more plan before store kept x after room added capacity store s (Keeps ask e (cached (arc_value {X = CachedValue} p))) refl meant
      (ap (λ t. (s, Plain t)) (sym tells)) (store_more plan journal (entry_of x ∷ []) s store kept.store_is) (omega (arith, kept.swept_within))

-- ---- what speaks against it

settled_missing : (o : Option Certificate) (digest : List ℕ) (clock lease : ℕ) → Some digest ≡ option_map digest_of o → Told.Dropped (DropCause.NotHeld digest) ≡ settled_by o clock lease
settled_missing None digest clock lease h = absurd (none-some digest (sym h))
settled_missing (Some x) digest clock lease h = ap (λ d. Told.Dropped (DropCause.NotHeld d)) (same_Some digest (digest_of x) h)

none_missing : (o : Option Certificate) → None ≡ option_map digest_of o → o ≡ None
none_missing None h = refl
none_missing (Some x) h = absurd (none-some (digest_of x) h)

-- what is held for the proof's subject are its channel's own certificates and the shared ones
pub first_is : (s : State) (c : Cached) (own shared : List Certificate) → own ≡ own_of s (channel_of c.subject) → shared ≡ s.commons →
    find (λ x. not (among (own ++ shared) x)) c.cites ≡ first_missing s c
first_is s c own shared own_is shared_is = ap₂ (λ (xs ys : List Certificate). find (λ x. not (among (xs ++ ys) x)) c.cites) own_is shared_is

pub against_missing : (s : State) (c : Cached) (digest : List ℕ) → Some digest ≡ option_map digest_of (first_missing s c) →
    Told.Dropped (DropCause.NotHeld digest) ≡ settled_by (first_missing s c) s.clock c.lease
against_missing s c digest h = settled_missing (first_missing s c) digest s.clock c.lease h

pub against_lease : (s : State) (c : Cached) (told : Told) (clock : ℕ) → None ≡ option_map digest_of (first_missing s c) → clock ≡ s.clock → told ≡ settled_by None clock c.lease →
    told ≡ settled_by (first_missing s c) s.clock c.lease
against_lease s c told clock h same is = is ∙ ap₂ (λ (o : Option Certificate) n. settled_by o n c.lease) (sym (none_missing (first_missing s c) h)) same
