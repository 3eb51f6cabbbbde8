-- What is told for want of room: the status of its reply, and that nothing was done.
use Rattle.std.proofs.Common.{◌≡◌, ◌⊎◌, ℕ, ◌<◌, ◌≤◌, Some, inl, inr, sym, ap, ◌∙◌, arith}
use Rattle.std.proofs.lemmas.Option.{same_Some}
use Rattle.taos_wire.specs.Reply as replies
use Rattle.taos_wire.specs.Reply.{Reply, status_of}
use Rattle.agent_core.specs.declared.told.Told.{Told}
use Rattle.request_course.specs.Effects.{IsDone, lacks_room}

pub room_statuses : (shard : ℕ) (told : Told) (reply : Reply) → lacks_room shard told ≡ Some reply → (status_of reply ≡ 12) ⊎ (status_of reply ≡ 14)
room_statuses shard (Told.CommonsFull held) reply is = inl (ap status_of (sym (same_Some (replies.CommonsFull held shard) reply is)))
room_statuses shard (Told.WithdrawnFull held) reply is = inr (ap status_of (sym (same_Some (replies.WithdrawnFull held shard) reply is)))
room_statuses shard _ reply is = absurd cc

pub room_status : (shard : ℕ) (told : Told) (reply : Reply) → lacks_room shard told ≡ Some reply → 12 ≤ status_of reply
room_status shard told reply is = let either = room_statuses shard told reply is in omega (arith, either)

pub never_done : (shard : ℕ) (told : Told) (reply : Reply) → lacks_room shard told ≡ Some reply → IsDone told → ⊥
never_done shard (Told.Held added) reply is done = cc
never_done shard (Told.Removed count) reply is done = cc
never_done shard _ reply is done = done

-- it is no reply of another status
pub other_reply : (shard : ℕ) (told : Told) (reply other : Reply) (s : ℕ) → lacks_room shard told ≡ Some reply → status_of other ≡ s → s < 12 → reply ≡ other → ⊥
other_reply shard told reply other s is status low same = let e : status_of reply ≡ s = ap status_of same ∙ status in omega (arith, low, e, room_status shard told reply is)
